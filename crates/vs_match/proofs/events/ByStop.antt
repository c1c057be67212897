-- Nodes in lists by their stops.
use Rattle.std.proofs.Common.{◌≡◌, ℕ, ◌+◌, ◌<◌, List, [], ◌∷◌, ◌++◌, length-append, get_or, map, Bor, refl, sym, subst, inl, inr, arith}
use Rattle.std.specs.Prelude.{◌↔◌, Contains}
use Rattle.std.proofs.Math.ListN.{get_or-map}
use Rattle.std.proofs.lemmas.Bool.{cases_lt}
use Rattle.std.proofs.lemmas.List.{get_or_append_left, get_or_push}
use Rattle.vs_match.specs.declared.stop_node.StopNode.{StopNode}
use Rattle.vs_match.specs.StopNodes.{AreByStop, IsRising}

-- the nodes at this stop, by minute
abbrev pub IsAtStop : List StopNode → ℕ → List StopNode → Type 0
IsAtStop stop_nodes k here =
    ((s : StopNode) → Contains here s ↔ (Contains stop_nodes s × (s.stop ≡ record { 0 = k }))) × IsRising here

-- no stops yet
pub by_stop-none : (stop_nodes : List StopNode) → AreByStop 0 stop_nodes []
by_stop-none stop_nodes = record {
  count = refl;
  same = λ k less. absurd (omega arith);
  rising = λ k less. absurd (omega arith);
}

-- the nodes at one stop more
pub by_stop-more : (n : ℕ) (stop_nodes : List StopNode) (groups : List (List StopNode)) (here : List StopNode)
    → AreByStop n stop_nodes groups
    → IsAtStop stop_nodes n here → AreByStop (n + 1) stop_nodes (groups ++ here ∷ [])
by_stop-more n stop_nodes groups here are at =
    let each : (k : ℕ) → k < n + 1 → IsAtStop stop_nodes k (get_or (groups ++ here ∷ []) k []) = λ k less.
    elim (cases_lt k n) [
      | inl below ↦
          subst (IsAtStop stop_nodes k)
          (sym (get_or_append_left groups (here ∷ []) [] k (omega (arith, are.count, below))))
          (are.same k below, are.rising k below)
      | inr last ↦
          let same : n ≡ k = omega (arith, less, last) in
          subst (λ (i : ℕ). IsAtStop stop_nodes i (get_or (groups ++ here ∷ []) i [])) same
          (subst (IsAtStop stop_nodes n) (sym (get_or_push groups here [] n are.count)) at)
    ] in
    record {
      count = omega (arith, are.count, length-append groups (here ∷ []));
      same = λ k less. (each k less).0;
      rising = λ k less. (each k less).1;
    }

-- the nodes found at a stop, where the lists are borrowed
pub at_this_stop : (n : ℕ) (stop_nodes : List StopNode) (groups : List (Bor (List StopNode)))
    → AreByStop n stop_nodes (map (λ g. g.now) groups) → (k : ℕ) → k < n
    → IsAtStop stop_nodes k (get_or groups k (record { ref_ptr = (0, 0); now = [] })).now
at_this_stop n stop_nodes groups are k less =
    subst (IsAtStop stop_nodes k)
    (get_or-map (λ (g : Bor (List StopNode)). g.now) groups k (record { ref_ptr = (0, 0); now = [] }))
    (are.same k less, are.rising k less)
