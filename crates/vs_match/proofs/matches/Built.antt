-- Nets that are built one after another.
use Rattle.std.proofs.Common.{◌≡◌, ℕ, ◌+◌, ◌<◌, ◌≤◌, inl, inr, List, [], ◌∷◌, ◌++◌, length, sym, subst, arith}
use Rattle.std.proofs.lemmas.Bool.{cases_lt}
use Rattle.std.proofs.lemmas.List.{get_or_append_left, get_or_push}
use Rattle.vs_layer.specs.Graph.{arc_of}
use Rattle.vs_instance.specs.Problem.{Problem}
use Rattle.vs_match.specs.declared.matching.Matching.{Matching}
use Rattle.vs_match.specs.LayerGraph.{LayerGraph, IsNetOf, kind_of}
use Rattle.vs_match.specs.NetArcs.{IsArcBefore}
use Rattle.vs_match.specs.LayerNets.{HasRisingArcs, net_at, no_net}

-- what holds of each net so far, and of one more
pub one_more_net : (P : ℕ → LayerGraph → Type 0) (nets : List LayerGraph) (net : LayerGraph) (count : ℕ)
    → length nets ≡ count → ((k : ℕ) → k < count → P k (net_at nets k)) → P count net
    → (k : ℕ) → k < count + 1 → P k (net_at (nets ++ net ∷ []) k)
one_more_net P nets net count size each one k within = elim (cases_lt k count) [
  | inl before ↦
      let same = get_or_append_left nets (net ∷ []) no_net k (omega (arith, size, before)) in
      let Q : LayerGraph → Type 0 = λ n. P k n in
      subst Q (sym same) (each k before)
  | inr after ↦
      let last : count ≡ k = omega arith in
      let R : ℕ → Type 0 = λ m. P m (net_at (nets ++ net ∷ []) m) in
      let Q : LayerGraph → Type 0 = λ n. P count n in
      subst R last (subst Q (sym (get_or_push nets net no_net count size)) one)
]

-- the arcs of a layer's net are in order
pub net_rises : (p : Problem) (l : ℕ) (matching : Matching) (n : LayerGraph) → IsNetOf p l matching n → HasRisingArcs n
net_rises p l matching n is j k before within = by_order (is.ordered j k before within)
  where
    by_order : IsArcBefore (arc_of n.graph j) (kind_of n j) (arc_of n.graph k) (kind_of n k)
        → (arc_of n.graph j).from ≤ (arc_of n.graph k).from
    by_order (inl less) = omega (arith, less)
    by_order (inr same) = omega (arith, same.0)
