-- What is kept made ready for nets, one after the other.
use Rattle.std.proofs.Common.{◌≡◌, ◌∙◌, ◌<◌, ◌≤◌, ◌+◌, ℕ, List, Bool, true, false, length, get_or, set, ap, sym, subst, arith, inl, inr, Some}
use Rattle.std.specs.List.{slice_get}
use Rattle.std.proofs.lemmas.Bool.{cases_eq, cases_lt}
use Rattle.std.proofs.lemmas.Grind.{get_or-set_at}
use Rattle.std.proofs.lemmas.List.{get_or_default, get_or-set_other, length-set}
use Rattle.std.proofs.lemmas.Option.{get_or_from_slice_get, slice_get-get_or}
use Rattle.vs_match.specs.LayerGraph.{LayerGraph}
use Rattle.vs_match.specs.LayerNets.{net_at, no_net}
use Rattle.vs_ship.specs.declared.work.Kept.{Kept}
use Rattle.vs_ship.specs.declared.work.Work.{Work}
use Rattle.vs_ship.specs.Works.{IsReadyFor, IsRenewedAt, IsUnsettled}
use Rattle.vs_circ.specs.shipping.Ready.{CanRun, IsReadyToRun}

-- the first so many nets can be run
pub record IsReadySoFar (nets : List LayerGraph) (work : Work) (count : ℕ) : Type 0 where
  pub size : count ≤ length work.kept.items
  pub each : (i : ℕ) (k : Kept) → i < count → slice_get work.kept.items i ≡ Some k → CanRun (net_at nets i) k

not-both : (b : Bool) → b ≡ false → b ≡ true → ⊥
not-both b is said = let no : false ≡ true = sym is ∙ said in absurd cc

-- what says nothing of its units and prices can be run
can-run : (n : LayerGraph) (kept : Kept) → IsReadyFor n.graph kept → IsUnsettled kept → CanRun n kept
can-run n kept ready unsettled = record {
  ready = ready;
  now = λ said. absurd (not-both kept.is_settled unsettled.now said);
  before = λ said. absurd (not-both kept.was_settled unsettled.before said);
}

-- and one net more, once what is kept at its place is for it
pub ready-more : (nets : List LayerGraph) (old new : Work) (place : ℕ) (n : LayerGraph) → place < length nets
    → n ≡ get_or nets place n → IsRenewedAt n.graph old.kept.items new.kept.items place → IsReadySoFar nets old place
    → IsReadySoFar nets new (place + 1)
ready-more nets old new place n inside at renewed far = record {
  size = omega (arith, renewed.ready.within);
  each = λ i k below stands.
      elim (cases_lt i place) [
        | inl less ↦
            let there = renewed.others i (omega (arith, less, far.size)) (λ same. omega (arith, less, same)) in
            far.each i k less (sym there ∙ stands)
        | inr last ↦
            let same : i ≡ place = omega (arith, below, last) in
            let At : ℕ → Type 0 = λ j. slice_get new.kept.items j ≡ Some k in
            let here = subst At same stands in
            let own = can-run n k (renewed.ready.each k here) (renewed.unsettled k here) in
            let net : n ≡ net_at nets place = at ∙ get_or_default nets place n no_net inside in
            let Run : ℕ → Type 0 = λ j. CanRun (net_at nets j) k in
            subst Run (sym same) (subst (λ (m : LayerGraph). CanRun m k) net own)
      ];
}

-- and all
pub ready-all : (nets : List LayerGraph) (work : Work) (count : ℕ) → length nets ≤ count → IsReadySoFar nets work count
    → IsReadyToRun nets work
ready-all nets work count all far = record {
  size = omega (arith, all, far.size);
  each = λ i k inside stands. far.each i k (omega (arith, all, inside)) stands;
}

-- what is kept at a place stands there
pub kept-there : (nets : List LayerGraph) (work : Work) (l : ℕ) (k : Kept) → IsReadyToRun nets work → l < length nets
    → k ≡ get_or work.kept.items l k → CanRun (net_at nets l) k
kept-there nets work l k ready inside at =
    ready.each l k inside
    (slice_get-get_or work.kept.items l k (omega (arith, inside, ready.size)) ∙ ap Some (sym at))

-- all can still be run once one was
pub ready-set : (nets : List LayerGraph) (old new : Work) (l : ℕ) (kept : Kept)
    → new.kept.items ≡ set old.kept.items l kept → l < length nets → CanRun (net_at nets l) kept
    → IsReadyToRun nets old → IsReadyToRun nets new
ready-set nets old new l kept is inside can ready =
    let size : length new.kept.items ≡ length old.kept.items =
    ap (λ (ks : List Kept). length ks) is ∙ length-set old.kept.items l kept in
    record {
      size = omega (arith, size, ready.size);
      each = λ i k below stands.
          let within : i < length old.kept.items = omega (arith, below, ready.size) in
          let there : get_or new.kept.items i k ≡ k = get_or_from_slice_get new.kept.items i k k stands in
          let read : get_or (set old.kept.items l kept) i k ≡ k =
          sym (ap (λ (ks : List Kept). get_or ks i k) is) ∙ there in
          let Run : ℕ → Type 0 = λ j. CanRun (net_at nets j) k in
          elim (cases_eq i l) [
            | inl same ↦
                let own : kept ≡ k =
                sym (get_or-set_at old.kept.items l i kept k same (omega (arith, within, same))) ∙ read in
                subst Run (sym same) (subst (λ (q : Kept). CanRun (net_at nets l) q) own can)
            | inr apart ↦
                let at : get_or old.kept.items i k ≡ k =
                sym (get_or-set_other old.kept.items l i kept k apart) ∙ read in
                ready.each i k below (slice_get-get_or old.kept.items i k within ∙ ap Some at)
          ];
    }
