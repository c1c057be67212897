-- What is kept for nets, one after the other.
use Rattle.std.proofs.Common.{◌≡◌, ◌∙◌, ◌<◌, ◌+◌, ℕ, List, [], ◌∷◌, ◌++◌, length, get_or, ap, sym, subst, arith, inl, inr, Some, length-append}
use Rattle.std.specs.List.{slice_get}
use Rattle.std.proofs.Math.ListN.{get_or-append}
use Rattle.std.proofs.lemmas.Bool.{cases_lt}
use Rattle.std.proofs.lemmas.List.{get_or_push}
use Rattle.std.proofs.lemmas.Option.{get_or_from_slice_get, slice_get-get_or}
use Rattle.vs_layer.specs.Graph.{Graph}
use Rattle.vs_match.specs.LayerGraph.{LayerGraph}
use Rattle.vs_ship.specs.declared.work.Kept.{Kept}
use Rattle.vs_ship.specs.declared.work.Work.{Work}
use Rattle.vs_ship.specs.Works.{IsKeptFor, IsMadeFor, IsReadyAt, IsReadyFor, IsRenewedAt, IsUnsettled}

-- what was added for a net stands at the last place
pub kept-at : (g : Graph) (old new : List Kept) (kept : Kept) (place : ℕ) → new ≡ old ++ kept ∷ [] → place ≡ length old
    → IsReadyFor g kept → IsReadyAt g new place
kept-at g old new kept place added at is = record {
  within = omega (arith, at, ap (λ (ks : List Kept). length ks) added, length-append old (kept ∷ []));
  each = λ k stands.
      let same : kept ≡ k =
      sym (ap (λ (ks : List Kept). get_or ks place k) added ∙ get_or_push old kept k place (sym at))
      ∙ get_or_from_slice_get new place k k stands in
      subst (IsReadyFor g) same is;
}

-- what was added is all that is new
pub added-at : (g : Graph) (old new : List Kept) (kept : Kept) (place : ℕ) → new ≡ old ++ kept ∷ [] → place ≡ length old
    → IsReadyFor g kept → IsUnsettled kept → IsRenewedAt g old new place
added-at g old new kept place added at is fresh =
    let longer : length old < length new =
    omega (arith, ap (λ (ks : List Kept). length ks) added, length-append old (kept ∷ [])) in
    record {
      ready = kept-at g old new kept place added at is;
      size = omega (arith, longer);
      unsettled = λ k stands.
          let same : kept ≡ k =
          sym (ap (λ (ks : List Kept). get_or ks place k) added ∙ get_or_push old kept k place (sym at))
          ∙ get_or_from_slice_get new place k k stands in
          subst IsUnsettled same fresh;
      others = λ i inside apart.
          slice_get-get_or new i kept (omega (arith, inside, longer))
          ∙ ap Some (ap (λ (ks : List Kept). get_or ks i kept) added ∙ get_or-append old (kept ∷ []) kept i inside)
          ∙ sym (slice_get-get_or old i kept inside);
    }

-- what is kept for the first so many nets, one place each
pub record AreKeptSoFar (nets : List LayerGraph) (kept : List Kept) (count : ℕ) : Type 0 where
  pub size : length kept ≡ count
  pub each : (i : ℕ) (n : LayerGraph) (k : Kept) → i < count → slice_get nets i ≡ Some n → slice_get kept i ≡ Some k
      → IsKeptFor n.graph k

-- and for one net more
pub kept-more : (nets : List LayerGraph) (old new : List Kept) (count : ℕ) (n : LayerGraph) (k : Kept)
    → new ≡ old ++ k ∷ [] → AreKeptSoFar nets old count → n ≡ get_or nets count n → IsKeptFor n.graph k
    → AreKeptSoFar nets new (count + 1)
kept-more nets old new count n k added far at here = record {
  size = omega (arith, far.size, ap (λ (ks : List Kept). length ks) added, length-append old (k ∷ []));
  each = λ i m q below at_net at_kept.
      elim (cases_lt i count) [
        | inl less ↦
            let inside : i < length old = omega (arith, less, far.size) in
            let was : get_or old i q ≡ q =
            sym (ap (λ (ks : List Kept). get_or ks i q) added ∙ get_or-append old (k ∷ []) q i inside)
            ∙ get_or_from_slice_get new i q q at_kept in
            far.each i m q less at_net (slice_get-get_or old i q inside ∙ ap Some was)
        | inr last ↦
            let same : i ≡ count = omega arith in
            let At : ℕ → Type 0 = λ j. slice_get nets j ≡ Some m in
            let net : n ≡ m = at ∙ get_or_from_slice_get nets count m n (subst At same at_net) in
            let end : i ≡ length old = omega (arith, same, far.size) in
            let own : k ≡ q =
            sym (ap (λ (ks : List Kept). get_or ks i q) added ∙ get_or_push old k q i (sym end))
            ∙ get_or_from_slice_get new i q q at_kept in
            subst (λ (kept : Kept). IsKeptFor m.graph kept) own
            (subst (λ (g : LayerGraph). IsKeptFor g.graph k) net here)
      ];
}

-- and for all
pub kept-all : (nets : List LayerGraph) (work : Work) (count : ℕ) → count ≡ length nets
    → AreKeptSoFar nets work.kept.items count → IsMadeFor nets work
kept-all nets work count all far = record {
  size = far.size ∙ all;
  each = λ i n k below at_net at_kept. far.each i n k (omega (arith, below, all)) at_net at_kept;
}
