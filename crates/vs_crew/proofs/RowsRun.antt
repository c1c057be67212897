-- Layers that ran in two parts have run in the order of both.
use Rattle.std.proofs.Common.{◌≡◌, ◌∙◌, ℕ, ◌+◌, ◌-◌, ◌<◌, List, length, get_or, take, drop, ◌++◌, length-append, ap, sym, subst, arith, inl, inr}
use Rattle.std.proofs.lemmas.Bool.{cases_lt}
use Rattle.std.proofs.lemmas.List.{get_or-take, get_or-drop, get_or_append_left, get_or-append_right}
use Rattle.vs_match.specs.LayerGraph.{LayerGraph}
use Rattle.vs_match.specs.LayerNets.{net_at}
use Rattle.vs_ship.specs.declared.work.Kept.{Kept}
use Rattle.vs_bundle.specs.Runs.{HasRun, HaveRunIn, Offers, layer_at}

module _ (nets : List LayerGraph) (offers : Offers) where
  -- that a layer has run is so of what is the same
  same_run : (l j : ℕ) (old new : Kept) → l ≡ j → new ≡ old → HasRun (net_at nets l) offers l old
      → HasRun (net_at nets j) offers j new
  same_run l j old new here same run =
      subst (λ i. HasRun (net_at nets i) offers i new) here
      (subst (λ it. HasRun (net_at nets l) offers l it) (sym same) run)

  -- the first so many and the others
  pub both-run : (places front back : List ℕ) (n : ℕ) (xs ys : List Kept) → front ≡ take n places
      → back ≡ drop n places → length xs ≡ n → HaveRunIn nets offers front xs → HaveRunIn nets offers back ys
      → HaveRunIn nets offers places (xs ++ ys)
  both-run places front back n xs ys is_front is_back few first others k d below =
      elim (cases_lt k n) [
        | inl less ↦
            let inside : k < length xs = omega (arith, less, few) in
            same_run (layer_at front k) (layer_at places k) (get_or xs k d) (get_or (xs ++ ys) k d)
            (ap (λ (ps : List ℕ). get_or ps k 0) is_front ∙ get_or-take n places k 0 less)
            (get_or_append_left xs ys d k inside) (first k d inside)
        | inr later ↦
            let inside : k - n < length ys = omega (arith, later, below, few, length-append xs ys) in
            same_run (layer_at back (k - n)) (layer_at places k) (get_or ys (k - n) d) (get_or (xs ++ ys) k d)
            (ap (λ (ps : List ℕ). get_or ps (k - n) 0) is_back ∙ get_or-drop n places (k - n) 0
            ∙ ap (λ j. get_or places j 0) (omega (arith, later)))
            (get_or-append_right xs ys n k d few (omega (arith, later))) (others (k - n) d inside)
      ]
