-- What leaves are worth by the tables that they name.
use Rattle.std.proofs.Common.{◌≡◌, List, [], ◌∷◌, ◌++◌, refl, ◌∙◌, subst}
use Rattle.std.specs.List.{AllZip}
use Rattle.std.proofs.lemmas.Option.{slice_get_within}
use Rattle.vs_instance.specs.Problem.{Problem}
use Rattle.vs_prices.specs.declared.bound.Bound.{Bound}
use Rattle.vs_prices.specs.Tree.{LeafPlace}
use Rattle.vs_tree.specs.Prices.{AreWorth, Prices}
use Rattle.vs_tree.proofs.CallerLemmas.{one_worth}
use Rattle.vs_resume.specs.Standing.{AreNamedWorths, IsNamedWorth}
use Rattle.vs_resume.proofs.trees.InPlace.{slice_get-left}

module _ (p : Problem) (tables : List Prices) where
  -- one by one
  pub zip-named : (places : List LeafPlace) (worths : List Bound) → AreNamedWorths p tables places worths
      → AllZip (IsNamedWorth p tables) places worths
  zip-named [] [] are = tt
  zip-named [] (w ∷ worths) are = absurd are
  zip-named (leaf ∷ places) [] are = absurd are
  zip-named (leaf ∷ places) (w ∷ worths) are = (are.0, zip-named places worths are.1)

  pub named-zip : (places : List LeafPlace) (worths : List Bound) → AllZip (IsNamedWorth p tables) places worths
      → AreNamedWorths p tables places worths
  named-zip [] [] are = tt
  named-zip [] (w ∷ worths) are = absurd are
  named-zip (leaf ∷ places) [] are = absurd are
  named-zip (leaf ∷ places) (w ∷ worths) are = (are.0, named-zip places worths are.1)

  -- a leaf is worth one bound
  one_named : (leaf : LeafPlace) (a b : Bound) → IsNamedWorth p tables leaf a → IsNamedWorth p tables leaf b → a ≡ b
  one_named leaf a b first second =
      let stands = first.1 in
      let also = second.1 in
      let same : first.0 ≡ second.0 = cc in
      one_worth p leaf.sets second.0 a b
      (subst (λ (prices : Prices). AreWorth p leaf.sets prices a) same first.2) second.2

  same_cons : (a b : Bound) (xs ys : List Bound) → a ≡ b → xs ≡ ys → a ∷ xs ≡ b ∷ ys
  same_cons a b xs ys one rest = cc

  pub named-once : (places : List LeafPlace) (some worths : List Bound) → AreNamedWorths p tables places some
      → AreNamedWorths p tables places worths → some ≡ worths
  named-once [] [] [] first second = refl
  named-once [] [] (w ∷ worths) first second = absurd second
  named-once [] (v ∷ some) worths first second = absurd first
  named-once (leaf ∷ places) [] worths first second = absurd first
  named-once (leaf ∷ places) (v ∷ some) [] first second = absurd second
  named-once (leaf ∷ places) (v ∷ some) (w ∷ worths) first second =
      same_cons v w some worths (one_named leaf v w first.0 second.0)
      (named-once places some worths first.1 second.1)

  -- with further tables behind them
  pub named-more : (added : List Prices) (places : List LeafPlace) (worths : List Bound)
      → AreNamedWorths p tables places worths → AreNamedWorths p (tables ++ added) places worths
  named-more added [] [] are = tt
  named-more added [] (w ∷ worths) are = absurd are
  named-more added (leaf ∷ places) [] are = absurd are
  named-more added (leaf ∷ places) (w ∷ worths) are =
      let here = are.0 in (
        (
          here.0,
          slice_get-left tables added leaf.table (slice_get_within tables leaf.table here.0 here.1) ∙ here.1,
          here.2,
        ),
        named-more added places worths are.1,
      )
