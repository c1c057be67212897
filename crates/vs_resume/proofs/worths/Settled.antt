-- The leaves of a part with the better of their own tables and of the old one.
use Rattle.std.proofs.Common.{◌≡◌, ℕ, ◌+◌, List, [], ◌∷◌, ◌++◌, length, map, refl, sym, ap, ◌∙◌, subst, inl, inr, Option, Some, None, slice_get, ℤ, ◌≤ℤ◌}
use Rattle.std.specs.Prelude.{option_map}
use Rattle.std.specs.List.{AllZip}
use Rattle.std.proofs.lemmas.Option.{slice_get-map, slice_get_within}
use Rattle.vs_types.specs.declared.layer_set.LayerSet.{LayerSet}
use Rattle.vs_instance.specs.Problem.{Problem}
use Rattle.vs_prices.specs.Bounds.{IsNoLess}
use Rattle.vs_prices.specs.Worth.{IsWorth}
use Rattle.vs_prices.specs.declared.bound.Bound.{Bound}
use Rattle.vs_prices.specs.declared.table.Table.{Table}
use Rattle.vs_prices.specs.Tree.{LeafPlace}
use Rattle.vs_tree.specs.Prices.{prices_of}
use Rattle.vs_resume.specs.Cases.{AreCasesOf, AreSettled, IsCaseOf, IsSettled}
use Rattle.vs_resume.specs.Order.{worths_in}
use Rattle.vs_resume.specs.Standing.{AreNamedWorths}
use Rattle.vs_resume.specs.declared.cases.Case.{Case}
use Rattle.vs_resume.proofs.trees.InPlace.{slice_get-left, slice_get-right}
use Rattle.vs_resume.proofs.trees.Renamed.{renumber}

-- the numbers of the tables of some leaves
abbrev pub tables_in : List Case → List ℕ
tables_in cases = map (λ found. found.table) cases

module _ (p : Problem) (before added : List Table) (old : Table) (number : ℕ)
    (stands : slice_get before number ≡ Some old) where
  settled_case : (leaf : LeafPlace) (f g : Case) → IsCaseOf p added leaf f
      → IsSettled p old number (length before) f g
      → IsCaseOf p (before ++ added) (record { sets = leaf.sets; table = g.table }) g
  settled_case leaf f g is settled =
      let sets_are : g.sets.items ≡ leaf.sets = ap (λ sets. sets.items) settled.sets ∙ is.sets in
      elim settled.choice [
        | inl own ↦ record {
          sets = sets_are;
          number = refl;
          table = is.table;
          named = ap (slice_get (before ++ added)) (own.0 ∙ ap (λ (n : ℕ). length before + n) is.number)
              ∙ slice_get-right before added leaf.table ∙ is.named;
          worth = subst (λ (w : Bound). IsWorth p leaf.sets is.table w) (sym own.1) is.worth;
        }
        | inr kept ↦ record {
          sets = sets_are;
          number = refl;
          table = old;
          named = ap (slice_get (before ++ added)) kept.0
              ∙ slice_get-left before added number (slice_get_within before number old stands) ∙ stands;
          worth = subst (λ (w : Bound). IsWorth p leaf.sets old w) (sym kept.1)
              (subst (λ (s : List LayerSet). IsWorth p s old settled.least) is.sets settled.is_least);
        }
      ]

  pub settled_cases : (places : List LeafPlace) (fresh settled : List Case) → AreCasesOf p added places fresh
      → AreSettled p old number (length before) fresh settled
      → AreCasesOf p (before ++ added) (renumber places (tables_in settled)) settled
  settled_cases [] [] [] are settles = tt
  settled_cases [] [] (g ∷ gs) are settles = absurd settles
  settled_cases [] (f ∷ fs) gs are settles = absurd are
  settled_cases (leaf ∷ places) [] gs are settles = absurd are
  settled_cases (leaf ∷ places) (f ∷ fs) [] are settles = absurd settles
  settled_cases (leaf ∷ places) (f ∷ fs) (g ∷ gs) are settles =
      (settled_case leaf f g are.0 settles.0, settled_cases places fs gs are.1 settles.1)

-- each is worth no less than before
abbrev pub AreNoLess : List Bound → List Bound → Type 0
AreNoLess more worths = AllZip IsNoLess more worths

pub settled_no_less : (p : Problem) (old : Table) (number base : ℕ) (fresh settled : List Case)
    → AreSettled p old number base fresh settled → AreNoLess (worths_in settled) (worths_in fresh)
settled_no_less p old number base [] [] settles = tt
settled_no_less p old number base [] (g ∷ gs) settles = absurd settles
settled_no_less p old number base (f ∷ fs) [] settles = absurd settles
settled_no_less p old number base (f ∷ fs) (g ∷ gs) settles =
    (settles.0.no_less_than_own, settled_no_less p old number base fs gs settles.1)

-- this cost is no more than the other one, where there is one
abbrev pub IsNoMore : Option ℤ → Option ℤ → Type 0
IsNoMore cost None = Unit {0}
IsNoMore None (Some c) = ⊥
IsNoMore (Some b) (Some c) = b ≤ℤ c

-- the worths of leaves as they are named
pub named_worths : (p : Problem) (tables : List Table) (places : List LeafPlace) (cases : List Case)
    → AreCasesOf p tables places cases → AreNamedWorths p (map prices_of tables) places (worths_in cases)
named_worths p tables [] [] are = tt
named_worths p tables [] (f ∷ fs) are = absurd are
named_worths p tables (leaf ∷ places) [] are = absurd are
named_worths p tables (leaf ∷ places) (f ∷ fs) are =
    let is = are.0 in (
      (
        prices_of is.table,
        slice_get-map prices_of tables leaf.table ∙ ap (λ (o : Option Table). option_map prices_of o) is.named,
        record { table = is.table; listed = refl; worth = is.worth },
      ),
      named_worths p tables places fs are.1,
    )
