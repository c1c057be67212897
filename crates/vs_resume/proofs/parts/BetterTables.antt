-- Each leaf of a part names the better of its own table and of the old one.
use Rattle.std.proofs.Common.{◌≡◌, ℕ, ◌+◌, ◌<◌, ◌≤◌, inl, inr, List, [], ◌∷◌, ◌++◌, length, map, sym, ap, ◌∙◌, subst, arith, length-append, option_map, Some, slice_get}
use Rattle.std.specs.List.{All, AllZip}
use Rattle.std.proofs.lemmas.List.{length-map}
use Rattle.std.proofs.lemmas.List.Elements.{All-cons, All-nil}
use Rattle.std.proofs.lemmas.Option.{slice_get-map, slice_get_within}
use Rattle.vs_types.specs.declared.layer_set.LayerSet.{LayerSet}
use Rattle.vs_instance.specs.Problem.{Problem}
use Rattle.vs_prices.specs.Bounds.{IsNoLess}
use Rattle.vs_prices.specs.Worth.{IsWorth}
use Rattle.vs_prices.specs.declared.bound.Bound.{Bound}
use Rattle.vs_prices.specs.declared.table.Table.{Table}
use Rattle.vs_prices.specs.Tree.{LeafPlace}
use Rattle.vs_tree.specs.Prices.{Prices, prices_of}
use Rattle.vs_tree.proofs.CallerLemmas.{one_worth}
use Rattle.vs_resume.specs.Cases.{AreCasesOf, AreSettled, IsCaseOf, IsSettled}
use Rattle.vs_resume.specs.Standing.{IsNamedWorth}
use Rattle.vs_resume.specs.Turns.{AreBetter, IsBetterOf}
use Rattle.vs_resume.specs.declared.cases.Case.{Case}
use Rattle.vs_resume.proofs.trees.InPlace.{slice_get-left, slice_get-right}

-- what a leaf is worth that names this table is what the table is worth
named_is : (p : Problem) (tables : List Table) (sets : List LayerSet) (n : ℕ) (table : Table) (v w : Bound)
    → slice_get tables n ≡ Some table → IsNamedWorth p (map prices_of tables) (record { sets = sets; table = n }) v
    → IsWorth p sets table w → v ≡ w
named_is p tables sets n table v w stands named worth =
    let listed : slice_get (map prices_of tables) n ≡ Some (prices_of table) =
    slice_get-map prices_of tables n ∙ ap (option_map prices_of) stands in
    let found = named.1 in
    let same : prices_of table ≡ named.0 = cc in
    one_worth p sets named.0 v w named.2 (record { table = table; listed = same; worth = worth })

module _ (p : Problem) (before added : List Table) (old : Table) (number : ℕ)
    (stands : slice_get before number ≡ Some old) where
  abbrev tables : List Prices
  tables = map prices_of (before ++ added)

  abbrev own_number : Case → ℕ
  own_number found = length before + found.table

  no_less : (a b c d : Bound) → a ≡ c → b ≡ d → IsNoLess c d → IsNoLess a b
  no_less a b c d one other less =
      subst (λ (x : Bound). IsNoLess x b) (sym one) (subst (IsNoLess c) (sym other) less)

  better_case : (place leaf : LeafPlace) (f g : Case) → IsCaseOf p added place f
      → IsSettled p old number (length before) f g → IsCaseOf p (before ++ added) leaf g
      → IsBetterOf p tables number (own_number f) leaf
  better_case place leaf f g was settled is =
      let all = before ++ added in
      let sets_are : f.sets.items ≡ leaf.sets = ap (λ sets. sets.items) (sym settled.sets) ∙ is.sets in
      let own_stands = slice_get-right before added f.table ∙ ap (slice_get added) was.number ∙ was.named in
      let old_stands = slice_get-left before added number (slice_get_within before number old stands) ∙ stands in
      let own_worth = subst (λ (sets : List LayerSet). IsWorth p sets was.table f.worth) (sym was.sets ∙ sets_are)
      was.worth in
      let old_worth = subst (λ (sets : List LayerSet). IsWorth p sets old settled.least) sets_are settled.is_least in
      record {
        choice = elim settled.choice [
          | inl own ↦ inl (sym is.number ∙ own.0)
          | inr kept ↦ inr (sym is.number ∙ kept.0)
        ];
        no_less_than_own = λ worth other named also.
            no_less worth other g.worth f.worth
            (named_is p all leaf.sets leaf.table is.table worth g.worth is.named named is.worth)
            (named_is p all leaf.sets (own_number f) was.table other f.worth own_stands also own_worth)
            settled.no_less_than_own;
        no_less_than_old = λ worth other named also.
            no_less worth other g.worth settled.least
            (named_is p all leaf.sets leaf.table is.table worth g.worth is.named named is.worth)
            (named_is p all leaf.sets number old other settled.least old_stands also old_worth)
            settled.no_less_than_old;
      }

  better_cases : (places leaves : List LeafPlace) (fresh settled : List Case) → AreCasesOf p added places fresh
      → AreSettled p old number (length before) fresh settled → AreCasesOf p (before ++ added) leaves settled
      → AllZip (IsBetterOf p tables number) (map own_number fresh) leaves
  better_cases [] [] [] [] were settles are = tt
  better_cases [] leaves [] (g ∷ gs) were settles are = absurd settles
  better_cases [] (leaf ∷ leaves) [] [] were settles are = absurd are
  better_cases [] leaves (f ∷ fs) gs were settles are = absurd were
  better_cases (place ∷ places) leaves [] gs were settles are = absurd were
  better_cases (place ∷ places) leaves (f ∷ fs) [] were settles are = absurd settles
  better_cases (place ∷ places) [] (f ∷ fs) (g ∷ gs) were settles are = absurd are
  better_cases (place ∷ places) (leaf ∷ leaves) (f ∷ fs) (g ∷ gs) were settles are =
      (better_case place leaf f g were.0 settles.0 are.0, better_cases places leaves fs gs were.1 settles.1 are.1)

  -- the tables of their own are new ones
  abbrev IsNew : ℕ → Type 0
  IsNew n = (length before ≤ n) × (n < length tables)

  new_numbers : (places : List LeafPlace) (fresh : List Case) → AreCasesOf p added places fresh
      → All IsNew (map own_number fresh)
  new_numbers [] [] were = All-nil IsNew
  new_numbers [] (f ∷ fs) were = absurd were
  new_numbers (place ∷ places) [] were = absurd were
  new_numbers (place ∷ places) (f ∷ fs) were =
      let first = were.0 in
      let inside = slice_get_within added place.table first.table first.named in
      let number = first.number in
      let size = length-map (before ++ added) prices_of in
      let both = length-append before added in
      All-cons IsNew (own_number f) (map own_number fs) (omega arith, omega (arith, inside, number, size, both))
      (new_numbers places fs were.1)

  pub better_all : (places leaves : List LeafPlace) (fresh settled : List Case) → AreCasesOf p added places fresh
      → AreSettled p old number (length before) fresh settled → AreCasesOf p (before ++ added) leaves settled
      → AreBetter p tables (length before) number leaves
  better_all places leaves fresh settled were settles are = record {
    own = map own_number fresh;
    new = new_numbers places fresh were;
    each = better_cases places leaves fresh settled were settles are;
  }
