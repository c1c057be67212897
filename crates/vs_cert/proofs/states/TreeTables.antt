-- The tables that a state's leaves name.
use Rattle.std.proofs.Common.{◌≡◌, ℕ, ◌+◌, ◌<◌, ◌==◌, not, List, [], ◌∷◌, ◌++◌, length, map, filter, refl, sym, ap, ◌∙◌, subst, arith}
use Rattle.std.specs.Prelude.{flat_map}
use Rattle.std.specs.List.{All, enumerate_from}
use Rattle.std.proofs.lemmas.List.Elements.{All-append, All-cons, All-filter, All-head, All-nil, All-tail}
use Rattle.vs_types.specs.declared.layer_set.LayerSet.{LayerSet}
use Rattle.vs_instance.specs.Problem.{Problem}
use Rattle.vs_instance.specs.Restriction.{permitted_sets}
use Rattle.vs_prices.specs.Table.{Fits}
use Rattle.vs_prices.specs.declared.table.Table.{Table}
use Rattle.vs_tree.specs.History.{Opening, State}
use Rattle.vs_tree.specs.Prices.{AreLawful, Prices, no_prices, prices_of}
use Rattle.vs_tree.specs.Sound.{IsSound}
use Rattle.vs_tree.specs.StateTree.{IsTreeAt, IsTreeOf}
use Rattle.vs_tree.proofs.CallerLemmas.{lawful_fits}
use Rattle.vs_prices.specs.Tree.{Tree, Leaf, Split, right_of, with_set}
use Rattle.vs_rows.specs.DocumentRows.{DocumentRow, table_rows}
use Rattle.vs_cert.specs.StateDocument.{first_times, tables_named}
use Rattle.vs_cert.specs.TreeRows.{AreRowsOf}
use Rattle.vs_cert.specs.TreeText.{prices_of_number, prices_rows}
use Rattle.vs_rows.specs.declared.document.Shape.{Shape}

-- what is true of numbers is true of them once each
pub first_times-All : (P : ℕ → Type 0) (xs : List ℕ) → All P xs → All P (first_times xs)
first_times-All P [] each = All-nil P
first_times-All P (n ∷ rest) each =
    All-cons P n (filter (λ m. not (m == n)) (first_times rest)) (All-head P n rest each)
    (All-filter (λ m. not (m == n)) P (first_times rest) (first_times-All P rest (All-tail P n rest each)))

-- the rows of tables are those of their prices
pub tables_rows-prices : (p : Problem) (n : ℕ) (tables : List Table)
    → flat_map (table_rows p) (enumerate_from n tables)
    ≡ flat_map (prices_rows p) (enumerate_from n (map prices_of tables))
tables_rows-prices p n [] = refl
tables_rows-prices p n (t ∷ tables) =
    ap (λ (rows : List DocumentRow). table_rows p (n, t) ++ rows) (tables_rows-prices p (n + 1) tables)

module _ (o : Opening) (s : State) (sound : IsSound o s) where
  abbrev p : Problem
  p = o.problem

  abbrev IsNumber : ℕ → Type 0
  IsNumber n = n < length s.tables

  -- the leaves name tables that there are
  named : (t : Tree) (k : ℕ) (sets : List LayerSet) (spots : List ℕ) → IsTreeAt s.places k sets t spots
      → All IsNumber (tables_named t)
  named (Leaf table) k sets spots at =
      All-cons IsNumber table [] (omega (arith, at.table_is, sound.numbers k at.leaf)) (All-nil IsNumber)
  named (Split trip left lower upper) k sets spots at =
      All-append IsNumber (tables_named lower) (tables_named upper)
      (named lower at.lower (with_set sets trip left) at.first at.is_lower)
      (named upper at.upper (with_set sets trip (right_of sets trip left)) at.second at.is_upper)

  pub named_within : (tree : Tree) → IsTreeOf o.problem s tree → All IsNumber (first_times (tables_named tree))
  named_within tree is =
      first_times-All IsNumber (tables_named tree) (named tree 0 (permitted_sets p) is.spots is.is_tree)

  pub numbers_within : (numbers : List ℕ) (rows : List Shape) → AreRowsOf o s numbers rows → All IsNumber numbers
  numbers_within numbers rows are = subst (All IsNumber) (sym are.numbers_are) (named_within are.tree are.is_tree)

  -- a table of the prices of one of them fits
  pub number_fits : (n : ℕ) (t : Table) → IsNumber n → prices_of t ≡ prices_of_number s n → Fits p t
  number_fits n t within listed = lawful_fits p t (subst (AreLawful p) (sym listed) (sound.tables n no_prices within))

  -- tables of the prices of these numbers
  pub record HasTables (numbers : List ℕ) : Type 0 where
    pub tables : List Table
    pub listed : map prices_of tables ≡ map (prices_of_number s) numbers
    pub fits : All (Fits p) tables

  -- there are such
  pub some_tables : (numbers : List ℕ) → All IsNumber numbers → HasTables numbers
  some_tables [] all = record { tables = []; listed = refl; fits = All-nil (Fits p) }
  some_tables (n ∷ numbers) all =
      let lawful = sound.tables n no_prices (All-head IsNumber n numbers all) in
      let rest = some_tables numbers (All-tail IsNumber n numbers all) in
      record {
        tables = lawful.table ∷ rest.tables;
        listed = ap (λ (x : Prices). x ∷ map prices_of rest.tables) lawful.listed
            ∙ ap (λ (xs : List Prices). prices_of_number s n ∷ xs) rest.listed;
        fits = All-cons (Fits p) lawful.table rest.tables lawful.fits rest.fits;
      }
