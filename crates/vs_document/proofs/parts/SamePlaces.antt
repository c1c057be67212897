-- Places at which the same rows come.
use Rattle.std.proofs.Common.{◌≡◌, ℕ, suc, ◌+◌, ◌≤◌, List, [], length, get_or, refl, sym, ap, ◌∙◌, subst, inl, inr, Some, None, Option, ℤ, arith, codes, IsSome, Bool}
use Rattle.vs_instance.specs.Problem.{Problem}
use Rattle.vs_reader.specs.Rows.{Row, field_of, row_of}
use Rattle.vs_reader.specs.Names.{NameLists}
use Rattle.vs_reader.specs.declared.input.Input.{Input}
use Rattle.vs_types.specs.declared.layer_set.LayerSet.{LayerSet}
use Rattle.vs_types.specs.declared.numbers.TripNo.{TripNo}
use Rattle.vs_document.specs.declared.refused.DocWhy.{DocWhy}
use Rattle.vs_document.specs.declared.reading.said.Said.{Said}
use Rattle.vs_document.specs.declared.reading.said.Said.TheVariants as said
use Rattle.vs_rows.specs.declared.priced.Priced.TheVariants as priced
use Rattle.vs_rows.specs.DocumentRows.{DocumentRow, BlockRow, TableRow, LeafRow, Says}
use Rattle.vs_rows.specs.RowReading.{LeadTo}
use Rattle.vs_document.specs.DocumentRefusals.{documents}
use Rattle.vs_document.specs.Places.{Place, AtBlocks, InTable, InTree, HasNumber, behind, tables_before}
use Rattle.vs_rows.specs.RowForms.{IsOfKind}
use Rattle.vs_rows.specs.Standing.{IsNoBlock}
use Rattle.vs_document.specs.RowKinds.{row_said}
use Rattle.vs_rows.proofs.CallerLemmas.{first_word, same_place, word_of}

-- behind as many tables a row has its number at both places or at none
same_number : (place other : Place) → tables_before place ≡ tables_before other → (said : DocumentRow)
    → HasNumber place said → HasNumber other said
same_number place other same (TableRow n ray) is = is ∙ ap (λ (k : ℕ). k + 1) same
same_number place other same (LeafRow n) is = (is.0, subst (λ k. n ≤ k) same is.1)
same_number place other same _ is = tt

module _ (place other : Place) (same : tables_before place ≡ tables_before other) (said : DocumentRow) where
  pub same_right : documents.IsRight other said → documents.IsRight place said
  same_right right = (same_number other place (sym same) said right.0, right.1)

  same_wrong : (why : DocWhy) → documents.IsWrong other said why → documents.IsWrong place said why
  same_wrong why (inl (wrong, is)) = inl ((λ has. wrong (same_number place other same said has)), is)
  same_wrong why (inr (has, wrong, is)) = inr (same_number other place (sym same) said has, wrong, is)

order_of_blocks : (input : Input) (at : ℕ) (cost : Option ℤ) → (IsSome cost → IsNoBlock input at)
    → (said : DocumentRow) → Says input.names (row_of input.rest at) said
    → behind input.instance (AtBlocks cost) said ≡ behind input.instance (InTable 0 []) said
order_of_blocks input at None none said says = refl
order_of_blocks input at (Some cost) none (BlockRow b) says = absurd (none refl b says)
order_of_blocks input at (Some cost) none _ says = refl

-- where no block comes, the first table or the tree comes
pub blocks_end : (input : Input) (at : ℕ) (cost : Option ℤ)
    → (IsSome cost → IsNoBlock input at) → LeadTo documents input at (AtBlocks cost) at (InTable 0 [])
blocks_end input at cost none = same_place documents input at (AtBlocks cost) (InTable 0 []) (record {
  going = λ e. cc;
  other_going = λ e. cc;
  suits = λ said. tt;
  other_suits = λ said. tt;
  order = order_of_blocks input at cost none;
  right = same_right (AtBlocks cost) (InTable 0 []) refl;
  wrong = same_wrong (AtBlocks cost) (InTable 0 []) refl;
})

-- a row of a table has three fields
pub table_begins : (names : NameLists) (row : Row) (n : ℕ) (ray : Bool) → Says names row (TableRow n ray)
    → IsOfKind (codes "table") 3 row
table_begins names row n ray says =
    record { kind_is = ap (λ (r : Row). get_or r 0 []) says.written; fields_are = ap length says.written }

order_of_tables : (p : Problem) (names : NameLists) (n : ℕ) (row : Row) → ¬ (IsOfKind (codes "table") 3 row)
    → (said : DocumentRow) → Says names row said → behind p (InTable n []) said ≡ behind p (InTree n 1) said
order_of_tables p names n row none (TableRow m ray) says = absurd (none (table_begins names row m ray says))
order_of_tables p names n row none _ says = refl

-- where no table comes, the tree comes
pub tables_end : (input : Input) (at n : ℕ) → ¬ (IsOfKind (codes "table") 3 (row_of input.rest at))
    → LeadTo documents input at (InTable n []) at (InTree n 1)
tables_end input at n none = same_place documents input at (InTable n []) (InTree n 1) (record {
  going = λ e. cc;
  other_going = λ e. cc;
  suits = λ said. tt;
  other_suits = λ said. tt;
  order = order_of_tables input.instance input.names n (row_of input.rest at) none;
  right = same_right (InTable n []) (InTree n 1) refl;
  wrong = same_wrong (InTable n []) (InTree n 1) refl;
})

-- a row that begins as a table and isn't one says nothing
pub no_table : (names : NameLists) (row : Row) → field_of row 0 ≡ codes "table"
    → ((n : ℕ) (ray : Bool) → ¬ (Says names row (TableRow n ray))) → (said : DocumentRow) → ¬ (Says names row said)
no_table names row begins none (TableRow n ray) says = none n ray says
no_table names row begins none other says =
    let e : codes "table" ≡ word_of other = sym begins ∙ first_word names row other says in
    omega (arith, ap (λ (bs : List ℕ). get_or bs 0 0) e, ap (λ (bs : List ℕ). get_or bs 1 0) e)

-- in the tree only a split or a leaf comes
pub tree_order : (p : Problem) (tables parts : ℕ) (s : Said)
    → ((trip : TripNo) (left : LayerSet) → ¬ (s ≡ said.Split trip left)) → ((n : ℕ) → ¬ (s ≡ said.Leaf n))
    → behind p (InTree tables (suc parts)) (row_said s) ≡ None
tree_order p tables parts (said.Split trip left) split leaf = absurd (split trip left refl)
tree_order p tables parts (said.Leaf n) split leaf = absurd (leaf n refl)
tree_order p tables parts (said.Prices (priced.Vehicle layer price)) split leaf = refl
tree_order p tables parts (said.Prices (priced.Trip layer trip into from)) split leaf = refl
tree_order p tables parts _ split leaf = refl
