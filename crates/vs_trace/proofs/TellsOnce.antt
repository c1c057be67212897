-- A row of a trace says one thing.
use Rattle.std.proofs.Common.{◌≡◌, ℕ, ◌+◌, ◌*◌, ◌==◌, ◌||◌, ◌≤◌, Bool, true, false, List, [], ◌∷◌, get_or, drop, refl, sym, ap, ◌∙◌, arith, Option, Some, ℤ, pos, codes, decimal}
use Rattle.std.specs.Prelude.{IfSome}
use Rattle.std.proofs.lemmas.Bool.{false≢true}
use Rattle.vs_types.specs.declared.layer_set.LayerSet.{LayerSet}
use Rattle.vs_types.specs.declared.numbers.TripNo.{TripNo}
use Rattle.vs_reader.specs.NameRules.{AreNames}
use Rattle.vs_reader.specs.Names.{NameLists}
use Rattle.vs_reader.specs.Rows.{Field, Row, field_of}
use Rattle.vs_rows.specs.DocumentRows.{DocumentRow, BlockRow, CostRow, EndRow, FleetRow, IsBetween, NodesRow, PriceRow, TableRow, Says, number_field, SplitRow as DocumentSplit}
use Rattle.vs_rows.specs.declared.limits.TheConstants.{MAX_COST}
use Rattle.vs_rows.proofs.CallerLemmas.{first_word, says_once, word_of}
use Rattle.vs_trace.specs.TraceRows.{TraceRow, AreNumbers, ClosedRow, FirstRow, GaveBackRow, HeadRow, IsOfferedRow, IsPart, IsSplitRow, OfferedRow, OpeningRow, PartRow, SaysSo, SplitRow, TookRow, spot_row}

-- the word with which a row begins
abbrev word : TraceRow → Field
word HeadRow = codes "result"
word (OpeningRow budget workers) = codes "opening"
word (FirstRow cost) = codes "first"
word (TookRow worker spot) = codes "took"
word (SplitRow worker spot trip left) = codes "split"
word (ClosedRow worker spot) = codes "closed"
word (OfferedRow worker cost) = codes "offered"
word (GaveBackRow worker spot) = codes "gaveback"
word (PartRow said) = word_of said

module _ (names : NameLists) (row : Row) where
  begins : (said : TraceRow) → SaysSo names row said → field_of row 0 ≡ word said
  begins HeadRow says = ap (λ (r : Row). get_or r 0 []) says
  begins (OpeningRow budget workers) says = ap (λ (r : Row). get_or r 0 []) says.1
  begins (FirstRow cost) says = ap (λ (r : Row). get_or r 0 []) says.1
  begins (TookRow worker spot) says = ap (λ (r : Row). get_or r 0 []) says.1
  begins (SplitRow worker spot trip left) says = ap (λ (r : Row). get_or r 0 []) says.written
  begins (ClosedRow worker spot) says = ap (λ (r : Row). get_or r 0 []) says.1
  begins (OfferedRow worker cost) says = ap (λ (r : Row). get_or r 0 []) says.written
  begins (GaveBackRow worker spot) says = ap (λ (r : Row). get_or r 0 []) says.1
  begins (PartRow said) says = first_word names row said says.1

-- a number of the first two letters of a word, and whether it is one with which a part begins
abbrev letters : Field → ℕ
letters w = get_or w 0 0 * 256 + get_or w 1 0

abbrev begins_part : Field → Bool
begins_part w = (letters w == 25196) || (letters w == 29793) || (letters w == 26220) || (letters w == 28786)
    || (letters w == 25966)

part_begins : (said : DocumentRow) → IsPart said → begins_part (word_of said) ≡ true
part_begins (BlockRow b) part = refl
part_begins (TableRow n ray) part = refl
part_begins (FleetRow l price) part = refl
part_begins (PriceRow l i into from) part = refl
part_begins EndRow part = refl
part_begins _ part = absurd part

-- a row of a trace's own
abbrev IsOwn : TraceRow → Type 0
IsOwn (PartRow said) = ⊥
IsOwn _ = Unit {0}

own_begins : (said : TraceRow) → IsOwn said → begins_part (word said) ≡ false
own_begins HeadRow own = refl
own_begins (OpeningRow budget workers) own = refl
own_begins (FirstRow cost) own = refl
own_begins (TookRow worker spot) own = refl
own_begins (SplitRow worker spot trip left) own = refl
own_begins (ClosedRow worker spot) own = refl
own_begins (OfferedRow worker cost) own = refl
own_begins (GaveBackRow worker spot) own = refl
own_begins (PartRow said) own = absurd own

module _ (names : NameLists) (layers : AreNames names.layers) (trips : AreNames names.trips) where
  -- numbers that are written alike are equal
  same_number : (a b : ℕ) → a ≤ 1000000 → b ≤ 1000000 → decimal a ≡ decimal b → a ≡ b
  same_number a b few few_too same =
      let row : ℕ → Row = λ n. codes "nodes" ∷ decimal n ∷ [] in
      let one : Says names (row a) (NodesRow a) = record { form = omega (arith, few); written = refl } in
      let two : Says names (row a) (NodesRow b) =
      record { form = omega (arith, few_too); written = ap (λ (f : Field). codes "nodes" ∷ f ∷ []) same } in
      let e = says_once names (row a) layers trips (NodesRow a) (NodesRow b) one two in cc

  same_amount : (a b : Option ℤ) → IfSome a (IsBetween (pos 0) MAX_COST) → IfSome b (IsBetween (pos 0) MAX_COST)
      → number_field a ≡ number_field b → a ≡ b
  same_amount a b few few_too same =
      let row : Option ℤ → Row = λ n. codes "cost" ∷ number_field n ∷ [] in
      let one : Says names (row a) (CostRow a) = record { form = few; written = refl } in
      let two : Says names (row a) (CostRow b) =
      record { form = few_too; written = ap (λ (f : Field). codes "cost" ∷ f ∷ []) same } in
      let e = says_once names (row a) layers trips (CostRow a) (CostRow b) one two in cc

  -- the worker and the spot of a row
  same_worker : (w v k j : ℕ) (r : Row) → AreNumbers w k → AreNumbers v j → field_of r 1 ≡ decimal (w + 1)
      → field_of r 1 ≡ decimal (v + 1) → w ≡ v
  same_worker w v k j r a b one two =
      let e = same_number (w + 1) (v + 1) (omega (arith, a.worker_is)) (omega (arith, b.worker_is)) (sym one ∙ two) in
      omega (arith, e)

  same_spot : (w v k j : ℕ) (r : Row) → AreNumbers w k → AreNumbers v j → field_of r 2 ≡ decimal (k + 1)
      → field_of r 2 ≡ decimal (j + 1) → k ≡ j
  same_spot w v k j r a b one two =
      let e = same_number (k + 1) (j + 1) (omega (arith, a.spot_is)) (omega (arith, b.spot_is)) (sym one ∙ two) in
      omega (arith, e)

  -- rows of one kind with a worker and a spot
  same_numbers : (make : ℕ → ℕ → TraceRow) (kind : List ℕ) (row : Row) (w v k j : ℕ)
      → AreNumbers w k × (row ≡ spot_row kind w k) → AreNumbers v j × (row ≡ spot_row kind v j) → make w k ≡ make v j
  same_numbers make kind row w v k j a b =
      let field : ℕ → Row → Field = λ n r. get_or r n [] in
      let worker : w ≡ v =
      same_worker w v k j row a.0 b.0 (ap (field 1) a.1) (ap (field 1) b.1) in
      let spot : k ≡ j = same_spot w v k j row a.0 b.0 (ap (field 2) a.1) (ap (field 2) b.1) in
      ap (λ (x : ℕ). make x k) worker ∙ ap (λ (x : ℕ). make v x) spot

  same_splits : (row : Row) (w v k j : ℕ) (t u : TripNo) (x y : LayerSet) → IsSplitRow names row w k t x
      → IsSplitRow names row v j u y → SplitRow w k t x ≡ SplitRow v j u y
  same_splits row w v k j t u x y a b =
      let field : ℕ → Row → Field = λ n r. get_or r n [] in
      let worker : w ≡ v =
      same_worker w v k j row a.numbers b.numbers (ap (field 1) a.written) (ap (field 1) b.written) in
      let spot : k ≡ j = same_spot w v k j row a.numbers b.numbers (ap (field 2) a.written) (ap (field 2) b.written) in
      let short : Row = codes "split" ∷ drop 3 row in
      let one : Says names short (DocumentSplit t x) = record {
        form = (a.form.trip_is, a.form.some_layer, a.form.layers_are);
        written = (a.layers, a.layers_are, ap (λ (r : Row). codes "split" ∷ drop 3 r) a.written);
      } in
      let two : Says names short (DocumentSplit u y) = record {
        form = (b.form.trip_is, b.form.some_layer, b.form.layers_are);
        written = (b.layers, b.layers_are, ap (λ (r : Row). codes "split" ∷ drop 3 r) b.written);
      } in
      let e = says_once names short layers trips (DocumentSplit t x) (DocumentSplit u y) one two in
      let trip : t ≡ u = cc in
      let left : x ≡ y = cc in
      ap (λ (n : ℕ). SplitRow n k t x) worker ∙ ap (λ (n : ℕ). SplitRow v n t x) spot
      ∙ ap (λ (n : TripNo). SplitRow v j n x) trip ∙ ap (λ (n : LayerSet). SplitRow v j u n) left

  same_offers : (row : Row) (w v : ℕ) (x y : ℤ) → IsOfferedRow row w x → IsOfferedRow row v y
      → OfferedRow w x ≡ OfferedRow v y
  same_offers row w v x y a b =
      let field : ℕ → Row → Field = λ n r. get_or r n [] in
      let number = same_number (w + 1) (v + 1) (omega (arith, a.worker_is)) (omega (arith, b.worker_is))
      (sym (ap (field 1) a.written) ∙ ap (field 1) b.written) in
      let worker : w ≡ v = omega (arith, number) in
      let amount = same_amount (Some x) (Some y) a.cost_is b.cost_is (sym (ap (field 2) a.written)
      ∙ ap (field 2) b.written) in
      let cost : x ≡ y = cc in
      ap (λ (n : ℕ). OfferedRow n x) worker ∙ ap (λ (n : ℤ). OfferedRow v n) cost

  module _ (row : Row) where
    -- a row doesn't begin with two words
    apart : (a b : TraceRow) → SaysSo names row a → SaysSo names row b
        → (get_or (word a) 0 0 ≡ get_or (word b) 0 0 → get_or (word a) 1 0 ≡ get_or (word b) 1 0 → ⊥) → a ≡ b
    apart a b p q other =
        let e = sym (begins names row a p) ∙ begins names row b q in
        absurd (other (ap (λ (bs : List ℕ). get_or bs 0 0) e) (ap (λ (bs : List ℕ). get_or bs 1 0) e))

    -- nor as a part and as none
    no_part : (a : TraceRow) (said : DocumentRow) → IsOwn a → SaysSo names row a → SaysSo names row (PartRow said)
        → ⊥
    no_part a said own p q =
        let e = sym (begins names row a p) ∙ begins names row (PartRow said) q in
        false≢true (sym (own_begins a own) ∙ ap begins_part e ∙ part_begins said q.0)

    pub tells_once : (a b : TraceRow) → SaysSo names row a → SaysSo names row b → a ≡ b
    tells_once (PartRow said) (PartRow other) p q = ap PartRow (says_once names row layers trips said other p.1 q.1)
    tells_once (PartRow said) b p q = absurd (no_part b said tt q p)
    tells_once a (PartRow said) p q = absurd (no_part a said tt p q)
    tells_once HeadRow HeadRow p q = refl
    tells_once (OpeningRow a b) (OpeningRow c d) p q =
        let field : ℕ → Row → Field = λ n r. get_or r n [] in
        let one : a ≡ c = same_number a c (omega (arith, p.0.few_leaves)) (omega (arith, q.0.few_leaves))
        (sym (ap (field 1) p.1) ∙ ap (field 1) q.1) in
        let two : b ≡ d = same_number b d (omega (arith, p.0.few_workers)) (omega (arith, q.0.few_workers))
        (sym (ap (field 2) p.1) ∙ ap (field 2) q.1) in
        ap (λ (n : ℕ). OpeningRow n b) one ∙ ap (λ (n : ℕ). OpeningRow c n) two
    tells_once (FirstRow x) (FirstRow y) p q =
        let field : ℕ → Row → Field = λ n r. get_or r n [] in
        ap FirstRow (same_amount x y p.0 q.0 (sym (ap (field 1) p.1) ∙ ap (field 1) q.1))
    tells_once (TookRow w k) (TookRow v j) p q = same_numbers TookRow (codes "took") row w v k j p q
    tells_once (ClosedRow w k) (ClosedRow v j) p q = same_numbers ClosedRow (codes "closed") row w v k j p q
    tells_once (GaveBackRow w k) (GaveBackRow v j) p q = same_numbers GaveBackRow (codes "gaveback") row w v k j p q
    tells_once (SplitRow w k t x) (SplitRow v j u y) p q = same_splits row w v k j t u x y p q
    tells_once (OfferedRow w x) (OfferedRow v y) p q = same_offers row w v x y p q
    tells_once HeadRow b p q = apart HeadRow b p q (λ e f. omega arith)
    tells_once (OpeningRow x y) b p q = apart (OpeningRow x y) b p q (λ e f. omega arith)
    tells_once (FirstRow x) b p q = apart (FirstRow x) b p q (λ e f. omega arith)
    tells_once (TookRow w k) b p q = apart (TookRow w k) b p q (λ e f. omega arith)
    tells_once (ClosedRow w k) b p q = apart (ClosedRow w k) b p q (λ e f. omega arith)
    tells_once (GaveBackRow w k) b p q = apart (GaveBackRow w k) b p q (λ e f. omega arith)
    tells_once (SplitRow w k t x) b p q = apart (SplitRow w k t x) b p q (λ e f. omega arith)
    tells_once (OfferedRow w x) b p q = apart (OfferedRow w x) b p q (λ e f. omega arith)
