-- Traces that the same rows stand for say the same.
use Rattle.std.proofs.Common.{◌≡◌, ℕ, ◌+◌, Bool, List, [], ◌∷◌, ◌++◌, length, get_or, drop, refl, sym, ap, ◌∙◌, subst, arith, ℤ, Option, Some, None}
use Rattle.std.specs.Prelude.{flat_map}
use Rattle.std.specs.List.{AllZip, range_with_len}
use Rattle.std.proofs.lemmas.List.{append_assoc, length-append, length-map}
use Rattle.vs_types.specs.declared.layer_set.LayerSet.{LayerSet}
use Rattle.vs_types.specs.declared.numbers.TripNo.{TripNo}
use Rattle.vs_instance.specs.Plan.{LayerBlock}
use Rattle.vs_instance.specs.Problem.{Problem}
use Rattle.vs_plan.specs.Blocks.{blocks_of}
use Rattle.vs_plan.specs.declared.block.Plan.{Plan}
use Rattle.vs_prices.specs.Table.{from_price, into_price}
use Rattle.vs_prices.specs.declared.table.Table.{Table}
use Rattle.vs_reader.specs.NameRules.{AreNames}
use Rattle.vs_reader.specs.Names.{NameLists}
use Rattle.vs_reader.specs.Rows.{Row}
use Rattle.vs_rows.specs.DocumentRows.{DocumentRow, BlockRow, EndRow, PriceRow, TableRow, layer_rows, permitted_trips, table_rows}
use Rattle.vs_trace.specs.TraceRows.{TraceRow, ClosedRow, FirstRow, GaveBackRow, HeadRow, OfferedRow, OpeningRow, PartRow, SayAllSo, SplitRow, TookRow, block_rows, first_rows, parts, step_rows, trace_rows}
use Rattle.vs_trace.specs.Traces.{TraceText, first_plans, steps_from, told_first, told_opening, told_steps}
use Rattle.vs_trace.specs.declared.trace.Full.{Full}
use Rattle.vs_trace.specs.declared.trace.Full.TheVariants.{Took, Split, Closed, Offered, GaveBack}
use Rattle.vs_trace.specs.declared.trace.Trace.{Trace}
use Rattle.vs_trace.specs.Alike.{AreAlike, AreAlikeSteps, AreToldAlike}
use Rattle.vs_trace.proofs.TellsOnce.{tells_once}

-- rows say one list of things
module _ (names : NameLists) (layers : AreNames names.layers) (trips : AreNames names.trips) where
  say_so_once : (rows : List Row) (a b : List TraceRow) → SayAllSo names rows a → SayAllSo names rows b → a ≡ b
  say_so_once [] [] [] x y = refl
  say_so_once [] [] (b ∷ bs) x y = absurd y
  say_so_once [] (a ∷ as') b x y = absurd x
  say_so_once (row ∷ rows) [] b x y = absurd x
  say_so_once (row ∷ rows) (a ∷ more) [] x y = absurd y
  say_so_once (row ∷ rows) (a ∷ more) (b ∷ other) x y =
      ap (λ (z : TraceRow). z ∷ more) (tells_once names layers trips row a b x.0 y.0)
      ∙ ap (λ (zs : List TraceRow). b ∷ zs) (say_so_once rows more other x.1 y.1)

same_first : (x y : TraceRow) (xs ys : List TraceRow) → x ∷ xs ≡ y ∷ ys → (x ≡ y) × (xs ≡ ys)
same_first x y xs ys e = (ap (λ (rows : List TraceRow). get_or rows 0 HeadRow) e, ap (drop 1) e)

same_part : (x y : DocumentRow) → PartRow x ≡ PartRow y → x ≡ y
same_part x y e = cc

same_ray : (n : ℕ) (a b : Bool) → TableRow n a ≡ TableRow n b → a ≡ b
same_ray n a b e = cc

same_block : (a b : LayerBlock) → PartRow (BlockRow a) ≡ PartRow (BlockRow b) → a ≡ b
same_block a b e = cc

-- parts of equal length stand before equal rows
same_parts : (xs ys : List DocumentRow) (a b : List TraceRow) → length xs ≡ length ys → parts xs ++ a ≡ parts ys ++ b
    → (xs ≡ ys) × (a ≡ b)
same_parts [] [] a b size e = (refl, e)
same_parts [] (y ∷ ys) a b size e = absurd (omega (arith, size))
same_parts (x ∷ xs) [] a b size e = absurd (omega (arith, size))
same_parts (x ∷ xs) (y ∷ ys) a b size e =
    let both = same_first (PartRow x) (PartRow y) (parts xs ++ a) (parts ys ++ b) e in
    let rest = same_parts xs ys a b (omega (arith, size)) both.1 in (
      ap (λ (z : DocumentRow). z ∷ xs) (same_part x y both.0) ∙ ap (λ (zs : List DocumentRow). y ∷ zs) rest.0,
      rest.1,
    )

-- the rows don't begin with a block
abbrev NoBlock : List TraceRow → Type 0
NoBlock [] = Unit {0}
NoBlock (PartRow (BlockRow b) ∷ rows) = ⊥
NoBlock (said ∷ rows) = Unit {0}

same_blocks : (bs cs : List LayerBlock) (xs ys : List TraceRow) → NoBlock xs → NoBlock ys
    → block_rows bs ++ xs ≡ block_rows cs ++ ys → (bs ≡ cs) × (xs ≡ ys)
same_blocks [] [] xs ys no_x no_y e = (refl, e)
same_blocks [] (c ∷ cs) xs ys no_x no_y e = absurd (subst NoBlock e no_x)
same_blocks (b ∷ bs) [] xs ys no_x no_y e = absurd (subst NoBlock (sym e) no_y)
same_blocks (b ∷ bs) (c ∷ cs) xs ys no_x no_y e =
    let both = same_first (PartRow (BlockRow b)) (PartRow (BlockRow c)) (block_rows bs ++ xs) (block_rows cs ++ ys) e in
    let rest = same_blocks bs cs xs ys no_x no_y both.1 in
    (ap (λ (x : LayerBlock). x ∷ bs) (same_block b c both.0) ∙ ap (λ (x : List LayerBlock). c ∷ x) rest.0, rest.1)

same_cost : (a b : ℤ) → FirstRow (Some a) ≡ FirstRow (Some b) → a ≡ b
same_cost a b e = cc

no_first : (a : ℤ) → FirstRow None ≡ FirstRow (Some a) → ⊥
no_first a e = absurd (cc)

same_opening : (a b c d : ℕ) → OpeningRow a c ≡ OpeningRow b d → (a ≡ b) × (c ≡ d)
same_opening a b c d e = (cc, cc)

module _ (p : Problem) where
  -- the rows of some steps and the end
  abbrev to_end : ℕ → ℕ → List Full → List TraceRow
  to_end tables plans steps = flat_map (step_rows p) (steps_from p tables plans steps) ++ PartRow EndRow ∷ []

  no_block : (tables plans : ℕ) (steps : List Full) → NoBlock (to_end tables plans steps)
  no_block tables plans [] = tt
  no_block tables plans (Took worker spot ∷ steps) = tt
  no_block tables plans (Split worker spot trip left table ∷ steps) = tt
  no_block tables plans (Closed worker spot table ∷ steps) = tt
  no_block tables plans (Offered worker cost plan ∷ steps) = tt
  no_block tables plans (GaveBack worker spot ∷ steps) = tt

  module _ (t u : Table) where
    layers_size : (ls : List ℕ) → length (flat_map (layer_rows p t) ls) ≡ length (flat_map (layer_rows p u) ls)
    layers_size [] = refl
    layers_size (l ∷ ls) =
        omega (
          arith,
          layers_size ls,
          length-map (permitted_trips p l) (λ (i : ℕ). PriceRow l i (into_price p t l i) (from_price p t l i)),
          length-map (permitted_trips p l) (λ (i : ℕ). PriceRow l i (into_price p u l i) (from_price p u l i)),
          length-append (layer_rows p t l) (flat_map (layer_rows p t) ls),
          length-append (layer_rows p u l) (flat_map (layer_rows p u) ls),
        )

    told_alike : (n : ℕ) → table_rows p (n, t) ≡ table_rows p (n, u) → AreToldAlike p t u
    told_alike n e m =
        let rows : List DocumentRow → List DocumentRow = drop 1 in
        let ray : t.ray ≡ u.ray =
        same_ray n t.ray u.ray (ap (λ (all : List DocumentRow). get_or all 0 EndRow) e) in
        let rest : flat_map (layer_rows p t) (range_with_len 0 (length p.layers))
        ≡ flat_map (layer_rows p u) (range_with_len 0 (length p.layers)) = ap rows e in
        ap (λ (b : Bool). TableRow m b ∷ flat_map (layer_rows p t) (range_with_len 0 (length p.layers))) ray
        ∙ ap (λ (all : List DocumentRow). TableRow m u.ray ∷ all) rest

    -- the rows of a table, and what stands behind them
    table_and_rest : (n : ℕ) (xs ys end : List TraceRow)
        → (parts (table_rows p (n, t)) ++ xs) ++ end ≡ (parts (table_rows p (n, u)) ++ ys) ++ end
        → AreToldAlike p t u × (xs ++ end ≡ ys ++ end)
    table_and_rest n xs ys end e =
        let one = parts (table_rows p (n, t)) in
        let two = parts (table_rows p (n, u)) in
        let size : length (table_rows p (n, t)) ≡ length (table_rows p (n, u)) =
        omega (arith, layers_size (range_with_len 0 (length p.layers))) in
        let both = same_parts (table_rows p (n, t)) (table_rows p (n, u)) (xs ++ end) (ys ++ end) size
        (sym (append_assoc one xs end) ∙ e ∙ append_assoc two ys end) in
        (told_alike n both.0, both.1)

  -- a number for the kind of a step's row
  abbrev kind : TraceRow → ℕ
  kind (TookRow worker spot) = 1
  kind (SplitRow worker spot trip left) = 2
  kind (ClosedRow worker spot) = 3
  kind (OfferedRow worker cost) = 4
  kind (GaveBackRow worker spot) = 5
  kind said = 0

  abbrev first_kind : List TraceRow → ℕ
  first_kind rows = kind (get_or rows 0 HeadRow)

  same_took : (w v k j : ℕ) → TookRow w k ≡ TookRow v j → (w ≡ v) × (k ≡ j)
  same_took w v k j e = (cc, cc)

  same_gave_back : (w v k j : ℕ) → GaveBackRow w k ≡ GaveBackRow v j → (w ≡ v) × (k ≡ j)
  same_gave_back w v k j e = (cc, cc)

  same_closed : (w v k j : ℕ) → ClosedRow w k ≡ ClosedRow v j → (w ≡ v) × (k ≡ j)
  same_closed w v k j e = (cc, cc)

  same_offered : (w v : ℕ) (x y : ℤ) → OfferedRow w x ≡ OfferedRow v y → (w ≡ v) × (x ≡ y)
  same_offered w v x y e = (cc, cc)

  same_split : (w v k j : ℕ) (t u : TripNo) (a b : LayerSet) → SplitRow w k t a ≡ SplitRow v j u b
      → (w ≡ v) × (k ≡ j) × (t ≡ u) × (a ≡ b)
  same_split w v k j t u a b e = (cc, cc, cc, cc)

  -- steps that the same rows tell
  same_steps : (n m : ℕ) (ts us : List Full)
      → to_end n m ts ≡ to_end n m us → AllZip (AreAlikeSteps p) ts us
  same_steps n m [] [] e = tt
  same_steps n m (Took w k ∷ ts) (Took v j ∷ us) e =
      let both = same_first (TookRow w k) (TookRow v j) (to_end n m ts) (to_end n m us) e in
      (same_took w v k j both.0, same_steps n m ts us both.1)
  same_steps n m (GaveBack w k ∷ ts) (GaveBack v j ∷ us) e =
      let both = same_first (GaveBackRow w k) (GaveBackRow v j) (to_end n m ts) (to_end n m us) e in
      (same_gave_back w v k j both.0, same_steps n m ts us both.1)
  same_steps n m (Offered w x plan ∷ ts) (Offered v y other ∷ us) e =
      let one = flat_map (step_rows p) (steps_from p n (m + 1) ts) in
      let two = flat_map (step_rows p) (steps_from p n (m + 1) us) in
      let end : List TraceRow = PartRow EndRow ∷ [] in
      let both = same_first (OfferedRow w x) (OfferedRow v y) ((block_rows (blocks_of plan) ++ one) ++ end)
      ((block_rows (blocks_of other) ++ two) ++ end) e in
      let numbers = same_offered w v x y both.0 in
      let blocks = same_blocks (blocks_of plan) (blocks_of other) (one ++ end) (two ++ end) (no_block n (m + 1) ts)
      (no_block n (m + 1) us)
      (sym (append_assoc (block_rows (blocks_of plan)) one end) ∙ both.1
      ∙ append_assoc (block_rows (blocks_of other)) two end) in
      ((numbers.0, numbers.1, blocks.0), same_steps n (m + 1) ts us blocks.1)
  same_steps n m (Closed w k t ∷ ts) (Closed v j u ∷ us) e =
      let one = flat_map (step_rows p) (steps_from p (n + 1) m ts) in
      let two = flat_map (step_rows p) (steps_from p (n + 1) m us) in
      let end : List TraceRow = PartRow EndRow ∷ [] in
      let both = same_first (ClosedRow w k) (ClosedRow v j) ((parts (table_rows p (n, t)) ++ one) ++ end)
      ((parts (table_rows p (n, u)) ++ two) ++ end) e in
      let numbers = same_closed w v k j both.0 in
      let tables = table_and_rest t u n one two end both.1 in
      ((numbers.0, numbers.1, tables.0), same_steps (n + 1) m ts us tables.1)
  same_steps n m (Split w k i l t ∷ ts) (Split v j h r u ∷ us) e =
      let one = flat_map (step_rows p) (steps_from p (n + 1) m ts) in
      let two = flat_map (step_rows p) (steps_from p (n + 1) m us) in
      let end : List TraceRow = PartRow EndRow ∷ [] in
      let both = same_first (SplitRow w k i l) (SplitRow v j h r) ((parts (table_rows p (n, t)) ++ one) ++ end)
      ((parts (table_rows p (n, u)) ++ two) ++ end) e in
      let numbers = same_split w v k j i h l r both.0 in
      let tables = table_and_rest t u n one two end both.1 in
      ((numbers.0, numbers.1, numbers.2, numbers.3, tables.0), same_steps (n + 1) m ts us tables.1)
  same_steps n m [] (Took v j ∷ us) e = absurd (omega (arith, ap first_kind e))
  same_steps n m [] (GaveBack v j ∷ us) e = absurd (omega (arith, ap first_kind e))
  same_steps n m [] (Offered v y other ∷ us) e = absurd (omega (arith, ap first_kind e))
  same_steps n m [] (Closed v j u ∷ us) e = absurd (omega (arith, ap first_kind e))
  same_steps n m [] (Split v j h r u ∷ us) e = absurd (omega (arith, ap first_kind e))
  same_steps n m (Took w k ∷ ts) rest e = absurd (omega (arith, ap first_kind e))
  same_steps n m (GaveBack w k ∷ ts) rest e = absurd (omega (arith, ap first_kind e))
  same_steps n m (Offered w x plan ∷ ts) rest e = absurd (omega (arith, ap first_kind e))
  same_steps n m (Closed w k t ∷ ts) rest e = absurd (omega (arith, ap first_kind e))
  same_steps n m (Split w k i l t ∷ ts) rest e = absurd (omega (arith, ap first_kind e))

  -- first plans that the same rows tell, where what stands behind them doesn't begin with a block
  same_firsts : (x y : Option (ℤ × Plan)) (xs ys : List TraceRow) → NoBlock xs → NoBlock ys
      → first_rows (told_first p x) ++ xs ≡ first_rows (told_first p y) ++ ys
      → (told_first p x ≡ told_first p y) × (first_plans x ≡ first_plans y) × (xs ≡ ys)
  same_firsts None None xs ys no_x no_y e = (refl, refl, (same_first (FirstRow None) (FirstRow None) xs ys e).1)
  same_firsts None (Some g) xs ys no_x no_y e =
      let none = (same_first (FirstRow None) (FirstRow (Some g.0)) xs (block_rows (blocks_of g.1) ++ ys) e).0 in
      absurd (no_first g.0 none)
  same_firsts (Some f) None xs ys no_x no_y e =
      let none = (same_first (FirstRow (Some f.0)) (FirstRow None) (block_rows (blocks_of f.1) ++ xs) ys e).0 in
      absurd (no_first f.0 (sym none))
  same_firsts (Some f) (Some g) xs ys no_x no_y e =
      let both = same_first (FirstRow (Some f.0)) (FirstRow (Some g.0)) (block_rows (blocks_of f.1) ++ xs)
      (block_rows (blocks_of g.1) ++ ys) e in
      let cost : f.0 ≡ g.0 = same_cost f.0 g.0 both.0 in
      let blocks = same_blocks (blocks_of f.1) (blocks_of g.1) xs ys no_x no_y both.1 in (
        ap (λ (x : ℤ). Some (record { problem = p; blocks = blocks_of f.1; cost = x })) cost
            ∙ ap (λ (bs : List LayerBlock). Some (record { problem = p; blocks = bs; cost = g.0 })) blocks.0,
        refl,
        blocks.1,
      )

  module _ (names : NameLists) (layers : AreNames names.layers) (trips : AreNames names.trips) where
    -- traces that the same rows stand for are alike
    pub traces_alike : (rows : List Row) (t u : Trace) → TraceText p names rows t → TraceText p names rows u
        → AreAlike p t u
    traces_alike rows t u one two =
        let end : List TraceRow = PartRow EndRow ∷ [] in
        let first : Trace → List TraceRow = λ v. first_rows (told_first p v.first) in
        let steps : Trace → List TraceRow = λ v. flat_map (step_rows p) (told_steps p v) in
        let same = say_so_once names layers trips rows (trace_rows (told_opening p t) (told_steps p t))
        (trace_rows (told_opening p u) (told_steps p u)) one.rows_say two.rows_say in
        let opening = same_first (OpeningRow t.budget t.workers) (OpeningRow u.budget u.workers)
        ((first t ++ steps t) ++ end) ((first u ++ steps u) ++ end) (ap (drop 1) same) in
        let numbers = same_opening t.budget u.budget t.workers u.workers opening.0 in
        let firsts = same_firsts t.first u.first (steps t ++ end) (steps u ++ end)
        (no_block 1 (first_plans t.first) t.steps.items) (no_block 1 (first_plans u.first) u.steps.items)
        (sym (append_assoc (first t) (steps t) end) ∙ opening.1 ∙ append_assoc (first u) (steps u) end) in
        let P : ℕ → Type 0 = λ n. to_end 1 (first_plans t.first) t.steps.items ≡ to_end 1 n u.steps.items in
        record {
          budget = numbers.0;
          workers = numbers.1;
          first = firsts.0;
          steps = same_steps 1 (first_plans t.first) t.steps.items u.steps.items (subst P (sym firsts.1) firsts.2);
        }
