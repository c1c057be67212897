-- Blocks that are read row by row, in the numbers of a layer's trips.
use Rattle.std.proofs.Common.{◌≡◌, ℕ, ◌+◌, ◌<◌, ◌≤◌, ◌==◌, Bool, true, false, cond, List, [], ◌∷◌, ◌++◌, length, get_or, map, take, refl, sym, ap, ◌∙◌, subst, arith, All, Some, None, Option}
use Rattle.std.specs.Prelude.{Contains, IfNone, IsSome, flat_map}
use Rattle.std.specs.Int.{bit_at}
use Rattle.std.specs.List.{list_all}
use Rattle.std.specs.Option.{is_some}
use Rattle.std.proofs.lemmas.Bool.{and_from, and_parts, eq-eqb, eqb-true, false_from_ne_true}
use Rattle.std.proofs.lemmas.List.{append-nil, get_or-map, get_or_past, length-append, length-map, map_push, take_more}
use Rattle.std.proofs.lemmas.List.Concat.{flat_map-append}
use Rattle.std.proofs.lemmas.List.Elements.{All-nil, All-push, All-weaker}
use Rattle.std.proofs.lemmas.List.Sums.{AllPass-from_list_all, list_all-from_AllPass}
use Rattle.vs_types.specs.declared.numbers.LayerNo.{LayerNo}
use Rattle.vs_types.specs.declared.numbers.TripNo.{TripNo}
use Rattle.vs_instance.specs.Plan.{LayerBlock, all_trips}
use Rattle.vs_instance.specs.Problem.{Problem}
use Rattle.vs_instance.specs.Ways.{Permitted, trip_of}
use Rattle.vs_plan.specs.Blocks.{IsOfInstance}
use Rattle.vs_reader.specs.Rows.{Row, all_fields, row_of}
use Rattle.vs_reader.specs.Names.{name_of}
use Rattle.vs_reader.specs.declared.input.Input.{Input}
use Rattle.vs_rows.specs.DocumentRows.{BlockRow, Says}
use Rattle.vs_peakcheck.specs.Counting.{counted_fleet, counting, numbered, own_blocks, own_number, own_trips, permitted_trips}
use Rattle.vs_peakcheck.proofs.problem.PermittedTrips.{all_permitted, has_number}
use Rattle.vs_peakcheck.proofs.problem.CountedTrips.{count_is}
use Rattle.vs_peakcheck.specs.PeakRows.{PartRow, PeakRow, block_rows}
use Rattle.vs_peakcheck.specs.Places.{AtBlocks, MayRun, behind, may_run}
use Rattle.vs_rows.specs.Standing.{IsNoBlock}
use Rattle.vs_peakcheck.specs.Reading.{IsCountedBlock, ReadsBlocks}
use Rattle.vs_peakcheck.specs.PeakRefusals.{peaks}
use Rattle.vs_rows.specs.RowReading.{ReadsTo}
use Rattle.vs_rows.proofs.CallerLemmas.{read_on, reads_none, reads_one}

module _ (p : Problem) (l : LayerNo) where
  -- the layer may run a trip, as a test
  abbrev may : TripNo → Bool
  may i = bit_at (trip_of p i.0).layers.0 l.0 == 1

  -- what the layer may run it may run trip by trip
  each_may : (b : LayerBlock) → MayRun p l.0 b → (b.0.0 ≡ l.0) × All (λ i. may i ≡ true) b.1
  each_may b is =
      let both = and_parts (b.0.0 == l.0) (list_all may b.1) is in
      (eqb-true b.0.0 l.0 both.0, AllPass-from_list_all may b.1 both.1)

  -- a trip that stands nowhere among those that the layer may run
  pub stands_nowhere : (b : LayerBlock) (trips : List TripNo) (k : ℕ) (i : TripNo) → k < length b.1
      → i ≡ get_or b.1 k i → i.0 < length p.trips → trips ≡ map numbered (permitted_trips p l.0)
      → ¬ (Contains trips i) → ¬ (MayRun p l.0 b)
  stands_nowhere b trips k i within is inside are none may_it =
      let test = (each_may b may_it).1 k i within in
      let permitted = eqb-true (bit_at (trip_of p (get_or b.1 k i).0).layers.0 l.0) 1 test in
      let own : Permitted p l.0 i.0 = subst (λ (t : TripNo). Permitted p l.0 t.0) (sym is) permitted in
      let among = has_number p l.0 i.0 inside own in
      none (subst (λ (ts : List TripNo). Contains ts i) (sym are) (
        among.0,
        omega (arith, among.1, length-map (permitted_trips p l.0) numbered),
        get_or-map numbered (permitted_trips p l.0) among.0 i.0 i among.1 ∙ ap numbered among.2,
      ))

  pub another_layer : (b : LayerBlock) → (b.0 ≡ l → ⊥) → ¬ (MayRun p l.0 b)
  another_layer b other may_it = other (ap (λ (n : ℕ). record { 0 = n }) (each_may b may_it).0)

  abbrev own : TripNo → TripNo
  own k = numbered (own_number p l.0 k.0)

  -- the trips so far, in the numbers of the layer's trips
  pub record TripsSoFar (trips counted : List TripNo) (k : ℕ) : Type 0 where
    pub within : All (λ t. t.0 < length (permitted_trips p l.0)) counted
    pub own_is : own_trips p l.0 counted ≡ take k trips

  pub no_trips : (trips counted : List TripNo) → counted ≡ [] → TripsSoFar trips counted 0
  no_trips trips counted is = record {
    within = subst (All (λ t. t.0 < length (permitted_trips p l.0))) (sym is)
        (All-nil (λ (t : TripNo). t.0 < length (permitted_trips p l.0)));
    own_is = ap (own_trips p l.0) is;
  }

  pub one_more_trip : (of_layer trips counted new : List TripNo) (k place : ℕ) (i : TripNo)
      → of_layer ≡ map numbered (permitted_trips p l.0) → TripsSoFar trips counted k → k < length trips
      → i ≡ get_or trips k i → place < length of_layer → get_or of_layer place i ≡ i
      → new ≡ counted ++ numbered place ∷ [] → TripsSoFar trips new (k + 1)
  one_more_trip of_layer trips counted new k place i are so_far inside is within at pushed =
      let placed : place < length (permitted_trips p l.0) =
      omega (arith, within, ap length are, length-map (permitted_trips p l.0) numbered) in
      let own_one : own (numbered place) ≡ get_or trips k i =
      sym (get_or-map numbered (permitted_trips p l.0) place 0 i placed)
      ∙ sym (ap (λ (ts : List TripNo). get_or ts place i) are) ∙ at ∙ is in
      record {
        within = subst (All (λ t. t.0 < length (permitted_trips p l.0))) (sym pushed)
            (All-push (λ (t : TripNo). t.0 < length (permitted_trips p l.0)) counted (numbered place) so_far.within
            placed);
        own_is = ap (own_trips p l.0) pushed ∙ map_push own counted (numbered place)
            ∙ ap (λ (ts : List TripNo). ts ++ own (numbered place) ∷ []) so_far.own_is
            ∙ ap (λ (t : TripNo). take k trips ++ t ∷ []) own_one
            ∙ sym (take_more trips k i inside);
      }

  -- a block in the numbers of the layer's trips is one that the layer may run
  pub may_run_counted : (b counted : LayerBlock) → IsCountedBlock p l b counted → MayRun p l.0 b
  may_run_counted b counted is =
      let each : All (λ i. may i ≡ true) (own_trips p l.0 counted.1) =
      λ k d within.
      let inside : k < length counted.1 = omega (arith, within, length-map counted.1 own) in
      let here = all_permitted p l.0 (get_or counted.1 k d).0 0 (is.trips k d inside) in
      subst (λ (t : TripNo). may t ≡ true) (sym (get_or-map own counted.1 k d d inside))
      (eq-eqb (bit_at (trip_of p (own (get_or counted.1 k d)).0).layers.0 l.0) 1 here) in
      and_from (b.0.0 == l.0) (list_all may b.1) (eq-eqb b.0.0 l.0 (ap (λ (m : LayerNo). m.0) is.of_layer))
      (list_all-from_AllPass may b.1 (subst (All (λ i. may i ≡ true)) is.own_is each))

  -- such a block has numbers of the counting problem
  counted_of_instance : (b counted : LayerBlock) → IsCountedBlock p l b counted → 0 < length b.1
      → IsOfInstance (counting p l.0) counted
  counted_of_instance b counted is some = record {
    layer = let here = ap (λ (m : LayerNo). m.0) is.of_only in omega (arith, here);
    some_trip = omega (arith, some, length-map counted.1 own, ap length is.own_is);
    trips = All-weaker (λ (t : TripNo). t.0 < length (permitted_trips p l.0))
        (λ (t : TripNo). t.0 < length (counting p l.0).trips)
        (λ t within. omega (arith, within, count_is (counted_fleet p) p l.0)) counted.1 is.trips;
  }

-- the blocks that are read so far
pub record BlocksSoFar (input : Input) (at : ℕ) (l : LayerNo) (count : Option ℕ) (row : ℕ)
    (blocks : List LayerBlock) : Type 0 where
  pub of_instance : All (IsOfInstance (counting input.instance l.0)) blocks
  pub few_trips : length (all_trips blocks) ≤ length (all_fields (take row input.rest))
  pub reads : ReadsTo peaks input at (AtBlocks l.0 count) (block_rows (own_blocks input.instance l blocks)) row
      (AtBlocks l.0 count)

module _ (input : Input) (at : ℕ) (l : LayerNo) (count : Option ℕ) where
  -- none yet
  pub no_blocks_yet : (blocks : List LayerBlock) → blocks ≡ [] → at ≤ length input.rest
      → BlocksSoFar input at l count at blocks
  no_blocks_yet blocks is within =
      subst (BlocksSoFar input at l count at) (sym is)
      (record {
        of_instance = All-nil (IsOfInstance (counting input.instance l.0));
        few_trips = omega arith;
        reads = reads_none peaks input at (AtBlocks l.0 count) within;
      })

  block_order : (n : Option ℕ) (b : LayerBlock) → IsSome n → MayRun input.instance l.0 b
      → behind input.instance (AtBlocks l.0 n) (PartRow (BlockRow b)) ≡ Some (AtBlocks l.0 n)
  block_order None b some is = absurd (cc)
  block_order (Some n) b some is = ap (λ (t : Bool). cond t (Some (AtBlocks l.0 (Some n))) None) is

  pub block_out_of_order : (n : Option ℕ) (b : LayerBlock) → ¬ (MayRun input.instance l.0 b)
      → behind input.instance (AtBlocks l.0 n) (PartRow (BlockRow b)) ≡ None
  block_out_of_order None b none = refl
  block_out_of_order (Some n) b none =
      ap (λ (t : Bool). cond t (Some (AtBlocks l.0 (Some n))) None)
      (false_from_ne_true (may_run input.instance l.0 b) none)

  fields_more : (row : ℕ) → row < length input.rest
      → length (all_fields (take (row + 1) input.rest))
      ≡ length (all_fields (take row input.rest)) + length (row_of input.rest row)
  fields_more row lt =
      let last : length (flat_map (λ (r : Row). r) (row_of input.rest row ∷ [])) ≡ length (row_of input.rest row) =
      ap length (append-nil (row_of input.rest row)) in
      ap (λ (rows : List Row). length (all_fields rows)) (take_more input.rest row [] lt)
      ∙ ap length (flat_map-append (λ (r : Row). r) (take row input.rest) (row_of input.rest row ∷ []))
      ∙ length-append (all_fields (take row input.rest)) (all_fields (row_of input.rest row ∷ []))
      ∙ ap (λ (n : ℕ). length (all_fields (take row input.rest)) + n) last

  -- one block more
  pub one_more_block : (row : ℕ) (blocks new : List LayerBlock) (b counted : LayerBlock)
      → BlocksSoFar input at l count row blocks → IsSome count → row < length input.rest
      → Says input.names (row_of input.rest row) (BlockRow b) → IsCountedBlock input.instance l b counted
      → new ≡ blocks ++ counted ∷ [] → BlocksSoFar input at l count (row + 1) new
  one_more_block row blocks new b counted so_far some lt says is pushed =
      let own_pair : LayerBlock = (l, own_trips input.instance l.0 counted.1) in
      let same : own_pair ≡ b = λ i. (sym is.of_layer i, is.own_is i) in
      let own_of : LayerBlock → LayerBlock = λ c. (l, own_trips input.instance l.0 c.1) in
      let row_one : LayerBlock → PeakRow = λ c. PartRow (BlockRow c) in
      let reads = read_on peaks input at row (row + 1) (AtBlocks l.0 count) (AtBlocks l.0 count) (AtBlocks l.0 count)
      (block_rows (own_blocks input.instance l blocks)) (PartRow (BlockRow b) ∷ []) so_far.reads
      (reads_one peaks input row lt (AtBlocks l.0 count) (PartRow (BlockRow b)) (tt, says) (AtBlocks l.0 count)
      (record {
        suits = tt;
        order = block_order count b some (may_run_counted input.instance l b counted is);
        right = tt;
      })) in
      let rows : block_rows (own_blocks input.instance l (blocks ++ counted ∷ []))
      ≡ block_rows (own_blocks input.instance l blocks) ++ PartRow (BlockRow b) ∷ [] =
      ap block_rows (map_push own_of blocks counted)
      ∙ map_push row_one (own_blocks input.instance l blocks) own_pair
      ∙ ap (λ (c : LayerBlock). block_rows (own_blocks input.instance l blocks) ++ PartRow (BlockRow c) ∷ []) same in
      let trips : length (all_trips (blocks ++ counted ∷ [])) ≡ length (all_trips blocks) + length counted.1 =
      ap length (flat_map-append (λ (c : LayerBlock). c.1) blocks (counted ∷ []))
      ∙ length-append (all_trips blocks) (all_trips (counted ∷ []))
      ∙ ap (λ (xs : List TripNo). length (all_trips blocks) + length xs) (append-nil counted.1) in
      let size : length counted.1 ≡ length b.1 =
      sym (length-map counted.1 (own input.instance l)) ∙ ap length is.own_is in
      let fields : length (row_of input.rest row) ≡ length b.1 + 2 =
      ap length says.written ∙ omega (arith, length-map b.1 (λ (t : TripNo). name_of input.names.trips t.0)) in
      subst (BlocksSoFar input at l count (row + 1)) (sym pushed)
      (record {
        of_instance = All-push (IsOfInstance (counting input.instance l.0)) blocks counted so_far.of_instance
            (counted_of_instance input.instance l b counted is says.form.some_trip);
        few_trips = omega (arith, so_far.few_trips, fields_more row lt, trips, size, fields);
        reads = subst (λ (said : List PeakRow). ReadsTo peaks input at (AtBlocks l.0 count) said (row + 1)
            (AtBlocks l.0 count)) (sym rows) reads;
      })

  -- all blocks are read
  pub all_blocks : (row : ℕ) (blocks : List LayerBlock) → BlocksSoFar input at l count row blocks
      → IfNone count (blocks ≡ []) → (IsSome count → IsNoBlock input row) → ReadsBlocks input at l count row blocks
  all_blocks row blocks so_far none ends = record {
    of_instance = so_far.of_instance;
    no_blocks = none;
    few_trips = so_far.few_trips;
    ends = ends;
    reads = so_far.reads;
  }

  -- behind the last row there is none
  pub no_row_left : (row : ℕ) → length input.rest ≤ row → IsNoBlock input row
  no_row_left row past b says =
      let none = get_or_past input.rest row [] past in
      let fields = ap length (sym none ∙ says.written) in
      absurd (omega (arith, fields))

  pub no_blocks_without_count : (blocks : List LayerBlock) → is_some count ≡ false → blocks ≡ []
      → IfNone count (blocks ≡ [])
  no_blocks_without_count blocks none is = by_count count
    where
      by_count : (o : Option ℕ) → IfNone o (blocks ≡ [])
      by_count None = is
      by_count (Some n) = tt
