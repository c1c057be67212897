-- Rows of a text of peaks that are written one after another.
use Rattle.std.proofs.Common.{◌≡◌, ℕ, ◌+◌, ◌<◌, List, [], ◌∷◌, ◌++◌, length, get_or, map, take, refl, sym, ap, ◌∙◌, subst, arith, ℤ}
use Rattle.std.specs.List.{All}
use Rattle.std.proofs.lemmas.List.{append-nil, append_assoc, get_or-map, length-map, length-take, map-append, map_push, take_more}
use Rattle.std.proofs.lemmas.List.Concat.{flat_map-append}
use Rattle.std.proofs.lemmas.List.Elements.{All-head, All-tail, All-weaker}
use Rattle.vs_types.specs.declared.numbers.LayerNo.{LayerNo}
use Rattle.vs_types.specs.declared.numbers.TripNo.{TripNo}
use Rattle.vs_instance.specs.Problem.{Problem}
use Rattle.vs_instance.specs.Plan.{LayerBlock}
use Rattle.vs_plan.specs.Blocks.{IsOfInstance, pair_of, pairs_of}
use Rattle.vs_plan.specs.declared.block.Block.{Block}
use Rattle.vs_reader.specs.Rows.{Row, line, lines}
use Rattle.vs_reader.specs.Names.{NameLists}
use Rattle.vs_instance.specs.HoldingTable.{price_of}
use Rattle.vs_rows.specs.DocumentRows.{BlockRow, EndRow, FleetRow, PriceRow}
use Rattle.vs_peakcheck.specs.declared.claimed.Claimed.{Claimed}
use Rattle.vs_peakcheck.specs.Claims.{IsClaimed}
use Rattle.vs_peakcheck.proofs.CallerLemmas.{layers_more, rows_more, all_within, count_is}
use Rattle.vs_peakcheck.specs.Counting.{counted_fleet, counting, numbered, own_blocks, own_trips, permitted_trips}
use Rattle.vs_peakcheck.specs.PeakRows.{CountRow, PartRow, PeakRow, block_rows, head_row, layer_rows, layers_rows, peak_rows, peak_text, price_rows, written_peak}
use Rattle.vs_peak.specs.Writing.{AddsPeakRow, AddsPeakRows, AreTripsOf, own_row, own_rows}

module _ (names : NameLists) where
  -- no rows yet
  pub adds_none : (old : List ℕ) → AddsPeakRows names [] old old
  adds_none old = sym (append-nil old)

  -- some rows, and then others
  pub adds_on : (said more : List PeakRow) (old middle new : List ℕ) → AddsPeakRows names said old middle
      → AddsPeakRows names more middle new → AddsPeakRows names (said ++ more) old new
  adds_on said more old middle new one two =
      let rows : List PeakRow → List Row = map (written_peak names) in
      two ∙ ap (λ (bytes : List ℕ). bytes ++ lines (rows more)) one
      ∙ append_assoc old (lines (rows said)) (lines (rows more))
      ∙ ap (λ (bytes : List ℕ). old ++ bytes)
      (sym (ap lines (map-append (written_peak names) said more) ∙ flat_map-append line (rows said) (rows more)))

  pub adds_one : (row : PeakRow) (old new : List ℕ) → AddsPeakRow names row old new
      → AddsPeakRows names (row ∷ []) old new
  adds_one row old new is =
      is ∙ ap (λ (bytes : List ℕ). old ++ bytes) (sym (append-nil (line (written_peak names row))))

  -- and one row more
  pub adds_more : (said : List PeakRow) (row : PeakRow) (old middle new : List ℕ) → AddsPeakRows names said old middle
      → AddsPeakRow names row middle new → AddsPeakRows names (said ++ row ∷ []) old new
  adds_more said row old middle new one two =
      adds_on said (row ∷ []) old middle new one (adds_one row middle new two)

module _ (p : Problem) (l : LayerNo) (trips : List TripNo) (are : AreTripsOf p l.0 trips) where
  -- trips by their numbers among those that the layer may run
  same_trips : (ks : List TripNo) → All (λ k. k.0 < length trips) ks
      → map (λ k. get_or trips k.0 k) ks ≡ own_trips p l.0 ks
  same_trips [] within = refl
  same_trips (k ∷ ks) within =
      let here = All-head (λ (t : TripNo). t.0 < length trips) k ks within in
      let inside : k.0 < length (permitted_trips p l.0) =
      omega (arith, here, ap length are, length-map (permitted_trips p l.0) numbered) in
      let own = ap (λ (ts : List TripNo). get_or ts k.0 k) are
      ∙ get_or-map numbered (permitted_trips p l.0) k.0 0 k inside in
      ap (λ (t : TripNo). t ∷ map (λ (j : TripNo). get_or trips j.0 j) ks) own
      ∙ ap (λ (ts : List TripNo). numbered (get_or (permitted_trips p l.0) k.0 0) ∷ ts)
      (same_trips ks (All-tail (λ (t : TripNo). t.0 < length trips) k ks within))

  pub same_rows : (blocks : List Block) → All (λ b. All (λ k. k.0 < length trips) b.1) (pairs_of blocks)
      → own_rows l trips blocks ≡ block_rows (own_blocks p l (pairs_of blocks))
  same_rows [] within = refl
  same_rows (b ∷ blocks) within =
      let Inside : LayerBlock → Type 0 = λ c. All (λ k. k.0 < length trips) c.1 in
      let here = All-head Inside (pair_of b) (pairs_of blocks) within in
      ap (λ (ts : List TripNo). PartRow (BlockRow (l, ts)) ∷ own_rows l trips blocks) (same_trips b.trips.items here)
      ∙ ap (λ (rows : List PeakRow). PartRow (BlockRow (l, own_trips p l.0 b.trips.items)) ∷ rows)
      (same_rows blocks (All-tail Inside (pair_of b) (pairs_of blocks) within))

-- the numbers of trips
pub numbers_of : (ks : List ℕ) → map (λ i. i.0) (map numbered ks) ≡ ks
numbers_of [] = refl
numbers_of (k ∷ ks) = ap (λ (js : List ℕ). k ∷ js) (numbers_of ks)

-- trips that have names
pub trips_named : (p : Problem) (l : ℕ) (trips : List TripNo) (n : ℕ) → AreTripsOf p l trips → n ≡ length p.trips
    → All (λ i. i.0 < n) trips
trips_named p l trips n are size =
    let Named : List TripNo → Type 0 = λ ts. All (λ i. i.0 < n) ts in
    let named : Named (map numbered (permitted_trips p l)) =
    λ k d within.
    let inside : k < length (permitted_trips p l) =
    omega (arith, within, length-map (permitted_trips p l) numbered) in
    let below = all_within p l k 0 inside in
    subst (λ (t : TripNo). t.0 < n) (sym (get_or-map numbered (permitted_trips p l) k 0 d inside))
    (omega (arith, size, below)) in
    subst Named (sym are) named

module _ (p : Problem) (l : LayerNo) (trips : List TripNo) (are : AreTripsOf p l.0 trips) where
  -- as many as the problem has that counts the layer's vehicles
  pub as_many : length (counting p l.0).trips ≡ length trips
  as_many =
      omega (arith, count_is (counted_fleet p) p l.0, ap length are, length-map (permitted_trips p l.0) numbered)

  -- blocks of that problem have their numbers
  pub blocks_placed : (blocks : List LayerBlock) → All (IsOfInstance (counting p l.0)) blocks
      → All (λ b. All (λ k. k.0 < length trips) b.1) blocks
  blocks_placed blocks of_instance =
      All-weaker (IsOfInstance (counting p l.0)) (λ (b : LayerBlock). All (λ (k : TripNo). k.0 < length trips) b.1)
      (λ b own. All-weaker (λ (t : TripNo). t.0 < length (counting p l.0).trips) (λ (t : TripNo). t.0 < length trips)
      (λ t within. omega (arith, within, as_many)) b.1 own.trips) blocks of_instance

  pub numbers_are : map (λ i. i.0) trips ≡ permitted_trips p l.0
  numbers_are = ap (map (λ (i : TripNo). i.0)) are ∙ numbers_of (permitted_trips p l.0)

module _ (names : NameLists) where
  -- a block more
  pub blocks_more : (l : LayerNo) (trips : List TripNo) (blocks : List Block) (k : ℕ) (b : Block)
      (old middle new : List ℕ) → k < length blocks → b ≡ get_or blocks k b
      → AddsPeakRows names (own_rows l trips (take k blocks)) old middle
      → AddsPeakRow names (own_row l trips b) middle new
      → AddsPeakRows names (own_rows l trips (take (k + 1) blocks)) old new
  blocks_more l trips blocks k b old middle new within is so_far one =
      let rows : own_rows l trips (take (k + 1) blocks) ≡ own_rows l trips (take k blocks) ++ own_row l trips b ∷ [] =
      ap (own_rows l trips) (take_more blocks k b within)
      ∙ map_push (own_row l trips) (take k blocks) (get_or blocks k b)
      ∙ ap (λ (c : Block). own_rows l trips (take k blocks) ++ own_row l trips c ∷ []) (sym is) in
      subst (λ (said : List PeakRow). AddsPeakRows names said old new) (sym rows)
      (adds_more names (own_rows l trips (take k blocks)) (own_row l trips b) old middle new so_far one)

  -- a trip's prices more
  pub prices_more : (l : ℕ) (trips : List TripNo) (into from : List ℤ) (k : ℕ) (i : TripNo) (x y : ℤ)
      (old middle new : List ℕ) → k < length trips → length into ≡ length trips → length from ≡ length trips
      → i ≡ get_or trips k i → x ≡ get_or into k x → y ≡ get_or from k y
      → AddsPeakRows names (price_rows l (map (λ j. j.0) (take k trips)) (take k into) (take k from)) old middle
      → AddsPeakRow names (PartRow (PriceRow l i.0 x y)) middle new
      → AddsPeakRows names (price_rows l (map (λ j. j.0) (take (k + 1) trips)) (take (k + 1) into) (take (k + 1) from))
      old new
  prices_more l trips into from k i x y old middle new within into_size from_size i_is x_is y_is so_far one =
      let number : TripNo → ℕ = λ j. j.0 in
      let more = length-take k trips in
      let more_into = length-take k into in
      let more_from = length-take k from in
      let size = length-map (take k trips) number in
      let trips_are : map number (take (k + 1) trips) ≡ map number (take k trips) ++ i.0 ∷ [] =
      ap (map number) (take_more trips k i within) ∙ map_push number (take k trips) (get_or trips k i)
      ∙ ap (λ (j : TripNo). map number (take k trips) ++ j.0 ∷ []) (sym i_is) in
      let into_are : take (k + 1) into ≡ take k into ++ x ∷ [] =
      take_more into k x (omega (arith, within, into_size)) ∙ ap (λ (z : ℤ). take k into ++ z ∷ []) (sym x_is) in
      let from_are : take (k + 1) from ≡ take k from ++ y ∷ [] =
      take_more from k y (omega (arith, within, from_size)) ∙ ap (λ (z : ℤ). take k from ++ z ∷ []) (sym y_is) in
      let rows : price_rows l (map number (take (k + 1) trips)) (take (k + 1) into) (take (k + 1) from)
      ≡ price_rows l (map number (take k trips)) (take k into) (take k from) ++ PartRow (PriceRow l i.0 x y) ∷ [] =
      ap (λ (ts : List ℕ). price_rows l ts (take (k + 1) into) (take (k + 1) from)) trips_are
      ∙ ap (λ (xs : List ℤ). price_rows l (map number (take k trips) ++ i.0 ∷ []) xs (take (k + 1) from)) into_are
      ∙ ap (λ (ys : List ℤ). price_rows l (map number (take k trips) ++ i.0 ∷ []) (take k into ++ x ∷ []) ys) from_are
      ∙ rows_more l (map number (take k trips)) (take k into) (take k from) i.0 x y
      (omega (arith, more, more_into, size, into_size, within))
      (omega (arith, more, more_from, size, from_size, within)) in
      subst (λ (said : List PeakRow). AddsPeakRows names said old new) (sym rows)
      (adds_more names (price_rows l (map number (take k trips)) (take k into) (take k from))
      (PartRow (PriceRow l i.0 x y)) old middle new so_far one)

  -- a layer more
  pub one_layer_more : (p : Problem) (claimed : List Claimed) (l : ℕ) (c : Claimed) (old middle new : List ℕ)
      → l < length claimed → c ≡ get_or claimed l c
      → AddsPeakRows names (layers_rows p 0 (take l claimed)) old middle
      → AddsPeakRows names (layer_rows p l c) middle new
      → AddsPeakRows names (layers_rows p 0 (take (l + 1) claimed)) old new
  one_layer_more p claimed l c old middle new within is so_far one =
      let at : 0 + length (take l claimed) ≡ l = omega (arith, within, length-take l claimed) in
      let before = layers_rows p 0 (take l claimed) in
      let rows : layers_rows p 0 (take (l + 1) claimed) ≡ before ++ layer_rows p l c =
      ap (layers_rows p 0) (take_more claimed l c within)
      ∙ layers_more p 0 (take l claimed) (get_or claimed l c)
      ∙ ap (λ (k : ℕ). before ++ layer_rows p k (get_or claimed l c)) at
      ∙ ap (λ (d : Claimed). before ++ layer_rows p l d) (sym is) in
      subst (λ (said : List PeakRow). AddsPeakRows names said old new) (sym rows)
      (adds_on names before (layer_rows p l c) old middle new so_far one)

  -- the rows of one layer
  pub layer_written : (p : Problem) (l : LayerNo) (trips : List TripNo) (c : Claimed) (fleet : ℤ)
      (old first second third new : List ℕ) → AreTripsOf p l.0 trips → IsClaimed (counting p l.0) c
      → fleet ≡ price_of c.table.fleet.items 0
      → AddsPeakRow names (CountRow l.0 c.count) old first
      → AddsPeakRows names (own_rows l trips c.blocks.items) first second
      → AddsPeakRow names (PartRow (FleetRow l.0 fleet)) second third
      → AddsPeakRows names (price_rows l.0 (map (λ j. j.0) trips) c.table.into.items c.table.from.items) third new
      → AddsPeakRows names (layer_rows p l.0 c) old new
  layer_written p l trips c fleet old first second third new are is fleet_is count blocks vehicles prices =
      let own = block_rows (own_blocks p l (pairs_of c.blocks.items)) in
      let priced : List ℕ → List PeakRow = λ ts. price_rows l.0 ts c.table.into.items c.table.from.items in
      let Fleet : ℤ → Type 0 = λ z. AddsPeakRow names (PartRow (FleetRow l.0 z)) second third in
      let Rows : List PeakRow → Type 0 = λ said. AddsPeakRows names said first second in
      let Prices : List ℕ → Type 0 = λ ts. AddsPeakRows names (priced ts) third new in
      let the_fleet = PartRow (FleetRow l.0 (price_of c.table.fleet.items 0)) in
      let last = adds_on names (the_fleet ∷ []) (priced (permitted_trips p l.0)) second third new
      (adds_one names the_fleet second third (subst Fleet fleet_is vehicles))
      (subst Prices (numbers_are p l trips are) prices) in
      let middle = adds_on names own (the_fleet ∷ priced (permitted_trips p l.0)) first second new
      (subst Rows (same_rows p l trips are c.blocks.items
      (blocks_placed p l trips are (pairs_of c.blocks.items) is.blocks)) blocks) last in
      adds_on names (CountRow l.0 c.count ∷ []) (own ++ (the_fleet ∷ priced (permitted_trips p l.0))) old first new
      (adds_one names (CountRow l.0 c.count) old first count) middle

  -- the whole text
  pub text_written : (p : Problem) (claimed : List Claimed) (head text bytes : List ℕ) → head ≡ line head_row
      → AddsPeakRows names (layers_rows p 0 claimed) head text → AddsPeakRow names (PartRow EndRow) text bytes
      → bytes ≡ lines (peak_text p names claimed)
  text_written p claimed head text bytes head_is layers end =
      adds_more names (layers_rows p 0 claimed) (PartRow EndRow) head text bytes layers end
      ∙ ap (λ (t : List ℕ). t ++ lines (map (written_peak names) (peak_rows p claimed))) head_is
