-- Claims that the same rows stand for say the same.
use Rattle.std.proofs.Common.{◌≡◌, ℕ, suc, ◌+◌, ◌<◌, List, [], ◌∷◌, ◌++◌, length, get_or, drop, refl, sym, ap, ◌∙◌, subst, arith, Option, ℤ, pos, append_assoc}
use Rattle.std.specs.Prelude.{is_none}
use Rattle.std.specs.List.{All}
use Rattle.std.proofs.lemmas.List.{ext_get_or}
use Rattle.std.proofs.lemmas.List.Elements.{All-head, All-tail}
use Rattle.vs_types.specs.declared.numbers.LayerNo.{LayerNo}
use Rattle.vs_types.specs.declared.numbers.TripNo.{TripNo}
use Rattle.vs_instance.specs.HoldingTable.{price_of}
use Rattle.vs_instance.specs.Plan.{LayerBlock}
use Rattle.vs_instance.specs.Problem.{Problem}
use Rattle.vs_plan.specs.Blocks.{IsOfInstance, pairs_of}
use Rattle.vs_reader.specs.NameRules.{AreNames}
use Rattle.vs_reader.specs.Names.{NameLists}
use Rattle.vs_reader.specs.Rows.{Row}
use Rattle.vs_rows.specs.DocumentRows.{BlockRow, EndRow, FleetRow, PriceRow}
use Rattle.vs_peakcheck.specs.Counting.{counted_fleet, counting, numbered, own_blocks, own_number, own_trips, permitted_trips}
use Rattle.vs_peakcheck.proofs.problem.CountedTrips.{count_is}
use Rattle.vs_peakcheck.proofs.problem.PermittedTrips.{own_once}
use Rattle.vs_peakcheck.specs.Alike.{AreAlike, SaysTheSame}
use Rattle.vs_peakcheck.specs.Claims.{IsClaimed}
use Rattle.vs_peakcheck.specs.Laws.{ClaimsOfRowsAreAlike}
use Rattle.vs_peakcheck.specs.PeakRows.{CountRow, PartRow, PeakRow, SayAllSo, block_rows, layer_rows, layers_rows, peak_rows, price_rows, table_rows}
use Rattle.vs_peakcheck.specs.declared.claimed.Claimed.{Claimed}
use Rattle.vs_peakcheck.proofs.rows.OneReading.{says_so_once}

same_first : (x y : PeakRow) (xs ys : List PeakRow) → x ∷ xs ≡ y ∷ ys → (x ≡ y) × (xs ≡ ys)
same_first x y xs ys e = (ap (λ (rows : List PeakRow). get_or rows 0 (PartRow EndRow)) e, ap (drop 1) e)

same_count : (l : ℕ) (a b : Option ℕ) → CountRow l a ≡ CountRow l b → a ≡ b
same_count l a b e = cc

same_block : (a b : LayerBlock) → PartRow (BlockRow a) ≡ PartRow (BlockRow b) → a ≡ b
same_block a b e = cc

same_fleet : (l : ℕ) (a b : ℤ) → PartRow (FleetRow l a) ≡ PartRow (FleetRow l b) → a ≡ b
same_fleet l a b e = cc

same_into : (l i : ℕ) (a b c d : ℤ) → PartRow (PriceRow l i a b) ≡ PartRow (PriceRow l i c d) → a ≡ c
same_into l i a b c d e = cc

same_from : (l i : ℕ) (a b c d : ℤ) → PartRow (PriceRow l i a b) ≡ PartRow (PriceRow l i c d) → b ≡ d
same_from l i a b c d e = cc

-- the rows don't begin with a block
abbrev NoBlock : List PeakRow → Type 0
NoBlock (PartRow (BlockRow b) ∷ rows) = ⊥
NoBlock rows = Unit {0}

same_blocks : (bs cs : List LayerBlock) (xs ys : List PeakRow) → NoBlock xs → NoBlock ys
    → block_rows bs ++ xs ≡ block_rows cs ++ ys → (bs ≡ cs) × (xs ≡ ys)
same_blocks [] [] xs ys no_x no_y e = (refl, e)
same_blocks [] (c ∷ cs) xs ys no_x no_y e = absurd (subst NoBlock e no_x)
same_blocks (b ∷ bs) [] xs ys no_x no_y e = absurd (subst NoBlock (sym e) no_y)
same_blocks (b ∷ bs) (c ∷ cs) xs ys no_x no_y e =
    let parts = same_first (PartRow (BlockRow b)) (PartRow (BlockRow c)) (block_rows bs ++ xs)
    (block_rows cs ++ ys) e in
    let rest = same_blocks bs cs xs ys no_x no_y parts.1 in
    (ap (λ (x : LayerBlock). x ∷ bs) (same_block b c parts.0) ∙ ap (λ (x : List LayerBlock). c ∷ x) rest.0, rest.1)

-- there is one price of each kind for each trip
record AreFor (trips : List ℕ) (into from : List ℤ) : Type 0 where
  into_size : length into ≡ length trips
  from_size : length from ≡ length trips

record SamePrices (into from into' from' : List ℤ) (xs ys : List PeakRow) : Type 0 where
  into_same : into ≡ into'
  from_same : from ≡ from'
  rest : xs ≡ ys

same_prices : (l : ℕ) (trips : List ℕ) (into from into' from' : List ℤ) (xs ys : List PeakRow)
    → AreFor trips into from → AreFor trips into' from'
    → price_rows l trips into from ++ xs ≡ price_rows l trips into' from' ++ ys
    → SamePrices into from into' from' xs ys
same_prices l [] [] [] [] [] xs ys a b e = record { into_same = refl; from_same = refl; rest = e }
same_prices l [] (x ∷ into) from into' from' xs ys a b e = absurd (omega (arith, a.into_size))
same_prices l [] [] (y ∷ from) into' from' xs ys a b e = absurd (omega (arith, a.from_size))
same_prices l [] [] [] (x ∷ into') from' xs ys a b e = absurd (omega (arith, b.into_size))
same_prices l [] [] [] [] (y ∷ from') xs ys a b e = absurd (omega (arith, b.from_size))
same_prices l (i ∷ trips) [] from into' from' xs ys a b e = absurd (omega (arith, a.into_size))
same_prices l (i ∷ trips) (x ∷ into) [] into' from' xs ys a b e = absurd (omega (arith, a.from_size))
same_prices l (i ∷ trips) (x ∷ into) (y ∷ from) [] from' xs ys a b e = absurd (omega (arith, b.into_size))
same_prices l (i ∷ trips) (x ∷ into) (y ∷ from) (x' ∷ into') [] xs ys a b e = absurd (omega (arith, b.from_size))
same_prices l (i ∷ trips) (x ∷ into) (y ∷ from) (x' ∷ into') (y' ∷ from') xs ys a b e =
    let parts = same_first (PartRow (PriceRow l i x y)) (PartRow (PriceRow l i x' y'))
    (price_rows l trips into from ++ xs) (price_rows l trips into' from' ++ ys) e in
    let later = same_prices l trips into from into' from' xs ys
    (record { into_size = omega (arith, a.into_size); from_size = omega (arith, a.from_size) })
    (record { into_size = omega (arith, b.into_size); from_size = omega (arith, b.from_size) }) parts.1 in
    record {
      into_same =
          ap (λ (z : ℤ). z ∷ into) (same_into l i x y x' y' parts.0) ∙ ap (λ (zs : List ℤ). x' ∷ zs) later.into_same;
      from_same =
          ap (λ (z : ℤ). z ∷ from) (same_from l i x y x' y' parts.0) ∙ ap (λ (zs : List ℤ). y' ∷ zs) later.from_same;
      rest = later.rest;
    }

-- the one price of two lists
same_only : (xs ys : List ℤ) → length xs ≡ 1 → length ys ≡ 1 → price_of xs 0 ≡ price_of ys 0 → xs ≡ ys
same_only xs ys one also same =
    ext_get_or (pos 0) xs ys (one ∙ sym also)
    (λ k within.
    let first : 0 ≡ k = omega (arith, within, one) in
    subst (λ (n : ℕ). get_or xs n (pos 0) ≡ get_or ys n (pos 0)) first same)

module _ (p : Problem) where
  module _ (l : LayerNo) where
    abbrev IsOwn : TripNo → Type 0
    IsOwn k = k.0 < length (permitted_trips p l.0)

    -- trips of the layer are told by their numbers in the instance
    same_trips : (ks js : List TripNo) → All IsOwn ks → All IsOwn js → own_trips p l.0 ks ≡ own_trips p l.0 js → ks ≡ js
    same_trips [] [] own also e = refl
    same_trips [] (j ∷ js) own also e = absurd (let size = ap length e in omega (arith, size))
    same_trips (k ∷ ks) [] own also e = absurd (let size = ap length e in omega (arith, size))
    same_trips (k ∷ ks) (j ∷ js) own also e =
        let heads : own_number p l.0 k.0 ≡ own_number p l.0 j.0 =
        ap (λ (ts : List TripNo). (get_or ts 0 (numbered 0)).0) e in
        let number : k.0 ≡ j.0 =
        own_once p l.0 k.0 j.0 (All-head IsOwn k ks own) (All-head IsOwn j js also) heads in
        let trip : k ≡ j = ap numbered number in
        ap (λ (t : TripNo). t ∷ ks) trip
        ∙ ap (λ (ts : List TripNo). j ∷ ts)
        (same_trips ks js (All-tail IsOwn k ks own) (All-tail IsOwn j js also) (ap (drop 1) e))

    all_own : (b : LayerBlock) → IsOfInstance (counting p l.0) b → All IsOwn b.1
    all_own b is k d within =
        let inside = is.trips k d within in
        omega (arith, inside, count_is (counted_fleet p) p l.0)

    -- and so are blocks
    same_own : (bs cs : List LayerBlock) → All (IsOfInstance (counting p l.0)) bs
        → All (IsOfInstance (counting p l.0)) cs → own_blocks p l bs ≡ own_blocks p l cs → bs ≡ cs
    same_own [] [] of also e = refl
    same_own [] (c ∷ cs) of also e = absurd (let size = ap length e in omega (arith, size))
    same_own (b ∷ bs) [] of also e = absurd (let size = ap length e in omega (arith, size))
    same_own (b ∷ bs) (c ∷ cs) of also e =
        let Of : LayerBlock → Type 0 = IsOfInstance (counting p l.0) in
        let one = All-head Of b bs of in
        let two = All-head Of c cs also in
        let number : b.0.0 ≡ c.0.0 = omega (arith, one.layer, two.layer) in
        let layer : b.0 ≡ c.0 = ap (λ (n : ℕ). record { 0 = n }) number in
        let own : own_trips p l.0 b.1 ≡ own_trips p l.0 c.1 =
        ap (λ (blocks : List LayerBlock). (get_or blocks 0 (l, [])).1) e in
        let trips = same_trips b.1 c.1 (all_own b one) (all_own c two) own in
        let block : b ≡ c =
        ap (λ (m : LayerNo). (m, b.1)) layer ∙ ap (λ (ts : List TripNo). (c.0, ts)) trips in
        ap (λ (x : LayerBlock). x ∷ bs) block
        ∙ ap (λ (xs : List LayerBlock). c ∷ xs)
        (same_own bs cs (All-tail Of b bs of) (All-tail Of c cs also) (ap (drop 1) e))

    sizes : (c : Claimed) → IsClaimed (counting p l.0) c
        → AreFor (permitted_trips p l.0) c.table.into.items c.table.from.items
    sizes c is =
        let size = count_is (counted_fleet p) p l.0 in
        let into = is.fits.into_size in
        let from = is.fits.from_size in
        record { into_size = omega (arith, into, size); from_size = omega (arith, from, size) }

    -- what the rows of one layer say
    one_layer : (c d : Claimed) (xs ys : List PeakRow) → IsClaimed (counting p l.0) c → IsClaimed (counting p l.0) d
        → layer_rows p l.0 c ++ xs ≡ layer_rows p l.0 d ++ ys → SaysTheSame c d × (xs ≡ ys)
    one_layer c d xs ys is also e =
        let own : Claimed → List LayerBlock = λ x. own_blocks p l (pairs_of x.blocks.items) in
        let table : Claimed → List PeakRow = λ x. table_rows p l.0 x.table in
        let prices : Claimed → List PeakRow = λ x.
        price_rows l.0 (permitted_trips p l.0) x.table.into.items x.table.from.items in
        let fleet : Claimed → ℤ = λ x. price_of x.table.fleet.items 0 in
        let counts = same_first (CountRow l.0 c.count) (CountRow l.0 d.count)
        ((block_rows (own c) ++ table c) ++ xs) ((block_rows (own d) ++ table d) ++ ys) e in
        let blocks = same_blocks (own c) (own d) (table c ++ xs) (table d ++ ys) tt tt
        (sym (append_assoc (block_rows (own c)) (table c) xs) ∙ counts.1
        ∙ append_assoc (block_rows (own d)) (table d) ys) in
        let vehicles = same_first (PartRow (FleetRow l.0 (fleet c))) (PartRow (FleetRow l.0 (fleet d)))
        (prices c ++ xs) (prices d ++ ys) blocks.1 in
        let priced = same_prices l.0 (permitted_trips p l.0) c.table.into.items c.table.from.items d.table.into.items
        d.table.from.items xs ys (sizes c is) (sizes d also) vehicles.1 in
        let count = same_count l.0 c.count d.count counts.0 in (
          record {
            count = count;
            blocks =
                same_own (pairs_of c.blocks.items) (pairs_of d.blocks.items) is.blocks also.blocks blocks.0;
            ray = is.ray ∙ ap is_none count ∙ sym also.ray;
            into = priced.into_same;
            from = priced.from_same;
            fleet =
                same_only c.table.fleet.items d.table.fleet.items is.fits.fleet_size also.fits.fleet_size
                (same_fleet l.0 (fleet c) (fleet d) vehicles.0);
          },
          priced.rest,
        )

  -- what is claimed of some layers, from l on
  abbrev AreOf : ℕ → List Claimed → Type 0
  AreOf l claimed = (k : ℕ) (d : Claimed) → k < length claimed → IsClaimed (counting p (l + k)) (get_or claimed k d)

  first_of : (l : ℕ) (c : Claimed) (claimed : List Claimed) → AreOf l (c ∷ claimed) → IsClaimed (counting p l) c
  first_of l c claimed are =
      let here : l + 0 ≡ l = omega arith in
      subst (λ (n : ℕ). IsClaimed (counting p n) c) here (are 0 c (omega arith))

  later_of : (l : ℕ) (c : Claimed) (claimed : List Claimed) → AreOf l (c ∷ claimed) → AreOf (l + 1) claimed
  later_of l c claimed are k d within =
      let shift : l + suc k ≡ l + 1 + k = omega arith in
      subst (λ (n : ℕ). IsClaimed (counting p n) (get_or claimed k d)) shift (are (suc k) d (omega (arith, within)))

  -- what the rows of some layers say
  all_layers : (l : ℕ) (claimed others : List Claimed) (xs ys : List PeakRow) → length claimed ≡ length others
      → AreOf l claimed → AreOf l others → layers_rows p l claimed ++ xs ≡ layers_rows p l others ++ ys
      → AreAlike claimed others
  all_layers l [] [] xs ys size are also e = tt
  all_layers l [] (d ∷ others) xs ys size are also e = absurd (omega (arith, size))
  all_layers l (c ∷ claimed) [] xs ys size are also e = absurd (omega (arith, size))
  all_layers l (c ∷ claimed) (d ∷ others) xs ys size are also e =
      let more = layers_rows p (l + 1) claimed in
      let more' = layers_rows p (l + 1) others in
      let parts = one_layer (record { 0 = l }) c d (more ++ xs) (more' ++ ys) (first_of l c claimed are)
      (first_of l d others also)
      (sym (append_assoc (layer_rows p l c) more xs) ∙ e ∙ append_assoc (layer_rows p l d) more' ys) in (
        parts.0,
        all_layers (l + 1) claimed others xs ys (omega (arith, size)) (later_of l c claimed are)
            (later_of l d others also) parts.1,
      )

-- rows say one list of things
say_once : (names : NameLists) → AreNames names.layers → AreNames names.trips → (rows : List Row)
    (said other : List PeakRow) → SayAllSo names rows said → SayAllSo names rows other → said ≡ other
say_once names layers trips [] [] [] x y = refl
say_once names layers trips [] [] (b ∷ other) x y = absurd y
say_once names layers trips [] (a ∷ said) other x y = absurd x
say_once names layers trips (row ∷ rows) [] other x y = absurd x
say_once names layers trips (row ∷ rows) (a ∷ said) [] x y = absurd y
say_once names layers trips (row ∷ rows) (a ∷ said) (b ∷ other) x y =
    ap (λ (z : PeakRow). z ∷ said) (says_so_once names row layers trips a b x.0 y.0)
    ∙ ap (λ (zs : List PeakRow). b ∷ zs) (say_once names layers trips rows said other x.1 y.1)

pub claims_alike : ClaimsOfRowsAreAlike
claims_alike p names rows claimed others layers trips one two =
    let behind : one.behind_head ≡ two.behind_head = ap (drop 1) (sym one.rows_are ∙ two.rows_are) in
    let say = subst (λ (rs : List Row). SayAllSo names rs (peak_rows p claimed)) behind one.say in
    let same = say_once names layers trips two.behind_head (peak_rows p claimed) (peak_rows p others) say two.say in
    let from_first : (k : ℕ) → k ≡ 0 + k = λ k. omega arith in
    all_layers p 0 claimed others (PartRow EndRow ∷ []) (PartRow EndRow ∷ [])
    (one.claims.each_layer ∙ sym two.claims.each_layer)
    (λ k d within. subst (λ (n : ℕ). IsClaimed (counting p n) (get_or claimed k d)) (from_first k)
    (one.claims.each k d within))
    (λ k d within. subst (λ (n : ℕ). IsClaimed (counting p n) (get_or others k d)) (from_first k)
    (two.claims.each k d within)) same
