-- What is written stands for what is claimed.
use Rattle.std.proofs.Common.{◌≡◌, ℕ, suc, ◌+◌, ◌<◌, ◌≤◌, List, [], ◌∷◌, ◌++◌, length, get_or, map, refl, sym, subst, arith, ℤ, pos}
use Rattle.std.specs.List.{All}
use Rattle.std.proofs.lemmas.List.{get_or-map, length-map}
use Rattle.std.proofs.lemmas.List.Elements.{All-append, All-cons, All-head, All-nil, All-tail}
use Rattle.vs_types.specs.declared.numbers.TripNo.{TripNo}
use Rattle.vs_instance.specs.HoldingTable.{price_of}
use Rattle.vs_instance.specs.Plan.{LayerBlock}
use Rattle.vs_instance.specs.Problem.{Problem}
use Rattle.vs_plan.specs.Blocks.{IsOfInstance, pairs_of}
use Rattle.vs_prices.specs.Table.{IsPrice}
use Rattle.vs_reader.specs.Names.{HaveCounts, NameLists}
use Rattle.vs_rows.specs.DocumentRows.{BlockRow, EndRow, FleetRow, HasForm, IsNamedBlock, PriceRow}
use Rattle.vs_rows.proofs.CallerLemmas.{printed}
use Rattle.vs_peakcheck.specs.Counting.{counted_fleet, counting, numbered, own_blocks, own_number, own_trips, permitted_trips}
use Rattle.vs_peakcheck.proofs.CallerLemmas.{all_within, count_is}
use Rattle.vs_peakcheck.specs.declared.claimed.Claimed.{Claimed}
use Rattle.vs_peakcheck.specs.Claims.{AreClaimed, IsClaimed, PeakText}
use Rattle.vs_peakcheck.specs.PeakRows.{CountRow, IsCount, IsPart, PartRow, PeakRow, SayAllSo, SaysSo, block_rows, layer_rows, layers_rows, peak_rows, peak_text, price_rows, written_peak}

module _ (names : NameLists) where
  -- what a row says has the form of a row
  abbrev pub HasPeakForm : PeakRow → Type 0
  HasPeakForm (CountRow l n) = (l < length names.layers) × IsCount n
  HasPeakForm (PartRow said) = IsPart said × HasForm names said

  says_one : (said : PeakRow) → HasPeakForm said → SaysSo names (written_peak names said) said
  says_one (CountRow l n) form = record { layer = form.0; count = form.1; written = refl }
  says_one (PartRow (BlockRow b)) form = (tt, record { form = form.1; written = refl })
  says_one (PartRow (FleetRow l price)) form = (tt, record { form = form.1; written = refl })
  says_one (PartRow (PriceRow l i into from)) form = (tt, record { form = form.1; written = refl })
  says_one (PartRow EndRow) form = (tt, record { form = form.1; written = refl })
  says_one (PartRow _) form = absurd form.0

  say_all : (rows : List PeakRow) → All HasPeakForm rows → SayAllSo names (map (written_peak names) rows) rows
  say_all [] forms = tt
  say_all (said ∷ rows) forms =
      (says_one said (All-head HasPeakForm said rows forms), say_all rows (All-tail HasPeakForm said rows forms))

module _ (p : Problem) (names : NameLists) (counts : HaveCounts p names) where
  abbrev Form : PeakRow → Type 0
  Form = HasPeakForm names

  module _ (l : ℕ) (named : l < length names.layers) where
    own_named : (b : LayerBlock) → IsOfInstance (counting p l) b
        → IsNamedBlock names (record { 0 = l }, own_trips p l b.1)
    own_named b is =
        let own : TripNo → TripNo = λ k. numbered (own_number p l k.0) in
        record {
          layer = named;
          some_trip = omega (arith, is.some_trip, length-map b.1 own);
          trips = λ k d within.
              let inside : k < length b.1 = omega (arith, within, length-map b.1 own) in
              let place : (get_or b.1 k d).0 < length (permitted_trips p l) =
              omega (arith, is.trips k d inside, count_is (counted_fleet p) p l) in
              let below = all_within p l (get_or b.1 k d).0 0 place in
              subst (λ (t : TripNo). t.0 < length names.trips) (sym (get_or-map own b.1 k d d inside))
              (omega (arith, below, counts.trips));
        }

    blocks_form : (blocks : List LayerBlock) → All (IsOfInstance (counting p l)) blocks
        → All Form (block_rows (own_blocks p (record { 0 = l }) blocks))
    blocks_form [] all = All-nil Form
    blocks_form (b ∷ blocks) all =
        All-cons Form (PartRow (BlockRow (record { 0 = l }, own_trips p l b.1)))
        (block_rows (own_blocks p (record { 0 = l }) blocks))
        (tt, own_named b (All-head (IsOfInstance (counting p l)) b blocks all))
        (blocks_form blocks (All-tail (IsOfInstance (counting p l)) b blocks all))

    prices_form : (ts : List ℕ) (into from : List ℤ) → All (λ i. i < length p.trips) ts → All IsPrice into
        → All IsPrice from → All Form (price_rows l ts into from)
    prices_form [] into from all_ts all_into all_from = All-nil Form
    prices_form (i ∷ ts) [] from all_ts all_into all_from = All-nil Form
    prices_form (i ∷ ts) (x ∷ into) [] all_ts all_into all_from = All-nil Form
    prices_form (i ∷ ts) (x ∷ into) (y ∷ from) all_ts all_into all_from =
        let below = All-head (λ (j : ℕ). j < length p.trips) i ts all_ts in
        let i_named : i < length names.trips = omega (arith, below, counts.trips) in
        All-cons Form (PartRow (PriceRow l i x y)) (price_rows l ts into from) (
          tt,
          (named, i_named, printed x (All-head IsPrice x into all_into), printed y (All-head IsPrice y from all_from)),
        )
        (prices_form ts into from (All-tail (λ (j : ℕ). j < length p.trips) i ts all_ts)
        (All-tail IsPrice x into all_into) (All-tail IsPrice y from all_from))

    layer_form : (c : Claimed) → IsClaimed (counting p l) c → All Form (layer_rows p l c)
    layer_form c is =
        let own = block_rows (own_blocks p (record { 0 = l }) (pairs_of c.blocks.items)) in
        let prices = price_rows l (permitted_trips p l) c.table.into.items c.table.from.items in
        let fleet : PeakRow = PartRow (FleetRow l (price_of c.table.fleet.items 0)) in
        let size = is.fits.fleet_size in
        let price = is.fits.fleet 0 (pos 0) (omega (arith, size)) in
        All-cons Form (CountRow l c.count) (own ++ (fleet ∷ prices)) (named, is.few)
        (All-append Form own (fleet ∷ prices) (blocks_form (pairs_of c.blocks.items) is.blocks)
        (All-cons Form fleet prices (tt, (named, printed (price_of c.table.fleet.items 0) price))
        (prices_form (permitted_trips p l) c.table.into.items c.table.from.items (all_within p l) is.fits.into
        is.fits.from)))

  layers_form : (l : ℕ) (claimed : List Claimed) → ((k : ℕ) (d : Claimed) → k < length claimed
      → IsClaimed (counting p (l + k)) (get_or claimed k d)) → l + length claimed ≤ length p.layers
      → All Form (layers_rows p l claimed)
  layers_form l [] each few = All-nil Form
  layers_form l (c ∷ claimed) each few =
      let at : l + 0 ≡ l = omega arith in
      let named : l < length names.layers = omega (arith, few, counts.layers) in
      let first = subst (λ (n : ℕ). IsClaimed (counting p n) c) at (each 0 c (omega arith)) in
      All-append Form (layer_rows p l c) (layers_rows p (l + 1) claimed) (layer_form l named c first)
      (layers_form (l + 1) claimed
      (λ k d within.
      let next : l + suc k ≡ l + 1 + k = omega arith in
      subst (λ (n : ℕ). IsClaimed (counting p n) (get_or claimed k d)) next (each (suc k) d (omega (arith, within))))
      (omega (arith, few)))

  -- the rows that are written have the form of rows
  pub text_form : (claimed : List Claimed) → AreClaimed p claimed → All Form (peak_rows p claimed)
  text_form claimed are =
      All-append Form (layers_rows p 0 claimed) (PartRow EndRow ∷ [])
      (layers_form 0 claimed
      (λ k d within.
      let same : k ≡ 0 + k = omega arith in
      subst (λ (n : ℕ). IsClaimed (counting p n) (get_or claimed k d)) same (are.each k d within))
      (omega (arith, are.each_layer)))
      (All-cons Form (PartRow EndRow) [] (tt, tt) (All-nil Form))

  -- the text that is written stands for what is claimed
  pub text_says : (claimed : List Claimed) → AreClaimed p claimed → PeakText p names (peak_text p names claimed) claimed
  text_says claimed are = record {
    claims = are;
    behind_head = map (written_peak names) (peak_rows p claimed);
    rows_are = refl;
    say = say_all names (peak_rows p claimed) (text_form claimed are);
  }
