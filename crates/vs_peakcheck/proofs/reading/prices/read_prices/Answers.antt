use Rattle.std.proofs.Common.{◌≡◌, ◌++◌, ◌∷◌, [], ◌<◌, ◌≤◌, ℕ, ℤ, List, length, map, get_or, ap, ◌∙◌, arith}
use Rattle.std.proofs.lemmas.List.{get_or-map, length-map}
use Rattle.vs_types.specs.declared.numbers.TripNo.{TripNo}
use Rattle.vs_peakcheck.specs.Counting.{numbered, permitted_trips}
use Rattle.vs_peakcheck.specs.Places.{in_prices}
use Rattle.vs_peakcheck.specs.Reading.{IsRefusedAt}
use Rattle.vs_rows.proofs.CallerLemmas.{err_passes, as_word}
use Rattle.vs_peakcheck.proofs.rows.PricedRows.{all_prices, one_more_price, refused_at_trip}
use Rattle.vs_peakcheck.proofs.reading.prices.read_prices.Goals as goal

-- the number of the trip at hand
at_hand : (of_layer : List TripNo) (ts : List ℕ) (k : ℕ) → of_layer ≡ map numbered ts → k < length ts
    → (get_or of_layer k (numbered 0)).0 ≡ get_or ts k 0
at_hand of_layer ts k are within =
    ap (λ (t : TripNo). t.0)
    (ap (λ (xs : List TripNo). get_or xs k (numbered 0)) are ∙ get_or-map numbered ts k 0 (numbered 0) within)

pub returns-in_err-prices-clause-refused : goal.returns-in_err-prices-clause-refused
returns-in_err-prices-clause-refused c =
    let input = c.args.input.now in
    let l = c.args.l.0 in
    let ts = permitted_trips input.instance l in
    let k = c.loop-k.k in
    let within : k < length ts =
    omega (arith, c.loop-k-test.true, ap length c.requires.trips, length-map ts numbered) in
    err_passes _ (IsRefusedAt input c.args.at (in_prices l ts)) c.from_residual-in_err-prices.ensures.1
    (refused_at_trip input c.args.at l k c.loop-k.row _ c.loop-k.all.into.items c.loop-k.all.from.items _
    c.loop-k.invariant within (at_hand c.args.trips.now ts k c.requires.trips within) c.in_err-prices.ensures.refused)

pub loop-k-preserved : goal.loop-k-preserved
loop-k-preserved c =
    let input = c.args.input.now in
    let l = c.args.l.0 in
    let ts = permitted_trips input.instance l in
    let k = c.loop-k.k in
    let within : k < length ts =
    omega (arith, c.loop-k-test.true, ap length c.requires.trips, length-map ts numbered) in
    let found = c.in_ok-prices.ensures.found in
    let into = c.loop-k.all.into.items in
    let from = c.loop-k.all.from.items in
    let x = c.in_ok-prices.prices.0 in
    let y = c.in_ok-prices.prices.1 in
    one_more_price input c.args.at l k c.loop-k.row _ into from _ _ x y c.loop-k.invariant within
    (at_hand c.args.trips.now ts k c.requires.trips within) found
    (c.in_ok-add_trip.ensures.into ∙ ap (λ (a : ℤ). into ++ a ∷ []) (as_word x found.into_price))
    (c.in_ok-add_trip.ensures.from ∙ ap (λ (a : ℤ). from ++ a ∷ []) (as_word y found.from_price))

pub returns-clause-found : goal.returns-clause-found
returns-clause-found c =
    let input = c.args.input.now in
    let ts = permitted_trips input.instance c.args.l.0 in
    let past : length ts ≤ c.loop-k.k =
    omega (arith, c.loop-k-test.false, ap length c.requires.trips, length-map ts numbered) in
    let so_far = c.loop-k.invariant in
    record {
      into_size = omega (arith, so_far.into_size, so_far.few, past);
      from_size = omega (arith, so_far.from_size, so_far.few, past);
      into_prices = so_far.into_prices;
      from_prices = so_far.from_prices;
      reads = all_prices input c.args.at c.args.l.0 c.loop-k.k c.loop-k.row c.loop-k.all.into.items
          c.loop-k.all.from.items so_far past;
    }
