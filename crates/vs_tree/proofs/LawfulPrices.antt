-- Lawful prices: there are some, they are worth one bound, and that bounds the plans.
use Rattle.std.proofs.Common.{◌≡◌, ℕ, ◌^◌, ◌*◌, ◌<◌, List, length, get_or, replicate, refl, sym, ap, ◌∙◌, subst, arith, ℤ, pos, ◌≤ℤ◌, ◌<ℤ◌, ◌+ℤ◌, ◌-ℤ◌, ◌*ℤ◌, map, MatchBool, true, false}
use Rattle.std.specs.List.{All, range_with_len}
use Rattle.std.specs.declared.alloc.Global.{Global}
use Rattle.std.specs.declared.vec.Vec.{Vec}
use Rattle.std.proofs.lemmas.Int.{ints}
use Rattle.std.proofs.lemmas.List.{length-replicate}
use Rattle.std.proofs.lemmas.List.Elements.{All-replicate}
use Rattle.std.proofs.Math.Nat.{mul-le-mul}
use Rattle.vs_types.specs.declared.layer_set.LayerSet.{LayerSet}
use Rattle.vs_instance.specs.Instance.{IsInstance}
use Rattle.vs_instance.specs.Problem.{Problem}
use Rattle.vs_instance.specs.Restriction.{IsRestriction, set_of}
use Rattle.vs_instance.specs.HoldingTable.{HoldsInLayer, price_of, scaled}
use Rattle.vs_instance.specs.Lagrangian.{total}
use Rattle.vs_instance.specs.Pieces.{trip_piece}
use Rattle.vs_instance.specs.Ways.{layer_of}
use Rattle.vs_instance.proofs.CallerLemmas.{total-nothing, total-range_le}
use Rattle.vs_types.specs.LayerSet.{members}
use Rattle.vs_prices.specs.declared.bound.Bound.{Bound}
use Rattle.vs_prices.specs.declared.bound.Bound.TheVariants.{AtLeast, NoPlan}
use Rattle.vs_prices.specs.declared.table.Table.{Table}
use Rattle.vs_prices.specs.Bounds.{IsNoLess}
use Rattle.vs_prices.specs.Table.{Fits, HoldingTable, IsPrice, prices_in}
use Rattle.vs_prices.specs.Worth.{BoundsPlans, IsRoundedUp, IsWorth, least, worth_of}
use Rattle.vs_prices.proofs.CallerLemmas.{bounds_plans, least_above, worth_of-IsWorth, worth_once, zero_at, zero_prices_in, zeros_hold}
use Rattle.vs_tree.specs.Prices.{AreLawful, AreWorth, Prices, prices_of, zero_prices}
use denote.RawPtr.{null_ptr}

-- a vector of these numbers
vec_of : (xs : List ℤ) → length xs < 2 ^ 63 → Vec ℤ Global
vec_of xs few = record {
  ptr = null_ptr;
  len = length xs;
  cap = length xs;
  alloc = record { memory = record { seal = tt } };
  items = xs;
  ok = (refl, omega arith);
  small = few;
}

abbrev zeros : ℕ → List ℤ
zeros n = replicate n (pos 0)

zeros_priced : (n : ℕ) → All IsPrice (zeros n)
zeros_priced n = All-replicate IsPrice n (pos 0) (omega (arith, ints), omega (arith, ints))

are_zeros : (n : ℕ) → All (λ x. x ≡ pos 0) (zeros n)
are_zeros n = All-replicate (λ (x : ℤ). x ≡ pos 0) n (pos 0) refl

module _ (p : Problem) (instance : IsInstance p) where
  abbrev places : ℕ
  places = length p.layers * length p.trips

  few_places : length (zeros places) < 2 ^ 63
  few_places =
      let few = mul-le-mul instance.few_layers instance.few_trips in
      rw length-replicate (omega (arith, few))

  few_layers : length (zeros (length p.layers)) < 2 ^ 63
  few_layers = let few = instance.few_layers in rw length-replicate (omega arith)

  zero_table : Table
  unfolding vec_of
  zero_table = record {
    into = vec_of (zeros places) few_places;
    from = vec_of (zeros places) few_places;
    fleet = vec_of (zeros (length p.layers)) few_layers;
    ray = false;
  }

  -- the table of zeros fits and holds
  pub zeros_lawful : AreLawful p (zero_prices p)
  unfolding vec_of zero_table
  zeros_lawful = record {
    table = zero_table;
    listed = refl;
    fits = record {
      into_size = length-replicate places (pos 0);
      from_size = length-replicate places (pos 0);
      fleet_size = length-replicate (length p.layers) (pos 0);
      into = zeros_priced places;
      from = zeros_priced places;
      fleet = zeros_priced (length p.layers);
    };
    holds = λ l inside. zeros_hold p (zeros places) (zeros places) (zeros (length p.layers))
        (are_zeros places) (are_zeros places) (are_zeros (length p.layers)) l;
  }

module _ (p : Problem) (sets : List LayerSet) where
  -- the value of a table, by its prices
  abbrev trip_pays : Prices → ℕ → ℕ → ℤ
  trip_pays x i l = price_of (prices_in p l x.into) i +ℤ scaled x.ray (trip_piece p l i)
      -ℤ price_of (prices_in p l x.from) i

  abbrev value_of : Prices → ℤ
  value_of x =
      total (map (λ i. least (map (trip_pays x i) (members (set_of sets i)))) (range_with_len 0 (length p.trips)))
      -ℤ total (map (λ l. price_of x.fleet l *ℤ pos (layer_of p l).fleet) (range_with_len 0 (length p.layers)))

  -- tables of equal prices are worth the same
  worth_along : (t u : Table) (bound : Bound) → prices_of t ≡ prices_of u → IsWorth p sets t bound
      → IsWorth p sets u bound
  worth_along t u (AtLeast n) same worth =
      let P : Prices → Type 0 =
      λ x. MatchBool x.ray ((value_of x ≤ℤ pos 0) × (n ≡ pos 0)) (IsRoundedUp (value_of x) n) in
      subst P same worth
  worth_along t u NoPlan same worth =
      let P : Prices → Type 0 = λ x. (x.ray ≡ true) × (pos 0 <ℤ value_of x) in
      subst P same worth

  -- where all prices are 0, a trip pays what it costs, and vehicles pay nothing
  zeros_pay : (i l : ℕ) → pos 0 ≤ℤ trip_pays (zero_prices p) i l
  zeros_pay i l =
      let count : ℕ = length p.layers * length p.trips in
      let none : price_of (prices_in p l (zeros count)) i ≡ pos 0 =
      zero_prices_in p (zeros count) l i (are_zeros count) in
      omega (arith, ints, none)

  zero_fleet : (l : ℕ) → (price_of (zeros (length p.layers)) l *ℤ pos (layer_of p l).fleet) ≤ℤ pos 0
  zero_fleet l = rw (zero_at (zeros (length p.layers)) l (are_zeros (length p.layers))) (omega (arith, ints))

  zeros_value : IsRestriction p sets → pos 0 ≤ℤ value_of (zero_prices p)
  zeros_value restriction =
      let pays : ℕ → ℤ = λ i. least (map (trip_pays (zero_prices p) i) (members (set_of sets i))) in
      let trips = total-range_le (λ i. pos 0) pays 0 (length p.trips)
      (λ i from within. least_above (trip_pays (zero_prices p) i) (pos 0) (members (set_of sets i))
      (restriction.some_layer i (omega (arith, within)))
      (λ k d at. zeros_pay i (get_or (members (set_of sets i)) k d))) in
      let fleets = total-range_le (λ l. price_of (zeros (length p.layers)) l *ℤ pos (layer_of p l).fleet) (λ l. pos 0) 0
      (length p.layers) (λ l from within. zero_fleet l) in
      let no_trips = total-nothing (range_with_len 0 (length p.trips)) in
      let no_fleets = total-nothing (range_with_len 0 (length p.layers)) in
      omega (arith, ints, trips, fleets, no_trips, no_fleets)

  -- so they are worth 0 or more
  pub zero_worth : IsRestriction p sets → (bound : Bound) → AreWorth p sets (zero_prices p) bound
      → IsNoLess bound (AtLeast (pos 0))
  zero_worth restriction NoPlan is = tt
  zero_worth restriction (AtLeast n) is =
      let P : Prices → Type 0 =
      λ x. MatchBool x.ray ((value_of x ≤ℤ pos 0) × (n ≡ pos 0)) (IsRoundedUp (value_of x) n) in
      let rounded : IsRoundedUp (value_of (zero_prices p)) n = subst P is.listed is.worth in
      let reaches = rounded.reaches in
      omega (arith, ints, zeros_value restriction, reaches)

module _ (p : Problem) (sets : List LayerSet) (prices : Prices) where
  -- a table of prices is worth what any other of them is
  pub worth_of_table : (bound : Bound) (t : Table) → prices_of t ≡ prices → AreWorth p sets prices bound
      → IsWorth p sets t bound
  worth_of_table bound t listed worth =
      worth_along p sets worth.table t bound (worth.listed ∙ sym listed) worth.worth

  -- prices are worth one bound
  pub one_worth : (a b : Bound) → AreWorth p sets prices a → AreWorth p sets prices b → a ≡ b
  one_worth a b first second =
      worth_once p sets second.table a b (worth_of_table a second.table second.listed first) second.worth

  -- and lawful ones are worth some
  pub lawful_worth : AreLawful p prices → (bound : Bound) × AreWorth p sets prices bound
  lawful_worth lawful = (
    worth_of p sets lawful.table,
    record { table = lawful.table; listed = lawful.listed; worth = worth_of-IsWorth p sets lawful.table },
  )

  -- what lawful prices are worth bounds the plans within the sets
  pub lawful_bounds : IsInstance p → IsRestriction p sets → AreLawful p prices → (bound : Bound)
      → AreWorth p sets prices bound → BoundsPlans p sets bound
  lawful_bounds instance restriction lawful bound worth =
      bounds_plans p sets lawful.table bound instance restriction lawful.fits lawful.holds
      (worth_of_table bound lawful.table lawful.listed worth)

-- a table of lawful prices fits
pub lawful_fits : (p : Problem) (t : Table) → AreLawful p (prices_of t) → Fits p t
lawful_fits p t lawful =
    let into : lawful.table.into.items ≡ t.into.items = ap (λ (x : Prices). x.into) lawful.listed in
    let from : lawful.table.from.items ≡ t.from.items = ap (λ (x : Prices). x.from) lawful.listed in
    let fleet : lawful.table.fleet.items ≡ t.fleet.items = ap (λ (x : Prices). x.fleet) lawful.listed in
    let size : List ℤ → ℕ = λ xs. length xs in
    record {
      into_size = ap size (sym into) ∙ lawful.fits.into_size;
      from_size = ap size (sym from) ∙ lawful.fits.from_size;
      fleet_size = ap size (sym fleet) ∙ lawful.fits.fleet_size;
      into = subst (All IsPrice) into lawful.fits.into;
      from = subst (All IsPrice) from lawful.fits.from;
      fleet = subst (All IsPrice) fleet lawful.fits.fleet;
    }

-- and holds
pub lawful_holds : (p : Problem) (t : Table) → AreLawful p (prices_of t) → HoldingTable p t
lawful_holds p t lawful =
    let P : Prices → Type 0 =
    λ x. (l : ℕ) → l < length p.layers
    → HoldsInLayer p l x.ray (prices_in p l x.into) (prices_in p l x.from) (price_of x.fleet l) in
    subst P lawful.listed lawful.holds
