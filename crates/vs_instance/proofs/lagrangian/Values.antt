-- There are Lagrangian values, at all multipliers and at the starting ones.
use Rattle.std.proofs.Common.{◌≡◌, inl, inr, ℕ, ◌*◌, ◌<◌, List, [], ◌∷◌, length, get_or, map, refl, sym, subst, arith, ℤ, pos, ◌+ℤ◌}
use Rattle.std.specs.List.{range_with_len}
use Rattle.std.proofs.lemmas.Int.{ints}
use Rattle.std.proofs.lemmas.List.FromFn.{get_or-map-range_with_len, length-map-range_with_len}
use Rattle.vs_types.specs.LayerSet.{Has}
use Rattle.vs_types.specs.declared.numbers.LayerNo.{LayerNo}
use Rattle.vs_types.specs.declared.numbers.TripNo.{TripNo}
use Rattle.vs_instance.specs.Problem.{Problem}
use Rattle.vs_instance.specs.Blocks.{block_cost}
use Rattle.vs_instance.specs.Lagrangian.{HasOwnBlock, IsLow, IsStart, total}
use Rattle.vs_instance.specs.Laws.{LagrangianValuesExist, StartingValuesExist}
use Rattle.vs_instance.specs.Restriction.{permitted_sets, set_of}
use Rattle.vs_instance.proofs.lagrangian.DecidedBlocks.{dec_block, dec_has}
use Rattle.vs_instance.proofs.lagrangian.FiniteLists.{Contains-map, Contains-range, least_among}
use Rattle.vs_instance.proofs.lagrangian.Lows.{low_exists}

-- where there is a number for each place, there is a list of them
chosen : (R : ℕ → ℤ → Type 0) → ((k : ℕ) → (z : ℤ) × R k z) → (n : ℕ)
    → (zs : List ℤ) × (length zs ≡ n) × ((k : ℕ) → k < n → R k (get_or zs k (pos 0)))
chosen R each n =
    let choice = λ (k : ℕ). (each k).0 in (
      map choice (range_with_len 0 n),
      length-map-range_with_len choice 0 n,
      λ k inside. let at_place = get_or-map-range_with_len choice 0 n k k (pos 0) inside (omega arith) in
          subst (R k) (sym at_place) (each k).1,
    )

-- the law that there are values
pub values_exist : LagrangianValuesExist
values_exist p sets multipliers =
    let lows = chosen (λ k low. IsLow p sets multipliers (record { 0 = k }) low)
    (λ k. low_exists p (record { 0 = k }) (λ i. Has (set_of sets i) k) (λ i. dec_has (set_of sets i) k) multipliers)
    (length p.layers) in (
      total multipliers +ℤ total lows.0,
      record {
        lows = lows.0;
        each_layer = lows.1;
        are_lows = λ l inside. lows.2 l.0 inside;
        value_is = refl;
      },
    )

-- each trip has a starting multiplier, since there are only so many layers
start_exists : (p : Problem) (i : TripNo) → (start : ℤ) × IsStart p i start
start_exists p i =
    let numbered = λ (k : ℕ). let layer : LayerNo = record { 0 = k } in layer in
    let numbers = range_with_len 0 (length p.layers) in
    let among = λ (l : LayerNo) (own : HasOwnBlock p l i). Contains-map numbered numbers l.0
    (Contains-range (length p.layers) l.0 own.layer) in
    elim (least_among (λ (l : LayerNo). HasOwnBlock p l i) (λ l. pos (block_cost p l (i ∷ [])))
    (λ l. dec_block p l (i ∷ [])) (map numbered numbers)) [
      | inl (l, found) ↦ (
        pos (1000 * block_cost p l (i ∷ [])),
        inl (
          l,
          found.holds,
          refl,
          λ m own. let least = found.least m (among m own) own in omega (arith, ints, least),
        ),
      )
      | inr none ↦ (pos 0, inr ((λ l own. none l (among l own) own), refl))
    ]

-- the law that there is a value at the starting multipliers
pub starting_values_exist : StartingValuesExist
starting_values_exist p =
    let starts =
    chosen (λ k start. IsStart p (record { 0 = k }) start) (λ k. start_exists p (record { 0 = k }))
    (length p.trips) in
    let value = values_exist p (permitted_sets p) starts.0 in (
      value.0,
      record {
        multipliers = starts.0;
        each_trip = starts.1;
        start = λ i inside. starts.2 i.0 inside;
        value_is = value.1;
      },
    )
