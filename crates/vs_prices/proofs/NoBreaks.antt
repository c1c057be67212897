-- A table breaks nowhere exactly where it holds.
use Rattle.std.proofs.Common.{◌≡◌, ℕ, ◌<◌, ◌↔◌, Bool, true, false, cond, ◌&&◌, eqb, List, [], length, refl, sym, ap, ◌∙◌, arith, Option, Some, None as nothing, IsNone, ℤ, pos, ◌+ℤ◌, ◌≤ℤ◌}
use Rattle.std.specs.Prelude.{IfSome, flat_map}
use Rattle.std.specs.List.{range_with_len}
use Rattle.std.proofs.lemmas.Bool.{eqb-true, eq-eqb, false_from_ne_true, false≢true}
use Rattle.std.proofs.lemmas.Int.{ints}
use Rattle.std.proofs.lemmas.Option.{IfSome_then, none-some}
use Rattle.vs_types.proofs.CallerLemmas.{and_false, less_not, not_less}
use Rattle.vs_instance.specs.Firsts.{first}
use Rattle.vs_instance.specs.Problem.{Problem}
use Rattle.vs_instance.specs.Ways.{Permitted}
use Rattle.vs_instance.specs.Pieces.{out_piece, link_piece, in_piece}
use Rattle.vs_instance.specs.HoldingTable.{HoldsInLayer, scaled}
use Rattle.vs_instance.proofs.CallerLemmas.{None, both_none, none-append, false_from_none, none_from_false, number_none, none_numbers, none_from_first}
use Rattle.vs_prices.specs.declared.broken_at.BrokenAt.{BrokenAt}
use Rattle.vs_prices.specs.declared.table.Table.{Table}
use Rattle.vs_prices.specs.Breaks.{breaks_of, exceeds, layer_breaks, link_breaks, may_run, move_breaks, trip_breaks}
use Rattle.vs_prices.specs.Table.{HoldingTable, from_price, into_price, prices_in, vehicle_price}

-- the test of a bit answers as the set does
pub same_test : (b : Bool) (n : ℕ) → ((b ≡ true) ↔ (n ≡ 1)) → b ≡ eqb n 1
same_test true n has = sym (eq-eqb n 1 (has.0 refl))
same_test false n has = sym (false_from_ne_true (eqb n 1) (λ e. false≢true (has.1 (eqb-true n 1 e))))

module _ (price other : ℤ) (ray : Bool) where
  -- the move costs no less than it is worth
  abbrev Costs : Option ℕ → Type 0
  Costs piece = IfSome piece (λ c. price ≤ℤ (other +ℤ scaled ray c))

  within_cost : (piece : Option ℕ) → exceeds price other ray piece ≡ false → Costs piece
  within_cost nothing fails = tt
  within_cost (Some c) fails = not_less (other +ℤ scaled ray c) price fails

  no_excess : (piece : Option ℕ) → Costs piece → exceeds price other ray piece ≡ false
  no_excess nothing costs = refl
  no_excess (Some c) costs = less_not (other +ℤ scaled ray c) price costs

swapped : (price x y : ℤ) → price ≤ℤ (x +ℤ y) → price ≤ℤ (y +ℤ x)
swapped price x y h = omega (arith, ints)

and_second : (a b : Bool) → (a && b) ≡ false → a ≡ true → b ≡ false
and_second true b fails is = fails
and_second false b fails is = absurd (false≢true is)

if_none : (b : Bool) (xs : List BrokenAt) → None (cond b xs []) → b ≡ true → None xs
if_none true xs none is = none
if_none false xs none is = absurd (false≢true is)

none_if : (b : Bool) (xs : List BrokenAt) → (b ≡ true → None xs) → None (cond b xs [])
none_if true xs none = none refl
none_if false xs none = refl

module _ (p : Problem) (table : Table) (l : ℕ) where
  abbrev HoldsHere : Type 0
  HoldsHere =
      HoldsInLayer p l table.ray (prices_in p l table.into.items) (prices_in p l table.from.items)
      (vehicle_price table l)

  moves_none : None (layer_breaks p table l) → (i : ℕ) → i < length p.trips → Permitted p l i
      → None (move_breaks p table l i)
  moves_none none i inside permitted =
      let trips : None (flat_map (trip_breaks p table l) (range_with_len 0 (length p.trips))) =
      (both_none _ _ none).1 in
      if_none (may_run p l i) (move_breaks p table l i)
      (number_none (trip_breaks p table l) 0 (length p.trips) trips i (omega arith) (omega arith))
      (eq-eqb _ 1 permitted)

  pub holds_from_none : None (layer_breaks p table l) → HoldsHere
  holds_from_none none = record {
    vehicle = not_less (vehicle_price table l) (pos 0) (false_from_none _ _ (both_none _ _ none).0);
    outs = λ i inside permitted.
        let first_two = (both_none _ _ (moves_none none i inside permitted)).0 in
        IfSome_then (out_piece p l i)
        (within_cost (into_price p table l i) (vehicle_price table l) table.ray (out_piece p l i)
        (false_from_none _ _ (both_none _ _ first_two).0))
        (λ c h. swapped (into_price p table l i) (vehicle_price table l) (scaled table.ray c) h);
    links = λ i j inside inside' permitted permitted'.
        let links : None (flat_map (link_breaks p table l i) (range_with_len 0 (length p.trips))) =
        (both_none _ _ (both_none _ _ (moves_none none i inside permitted)).0).1 in
        let link = number_none (link_breaks p table l i) 0 (length p.trips) links j (omega arith) (omega arith) in
        within_cost (into_price p table l j) (from_price p table l i) table.ray (link_piece p l i j)
        (and_second (may_run p l j) _ (false_from_none _ _ link) (eq-eqb _ 1 permitted'));
    ins = λ i inside permitted.
        within_cost (pos 0) (from_price p table l i) table.ray (in_piece p l i)
        (false_from_none _ _ (both_none _ _ (moves_none none i inside permitted)).1);
  }

  none_from_moves : HoldsHere → (i : ℕ) → i < length p.trips → Permitted p l i → None (move_breaks p table l i)
  none_from_moves holds i inside permitted =
      let out = no_excess (into_price p table l i) (vehicle_price table l) table.ray (out_piece p l i)
      (IfSome_then (out_piece p l i) (holds.outs i inside permitted)
      (λ c h. swapped (into_price p table l i) (scaled table.ray c) (vehicle_price table l) h)) in
      let back = no_excess (pos 0) (from_price p table l i) table.ray (in_piece p l i) (holds.ins i inside permitted) in
      let links = none_numbers (link_breaks p table l i) 0 (length p.trips) (λ j from within.
      let inside' : j < length p.trips = omega arith in
      none_from_false _ _ (and_false (may_run p l j) _ (λ runs.
      no_excess (into_price p table l j) (from_price p table l i) table.ray (link_piece p l i j)
      (holds.links i j inside inside' permitted (eqb-true _ 1 runs))))) in
      none-append _ _ (none-append _ _ (none_from_false _ _ out) links) (none_from_false _ _ back)

  pub none_from_holds : HoldsHere → None (layer_breaks p table l)
  none_from_holds holds =
      none-append _ _ (none_from_false _ _ (less_not (vehicle_price table l) (pos 0) holds.vehicle))
      (none_numbers (trip_breaks p table l) 0 (length p.trips) (λ i from within.
      let inside : i < length p.trips = omega arith in
      none_if (may_run p l i) (move_breaks p table l i) (λ runs. none_from_moves holds i inside (eqb-true _ 1 runs))))

module _ (p : Problem) (table : Table) where
  pub holds_nowhere_broken : None (breaks_of p table) → HoldingTable p table
  holds_nowhere_broken none l inside =
      holds_from_none p table l
      (number_none (layer_breaks p table) 0 (length p.layers) none l (omega arith) (omega arith))

  pub nowhere_broken : HoldingTable p table → None (breaks_of p table)
  nowhere_broken holds =
      none_numbers (layer_breaks p table) 0 (length p.layers) (λ l from within.
      let inside : l < length p.layers = omega arith in none_from_holds p table l (holds l inside))

  -- the first place where a table breaks is none exactly where it holds
  pub none_where_holds : (at : Option BrokenAt) → at ≡ first (breaks_of p table) → IsNone at ↔ HoldingTable p table
  none_where_holds nothing is = (λ _. holds_nowhere_broken (none_from_first (breaks_of p table) (sym is)), λ _. refl)
  none_where_holds (Some at) is = (
    λ none. absurd (false≢true (sym none)),
    λ holds. absurd (none-some at (sym (is ∙ ap first (nowhere_broken holds)))),
  )
