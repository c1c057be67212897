-- Where a table is said to break, it does.
use Rattle.std.proofs.Common.{◌≡◌, ℕ, ◌<◌, Bool, true, false, ◌&&◌, cond, List, [], length, refl, sym, arith, Option, Some, None, IfSome, ℤ, pos, ◌+ℤ◌, ◌<ℤ◌}
use Rattle.std.specs.Prelude.{IsSomeAnd, int_lt}
use Rattle.std.specs.List.{All}
use Rattle.std.proofs.lemmas.Bool.{eqb-true, false≢true}
use Rattle.std.proofs.lemmas.Int.{ints}
use Rattle.std.proofs.lemmas.List.Elements.{All-append, All-nil}
use Rattle.vs_instance.specs.Firsts.{first}
use Rattle.vs_instance.specs.Problem.{Problem}
use Rattle.vs_instance.specs.Pieces.{out_piece, link_piece, in_piece}
use Rattle.vs_instance.specs.HoldingTable.{scaled}
use Rattle.vs_instance.proofs.CallerLemmas.{All-numbers, All-when, first_holds}
use Rattle.vs_prices.specs.declared.broken_at.BrokenAt.{BrokenAt}
use Rattle.vs_prices.specs.declared.broken_at.BrokenAt.TheVariants.{Fleet, PullOut, Link, PullIn}
use Rattle.vs_prices.specs.declared.table.Table.{Table}
use Rattle.vs_prices.specs.Breaks.{IsBroken, breaks_of, exceeds, is_link_broken, is_pull_in_broken, is_pull_out_broken, layer_breaks, link_breaks, may_run, move_breaks, trip_breaks}
use Rattle.vs_prices.specs.Table.{from_price, into_price, vehicle_price}

below : (x y : ℤ) → int_lt x y ≡ true → x <ℤ y
below x y h = grind (arith, ints)

worth_more : (price other : ℤ) (ray : Bool) (piece : Option ℕ) → exceeds price other ray piece ≡ true
    → IsSomeAnd piece (λ c. (other +ℤ scaled ray c) <ℤ price)
worth_more price other ray None is = cc
worth_more price other ray (Some c) is = below (other +ℤ scaled ray c) price is

and_both : (a b : Bool) → (a && b) ≡ true → (a ≡ true) × (b ≡ true)
and_both true b is = (refl, is)
and_both false b is = absurd (false≢true is)

all_if : (P : BrokenAt → Type 0) (b : Bool) (xs : List BrokenAt) → (b ≡ true → All P xs) → All P (cond b xs [])
all_if P true xs each = each refl
all_if P false xs each = All-nil P

module _ (p : Problem) (table : Table) where
  abbrev Broken : BrokenAt → Type 0
  Broken at = IsBroken p table at

  moves_broken : (l i : ℕ) → l < length p.layers → i < length p.trips → may_run p l i ≡ true
      → All Broken (move_breaks p table l i)
  moves_broken l i layer trip runs =
      let permitted = eqb-true _ 1 runs in
      let out : BrokenAt = PullOut (record { 0 = l }) (record { 0 = i }) in
      let back : BrokenAt = PullIn (record { 0 = l }) (record { 0 = i }) in
      All-append Broken _ _
      (All-append Broken _ _
      (All-when Broken (is_pull_out_broken p table l i) out
      (λ is. (
        layer,
        trip,
        permitted,
        worth_more (into_price p table l i) (vehicle_price table l) table.ray (out_piece p l i) is,
      )))
      (All-numbers Broken (link_breaks p table l i) 0 (length p.trips) (λ j from within.
      All-when Broken (is_link_broken p table l i j) (Link (record { 0 = l }) (record { 0 = i }) (record { 0 = j }))
      (λ is.
      let both = and_both (may_run p l j) _ is in
      let next : j < length p.trips = omega arith in (
        layer,
        trip,
        next,
        permitted,
        eqb-true _ 1 both.0,
        worth_more (into_price p table l j) (from_price p table l i) table.ray (link_piece p l i j) both.1,
      )))))
      (All-when Broken (is_pull_in_broken p table l i) back
      (λ is. (layer, trip, permitted, worth_more (pos 0) (from_price p table l i) table.ray (in_piece p l i) is)))

  layer_broken : (l : ℕ) → l < length p.layers → All Broken (layer_breaks p table l)
  layer_broken l layer =
      All-append Broken _ _
      (All-when Broken (int_lt (vehicle_price table l) (pos 0)) (Fleet (record { 0 = l }))
      (λ is. (layer, below (vehicle_price table l) (pos 0) is)))
      (All-numbers Broken (trip_breaks p table l) 0 (length p.trips) (λ i from within.
      all_if Broken (may_run p l i) (move_breaks p table l i) (λ runs. moves_broken l i layer (omega arith) runs)))

  pub all_broken : All Broken (breaks_of p table)
  all_broken =
      All-numbers Broken (layer_breaks p table) 0 (length p.layers) (λ l from within. layer_broken l (omega arith))

  -- so the first is one
  pub first_broken : (at : Option BrokenAt) → at ≡ first (breaks_of p table) → IfSome at Broken
  first_broken None is = tt
  first_broken (Some at) is = first_holds Broken (breaks_of p table) at all_broken (sym is)
