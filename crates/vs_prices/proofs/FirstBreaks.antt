-- The first break on the moves of a trip that the layer may run.
use Rattle.std.proofs.Common.{◌≡◌, ℕ, Bool, true, false, cond, eqb, List, [], ◌++◌, length, sym, ap, ◌∙◌, Option, Some, None, refl, arith, ℤ, ◌≤ℤ◌, ◌↔◌}
use Rattle.std.specs.Prelude.{flat_map}
use Rattle.std.specs.Int.{bit_at}
use Rattle.std.specs.List.{range_with_len}
use Rattle.std.proofs.lemmas.Int.{ints}
use Rattle.vs_instance.specs.declared.trip.Trip.{Trip}
use Rattle.vs_instance.specs.Firsts.{first, when}
use Rattle.vs_instance.specs.Problem.{Problem}
use Rattle.vs_instance.specs.Ways.{trip_of}
use Rattle.vs_instance.proofs.CallerLemmas.{first-skip, first-stop}
use Rattle.vs_prices.specs.declared.broken_at.BrokenAt.{BrokenAt}
use Rattle.vs_prices.specs.declared.broken_at.BrokenAt.TheVariants.{PullOut, PullIn}
use Rattle.vs_prices.specs.declared.table.Table.{Table}
use Rattle.vs_prices.specs.Breaks.{exceeds, is_pull_in_broken, is_pull_out_broken, link_breaks, may_run, move_breaks, trip_breaks}
use Rattle.vs_prices.proofs.NoBreaks.{same_test}

-- a trip's set has the layer where the layer may run the trip
pub may_run-is : (p : Problem) (l i : ℕ) (has : Bool) (trip : Trip) → trip ≡ trip_of p i
    → ((has ≡ true) ↔ (bit_at trip.layers.0 l ≡ 1)) → has ≡ may_run p l i
may_run-is p l i has trip is test =
    same_test has (bit_at trip.layers.0 l) test ∙ ap (λ (t : Trip). eqb (bit_at t.layers.0 l) 1) is

-- where a price is no more than the other one, no piece of cost is too little
pub exceeds-within : (price other : ℤ) (ray : Bool) (piece : Option ℕ) → price ≤ℤ other
    → exceeds price other ray piece ≡ false
exceeds-within price other ray None within = refl
exceeds-within price other true (Some c) within = grind (arith, ints)
exceeds-within price other false (Some c) within = grind (arith, ints)

-- the test of prices that stand for others
pub exceeds-same : (price price' other other' : ℤ) (ray : Bool) (piece : Option ℕ) → price ≡ price' → other ≡ other'
    → exceeds price other ray piece ≡ exceeds price' other' ray piece
exceeds-same price price' other other' ray piece e f =
    ap (λ (x : ℤ). exceeds x other ray piece) e ∙ ap (λ (y : ℤ). exceeds price' y ray piece) f

module _ (p : Problem) (table : Table) (l i : ℕ) (runs : may_run p l i ≡ true) where
  abbrev out_break : Bool
  out_break = is_pull_out_broken p table l i

  abbrev back_break : Bool
  back_break = is_pull_in_broken p table l i

  abbrev pull_out : BrokenAt
  pull_out = PullOut (record { 0 = l }) (record { 0 = i })

  abbrev pull_in : BrokenAt
  pull_in = PullIn (record { 0 = l }) (record { 0 = i })

  abbrev links : List BrokenAt
  links = flat_map (link_breaks p table l i) (range_with_len 0 (length p.trips))

  its_moves : first (move_breaks p table l i) ≡ first (trip_breaks p table l i)
  its_moves = ap (λ (b : Bool). first (cond b (move_breaks p table l i) [])) (sym runs)

  tested : (b : Bool) (at : BrokenAt) (value : Bool) → b ≡ value → first (when b at) ≡ first (when value at)
  tested b at value is = ap (λ (t : Bool). first (when t at)) is

  pub first_at_out : out_break ≡ true → Some pull_out ≡ first (trip_breaks p table l i)
  first_at_out out =
      sym (first-stop (when out_break pull_out ++ links) (when back_break pull_in) pull_out
      (first-stop (when out_break pull_out) links pull_out (tested out_break pull_out true out))) ∙ its_moves

  after_out : out_break ≡ false → first (when out_break pull_out ++ links) ≡ first links
  after_out out = first-skip (when out_break pull_out) links (tested out_break pull_out false out)

  pub first_at_link : out_break ≡ false → (at : BrokenAt) → Some at ≡ first links
      → Some at ≡ first (trip_breaks p table l i)
  first_at_link out at link =
      sym (first-stop (when out_break pull_out ++ links) (when back_break pull_in) at (after_out out ∙ sym link))
      ∙ its_moves

  after_links : out_break ≡ false → None ≡ first links
      → first (move_breaks p table l i) ≡ first (when back_break pull_in)
  after_links out none =
      first-skip (when out_break pull_out ++ links) (when back_break pull_in) (after_out out ∙ sym none)

  pub first_at_back : out_break ≡ false → None ≡ first links → back_break ≡ true
      → Some pull_in ≡ first (trip_breaks p table l i)
  first_at_back out none back = sym (after_links out none ∙ tested back_break pull_in true back) ∙ its_moves

  pub first_nowhere : out_break ≡ false → None ≡ first links → back_break ≡ false
      → None ≡ first (trip_breaks p table l i)
  first_nowhere out none back = sym (after_links out none ∙ tested back_break pull_in false back) ∙ its_moves
