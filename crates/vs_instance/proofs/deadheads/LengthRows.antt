-- The rows of lengths, and what it says of the ways that they are closed.
use Rattle.std.proofs.Common.{◌≡◌, ℕ, ◌<◌, ◌≤◌, Bool, true, false, cond, eqb, List, [], ◌∷◌, length, get_or, Vec, Global, arith}
use Rattle.std.specs.FinMap as map
use Rattle.std.specs.List.{All}
use Rattle.std.specs.Option.{IfSome}
use Rattle.std.specs.declared.option.Option.{Option}
use Rattle.std.specs.declared.option.Option.TheVariants.{None, Some}
use Rattle.std.proofs.lemmas.List.{get_or_default}
use Rattle.vs_instance.specs.declared.way.Way.{Way}
use Rattle.vs_instance.specs.declared.lengths.Measure.{Measure}
use Rattle.vs_instance.specs.declared.lengths.Measure.TheVariants.{Minutes, Metres}
use Rattle.vs_instance.specs.declared.lengths.TheConstants.{FAR}
use Rattle.vs_instance.specs.declared.limits.TheConstants.{MAX_MINUTES, MAX_METRES}
use Rattle.vs_instance.specs.deadheads.Lengths.{far_without, AreRows, AreClosed, IsClosedIn, AreShort}
use Rattle.vs_instance.specs.deadheads.WayMap.{WayMap}

-- no length is more than far
far_below : (measure : Measure) (b : Bool) (o : Option Way)
    → IfSome o (λ w. (w.minutes ≤ MAX_MINUTES) × (w.metres ≤ MAX_METRES)) → cond b 0 (far_without measure o) ≤ FAR
far_below measure true o short = omega arith
far_below measure false None short = omega arith
far_below Minutes false (Some w) short = omega (arith, short.0)
far_below Metres false (Some w) short = omega (arith, short.1)

-- some row, where there are any
some_row : (rows : List (Vec ℕ Global)) → 0 < length rows → Vec ℕ Global
some_row [] some = absurd (omega arith)
some_row (row ∷ rows) some = row

module _ (measure : Measure) (ways : WayMap) (rows : List (Vec ℕ Global)) (are : AreRows measure ways rows) where
  -- each row has a place for each stop
  pub rows-square : All (λ row. length row.items ≡ length rows) rows
  rows-square k d within =
      let row = are.each k d (omega (arith, are.count)) in omega (arith, row.count, are.count)

  pub rows-below : AreShort ways → All (λ row. All (λ x. x ≤ FAR) row.items) rows
  rows-below short k d within s e inside =
      let row = are.each k d (omega (arith, are.count)) in
      let at = row.each s (omega (arith, row.count)) in
      let same = get_or_default (get_or rows k d).items s e 0 inside in
      omega (arith, at, same, far_below measure (eqb k s) (map.get ways.given (k, s)) (short.each k s))

  -- what holds of the rows holds of the ways
  pub rows-closed : AreClosed rows → IsClosedIn measure ways
  rows-closed closed = record {
    at = λ k s t of_k of_s of_t.
        let d = some_row rows (omega (arith, are.count)) in
        let from = are.each k d of_k in
        let by = are.each s d of_s in
        let short = ((closed.from k d (omega (arith, are.count))).by s d (omega (arith, are.count))).at t
        (omega (arith, from.count)) in
        omega (arith, short, from.each t of_t, from.each s of_s, by.each t of_t);
  }
