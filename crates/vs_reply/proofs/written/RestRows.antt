-- The rows of a vehicle, which are written trip by trip.
use Rattle.std.proofs.Common.{◌≡◌, ℕ, ◌+◌, ◌<◌, ◌≤◌, ltb, Bool, true, false, cond, List, [], ◌∷◌, ◌++◌, length, drop, Option, Some, None, Result, Ok, Err, OnOk, append_assoc, append-nil, refl, sym, ap, ◌∙◌, arith}
use Rattle.std.specs.Prelude.{IfSome}
use Rattle.std.specs.Option.{option_map_or}
use Rattle.std.proofs.lemmas.List.{drop_all, drop_more}
use Rattle.std.proofs.lemmas.List.Concat.{flat_map-append}
use Rattle.vs_types.specs.declared.numbers.LayerNo.{LayerNo}
use Rattle.vs_types.specs.declared.numbers.TripNo.{TripNo}
use Rattle.vs_instance.specs.Problem.{Problem}
use Rattle.vs_instance.specs.Instance.{IsInstance}
use Rattle.vs_instance.specs.Pieces.{direct_piece, rest_piece}
use Rattle.vs_instance.specs.Blocks.{back_after, goes_by_depot, leaves_for, minutes_of, rest_times}
use Rattle.vs_instance.proofs.CallerLemmas.{rest_taken, trip_of-IsTrip}
use Rattle.vs_reader.specs.Names.{NameLists}
use Rattle.vs_reader.specs.Rows.{line, lines}
use Rattle.vs_reply.specs.Timetable.{next_rows, rest_rows, rows_behind, run_row, run_rows, trip_at}

-- a vehicle is back for a rest, and leaves again, before the end of two days
pub rest_minutes : (p : Problem) (l : LayerNo) (i j : TripNo) → IsInstance p → j.0 < length p.trips
    → IfSome (rest_times p l i j) (λ t. (t.0 < 6000) × (t.1 < 6000))
rest_minutes p l i j instance within = by (rest_piece p l.0 i.0 j.0) refl
  where
    Few : Bool → Type 0
    Few goes = IfSome {T = ℕ × ℕ} (cond goes (Some (back_after p l i.0, leaves_for p l j.0)) None)
        (λ t. (t.0 < 6000) × (t.1 < 6000))

    by : (rest : Option ℕ) → rest_piece p l.0 i.0 j.0 ≡ rest → Few (goes_by_depot p l i j)
    by None none =
        let straight : goes_by_depot p l i j ≡ false =
        ap (λ (o : Option ℕ). option_map_or (λ r. option_map_or (ltb r) (direct_piece p l.0 i.0 j.0) false) o false)
        none in
        rw straight tt
    by (Some rest) some =
        let r = rest_taken p l.0 i.0 j.0 rest some in
        let ends = (trip_of-IsTrip p instance j.0 within).end in
        let lasts = (trip_of-IsTrip p instance j.0 within).lasts in
        let back = ap minutes_of r.back_is in
        let out = ap minutes_of r.out_is in
        elim (goes_by_depot p l i j) as Few [
          | true ↦ (omega (arith, r.time, back, out, ends, lasts), omega (arith, r.time, back, out, ends, lasts))
          | false ↦ tt
        ]

module _ (p : Problem) (names : NameLists) (k : ℕ) (l : LayerNo) where
  -- the first trip is written
  pub first_run : (old text : List ℕ) (trips : List TripNo) → 0 < length trips
      → text ≡ old ++ line (run_row p names k (trip_at trips 0))
      → text ++ lines (rows_behind p names k l (trip_at trips 0) (drop 1 trips))
      ≡ old ++ lines (run_rows p names k l trips)
  first_run old text [] some is = absurd (omega arith)
  first_run old text (i ∷ trips) some is =
      ap (λ (t : List ℕ). t ++ lines (rows_behind p names k l i trips)) is
      ∙ append_assoc old (line (run_row p names k i)) (lines (rows_behind p names k l i trips))

  -- a rest, if there is one, and the trip behind it
  pub rested_run : {A E : Type 0} (text rested new : List ℕ) (i j : TripNo) (times : Option (ℕ × ℕ)) (r : Result A E)
      → times ≡ rest_times p l i j → rested ≡ text ++ lines (rest_rows k times)
      → OnOk r (new ≡ rested ++ line (run_row p names k j)) → OnOk r (new ≡ text ++ lines (next_rows p names k l i j))
  rested_run text rested new i j times (Err e) are rest run = tt
  rested_run text rested new i j times (Ok a) are rest run =
      let rests = rest_rows k (rest_times p l i j) in
      run ∙ ap (λ (t : List ℕ). t ++ line (run_row p names k j))
      (rest ∙ ap (λ (o : Option (ℕ × ℕ)). text ++ lines (rest_rows k o)) are)
      ∙ append_assoc text (lines rests) (line (run_row p names k j))
      ∙ ap (λ (bytes : List ℕ). text ++ (lines rests ++ bytes)) (sym (append-nil (line (run_row p names k j))))
      ∙ ap (λ (bytes : List ℕ). text ++ bytes) (sym (flat_map-append line rests (run_row p names k j ∷ [])))

  -- the next trip is
  pub next_run : (text new : List ℕ) (trips : List TripNo) (place : ℕ) (i : TripNo) → place < length trips
      → new ≡ text ++ lines (next_rows p names k l i (trip_at trips place))
      → text ++ lines (rows_behind p names k l i (drop place trips))
      ≡ new ++ lines (rows_behind p names k l (trip_at trips place) (drop (place + 1) trips))
  next_run text new trips place i within run =
      let j = trip_at trips place in
      let behind = rows_behind p names k l j (drop (place + 1) trips) in
      ap (λ (ts : List TripNo). text ++ lines (rows_behind p names k l i ts))
      (drop_more trips place (record { 0 = 0 }) within)
      ∙ ap (λ (bytes : List ℕ). text ++ bytes) (flat_map-append line (next_rows p names k l i j) behind)
      ∙ sym (append_assoc text (lines (next_rows p names k l i j)) (lines behind))
      ∙ ap (λ (t : List ℕ). t ++ lines behind) (sym run)

  -- all are
  pub all_run : (text : List ℕ) (trips : List TripNo) (place : ℕ) (i : TripNo) → length trips ≤ place
      → text ++ lines (rows_behind p names k l i (drop place trips)) ≡ text
  all_run text trips place i past =
      ap (λ (ts : List TripNo). text ++ lines (rows_behind p names k l i ts)) (drop_all place trips past)
      ∙ append-nil text
