-- When a vehicle rests in its depot between two trips, told by the costs and the ways that a program found.
use Rattle.std.proofs.Common.{◌≡◌, ℕ, ◌+◌, ◌-◌, ◌<◌, ◌≤◌, Option, Some, None, refl, sym, ap, ◌∙◌, arith}
use Rattle.std.specs.Prelude.{ℤ, pos, ◌<ℤ◌, cond, false, nat_lt, option_map}
use Rattle.std.specs.Option.{option_map_or}
use Rattle.std.proofs.lemmas.Bool.{lt-ltb}
use Rattle.std.proofs.lemmas.Int.{ints}
use Rattle.std.proofs.lemmas.Option.{none-some, same_Some}
use Rattle.vs_types.specs.declared.numbers.LayerNo.{LayerNo}
use Rattle.vs_types.specs.declared.numbers.TripNo.{TripNo}
use Rattle.vs_instance.specs.declared.layer.Layer.{Layer}
use Rattle.vs_instance.specs.declared.trip.Trip.{Trip}
use Rattle.vs_instance.specs.Problem.{Problem}
use Rattle.vs_instance.specs.Ways.{layer_of, trip_of, way}
use Rattle.vs_instance.specs.Pieces.{direct_piece, rest_piece}
use Rattle.vs_instance.specs.Blocks.{back_after, leaves_for, minutes_of, rest_times}
use Rattle.vs_instance.proofs.CallerLemmas.{IsRest, rest_taken}

-- a cost that was found is that of a piece
found_piece : (o : Option ℕ) (n : ℤ) → Some n ≡ option_map pos o → (k : ℕ) × (o ≡ Some k) × (n ≡ pos k)
found_piece None n e = absurd (none-some n (sym e))
found_piece (Some k) n e = (k, refl, same_Some n (pos k) e)

module _ (p : Problem) (l : LayerNo) (i j : TripNo) (ended next : Trip) (layer : Layer) (ended_is : ended ≡ trip_of p i.0)
    (next_is : next ≡ trip_of p j.0) (layer_is : layer ≡ layer_of p l.0) (rest : ℤ) (back out : ℕ)
    (rests : Some rest ≡ option_map pos (rest_piece p l.0 i.0 j.0))
    (by_back : Some back ≡ option_map (λ w. w.minutes) (way p ended.to.0 layer.depot.0))
    (by_out : Some out ≡ option_map (λ w. w.minutes) (way p layer.depot.0 next.from.0)) where
  taken : IsRest p l.0 i.0 j.0 (found_piece (rest_piece p l.0 i.0 j.0) rest rests).0
  taken =
      let piece = found_piece (rest_piece p l.0 i.0 j.0) rest rests in
      rest_taken p l.0 i.0 j.0 piece.0 piece.1

  back_is : back ≡ taken.back.minutes
  back_is =
      same_Some back taken.back.minutes
      (by_back ∙ (λ k. option_map (λ w. w.minutes) (way p (ended_is k).to.0 (layer_is k).depot.0))
      ∙ ap (option_map (λ w. w.minutes)) taken.back_is)

  out_is : out ≡ taken.out.minutes
  out_is =
      same_Some out taken.out.minutes
      (by_out ∙ (λ k. option_map (λ w. w.minutes) (way p (layer_is k).depot.0 (next_is k).from.0))
      ∙ ap (option_map (λ w. w.minutes)) taken.out_is)

  -- the vehicle leaves its depot at minute 0 or later
  pub leaves_in_time : out ≤ next.start
  leaves_in_time =
      omega (arith, taken.time, out_is, ap (λ (t : Trip). t.start) next_is)

  -- the minutes are those between which it rests, where a rest costs less than straight on
  pub times_found : (direct : ℤ) → Some direct ≡ option_map pos (direct_piece p l.0 i.0 j.0) → rest <ℤ direct
      → Some (ended.end + back, next.start - out) ≡ rest_times p l i j
  times_found direct directs less =
      let resting = found_piece (rest_piece p l.0 i.0 j.0) rest rests in
      let straight = found_piece (direct_piece p l.0 i.0 j.0) direct directs in
      let fewer : resting.0 < straight.0 = omega (arith, ints, less, resting.2, straight.2) in
      let goes =
      ap (λ (o : Option ℕ). option_map_or (λ r. option_map_or (nat_lt r) (direct_piece p l.0 i.0 j.0) false) o false)
      resting.1
      ∙ ap (λ (o : Option ℕ). option_map_or (nat_lt resting.0) o false) straight.1
      ∙ lt-ltb resting.0 straight.0 fewer in
      let home : ended.end + back ≡ back_after p l i.0 =
      omega (arith, ap (λ (t : Trip). t.end) ended_is, back_is, ap minutes_of taken.back_is) in
      let away : next.start - out ≡ leaves_for p l j.0 =
      omega (arith, ap (λ (t : Trip). t.start) next_is, out_is, ap minutes_of taken.out_is) in
      (λ k. Some (home k, away k))
      ∙ sym (ap (λ b. cond b (Some (back_after p l i.0, leaves_for p l j.0)) None) goes)
