-- A piece of cost exists where its move does, and what it is then.
use Rattle.std.proofs.Common.{◌≡◌, ℕ, ◌+◌, ◌-◌, ◌≤◌, Bool, cond, leb, Option, Some, None, refl, ap, ◌∙◌}
use Rattle.std.specs.Prelude.{IsSome, IsSomeAnd, option_map, option_and_then}
use Rattle.std.proofs.lemmas.Bool.{le-leb}
use Rattle.vs_instance.specs.declared.way.Way.{Way}
use Rattle.vs_instance.specs.Problem.{Problem}
use Rattle.vs_instance.specs.Ways.{trip_of, layer_of, way_out, way_in, way_between, Connects, HasPullOut, HasPullIn}
use Rattle.vs_instance.specs.Pieces.{rated, out_piece, direct_piece, in_piece}

-- a way that is taken, in time, and what it costs
pub record IsTaken (found : Option Way) (in_time : Way → Type 0) (piece : Option ℕ) (cost : Way → ℕ) : Type 0 where
  pub way : Way
  pub is : found ≡ Some way
  pub time : in_time way
  pub costs : piece ≡ Some (cost way)

taken : (found : Option Way) (in_time : Way → Type 0) (piece : Option ℕ) (cost : Way → ℕ) → IsSomeAnd found in_time
    → ((w : Way) → found ≡ Some w → in_time w → piece ≡ Some (cost w)) → IsTaken found in_time piece cost
taken None in_time piece cost has costs = absurd has
taken (Some w) in_time piece cost has costs = record { way = w; is = refl; time = has; costs = costs w refl has }

some_way : (found : Option Way) → IsSome found → IsSomeAnd found (λ w. Unit {0})
some_way None has = cc
some_way (Some w) has = tt

module _ (p : Problem) (l i : ℕ) where
  -- a pull-out, a connection and a pull-in have their pieces
  pub out_taken : HasPullOut p l i → IsTaken (way_out p l i) (λ w. w.minutes ≤ (trip_of p i).start) (out_piece p l i)
      (λ w. (layer_of p l).fixed + rated p l w.minutes w.metres)
  out_taken has =
      taken _ _ _ _ has (λ w is time.
      let cost = (layer_of p l).fixed + rated p l w.minutes w.metres in
      ap (option_and_then
      (λ (v : Way). cond (leb v.minutes (trip_of p i).start)
      (Some ((layer_of p l).fixed + rated p l v.minutes v.metres)) None)) is
      ∙ ap (λ (b : Bool). cond b (Some cost) None) (le-leb w.minutes (trip_of p i).start time))

  pub direct_taken : (j : ℕ) → Connects p i j
      → IsTaken (way_between p i j) (λ w. (trip_of p i).end + w.minutes ≤ (trip_of p j).start) (direct_piece p l i j)
      (λ w. rated p l ((trip_of p j).start - (trip_of p i).end) w.metres)
  direct_taken j connects =
      taken _ _ _ _ connects (λ w is time.
      let cost = rated p l ((trip_of p j).start - (trip_of p i).end) w.metres in
      ap (option_and_then
      (λ (v : Way). cond (leb ((trip_of p i).end + v.minutes) (trip_of p j).start)
      (Some (rated p l ((trip_of p j).start - (trip_of p i).end) v.metres)) None)) is
      ∙ ap (λ (b : Bool). cond b (Some cost) None) (le-leb ((trip_of p i).end + w.minutes) (trip_of p j).start time))

  pub in_taken : HasPullIn p l i
      → IsTaken (way_in p l i) (λ w. Unit {0}) (in_piece p l i) (λ w. rated p l w.minutes w.metres)
  in_taken has =
      taken _ _ _ _ (some_way (way_in p l i) has) (λ w is time.
      ap (option_map (λ (v : Way). rated p l v.minutes v.metres)) is)
