-- What a vehicle pays between two trips, by the way that it goes.
use Rattle.std.proofs.Common.{◌≡◌, ℕ, ◌+◌, ◌-◌, ◌≤◌, min, Bool, true, false, cond, ltb, leb, Option, Some, None, refl, sym, ap, ◌∙◌, inl, inr, arith}
use Rattle.std.specs.Prelude.{IsSomeAnd, option_map}
use Rattle.std.specs.Option.{option_map_or}
use Rattle.std.proofs.lemmas.Bool.{cases_Bool, leb-true, ltb-true, ltb-false}
use Rattle.std.proofs.lemmas.Option.{cond_some, option_and_then_some}
use Rattle.vs_types.specs.declared.numbers.LayerNo.{LayerNo}
use Rattle.vs_types.specs.declared.numbers.TripNo.{TripNo}
use Rattle.vs_instance.specs.declared.way.Way.{Way}
use Rattle.vs_instance.specs.Problem.{Problem}
use Rattle.vs_instance.specs.Instance.{IsInstance, IsNoLonger}
use Rattle.vs_instance.specs.Ways.{trip_of, layer_of, way_out, way_in, way_between, Connects, Rests}
use Rattle.vs_instance.specs.Pieces.{rated, direct_piece, rest_piece, link_piece, no_more_than}
use Rattle.vs_instance.specs.Blocks.{back_after, leaves_for, goes_by_depot, rested_between, driven_between, metres_of, minutes_of}
use Rattle.vs_instance.proofs.Known.{way-closed}
use Rattle.vs_instance.proofs.costs.PieceLemmas.{direct_taken}
use Rattle.vs_instance.proofs.costs.Rates.{rated-add}

-- a rest between two trips, with the ways into the depot and out of it
pub record IsRest (p : Problem) (l i j rest : ℕ) : Type 0 where
  pub stay : ℕ
  pub back : Way
  pub out : Way
  pub stay_is : (layer_of p l).stay ≡ Some stay
  pub back_is : way_in p l i ≡ Some back
  pub out_is : way_out p l j ≡ Some out
  pub time : (trip_of p i).end + back.minutes + stay + out.minutes ≤ (trip_of p j).start
  pub costs : rest ≡ rated p l back.minutes back.metres + rated p l out.minutes out.metres

-- a piece of a rest is that of one
pub rest_taken : (p : Problem) (l i j rest : ℕ) → rest_piece p l i j ≡ Some rest → IsRest p l i j rest
rest_taken p l i j rest is =
    option_and_then_some _ (layer_of p l).stay rest is (λ stay stay_is by_stay.
    option_and_then_some _ (way_in p l i) rest by_stay (λ back back_is by_back.
    option_and_then_some _ (way_out p l j) rest by_back (λ out out_is by_out.
    let parts = cond_some (leb ((trip_of p i).end + back.minutes + stay + out.minutes) (trip_of p j).start) _ rest
    by_out in
    record {
      stay = stay;
      back = back;
      out = out;
      stay_is = stay_is;
      back_is = back_is;
      out_is = out_is;
      time = leb-true _ _ parts.0;
      costs = sym parts.1;
    })))

-- what a link costs, by the minutes that aren't rested and the metres driven
pub record IsLink (p : Problem) (l : LayerNo) (i j : TripNo) : Type 0 where
  pub cost : ℕ
  pub is : link_piece p l.0 i.0 j.0 ≡ Some cost
  pub time : (trip_of p i.0).end + rested_between p l i j ≤ (trip_of p j.0).start
  pub costs : cost
      ≡ rated p l.0 ((trip_of p j.0).start - (trip_of p i.0).end - rested_between p l i j) (driven_between p l i j)

module _ (p : Problem) (l : LayerNo) (i j : TripNo) where
  abbrev straight : Way → ℕ
  straight w = rated p l.0 ((trip_of p j.0).start - (trip_of p i.0).end) w.metres

  -- straight from the one trip to the other
  went_straight : (w : Way) → way_between p i.0 j.0 ≡ Some w → (trip_of p i.0).end + w.minutes ≤ (trip_of p j.0).start
      → goes_by_depot p l i j ≡ false → link_piece p l.0 i.0 j.0 ≡ Some (straight w) → IsLink p l i j
  went_straight w way time straight_on is =
      let rested : rested_between p l i j ≡ 0 =
      ap (λ (b : Bool). option_map_or (λ (times : ℕ × ℕ). times.1 - times.0)
      (cond b (Some (back_after p l i.0, leaves_for p l j.0)) None) 0) straight_on in
      let driven : driven_between p l i j ≡ w.metres =
      ap (λ (b : Bool). cond b (metres_of (way_in p l.0 i.0) + metres_of (way_out p l.0 j.0))
      (metres_of (way_between p i.0 j.0))) straight_on ∙ ap metres_of way in
      let minutes : (trip_of p j.0).start - (trip_of p i.0).end
      ≡ (trip_of p j.0).start - (trip_of p i.0).end - rested_between p l i j =
      omega (arith, rested) in
      record {
        cost = straight w;
        is = is;
        time = omega (arith, rested, time);
        costs = ap (λ (t : ℕ). rated p l.0 t w.metres) minutes
            ∙ ap (rated p l.0 ((trip_of p j.0).start - (trip_of p i.0).end - rested_between p l i j)) (sym driven);
      }

  -- by the depot
  went_by_depot : (rest : ℕ) → IsRest p l.0 i.0 j.0 rest → goes_by_depot p l i j ≡ true
      → link_piece p l.0 i.0 j.0 ≡ Some rest → IsLink p l i j
  went_by_depot rest r by is =
      let back = ap minutes_of r.back_is in
      let out = ap minutes_of r.out_is in
      let rested : rested_between p l i j
      ≡ ((trip_of p j.0).start - r.out.minutes) - ((trip_of p i.0).end + r.back.minutes) =
      ap (λ (b : Bool). option_map_or (λ (times : ℕ × ℕ). times.1 - times.0)
      (cond b (Some (back_after p l i.0, leaves_for p l j.0)) None) 0) by
      ∙ omega (arith, back, out) in
      let driven : driven_between p l i j ≡ r.back.metres + r.out.metres =
      ap (λ (b : Bool). cond b (metres_of (way_in p l.0 i.0) + metres_of (way_out p l.0 j.0))
      (metres_of (way_between p i.0 j.0))) by
      ∙ omega (arith, ap metres_of r.back_is, ap metres_of r.out_is) in
      let minutes : r.back.minutes + r.out.minutes
      ≡ (trip_of p j.0).start - (trip_of p i.0).end - rested_between p l i j =
      omega (arith, rested, r.time) in
      record {
        cost = rest;
        is = is;
        time = omega (arith, rested, r.time);
        costs = r.costs ∙ sym (rated-add p l.0 r.back.minutes r.out.minutes r.back.metres r.out.metres)
            ∙ ap (λ (t : ℕ). rated p l.0 t (r.back.metres + r.out.metres)) minutes
            ∙ ap (rated p l.0 ((trip_of p j.0).start - (trip_of p i.0).end - rested_between p l i j)) (sym driven);
      }

  -- the way is the one by the depot exactly where a rest costs less
  by_depot_where : (rest direct : ℕ) → rest_piece p l.0 i.0 j.0 ≡ Some rest → direct_piece p l.0 i.0 j.0 ≡ Some direct
      → goes_by_depot p l i j ≡ ltb rest direct
  by_depot_where rest direct rests directs =
      ap (λ (o : Option ℕ). option_map_or (λ r. option_map_or (ltb r) (direct_piece p l.0 i.0 j.0) false) o false) rests
      ∙ ap (λ (o : Option ℕ). option_map_or (ltb rest) o false) directs

  link_of : (rest : Option ℕ) → rest_piece p l.0 i.0 j.0 ≡ rest → (w : Way) → way_between p i.0 j.0 ≡ Some w
      → (trip_of p i.0).end + w.minutes ≤ (trip_of p j.0).start → direct_piece p l.0 i.0 j.0 ≡ Some (straight w)
      → IsLink p l i j
  link_of None none w way time directs =
      went_straight w way time
      (ap (λ (o : Option ℕ). option_map_or (λ r. option_map_or (ltb r) (direct_piece p l.0 i.0 j.0) false) o false)
      none)
      (ap (option_map (no_more_than (rest_piece p l.0 i.0 j.0))) directs
      ∙ ap (λ (o : Option ℕ). Some (no_more_than o (straight w))) none)
  link_of (Some rest) some w way time directs =
      let where_less = by_depot_where rest (straight w) some directs in
      let link : link_piece p l.0 i.0 j.0 ≡ Some (min (straight w) rest) =
      ap (option_map (no_more_than (rest_piece p l.0 i.0 j.0))) directs
      ∙ ap (λ (o : Option ℕ). Some (no_more_than o (straight w))) some in
      elim (cases_Bool (ltb rest (straight w))) [
        | inl less ↦
            let least : min (straight w) rest ≡ rest = omega (arith, ltb-true rest (straight w) less) in
            went_by_depot rest (rest_taken p l.0 i.0 j.0 rest some) (where_less ∙ less)
            (link ∙ ap (λ (c : ℕ). Some c) least)
        | inr no_less ↦
            let least : min (straight w) rest ≡ straight w = omega (arith, ltb-false rest (straight w) no_less) in
            went_straight w way time (where_less ∙ no_less) (link ∙ ap (λ (c : ℕ). Some c) least)
      ]

  -- where trips connect, a link leads from the one to the other
  pub link_taken : Connects p i.0 j.0 → IsLink p l i j
  link_taken connects =
      let direct = direct_taken p l.0 i.0 j.0 connects in
      link_of (rest_piece p l.0 i.0 j.0) refl direct.way direct.is direct.time direct.costs

-- who rests connects
pub rests_connect : (p : Problem) → IsInstance p → (l i j : ℕ) → Rests p l i j → Connects p i j
rests_connect p instance l i j = by (layer_of p l).stay (way_in p l i) refl (way_out p l j) refl
  where
    by : (stay : Option ℕ) (back : Option Way) → way_in p l i ≡ back → (out : Option Way) → way_out p l j ≡ out
        → IsSomeAnd stay (λ s. IsSomeAnd back (λ b. IsSomeAnd out (λ o.
        (trip_of p i).end + b.minutes + s + o.minutes ≤ (trip_of p j).start)))
        → Connects p i j
    by None back back_is out out_is rests = absurd rests
    by (Some s) None back_is out out_is rests = absurd rests
    by (Some s) (Some b) back_is None out_is rests = absurd rests
    by (Some s) (Some b) back_is (Some o) out_is rests =
        no_longer (way_between p i j)
        (way-closed p instance (trip_of p i).to.0 (layer_of p l).depot.0 (trip_of p j).from.0 b o back_is out_is)
      where
        no_longer : (w : Option Way) → IsSomeAnd w (IsNoLonger b o)
            → IsSomeAnd w (λ w. (trip_of p i).end + w.minutes ≤ (trip_of p j).start)
        no_longer None closed = absurd closed
        no_longer (Some w) closed = omega (arith, closed.minutes, rests)
