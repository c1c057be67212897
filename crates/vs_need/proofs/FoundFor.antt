-- What the gains of a pass are in the words of the field.
use Rattle.std.proofs.Common.{◌≡◌, ℕ, ◌+◌, ◌-◌, ◌*◌, ◌<◌, ◌≤◌, inl, inr, true, false, Bool, cond, leb, List, length, get_or, take, drop, Option, Some, None, refl, sym, ap, ◌∙◌, subst, arith, w64, ℤ, pos, ◌-ℤ◌, FitsSigned}
use Rattle.std.specs.Prelude.{IfSome, option_and_then, option_map, slice_range}
use Rattle.std.specs.Int.{bit_at}
use Rattle.std.specs.List.{All}
use Rattle.std.proofs.Math.Nat.{add-mul}
use Rattle.std.proofs.lemmas.Bool.{cases_eq, cases_lt}
use Rattle.std.proofs.lemmas.Int.{ints}
use Rattle.std.proofs.lemmas.List.{get_or_past, length-take-le, length-drop}
use Rattle.std.proofs.lemmas.List.Elements.{All-take, All-drop}
use Rattle.std.proofs.lemmas.Nat.{mul-le}
use Rattle.std.proofs.lemmas.Option.{none-some, same_Some}
use Rattle.vs_instance.specs.declared.way.Way.{Way}
use Rattle.vs_instance.specs.Problem.{Problem}
use Rattle.vs_instance.specs.Instance.{IsInstance}
use Rattle.vs_instance.specs.Ways.{trip_of, way_between}
use Rattle.vs_instance.specs.Pieces.{link_piece, no_more_than, rated, rest_piece}
use Rattle.vs_instance.specs.HoldingTable.{price_of, scaled}
use Rattle.vs_instance.proofs.CallerLemmas.{rated-below, trip_of-IsTrip, way-within}
use Rattle.vs_match.specs.Events.{MayRun}
use Rattle.vs_match.specs.LayerGraph.{LayerGraph}
use Rattle.vs_match.specs.LawfulNets.{IsLawful}
use Rattle.vs_prices.specs.declared.table.Table.{Table}
use Rattle.vs_prices.specs.Table.{Fits, IsPrice, into_price, prices_in}
use Rattle.vs_need.specs.declared.aim.Aim.{Aim}
use Rattle.vs_need.specs.declared.aim.Aim.TheVariants as aim
use Rattle.vs_need.specs.Greatest.{IsGreatest}
use Rattle.vs_need.specs.Gains.{AreGains}
use Rattle.vs_need.specs.Needs.{AreNeeds, IsFoundFor, IsNextWorth}
use Rattle.vs_need.proofs.LawfulPasses.{arc_of_trip}
use Rattle.vs_need.proofs.PieceWorths.{links, nexts, pull_ins, pull_outs}

-- the prices of a layer as they are cut out of the table
pub prices-are : (p : Problem) (l trips : ℕ) (xs ys : List ℤ) → trips ≡ length p.trips → ys ≡ xs
    → slice_range ys (l * trips) (l * trips + trips) ≡ prices_in p l xs
prices-are p l trips xs ys e e' =
    ap (λ (n : ℕ). slice_range ys (l * n) (l * n + n)) e ∙ ap (λ (zs : List ℤ). prices_in p l zs) e'

pub length-prices : (p : Problem) (l : ℕ) (xs : List ℤ) → l < length p.layers
    → length xs ≡ length p.layers * length p.trips → length (prices_in p l xs) ≡ length p.trips
length-prices p l xs within size =
    let row = mul-le (l + 1) (length p.trips) (length p.layers) (length p.trips) (omega arith) (omega arith) in
    let product = add-mul l 1 (length p.trips) in
    let part : l * length p.trips + length p.trips - l * length p.trips ≡ length p.trips = omega arith in
    let rest = length-drop (l * length p.trips) xs in
    ap (λ (n : ℕ). length (take n (drop (l * length p.trips) xs))) part
    ∙ length-take-le (length p.trips) (drop (l * length p.trips) xs) (omega (arith, rest, row, product, size))

module _ (p : Problem) (l : ℕ) (n : LayerGraph) (lawful : IsLawful p l n) (table : Table)
    (found : List (Option ℤ)) where
  no_arc : (i : ℕ) (t : Aim) → AreGains n (prices_in p l table.into.items) table.ray t found → ¬ (MayRun p l i)
      → get_or found i None ≡ None
  no_arc i t gains not = gains.nowhere i (λ k is. not (arc_of_trip p l n lawful i k is).may_run)

  pub found_for : (t : Aim) → AreGains n (prices_in p l table.into.items) table.ray t found
      → IsFoundFor p table l t found
  found_for aim.Next gains = record {
    permitted = λ i may. let b = lawful.each_trip i may in
        nexts p l n lawful table i b.0 (get_or found i None) b.1 (gains.at_trips i b.0 b.1);
    others = λ i not. no_arc i aim.Next gains not;
  }
  found_for aim.PullIn gains = record {
    permitted = λ i may. let b = lawful.each_trip i may in
        pull_ins p l n lawful (prices_in p l table.into.items) table.ray i b.0 (get_or found i None) b.1
        (gains.at_trips i b.0 b.1);
    others = λ i not. no_arc i aim.PullIn gains not;
  }
  found_for aim.PullOut gains = record {
    permitted = λ i may. let b = lawful.each_trip i may in
        pull_outs p l n lawful (prices_in p l table.into.items) table.ray i b.0 (get_or found i None) b.1
        (gains.at_trips i b.0 b.1);
    others = λ i not. no_arc i aim.PullOut gains not;
  }
  found_for (aim.After j) gains = λ runs. record {
    permitted = λ i may. let b = lawful.each_trip i may in
        links p l n lawful (prices_in p l table.into.items) table.ray j i b.0 (get_or found i None) runs b.1
        (gains.at_trips i b.0 b.1);
    others = λ i not. no_arc i (aim.After j) gains not;
  }

-- each price of a layer is one
pub price-IsPrice : (p : Problem) (l i : ℕ) (xs : List ℤ) → All IsPrice xs → IsPrice (price_of (prices_in p l xs) i)
price-IsPrice p l i xs each = elim (cases_lt i (length (prices_in p l xs))) [
  | inl within ↦ All-take IsPrice _ _ (All-drop IsPrice (l * length p.trips) xs each) i (pos 0) within
  | inr past ↦ rw (get_or_past (prices_in p l xs) i (pos 0) past) (omega (arith, ints), omega (arith, ints))
]

-- the cheaper of two ways costs no more than the one
no_more : (rest : Option ℕ) (cost : ℕ) → no_more_than rest cost ≤ cost
no_more None cost = omega arith
no_more (Some other) cost = omega arith

module _ (p : Problem) (is : IsInstance p) (l i j c : ℕ) (of_layer : l < length p.layers) (of_trip : j < length p.trips)
  where
    cheaper : (w : Way) (rest : Option ℕ) → way_between p i j ≡ Some w
        → no_more_than rest (rated p l ((trip_of p j).start - (trip_of p i).end) w.metres) ≡ c → c ≤ 12880000000
    cheaper w rest e same =
        let direct = rated p l ((trip_of p j).start - (trip_of p i).end) w.metres in
        let limits = way-within p is (trip_of p i).to.0 (trip_of p j).from.0 w e in
        let trip = trip_of-IsTrip p is j of_trip in
        let short = rated-below p is l ((trip_of p j).start - (trip_of p i).end) w.metres of_layer
        (omega (arith, trip.lasts, trip.end)) limits.metres in
        omega (arith, same, short, no_more rest direct)

    in_time_small : (b : Bool) (w : Way) (rest : Option ℕ) → way_between p i j ≡ Some w
        → option_map (no_more_than rest)
        (cond b (Some (rated p l ((trip_of p j).start - (trip_of p i).end) w.metres)) None) ≡ Some c → c ≤ 12880000000
    in_time_small false w rest e costs = absurd (none-some c costs)
    in_time_small true w rest e costs = cheaper w rest e (same_Some _ c costs)

    by_way : (o : Option Way) (rest : Option ℕ) → way_between p i j ≡ o
        → option_map (no_more_than rest)
        (option_and_then (λ w. cond (leb ((trip_of p i).end + w.minutes) (trip_of p j).start)
        (Some (rated p l ((trip_of p j).start - (trip_of p i).end) w.metres)) None) o) ≡ Some c → c ≤ 12880000000
    by_way None rest e costs = absurd (none-some c costs)
    by_way (Some w) rest e costs =
        in_time_small (leb ((trip_of p i).end + w.minutes) (trip_of p j).start) w rest e costs

    -- a link costs no more than the way straight to the trip
    link_small : link_piece p l i j ≡ Some c → c ≤ 12880000000
    link_small costs = by_way (way_between p i j) (rest_piece p l i j) refl costs

worth_fits : (ray : Bool) (into x : ℤ) (c : ℕ) → IsPrice into → c ≤ 12880000000 → x ≡ into -ℤ scaled ray c
    → FitsSigned w64 x
worth_fits true into x c price small worth = omega (arith, ints, price.0, price.1, worth)
worth_fits false into x c price small worth = omega (arith, ints, price.0, price.1, worth, small)

module _ (p : Problem) (table : Table) (l : ℕ) (is : IsInstance p) (fits : Fits p table)
    (of_layer : l < length p.layers) where
  greatest_fits : (i : ℕ) (found : Option ℤ) → IsGreatest (IsNextWorth p table l i) found
      → IfSome found (FitsSigned w64)
  greatest_fits i None greatest = tt
  greatest_fits i (Some x) greatest =
      let h = greatest.0 in
      worth_fits table.ray (into_price p table l h.next) x h.piece
      (price-IsPrice p l h.next table.into.items fits.into)
      (link_small p is l i h.next h.piece of_layer h.may_run.0 h.is_link) h.worth

  no_number : (found : Option ℤ) → found ≡ None → IfSome found (FitsSigned w64)
  no_number found none = subst (λ (o : Option ℤ). IfSome o (FitsSigned w64)) (sym none) tt

  -- what the best next trips are worth fits an i64
  pub needs_fit : (found : List (Option ℤ)) → AreNeeds p table l found → (i : ℕ) → i < length p.trips
      → IfSome (get_or found i None) (FitsSigned w64)
  needs_fit found needs i within = elim (cases_eq (bit_at (trip_of p i).layers.0 l) 1) [
    | inl permitted ↦ greatest_fits i (get_or found i None) (needs.permitted i (within, permitted))
    | inr other ↦ no_number (get_or found i None) (needs.others i (λ may. other may.1))
  ]

-- needs that are written down elsewhere
pub needs-copied : (p : Problem) (table : Table) (l : ℕ) (found answer : List (Option ℤ)) → AreNeeds p table l found
    → length answer ≡ length p.trips
    → ((i : ℕ) → i < length answer → get_or answer i None ≡ get_or found i None) → AreNeeds p table l answer
needs-copied p table l found answer needs size copied = record {
  permitted = λ i may. subst (IsGreatest (IsNextWorth p table l i)) (sym (copied i (omega (arith, size, may.0))))
      (needs.permitted i may);
  others = λ i not. elim (cases_lt i (length answer)) [
    | inl within ↦ copied i within ∙ needs.others i not
    | inr past ↦ get_or_past answer i None past
  ];
}
