-- A table is worth no less where trips have fewer layers.
use Rattle.std.proofs.Common.{◌≡◌, ℕ, ◌<◌, Bool, true, false, List, length, get_or, sym, ap, ◌∙◌, subst, arith, inl, inr, ℤ, pos, ◌≤ℤ◌, ◌<ℤ◌, MatchBool}
use Rattle.std.proofs.lemmas.Bool.{cases_eq}
use Rattle.std.proofs.lemmas.Int.{ints}
use Rattle.vs_types.specs.LayerSet.{Has, members}
use Rattle.vs_types.specs.declared.layer_set.LayerSet.{LayerSet}
use Rattle.vs_types.specs.declared.numbers.TripNo.{TripNo}
use Rattle.vs_instance.specs.Problem.{Problem}
use Rattle.vs_instance.specs.Restriction.{IsRestriction, set_of}
use Rattle.vs_instance.proofs.CallerLemmas.{total-range_le}
use Rattle.vs_prices.specs.declared.bound.Bound.{Bound}
use Rattle.vs_prices.specs.declared.bound.Bound.TheVariants.{AtLeast, NoPlan}
use Rattle.vs_prices.specs.declared.table.Table.{Table}
use Rattle.vs_prices.specs.Bounds.{IsNoLess}
use Rattle.vs_prices.specs.Worth.{IsRoundedUp, IsWorth, least_price, table_value, trip_price}
use Rattle.vs_prices.specs.Tree.{with_set}
use Rattle.vs_prices.proofs.CallerLemmas.{least-le, least_above, set_of-other, set_of-same}
use Rattle.vs_types.proofs.CallerLemmas.{Contains-members_below}
use Rattle.vs_tree.proofs.SetMembers.{member}

-- a trip's set with fewer layers is within the old one, and any other is the same
pub with_set-within : (sets : List LayerSet) (trip : TripNo) (layers : LayerSet) → trip.0 < length sets
    → ((l : ℕ) → Has layers l → Has (set_of sets trip.0) l) → (i l : ℕ) → Has (set_of (with_set sets trip layers) i) l
    → Has (set_of sets i) l
with_set-within sets trip layers inside part i l has =
    elim (cases_eq i trip.0) [
      | inl same ↦
          let now : Has layers l =
          subst (λ (set : LayerSet). Has set l)
          (ap (λ (j : ℕ). set_of (with_set sets trip layers) j) same ∙ set_of-same sets trip layers inside) has in
          subst (λ (j : ℕ). Has (set_of sets j) l) (sym same) (part l now)
      | inr apart ↦ subst (λ (set : LayerSet). Has set l) (set_of-other sets trip layers i apart) has
    ]

module _ (p : Problem) (wide narrow : List LayerSet) (restriction : IsRestriction p narrow)
    (within : (i l : ℕ) → Has (set_of narrow i) l → Has (set_of wide i) l) (table : Table) where
  -- a trip pays no less in the cheapest of fewer layers
  pays_more : (i : ℕ) → i < length p.trips → least_price p wide table i ≤ℤ least_price p narrow table i
  pays_more i inside =
      least_above (trip_price p table i) (least_price p wide table i) (members (set_of narrow i))
      (restriction.some_layer i inside)
      (λ k d at. let one = member (set_of narrow i) k d at in
      let l = get_or (members (set_of narrow i)) k d in
      least-le (trip_price p table i) (members (set_of wide i)) l
      (Contains-members_below (set_of wide i) l one.1 (within i l one.0)))

  value_more : table_value p wide table ≤ℤ table_value p narrow table
  value_more =
      let paid = total-range_le (least_price p wide table) (least_price p narrow table) 0 (length p.trips)
      (λ k low high. pays_more k (omega (arith, high))) in
      omega (arith, ints, paid)

  -- so the table is worth no less
  by_values : (ray : Bool) (v w n m : ℤ) → v ≤ℤ w → MatchBool ray ((v ≤ℤ pos 0) × (n ≡ pos 0)) (IsRoundedUp v n)
      → MatchBool ray ((w ≤ℤ pos 0) × (m ≡ pos 0)) (IsRoundedUp w m) → n ≤ℤ m
  by_values true v w n m more first second = let a = first.1 in let b = second.1 in omega (arith, ints, a, b)
  by_values false v w n m more first second =
      let reaches = second.reaches in first.least m (omega (arith, ints, reaches, more))

  not_both : (ray : Bool) (w m : ℤ) → ray ≡ true → pos 0 <ℤ w
      → MatchBool ray ((w ≤ℤ pos 0) × (m ≡ pos 0)) (IsRoundedUp w m) → ⊥
  not_both true w m is above worth = let none = worth.0 in omega (arith, ints, none, above)
  not_both false w m is above worth = cc

  pub narrower-no_less : (few all : Bound) → IsWorth p narrow table few → IsWorth p wide table all → IsNoLess few all
  narrower-no_less NoPlan all first second = tt
  narrower-no_less (AtLeast m) (AtLeast n) first second =
      by_values table.ray (table_value p wide table) (table_value p narrow table) n m value_more second first
  narrower-no_less (AtLeast m) NoPlan first second =
      let above = second.1 in
      let more = value_more in
      not_both table.ray (table_value p narrow table) m second.0 (omega (arith, ints, above, more)) first
