-- How bounds compare, and that tables of the same prices are worth the same.
use Rattle.std.proofs.Common.{◌≡◌, Bool, List, map, length, sym, ap, ◌∙◌, subst, arith, MatchBool, ℤ, pos, ◌+ℤ◌, ◌-ℤ◌, ◌*ℤ◌, ◌≤ℤ◌}
use Rattle.std.specs.List.{range_with_len}
use Rattle.std.proofs.lemmas.Int.{ints}
use Rattle.vs_types.specs.LayerSet.{members}
use Rattle.vs_types.specs.declared.layer_set.LayerSet.{LayerSet}
use Rattle.vs_instance.specs.Problem.{Problem}
use Rattle.vs_instance.specs.HoldingTable.{price_of, scaled}
use Rattle.vs_instance.specs.Lagrangian.{total}
use Rattle.vs_instance.specs.Pieces.{trip_piece}
use Rattle.vs_instance.specs.Restriction.{set_of}
use Rattle.vs_instance.specs.Ways.{layer_of}
use Rattle.vs_prices.specs.declared.bound.Bound.{Bound}
use Rattle.vs_prices.specs.declared.bound.Bound.TheVariants.{AtLeast, NoPlan}
use Rattle.vs_prices.specs.declared.table.Table.{Table}
use Rattle.vs_prices.specs.Bounds.{IsNoLess, ReachesLagrangian, ReachesValue}
use Rattle.vs_prices.specs.Table.{prices_in}
use Rattle.vs_prices.specs.Worth.{IsRoundedUp, IsWorth, least, table_value}
use Rattle.vs_prices.proofs.CallerLemmas.{else_no_less, reaches_more, worth_once}

-- what a bound is no less than, one that it doesn't reach isn't less than either
pub outdone : (a b c : Bound) → ¬ (IsNoLess a b) → IsNoLess a c → IsNoLess b c
outdone NoPlan b c never more = absurd (never tt)
outdone (AtLeast n) NoPlan c never more = tt
outdone (AtLeast n) (AtLeast m) NoPlan never more = absurd more
outdone (AtLeast n) (AtLeast m) (AtLeast k) never more =
    let above : n ≤ℤ m = else_no_less (AtLeast n) (AtLeast m) never in
    omega (arith, ints, above)

module _ (p : Problem) (sets : List LayerSet) where
  -- a table that is worth no less than one that reaches the Lagrangian value reaches it too
  pub lagrangian_more : (multipliers : List ℤ) (better table : Table) (more worth : Bound) → IsWorth p sets better more
      → IsWorth p sets table worth → IsNoLess more worth → ReachesLagrangian p sets multipliers table
      → ReachesLagrangian p sets multipliers better
  lagrangian_more multipliers better table more worth is_more is_worth no_less reaches other value is_other is_value =
      subst (λ (b : Bound). ReachesValue b value) (worth_once p sets better more other is_more is_other)
      (reaches_more more worth value no_less (reaches worth value is_worth is_value))

  value_by : List ℤ → List ℤ → List ℤ → Bool → ℤ
  value_by into from fleet ray =
      total (map (λ i. least (map (λ l. price_of (prices_in p l into) i +ℤ scaled ray (trip_piece p l i)
      -ℤ price_of (prices_in p l from) i) (members (set_of sets i)))) (range_with_len 0 (length p.trips)))
      -ℤ total (map (λ l. price_of fleet l *ℤ pos (layer_of p l).fleet) (range_with_len 0 (length p.layers)))

  module _ (old new : Table) (into : new.into.items ≡ old.into.items) (from : new.from.items ≡ old.from.items)
      (fleet : new.fleet.items ≡ old.fleet.items) (ray : new.ray ≡ old.ray) where
    same_value : table_value p sets new ≡ table_value p sets old
    unfolding value_by
    same_value =
        ap (λ (xs : List ℤ). value_by xs new.from.items new.fleet.items new.ray) into
        ∙ ap (λ (xs : List ℤ). value_by old.into.items xs new.fleet.items new.ray) from
        ∙ ap (λ (xs : List ℤ). value_by old.into.items old.from.items xs new.ray) fleet
        ∙ ap (λ (r : Bool). value_by old.into.items old.from.items old.fleet.items r) ray

    -- the same prices are worth the same
    pub worth_along : (worth : Bound) → IsWorth p sets old worth → IsWorth p sets new worth
    worth_along (AtLeast n) is =
        subst (λ (v : ℤ). MatchBool new.ray ((v ≤ℤ pos 0) × (n ≡ pos 0)) (IsRoundedUp v n)) (sym same_value)
        (subst (λ (r : Bool). MatchBool r ((table_value p sets old ≤ℤ pos 0) × (n ≡ pos 0))
        (IsRoundedUp (table_value p sets old) n)) (sym ray) is)
    worth_along NoPlan is =
        (ray ∙ is.0, let same = same_value in let above = is.1 in omega (arith, ints, same, above))
