-- What the work on a leaf finds, also where the layers came to agree before.
use Rattle.std.proofs.Common.{◌≡◌, ℕ, ◌<◌, ◌⊎◌, List, sym, subst, arith, inl, inr, Option, Some, None, ℤ}
use Rattle.std.specs.Prelude.{IfSome}
use Rattle.std.proofs.lemmas.Int.{ints, clamps}
use Rattle.vs_types.specs.declared.layer_set.LayerSet.{LayerSet}
use Rattle.vs_instance.specs.Problem.{Problem}
use Rattle.vs_plan.specs.CheckedPlan.{Checked, cost_of}
use Rattle.vs_connect.specs.Cost.{lesser_of}
use Rattle.vs_penalty.specs.Seekers.{IsPlanOf as IsAgreed}
use Rattle.vs_prices.specs.Bounds.{IsBelow}
use Rattle.vs_prices.specs.declared.bound.Bound.{Bound}
use Rattle.vs_prices.specs.declared.bound.Bound.TheVariants.{AtLeast, NoPlan}
use Rattle.vs_prices.specs.declared.table.Table.{Table}
use Rattle.vs_instance.specs.Restriction.{IsRestriction}
use Rattle.vs_tree.specs.Finishes.{IsNextIn}
use Rattle.vs_tree.specs.Sound.{IsPlanOf}
use Rattle.vs_tree.specs.declared.calls.Next.{Next}
use Rattle.vs_tree.specs.declared.calls.Next.TheVariants.{Close, Split}
use Rattle.vs_node.specs.LeastPlans.{IsBestWithin}
use Rattle.vs_node.specs.Outcomes.{HasNext, HasPlan}
use Rattle.vs_node.specs.declared.outcome.Task.{Task}
use Rattle.vs_crew.specs.Found.{IsLawfulNext}

-- what is below the lesser of two costs is below both
pub below-both : (worth : Bound) (a b : Option ℤ) → IsBelow worth (lesser_of a b) → IsBelow worth a × IsBelow worth b
below-both NoPlan a b below = absurd below
below-both (AtLeast n) None b below = (tt, below)
below-both (AtLeast n) (Some a) None below = (below, tt)
below-both (AtLeast n) (Some a) (Some b) below =
    (omega (arith, ints, clamps, below), omega (arith, ints, clamps, below))

-- and what is below both is below it
pub below-lesser : (worth : Bound) (a b : Option ℤ) → IsBelow worth a → IsBelow worth b → IsBelow worth (lesser_of a b)
below-lesser NoPlan a b first second = absurd first
below-lesser (AtLeast n) None b first second = second
below-lesser (AtLeast n) (Some a) None first second = first
below-lesser (AtLeast n) (Some a) (Some b) first second = omega (arith, ints, clamps, first, second)

best-is : (p : Problem) (sets : List LayerSet) (plan : Option Checked) → IsBestWithin p sets plan
    → IfSome plan (IsPlanOf p)
best-is p sets None best = tt
best-is p sets (Some c) best = (best.plan.checked, best.plan.problem)

-- the plan that the work finds is one of the instance
pub plan_of : (p : Problem) (sets : List LayerSet) (table : Table) (plan : Option Checked) → HasPlan p sets table plan
    → IfSome plan (IsPlanOf p)
plan_of p sets table plan has = best-is p has.chosen plan has.best

-- where the known cost was the lesser of a cost and of that of a first plan, the cheaper plan leaves as little room
pub next-lesser : (p : Problem) (task : Task) (known : Option ℤ) (table : Table)
    (first plan best : Option Checked) (next : Next) → HasNext p task table plan next
    → task.known ≡ lesser_of known (cost_of first) → cost_of best ≡ lesser_of (cost_of first) (cost_of plan)
    → IsLawfulNext p task.sets.items known table best next
next-lesser p task known table first plan best Close has lesser cost = λ worth is room.
    let both = below-both worth (cost_of first) (cost_of plan) (subst (IsBelow worth) cost room.1) in
    has worth is
    (subst (IsBelow worth) (sym lesser) (below-lesser worth known (cost_of first) room.0 both.0), both.1)
next-lesser p task known table first plan best (Split trip left) has lesser cost =
    (has.1.inside, has.1.part)

-- what becomes of a leaf by the work on it is lawful
pub next-worked : (p : Problem) (task : Task) (table : Table) (plan : Option Checked) (next : Next)
    → HasNext p task table plan next → IsLawfulNext p task.sets.items task.known table plan next
next-worked p task table plan Close has = has
next-worked p task table plan (Split trip left) has = (has.1.inside, has.1.part)

-- a lawful split is one by a trip of the instance
pub next-in : (p : Problem) (sets : List LayerSet) (known : Option ℤ) (table : Table) (plan : Option Checked)
    → IsRestriction p sets → (next : Next) → IsLawfulNext p sets known table plan next → IsNextIn p sets next
next-in p sets known table plan restriction Close lawful = tt
next-in p sets known table plan restriction (Split trip left) lawful =
    (subst (λ (n : ℕ). trip.0 < n) restriction.each_trip lawful.0, lawful.1)

-- one of two plans of the instance
pub plan-either : (p : Problem) (first plan best : Option Checked) → IfSome first (IsPlanOf p)
    → IfSome plan (IsPlanOf p) → (best ≡ first) ⊎ (best ≡ plan) → IfSome best (IsPlanOf p)
plan-either p first plan best one other (inl same) =
    subst (λ (q : Option Checked). IfSome q (IsPlanOf p)) (sym same) one
plan-either p first plan best one other (inr same) =
    subst (λ (q : Option Checked). IfSome q (IsPlanOf p)) (sym same) other

-- a plan of the instance, with its two facts in the other order
pub plan-turned : (p : Problem) (plan : Option Checked) → IfSome plan (IsAgreed p) → IfSome plan (IsPlanOf p)
plan-turned p None is = tt
plan-turned p (Some c) is = (is.1, is.0)
