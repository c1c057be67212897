-- A leaf on which prices show that no plan lies within its sets.
use Rattle.std.proofs.Common.{None, subst}
use Rattle.vs_instance.specs.Problem.{Problem}
use Rattle.vs_prices.specs.Bounds.{IsBelow}
use Rattle.vs_prices.specs.declared.bound.Bound.{Bound}
use Rattle.vs_prices.specs.declared.table.Table.{Table}
use Rattle.vs_tree.specs.declared.calls.Next.TheVariants.{Close}
use Rattle.vs_node.specs.declared.outcome.Task.{Task}
use Rattle.vs_penalty.specs.Rays.{ShowsNoPlan}
use Rattle.vs_penalty.proofs.CallerLemmas.{shown-no_less, shown-once, shown-reaches}
use Rattle.vs_crew.specs.Found.{IsFound}

-- it may be closed
pub shown-IsFound : (p : Problem) (task : Task) (table : Table) → ShowsNoPlan p task.sets.items table
    → IsFound p task (record { table = table; plan = None; next = Close })
shown-IsFound p task table shows = record {
  fits = shows.fits;
  holds = shows.holds;
  no_less = shown-no_less p task.sets.items table shows task.table;
  worked = λ multipliers begun. shown-reaches p task.sets.items table shows multipliers;
  plan = tt;
  next = λ worth is room.
      subst (λ (b : Bound). IsBelow b task.known) (shown-once p task.sets.items table shows worth is) room.0;
}
