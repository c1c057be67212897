-- A leaf may be finished with what the work on it found.
use Rattle.std.proofs.Common.{◌≡◌, ◌==◌, ℕ, Bool, List, length, refl, sym, ◌∙◌, subst, arith}
use Rattle.vs_types.specs.declared.layer_set.LayerSet.{LayerSet}
use Rattle.vs_instance.specs.Restriction.{IsRestriction, set_of}
use Rattle.vs_prices.specs.Bounds.{IsBelow}
use Rattle.vs_prices.specs.Worth.{IsWorth}
use Rattle.vs_prices.specs.declared.bound.Bound.{Bound}
use Rattle.vs_tree.specs.Calls.{finishing}
use Rattle.vs_tree.specs.History.{Opening, State, IsHeldBy, IsLeafWorth, MayCome, MayGive, known, prices_at, sets_at}
use Rattle.vs_tree.specs.Prices.{AreWorth, prices_of}
use Rattle.vs_types.specs.Parts.{IsProperPart}
use Rattle.vs_tree.specs.declared.calls.Next.{Next}
use Rattle.vs_tree.specs.declared.calls.Next.TheVariants.{Close, Split}
use Rattle.vs_tree.proofs.CallerLemmas.{worth_of_table}
use Rattle.vs_node.specs.NextSteps.{IsOpen}
use Rattle.vs_node.specs.WorkedHistory.{AreWorkedPrices}
use Rattle.vs_node.specs.WorkedStep.{IsWorked}
use Rattle.vs_node.specs.declared.outcome.Outcome.{Outcome}
use Rattle.vs_node.specs.declared.outcome.Task.{Task}
use Rattle.vs_crew.specs.Found.{IsFound, IsLawfulNext}
use Rattle.vs_crew.proofs.leaves.WorkedSteps.{worked-along}

module _ (o : Opening) (n : State) (w leaf : ℕ) (task : Task) (outcome : Outcome) (holds : IsHeldBy n w leaf)
    (sets : task.sets.items ≡ sets_at n leaf) (prices : prices_of task.table ≡ prices_at n leaf)
    (found : IsFound o.problem task outcome) where
  -- the new table is worth within the leaf's layers what its prices are
  worth_here : (worth : Bound) → AreWorth o.problem (sets_at n leaf) (prices_of outcome.table) worth
      → IsWorth o.problem task.sets.items outcome.table worth
  worth_here worth is =
      subst (λ (x : List LayerSet). IsWorth o.problem x outcome.table worth) (sym sets)
      (worth_of_table o.problem (sets_at n leaf) (prices_of outcome.table) worth outcome.table refl is)

  worth_before : (worth : Bound) → IsLeafWorth o.problem n leaf worth
      → IsWorth o.problem task.sets.items task.table worth
  worth_before worth is =
      subst (λ (x : List LayerSet). IsWorth o.problem x task.table worth) (sym sets)
      (worth_of_table o.problem (sets_at n leaf) (prices_at n leaf) worth task.table prices is)

  gives : MayGive o.problem n leaf (length n.tables) (prices_of outcome.table)
  gives = record {
    number = refl;
    lawful = record { table = outcome.table; listed = refl; fits = found.fits; holds = found.holds };
    no_less = λ worth least is was. found.no_less worth least (worth_here worth is) (worth_before least was);
  }

  -- the leaf is closed or split
  pub may_finish : IsRestriction o.problem task.sets.items
      → ((worth : Bound) → IsBelow worth (known n) → IsOpen worth task.known outcome.plan)
      → MayCome o n (finishing n w leaf (prices_of outcome.table) outcome.next)
  may_finish restriction room = by_next outcome.next found.next
    where
      by_next : (next : Next)
          → IsLawfulNext o.problem task.sets.items task.known outcome.table outcome.plan next
          → MayCome o n (finishing n w leaf (prices_of outcome.table) next)
      by_next Close next = record {
        holds = holds;
        gives = gives;
        done = λ worth is below. next worth (worth_here worth is) (room worth below);
      }
      by_next (Split trip left) next = record {
        holds = holds;
        gives = gives;
        of_instance = let inside = next.0 in omega (arith, inside, restriction.each_trip);
        part = subst (λ (x : List LayerSet). IsProperPart left (set_of x trip.0)) sets next.1;
      }

  -- and its new prices are the work on it
  pub finish_worked : task.root ≡ (leaf == 0) → AreWorkedPrices o n leaf (prices_of outcome.table)
  finish_worked root old new old_is new_is =
      let same : IsWorked o.problem (leaf == 0) (sets_at n leaf) task.table outcome.table =
      subst (λ (b : Bool). IsWorked o.problem b (sets_at n leaf) task.table outcome.table) root
      (subst (λ (x : List LayerSet). IsWorked o.problem task.root x task.table outcome.table) sets found.worked) in
      worked-along o.problem (leaf == 0) (sets_at n leaf) task.table outcome.table old new
      (old_is ∙ sym prices) new_is same
