-- What is known of a leaf that may be finished.
use Rattle.std.proofs.Common.{◌≡◌, ℕ, List, length, subst, sym}
use Rattle.vs_types.specs.declared.layer_set.LayerSet.{LayerSet}
use Rattle.vs_tree.specs.declared.calls.Next.{Next}
use Rattle.vs_tree.specs.declared.calls.Next.TheVariants.{Close, Split}
use Rattle.vs_tree.specs.Calls.{finishing}
use Rattle.vs_tree.specs.Finishes.{IsNextIn}
use Rattle.vs_tree.specs.History.{Opening, State, IsHeldBy, MayCome, MayGive, sets_at}
use Rattle.vs_tree.specs.Prices.{Prices}
use Rattle.vs_tree.specs.Search.{IsSearch, Parts}

module _ (o : Opening) (s : State) (worker leaf : ℕ) (prices : Prices) where
  -- the worker holds it
  pub finishes_held : (next : Next) → MayCome o s (finishing s worker leaf prices next) → IsHeldBy s worker leaf
  finishes_held Close may = may.holds
  finishes_held (Split trip left) may = may.holds

  -- it may get the prices
  pub finishes_with : (next : Next) → MayCome o s (finishing s worker leaf prices next)
      → MayGive o.problem s leaf (length s.tables) prices
  finishes_with Close may = may.gives
  finishes_with (Split trip left) may = may.gives

  -- and be split so
  pub finishes_next : (next : Next) → MayCome o s (finishing s worker leaf prices next)
      → IsNextIn o.problem (sets_at s leaf) next
  finishes_next Close may = tt
  finishes_next (Split trip left) may = (may.of_instance, may.part)

-- what stands in a search's room for layers is free
pub other_room : (o : Opening) (a : Parts) (sets : List LayerSet) → IsSearch o a → length sets ≡ length a.sets
    → IsSearch o (record a { sets = sets })
other_room o a sets is size = record {
  opening = is.opening;
  few_leaves = is.few_leaves;
  few_workers = is.few_workers;
  history = is.history;
  parts = record {
    workers = is.parts.workers;
    places = is.parts.places;
    tables = is.parts.tables;
    plans = is.parts.plans;
    finished = is.parts.finished;
    hands = is.parts.hands;
    workers_hold = is.parts.workers_hold;
    busy = is.parts.busy;
    free = is.parts.free;
    worths = is.parts.worths;
    few_places = is.parts.few_places;
    few_steps = is.parts.few_steps;
    few_plans = is.parts.few_plans;
    places_room = is.parts.places_room;
    steps_room = is.parts.steps_room;
    tables_room = is.parts.tables_room;
    plans_room = is.parts.plans_room;
    free_size = is.parts.free_size;
    worths_size = is.parts.worths_size;
    sets_size = subst (λ (n : ℕ). n ≡ length o.problem.trips) (sym size) is.parts.sets_size;
  };
}
