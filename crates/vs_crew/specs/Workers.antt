-- The workers of a crew, before, between and after their turns.
use Rattle.std.specs.Prelude.{◌≡◌, ℕ, ◌<◌, List, [], ◌∷◌, length, map, slice_index_or, Some}
use Rattle.atomic_table.specs.Seated.{TableId}
use Rattle.vs_instance.specs.Problem.{Problem}
use Rattle.vs_match.specs.LayerGraph.{LayerGraph}
use Rattle.vs_match.specs.LayerNets.{AreLayerNets}
use Rattle.vs_turn.specs.Seats.{KnowsCalls, SeatModel}
use Rattle.vs_turn.specs.Tickets.{all_tickets}
use Rattle.vs_tree.specs.Entries.{entry_of, opening_entry}
use Rattle.vs_tree.specs.Search.{Search, state}
use Rattle.vs_tree.specs.Takes.{IsOver, IsSized}
use Rattle.vs_crew.specs.Sharing.{HasLeft, IsEnd, IsFreeOfLeaves, IsIdle, Knows, NoneIsHeld, Says}
use Rattle.vs_crew.specs.declared.worker.After.{After}
use Rattle.vs_crew.specs.declared.worker.After.TheVariants.{Idle, Over, Stopped, Left}
use Rattle.vs_crew.specs.declared.worker.Worker.{Worker}

-- the nets are the instance's, of which the search is
pub record IsSite (p : Problem) (graphs : List LayerGraph) (start : Search) : Type 0 where
  pub nets : AreLayerNets p graphs
  pub problem : start.opening.problem ≡ p

-- the worker's buffers have the sizes of the instance
pub record HasRoom (p : Problem) (worker : Worker) : Type 0 where
  pub sets : length worker.task.sets.items ≡ length p.trips
  pub table : IsSized p worker.task.table

-- the worker has a seat and room, and may ask for a leaf
pub record IsReady (turn : TableId) (start : Search) (worker : Worker) : Type 0 where
  pub seat : SeatModel
  pub has : worker.seat ≡ Some seat
  pub idle : Knows turn start worker.number (IsIdle worker.number) seat
  pub room : HasRoom start.opening.problem worker

-- what it knows once it has asked
abbrev pub IsAfter : Type 0 → ℕ → After → Says
IsAfter stops worker Idle o s = IsIdle worker o s
IsAfter stops worker Over o s = IsOver o s
IsAfter stops worker Stopped o s = stops × IsFreeOfLeaves worker o s
IsAfter stops worker Left o s = HasLeft worker o s

-- the worker of this number has ended
pub record IsDone (stops : Type 0) (turn : TableId) (start : Search) (number : ℕ) (worker : Worker) : Type 0 where
  pub is_number : worker.number ≡ number
  pub seat : SeatModel
  pub has : worker.seat ≡ Some seat
  pub ended : Knows turn start number (IsEnd stops worker.over number) seat

-- a worker of this number, which has room and no seat yet
pub record IsEnlisted (p : Problem) (number : ℕ) (worker : Worker) : Type 0 where
  pub is_number : worker.number ≡ number
  pub room : HasRoom p worker

abbrev pub AreEnlisted : Problem → List Worker → Type 0
AreEnlisted p crew = (k : ℕ) (d : Worker) → k < length crew → IsEnlisted p k (slice_index_or crew k d)

-- the same with a seat
pub record IsSeated (turn : TableId) (start : Search) (number : ℕ) (worker : Worker) : Type 0 where
  pub is_number : worker.number ≡ number
  pub ready : IsReady turn start worker

abbrev pub AreSeated : TableId → Search → List Worker → Type 0
AreSeated turn start crew = (k : ℕ) (d : Worker) → k < length crew → IsSeated turn start k (slice_index_or crew k d)

abbrev pub AreDone : Type 0 → TableId → Search → List Worker → Type 0
AreDone stops turn start crew =
    (k : ℕ) (d : Worker) → k < length crew → IsDone stops turn start k (slice_index_or crew k d)

-- a seat for the workers below n, which has seen the search that was handed in and made no step
pub record IsFirstSeat (turn : TableId) (start : Search) (n : ℕ) (seat : SeatModel) : Type 0 where
  pub of_turn : seat.turn ≡ turn
  pub opens : seat.opening ≡ length start.steps ∷ opening_entry start.opening
  pub since : seat.since ≡ length (map entry_of start.steps)
  pub tickets : seat.tickets ≡ all_tickets n
  pub seen : seat.seen ≡ map entry_of start.steps
  pub none_made : seat.mine ≡ []
  pub calls : KnowsCalls seat

-- the search may be handed to as many workers: no leaf is held, and none has left
pub record IsFresh (workers : ℕ) (start : Search) : Type 0 where
  pub workers_are : start.opening.workers ≡ workers
  pub none_held : NoneIsHeld (state start)
  pub none_gone : (state start).gone ≡ []
