use Rattle.std.proofs.Common.{◌≡◌, Bool, false, ◌||◌, [], ◌∷◌, ◌++◌, length, true, None, ℕ, List, refl, sym, ap, ◌∙◌, subst, arith}
use mathlib.Core.List.{map}
use Rattle.std.proofs.lemmas.Bool.{eq-eqb}
use Rattle.std.proofs.lemmas.Bool.Decides.{nat_tests}
use Rattle.std.specs.Bool.{◌==◌}
use Rattle.vs_tree.specs.Entries.{entry_of}
use Rattle.vs_tree.specs.History.{FullStep, Opening}
use Rattle.vs_tree.specs.Log.{plain_step}
use Rattle.vs_tree.specs.Search.{Search}
use Rattle.vs_tree.specs.Takes.{IsSized}
use Rattle.vs_tree.specs.declared.step.Step.{Step}
use Rattle.vs_tree.proofs.CallerLemmas.{same_opening}
use Rattle.vs_turn.specs.Calls.{AreCalls, GoOn, has_ticket}
use Rattle.vs_turn.specs.Seats.{HeldModel, SeatModel}
use Rattle.vs_turn.proofs.CallerLemmas.{adds_none}
use Rattle.vs_crew.specs.Sharing.{AreBy}
use Rattle.vs_crew.proofs.CallerLemmas.{fits_sized}
use Rattle.test_crew.proofs.crews.seats.split_in_turn.Given.{Over}
use Rattle.test_crew.proofs.crews.seats.split_in_turn.Goals as goal
use Rattle.test_crew.proofs.crews.seats.split_in_turn.Goals.{Then-is_empty, then-is_empty, else-is_empty}

-- a worker has its own ticket
own_ticket : (worker : ℕ) → has_ticket (worker ∷ []) worker ≡ true
own_ticket worker = ap (λ (b : Bool). b || false) (eq-eqb worker worker refl)

-- and steps of the worker are calls of it
are_called : (worker : ℕ) (steps : List FullStep) → AreBy worker steps → AreCalls (worker ∷ []) (map entry_of steps)
are_called worker [] by = tt
are_called worker (step ∷ steps) by =
    (ap (has_ticket (worker ∷ [])) by.0 ∙ own_ticket worker, are_called worker steps by.1)

-- where no steps are shown there are none
no_steps : (steps : List FullStep) → true ≡ (length (map plain_step steps) == 0) → steps ≡ []
no_steps [] empty = refl
no_steps (step ∷ steps) empty = absurd (grind (arith, nat_tests))

-- the steps of worker 0 are calls of the seat with its ticket, where there were none before
begins : (tickets : List ℕ) (found : List (List ℕ)) (before after : List FullStep) → tickets ≡ 0 ∷ []
    → found ≡ map entry_of before → before ≡ [] → AreBy 0 after → GoOn tickets found (map entry_of after)
begins tickets found before after ticket is none by = record {
  new = map entry_of after;
  begins = ap (λ (l : List (List ℕ)). l ++ map entry_of after) (is ∙ ap (map entry_of) none);
  calls = subst (λ (ts : List ℕ). AreCalls ts (map entry_of after)) (sym ticket) (are_called 0 after by);
}

-- the opening of the search that the seat finds
opening_is : (g : Over) (c : Then-is_empty g) → c.value-tree.result.now.opening
    ≡ record { problem = c.args.instance.now; budget = 5; workers = 2; first = None }
opening_is g c =
    ap (λ (t : Search). t.opening) c.value-tree.ensures.value
    ∙ same_opening c.hold-held.result.value.opening
    (record { problem = c.args.instance.now; budget = 5; workers = 2; first = None })
    (c.hold-held.ensures.opening ∙ c.requires.opening)

pub split_root-split-requires-clause-workers : goal.split_root-split-requires-clause-workers
split_root-split-requires-clause-workers g c = ap (λ (o : Opening). o.workers) (opening_is g c)

pub split_root-split-requires-clause-trips : goal.split_root-split-requires-clause-trips
split_root-split-requires-clause-trips g c =
    ap (λ (o : Opening). length o.problem.trips) (opening_is g c) ∙ c.requires.trips

pub split_root-split-requires-clause-sized : goal.split_root-split-requires-clause-sized
split_root-split-requires-clause-sized g c =
    subst (λ (o : Opening). IsSized o.problem c.in-Ok-Ok.table) (sym (opening_is g c))
    (fits_sized c.args.instance.now c.in-Ok-Ok.table c.in-Ok-Ok.ensures'.fits)

pub release-requires-clause-entries : goal.release-requires-clause-entries
release-requires-clause-entries g c =
    let hold = c.hold-held in
    let ticket : hold.result.seat.tickets ≡ 0 ∷ [] =
    ap (λ (s : SeatModel). s.tickets) hold.ensures.seat ∙ c.requires.ticket in
    elim c.if-is_empty.branch [
      | then-is_empty w ↦
          let none = no_steps c.value-tree.result.now.steps
          (w.if-is_empty.ensures ∙ ap (λ (l : List Step). length l == 0) c.history.ensures.steps) in
          subst (λ (h : HeldModel Search). GoOn h.seat.tickets h.found (map entry_of h.value.steps)) (sym w.held-is)
          (begins hold.result.seat.tickets hold.result.found hold.result.value.steps w.split_root-split.new.tree.steps
          ticket hold.ensures.found (ap (λ (t : Search). t.steps) (sym c.value-tree.ensures.value) ∙ none)
          w.split_root-split.ensures.by)
      | else-is_empty w ↦
          subst (λ (h : HeldModel Search). GoOn h.seat.tickets h.found (map entry_of h.value.steps)) (sym w.held-is)
          (adds_none hold.result.seat.tickets hold.result.found (map entry_of c.value-tree.result.now.steps)
          (hold.ensures.found ∙ ap (λ (t : Search). map entry_of t.steps) (sym c.value-tree.ensures.value)))
    ]
