-- What a worker hands in: the plan that the work on its leaf found, if any, and the leaf finished.
use Rattle.std.proofs.Common.{◌≡◌, ◌∙◌, ℕ, ap, sym, subst}
use Rattle.vs_tree.specs.Calls.{finishing, with_step}
use Rattle.vs_tree.specs.Finishes.{AreWorths, next_in}
use Rattle.vs_tree.specs.History.{IsHistory, MayCome, sets_at, state_of}
use Rattle.vs_tree.specs.Prices.{prices_of}
use Rattle.vs_tree.specs.Search.{Search, state}
use Rattle.vs_tree.specs.Sound.{IsOpening}
use Rattle.vs_tree.specs.declared.calls.Next.{Next}
use Rattle.vs_node.specs.declared.outcome.Outcome.{Outcome}
use Rattle.vs_crew.specs.declared.finding.Finding.{Finding}
use Rattle.vs_node.specs.declared.outcome.Task.{Task}
use Rattle.vs_crew.specs.Leaves.{HasFound, HasOffered, HoldsLeaf}
use Rattle.vs_crew.specs.Sharing.{HeldWhenLeft, IsIdle}
use Rattle.vs_crew.proofs.leaves.Finished.{IsReadyLeaf, added, finished_by, finished_idle, finished_opening, finished_steps, finished_worked, may_come, still_ready, worths_still}
use Rattle.vs_crew.proofs.leaves.SharedSteps.{Makes}

module _ (t : Search) (w leaf : ℕ) (finding : Finding) (opening : IsOpening t.opening)
    (history : IsHistory t.opening t.steps) (was : HeldWhenLeft w (HasFound w leaf finding) t) where
  abbrev task : Task
  task = was.held.task

  abbrev outcome : Outcome
  outcome = finding.outcome

  abbrev held : HoldsLeaf w leaf task t.opening (state_of t.opening was.steps)
  held = was.held.has

  pub ready : IsReadyLeaf t.opening (state t) w leaf task
  ready =
      still_ready t w opening history leaf task
      (record {
        steps = was.steps;
        others = was.others;
        goes_on = was.goes_on;
        by_others = was.by_others;
        held = held;
      })

  module _ (new : Search) (offers : HasOffered w t outcome.plan new) where
    -- the leaf may be finished
    pub may_hand_in : MayCome new.opening (state new)
        (finishing (state new) w leaf (prices_of outcome.table) outcome.next)
    may_hand_in =
        may_come t new w leaf task outcome opening history ready held.of_leaf.root held.lawful.restriction
        was.held.found.found offers

    -- by how it is finished
    pub may_finish_as : MayCome new.opening (state new)
        (finishing (state new) w leaf (prices_of outcome.table) (next_in finding.finish))
    may_finish_as =
        subst (λ (n : Next). MayCome new.opening (state new) (finishing (state new) w leaf (prices_of outcome.table) n))
        (sym was.held.found.next) may_hand_in

    pub worths_then : AreWorths new.opening.problem (sets_at (state new) leaf) (prices_of outcome.table) finding.finish
    worths_then =
        worths_still t new w leaf task outcome opening history ready held.of_leaf.root held.lawful.restriction
        was.held.found.found offers finding.finish was.held.found.worths

    -- so it is the step that is added
    pub step_as : (last : Search)
        → last ≡ with_step new (finishing (state new) w leaf (prices_of outcome.table) (next_in finding.finish))
        → last ≡ with_step new (finishing (state new) w leaf (prices_of outcome.table) outcome.next)
    step_as last adds =
        adds ∙ ap (λ (n : Next). with_step new (finishing (state new) w leaf (prices_of outcome.table) n))
        was.held.found.next

    module _ (last : Search)
        (adds : last ≡ with_step new (finishing (state new) w leaf (prices_of outcome.table) outcome.next)) where
      pub hand_in_makes : Makes w t last
      hand_in_makes = record {
        opening = finished_opening t new w leaf task outcome opening history ready held.of_leaf.root
            held.lawful.restriction was.held.found.found offers last adds;
        added = added t new w leaf task outcome opening history ready held.of_leaf.root held.lawful.restriction
            was.held.found.found offers last adds;
        goes_on = finished_steps t new w leaf task outcome opening history ready held.of_leaf.root
            held.lawful.restriction was.held.found.found offers last adds;
        by_worker = finished_by t new w leaf task outcome opening history ready held.of_leaf.root
            held.lawful.restriction was.held.found.found offers last adds;
        worked = finished_worked t new w leaf task outcome opening history ready held.of_leaf.root
            held.lawful.restriction was.held.found.found offers last adds;
      }

      -- and the worker is idle again
      pub hand_in_idle : IsIdle w last.opening (state last)
      hand_in_idle =
          finished_idle t new w leaf task outcome opening history ready held.of_leaf.root held.lawful.restriction
          was.held.found.found offers last adds held.is_worker
