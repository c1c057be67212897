-- A leaf that a worker finishes, after others went on with the search.
use Rattle.std.proofs.Common.{◌≡◌, ◌==◌, ℕ, ◌<◌, List, [], ◌∷◌, ◌++◌, get_or, sym, ap, ◌∙◌, subst, append_assoc}
use Rattle.vs_types.specs.declared.layer_set.LayerSet.{LayerSet}
use Rattle.vs_instance.specs.Restriction.{IsRestriction}
use Rattle.vs_prices.specs.Bounds.{IsBelow}
use Rattle.vs_prices.specs.declared.bound.Bound.{Bound}
use Rattle.vs_tree.specs.Calls.{HoldsSome, finishing, with_step}
use Rattle.vs_tree.specs.History.{FullStep, Opening, Place, State, IsAmong, IsHeldBy, IsHistory, MayCome, after, first_state, is_inner, known, place_at, prices_at, sets_at, spot_at, state_after, state_of, table_of}
use Rattle.vs_tree.specs.Prices.{Prices, no_prices, prices_of}
use Rattle.vs_tree.specs.Finishes.{AreWorths}
use Rattle.vs_tree.specs.Search.{Search, state}
use Rattle.vs_tree.specs.Sound.{IsOpening, IsSound}
use Rattle.vs_tree.specs.declared.finishing.Finish.{Finish}
use Rattle.vs_tree.specs.declared.spot.Spot.{Spot}
use Rattle.vs_tree.proofs.CallerLemmas.{state-last, histories_are_sound, prices-kept, state-append}
use Rattle.vs_node.specs.WorkedHistory.{AreWorkedFrom}
use Rattle.vs_node.specs.declared.outcome.Outcome.{Outcome}
use Rattle.vs_node.specs.declared.outcome.Task.{Task}
use Rattle.vs_crew.specs.Found.{IsFound}
use Rattle.vs_crew.specs.Leaves.{HasOffered, HoldsLeaf}
use Rattle.vs_crew.specs.Sharing.{AreBy, AreByOthers, HeldWhenLeft, IsHolding, IsIdle}
use Rattle.vs_crew.proofs.leaves.Finishing.{finish_worked, may_finish}
use Rattle.vs_crew.proofs.leaves.LetGo.{finish-by, finish-gone, finish-none}
use Rattle.vs_crew.proofs.leaves.Offering.{IsOffered, offered}
use Rattle.vs_crew.proofs.leaves.WorkedSteps.{worked-append, worked-finish}
use Rattle.vs_crew.proofs.others.Histories.{follow-first, follow-rest, idle_still, steps_keep}
use Rattle.vs_crew.proofs.others.Keeping.{Keeps}

by-append : (w : ℕ) (xs ys : List FullStep) → AreBy w xs → AreBy w ys → AreBy w (xs ++ ys)
by-append w [] ys first second = second
by-append w (x ∷ xs) ys first second = (first.0, by-append w xs ys first.1 second)

-- the leaf and its task, in the search as it is now
pub record IsReadyLeaf (o : Opening) (s : State) (w leaf : ℕ) (task : Task) : Type 0 where
  pub holds : IsHeldBy s w leaf
  pub fresh : ¬ (IsAmong w s.offered)
  pub sets : task.sets.items ≡ sets_at s leaf
  pub prices : prices_of task.table ≡ prices_at s leaf
  pub room : (worth : Bound) → IsBelow worth (known s) → IsBelow worth task.known

module _ (t : Search) (w : ℕ) (opening : IsOpening t.opening) (history : IsHistory t.opening t.steps) where
  -- what others left of a worker's leaf
  pub others_keep : (steps others : List FullStep) → steps ++ others ≡ t.steps → AreByOthers w others
      → Keeps (state_of t.opening steps) (state t) w
  others_keep steps others goes_on by_others =
      let whole : IsHistory t.opening (steps ++ others) =
      subst (λ (l : List FullStep). IsHistory t.opening l) (sym goes_on) history in
      let there : state_of t.opening (steps ++ others) ≡ state t = ap (state_of t.opening) goes_on in
      subst (λ (n : State). Keeps (state_of t.opening steps) n w)
      (sym (state-append (first_state t.opening) steps others) ∙ there)
      (steps_keep t.opening (state_of t.opening steps) others w
      (follow-rest t.opening (first_state t.opening) steps others whole) by_others)

  pub sound_before : (steps others : List FullStep) → steps ++ others ≡ t.steps
      → IsSound t.opening (state_of t.opening steps)
  sound_before steps others goes_on =
      histories_are_sound t.opening steps opening
      (follow-first t.opening (first_state t.opening) steps others
      (subst (λ (l : List FullStep). IsHistory t.opening l) (sym goes_on) history))

  -- an idle worker still is idle
  pub still_idle : HeldWhenLeft w (IsIdle w) t → IsIdle w t.opening (state t)
  still_idle was =
      idle_still t.opening (state_of t.opening was.steps) (state t) w
      (others_keep was.steps was.others was.goes_on was.by_others) was.held

  -- one that held a leaf still holds it
  pub still_holding : HeldWhenLeft w (IsHolding w) t → HoldsSome (state t) w
  still_holding was =
      let held = was.held.1 in
      let keeps = others_keep was.steps was.others was.goes_on was.by_others in
      (was.held.0, (held.0, keeps.spot was.held.0 held ∙ held.1))

  module _ (leaf : ℕ) (task : Task) (was : HeldWhenLeft w (HoldsLeaf w leaf task) t) where
    abbrev before : State
    before = state_of t.opening was.steps

    keeps : Keeps before (state t) w
    keeps = others_keep was.steps was.others was.goes_on was.by_others

    -- with its layers and prices
    pub still_ready : IsReadyLeaf t.opening (state t) w leaf task
    still_ready =
        let held = was.held.holds in
        let number =
        (sound_before was.steps was.others was.goes_on).numbers leaf (ap is_inner held.1) in
        record {
          holds = (held.0, keeps.spot leaf held ∙ held.1);
          fresh = λ among. was.held.fresh (keeps.offered among);
          sets = was.held.of_leaf.sets ∙ sym (keeps.sets leaf held);
          prices = was.held.of_leaf.prices
              ∙ sym (prices-kept before (state t) leaf keeps.more keeps.tables number (keeps.spot leaf held));
          room = λ worth below.
              subst (IsBelow worth) (sym was.held.of_leaf.known) (keeps.room worth below);
        }

module _ (old new : Search) (w leaf : ℕ) (task : Task) (outcome : Outcome) (opening : IsOpening old.opening)
    (history : IsHistory old.opening old.steps) (ready : IsReadyLeaf old.opening (state old) w leaf task)
    (root : task.root ≡ (leaf == 0)) (restriction : IsRestriction old.opening.problem task.sets.items)
    (found : IsFound old.opening.problem task outcome) (offers : HasOffered w old outcome.plan new) where
  abbrev s : State
  s = state old

  abbrev n : State
  n = state new

  abbrev step : FullStep
  step = finishing n w leaf (prices_of outcome.table) outcome.next

  pub after_offer : IsOffered w old new outcome.plan
  after_offer = offered w old new outcome.plan offers

  spots : (k : ℕ) → spot_at n k ≡ spot_at s k
  spots k = ap (λ (ps : List Place). (place_at ps k).spot) after_offer.state_is.places

  holds : IsHeldBy n w leaf
  holds = (ready.holds.0, spots leaf ∙ ready.holds.1)

  alone : (k : ℕ) → IsHeldBy n w k → k ≡ leaf
  alone k held =
      (histories_are_sound old.opening old.steps opening history).one_leaf w k leaf
      (held.0, sym (spots k) ∙ held.1) ready.holds

  sets : task.sets.items ≡ sets_at n leaf
  sets = ready.sets ∙ sym (ap (λ (ps : List Place). (place_at ps leaf).sets) after_offer.state_is.places)

  prices : prices_of task.table ≡ prices_at n leaf
  prices =
      let same : prices_at n leaf ≡ prices_at s leaf =
      ap (λ (ts : List Prices). get_or ts (table_of (spot_at n leaf)) no_prices) after_offer.state_is.tables
      ∙ ap (λ (x : Spot). get_or s.tables (table_of x) no_prices) (spots leaf) in
      ready.prices ∙ sym same

  found_then : IsFound new.opening.problem task outcome
  found_then = subst (λ (o : Opening). IsFound o.problem task outcome) (sym after_offer.opening) found

  -- what the new prices are worth there is still so
  pub worths_still : (finish : Finish) → AreWorths old.opening.problem task.sets.items (prices_of outcome.table) finish
      → AreWorths new.opening.problem (sets_at n leaf) (prices_of outcome.table) finish
  worths_still finish are =
      subst (λ (o : Opening). AreWorths o.problem (sets_at n leaf) (prices_of outcome.table) finish)
      (sym after_offer.opening)
      (subst (λ (x : List LayerSet). AreWorths old.opening.problem x (prices_of outcome.table) finish) sets are)

  -- the leaf may be finished
  pub may_come : MayCome new.opening n step
  may_come =
      may_finish new.opening n w leaf task outcome holds sets prices found_then
      (subst (λ (o : Opening). IsRestriction o.problem task.sets.items) (sym after_offer.opening) restriction)
      (λ worth below.
      let open_then = after_offer.state_is.room worth below in (ready.room worth open_then.0, open_then.1))

  -- and once it is
  module _ (last : Search) (adds : last ≡ with_step new step) where
    pub finished_opening : last.opening ≡ old.opening
    finished_opening = ap (λ (t : Search). t.opening) adds ∙ after_offer.opening

    abbrev pub added : List FullStep
    added = after_offer.added ++ step ∷ []

    pub finished_steps : old.steps ++ added ≡ last.steps
    finished_steps =
        sym (append_assoc old.steps after_offer.added (step ∷ []))
        ∙ (ap (λ (l : List FullStep). l ++ step ∷ []) after_offer.goes_on ∙ sym (ap (λ (t : Search). t.steps) adds))

    pub finished_by : AreBy w added
    finished_by =
        by-append w after_offer.added (step ∷ []) after_offer.by_worker
        (finish-by n w leaf (prices_of outcome.table) outcome.next, tt)

    state_new : state_after s after_offer.added ≡ n
    state_new =
        sym (state-append (first_state old.opening) old.steps after_offer.added)
        ∙ (ap (state_of old.opening) after_offer.goes_on
        ∙ ap (λ (o : Opening). state_of o new.steps) (sym after_offer.opening))

    -- each leaf in the steps was worked on
    pub finished_worked : AreWorkedFrom old.opening s added
    finished_worked =
        worked-append old.opening s after_offer.added (step ∷ []) after_offer.worked
        (subst (λ (x : State). AreWorkedFrom old.opening x (step ∷ [])) (sym state_new)
        (subst (λ (o : Opening). AreWorkedFrom o n (step ∷ [])) after_offer.opening (
          worked-finish new.opening n w leaf (prices_of outcome.table) outcome.next
              (finish_worked new.opening n w leaf task outcome holds sets prices found_then root),
          tt,
        )))

    pub state_last : state last ≡ after n step
    state_last = ap state adds ∙ state-last (first_state new.opening) new.steps step

    -- and the worker is idle again
    pub finished_idle : w < old.opening.workers → IsIdle w last.opening (state last)
    finished_idle worker = record {
      is_worker = subst (λ (o : Opening). w < o.workers) (sym finished_opening) worker;
      holds_none = subst (λ (x : State). (k : ℕ) → ¬ (IsHeldBy x w k)) (sym state_last)
          (finish-none n w leaf holds alone (prices_of outcome.table) outcome.next);
      stays = λ among.
          let gone : (state last).gone ≡ s.gone =
          ap (λ (x : State). x.gone) state_last
          ∙ (finish-gone n w leaf (prices_of outcome.table) outcome.next ∙ after_offer.state_is.gone) in
          (histories_are_sound old.opening old.steps opening history).gone w leaf
          (subst (λ (l : List ℕ). IsAmong w l) gone among) ready.holds;
    }
