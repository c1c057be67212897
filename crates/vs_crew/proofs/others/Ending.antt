-- How a search stands once all its workers have ended.
use Rattle.std.proofs.Common.{◌≡◌, ℕ, zero, suc, ◌<◌, Bool, true, false, cond, List, [], ◌∷◌, ◌++◌, refl, sym, ap, ◌∙◌, subst, arith, inl, inr, append-nil}
use Rattle.std.proofs.lemmas.Bool.{cases_eq}
use Rattle.std.proofs.lemmas.List.Sums.{sum_by-cons}
use Rattle.vs_tree.specs.Entries.{worker_of}
use Rattle.vs_tree.specs.History.{FullStep, Opening, Place, State, Took, Split, Closed, Offered, GaveBack, IsHeldBy, IsHistory, MayCome, MayFollow, after, count_spots, first_state, is_held, place_at, state_after, state_of}
use Rattle.vs_tree.specs.Sound.{IsOpening}
use Rattle.vs_tree.specs.Takes.{IsOver, IsWorkLeft}
use Rattle.vs_tree.proofs.CallerLemmas.{histories_are_sound, not_held, state-append}
use Rattle.vs_crew.specs.Sharing.{HasEnded, IsEnd, NoneIsHeld, WasOver}
use Rattle.vs_crew.proofs.others.Histories.{follow-first, follow-rest, steps_keep}
use Rattle.vs_crew.proofs.others.Keeping.{step_keeps}

-- where a spot is held, the held ones are some
held-counts : (places : List Place) (k : ℕ) → is_held (place_at places k).spot ≡ true → 0 < count_spots is_held places
held-counts [] k held = absurd cc
held-counts (q ∷ places) zero held =
    let one = ap {B = ℕ} (λ (b : Bool). cond b 1 0) held in
    let sum = sum_by-cons (λ (x : Place). cond (is_held x.spot) 1 0) q places in
    omega (arith, one, sum)
held-counts (q ∷ places) (suc k) held =
    let some = held-counts places k held in
    let sum = sum_by-cons (λ (x : Place). cond (is_held x.spot) 1 0) q places in
    omega (arith, some, sum)

-- once a search is over, no leaf is held
pub over-none : (o : Opening) (s : State) → IsOver o s → NoneIsHeld s
over-none o s over worker leaf held =
    let some = held-counts s.places leaf (ap is_held held.1) in omega (arith, some, over.none_held)

-- and no step may come
over-last : (o : Opening) (s : State) (step : FullStep) → IsOver o s → MayCome o s step → ⊥
over-last o s (Took worker leaf) over may =
    let left : IsWorkLeft o.problem s = record {
      leaf = leaf;
      worth = may.next.worth;
      free = may.next.free;
      is_worth = may.next.is_worth;
      below = may.next.below;
    } in
    elim over.no_more [ inl none ↦ none left | inr spent ↦ omega (arith, may.room, spent) ]
over-last o s (Split worker leaf table trip left prices) over may = over-none o s over worker leaf may.holds
over-last o s (Closed worker leaf table prices) over may = over-none o s over worker leaf may.holds
over-last o s (Offered worker cost number added) over may = over-none o s over worker may.leaf may.holds
over-last o s (GaveBack worker leaf) over may = over-none o s over worker leaf may

over-rest : (o : Opening) (s : State) (steps : List FullStep) → IsOver o s → MayFollow o s steps → steps ≡ []
over-rest o s [] over may = refl
over-rest o s (step ∷ steps) over may = absurd (over-last o s step over may.0)

-- so a search that was over is over
pub still_over : (o : Opening) (steps : List FullStep) → IsHistory o steps → WasOver o steps → IsOver o
    (state_of o steps)
still_over o steps history was =
    let whole : IsHistory o (was.first ++ was.rest) = subst (λ (l : List FullStep). IsHistory o l)
    (sym was.goes_on) history in
    let none = over-rest o (state_of o was.first) was.rest was.over
    (follow-rest o (first_state o) was.first was.rest whole) in
    let same : was.first ≡ steps =
    sym (append-nil was.first) ∙ (ap (λ (l : List FullStep). was.first ++ l) (sym none) ∙ was.goes_on) in
    subst (λ (l : List FullStep). IsOver o (state_of o l)) same was.over

-- the worker of a step is one of the search's, where those that hold leaves are
step_worker : (o : Opening) (s : State) (step : FullStep) → ((worker leaf : ℕ) → IsHeldBy s worker leaf → worker
    < o.workers)
    → MayCome o s step → worker_of step < o.workers
step_worker o s (Took worker leaf) each may = may.is_worker
step_worker o s (Split worker leaf table trip left prices) each may = each worker leaf may.holds
step_worker o s (Closed worker leaf table prices) each may = each worker leaf may.holds
step_worker o s (Offered worker cost number added) each may = each worker may.leaf may.holds
step_worker o s (GaveBack worker leaf) each may = each worker leaf may

holders_after : (o : Opening) (s : State) (steps : List FullStep)
    → ((worker leaf : ℕ) → IsHeldBy s worker leaf → worker < o.workers) → MayFollow o s steps
    → (worker leaf : ℕ) → IsHeldBy (state_after s steps) worker leaf → worker < o.workers
holders_after o s [] each may worker leaf held = each worker leaf held
holders_after o s (step ∷ steps) each may worker leaf held =
    holders_after o (after s step) steps
    (λ w k has. elim (cases_eq (worker_of step) w) [
      | inl same ↦ subst (λ (x : ℕ). x < o.workers) same (step_worker o s step each may.0)
      | inr apart ↦ each w k ((step_keeps o s step w may.0 apart).back k has)
    ]) may.1 worker leaf held

-- who holds a leaf is one of the search's workers
pub holders_are_workers : (o : Opening) (steps : List FullStep) → IsOpening o → IsHistory o steps → (worker leaf : ℕ)
    → IsHeldBy (state_of o steps) worker leaf → worker < o.workers
holders_are_workers o steps opening history =
    holders_after o (first_state o) steps (λ worker leaf held. absurd (not_held o opening worker leaf held)) history

-- a worker that has ended holds no leaf
ends_without : (stops : Type 0) (worker : ℕ) (over : Bool) (o : Opening) (steps : List FullStep) → IsOpening o
    → IsHistory o steps → IsEnd stops over worker o (state_of o steps) → (leaf : ℕ)
    → ¬ (IsHeldBy (state_of o steps) worker leaf)
ends_without stops worker true o steps opening history (inl over) leaf held =
    over-none o (state_of o steps) over worker leaf held
ends_without stops worker true o steps opening history (inr (may, inl idle)) leaf held = idle.holds_none leaf held
ends_without stops worker true o steps opening history (inr (may, inr left)) leaf held =
    (histories_are_sound o steps opening history).gone worker leaf left held
ends_without stops worker false o steps opening history left leaf held =
    (histories_are_sound o steps opening history).gone worker leaf left held

-- once all workers have ended, none holds a leaf
pub none_held : (stops : Type 0) (o : Opening) (steps : List FullStep) → IsOpening o → IsHistory o steps
    → ((worker : ℕ) → worker < o.workers → HasEnded stops worker o steps) → NoneIsHeld (state_of o steps)
none_held stops o steps opening history ended worker leaf held =
    let end = ended worker (holders_are_workers o steps opening history worker leaf held) in
    let whole : IsHistory o (end.first ++ end.rest) = subst (λ (l : List FullStep). IsHistory o l) (sym end.goes_on)
    history in
    let first = follow-first o (first_state o) end.first end.rest whole in
    let rest = follow-rest o (first_state o) end.first end.rest whole in
    let keeps = steps_keep o (state_of o end.first) end.rest worker rest end.by_others in
    let later : IsHeldBy (state_of o (end.first ++ end.rest)) worker leaf =
    subst (λ (l : List FullStep). IsHeldBy (state_of o l) worker leaf) (sym end.goes_on) held in
    let now : IsHeldBy (state_after (state_of o end.first) end.rest) worker leaf =
    subst (λ (s : State). IsHeldBy s worker leaf) (state-append (first_state o) end.first end.rest) later in
    ends_without stops worker end.over o end.first opening first end.is_end leaf (keeps.back leaf now)
