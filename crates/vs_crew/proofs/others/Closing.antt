-- The search once the turn was closed by the seat of all workers.
use Rattle.std.proofs.Common.{◌≡◌, inl, inr, ℕ, ◌<◌, Bool, true, List, [], ◌∷◌, ◌++◌, length, map, drop, refl, sym, ap, ◌∙◌, subst, arith, append-nil}
use Rattle.std.proofs.Math.Seq.{take-append_seam}
use Rattle.atomic_table.specs.Seated.{TableId}
use Rattle.vs_turn.specs.Seats.{SeatModel}
use Rattle.vs_tree.specs.Entries.{entry_of, opening_entry}
use Rattle.vs_tree.specs.History.{FullStep, Opening, IsHistory, state_of}
use Rattle.vs_tree.specs.Search.{Search, state}
use Rattle.vs_tree.specs.Sound.{IsOpening}
use Rattle.vs_tree.specs.Takes.{IsOver}
use Rattle.vs_tree.proofs.CallerLemmas.{same_opening, same_step}
use Rattle.vs_node.specs.WorkedHistory.{AreWorkedFrom}
use Rattle.vs_crew.specs.Crew.{AreWorkedAfter, HasGoneOn}
use Rattle.vs_crew.specs.Sharing.{HasEnded, KnowsEnds, NoneIsHeld, Shared, WasOver, shared_entries, shared_opening}
use Rattle.vs_crew.proofs.others.Ending.{none_held, still_over}

-- steps are the same where their entries are
same_steps : (xs ys : List FullStep) → map entry_of xs ≡ map entry_of ys → xs ≡ ys
same_steps [] [] same = refl
same_steps [] (y ∷ ys) same = absurd cc
same_steps (x ∷ xs) [] same = absurd cc
same_steps (x ∷ xs) (y ∷ ys) same =
    let here : entry_of x ≡ entry_of y = cc in
    let there : map entry_of xs ≡ map entry_of ys = cc in
    let first = same_step x y here in
    let rest = same_steps xs ys there in
    (λ i. first i ∷ rest i)

drop-seam : (xs ys : List FullStep) → drop (length xs) (xs ++ ys) ≡ ys
drop-seam [] ys = refl
drop-seam (x ∷ xs) ys = drop-seam xs ys

-- a search that nobody went on with
pub unchanged : (t new : Search) → NoneIsHeld (state t) → new ≡ t → HasGoneOn t new
unchanged t new none same =
    subst (HasGoneOn t) (sym same)
    (record {
      opening = refl;
      added = [];
      goes_on = append-nil t.steps;
      worked = tt;
      none_held = none;
    })

module _ (stops : Type 0) (turn : TableId) (start after : Search) (workers : ℕ) (over : Bool) (seat : SeatModel)
    (ends : KnowsEnds stops turn start 0 workers over seat) (closed : Shared)
    (opens : shared_opening closed ≡ seat.opening) (entries : shared_entries closed ≡ seat.seen)
    (is : after ≡ closed.search)
    (workers_are : start.opening.workers ≡ workers) (worked : AreWorkedAfter after.opening closed.before after.steps)
    (opening : IsOpening after.opening) (history : IsHistory after.opening after.steps) where
  opens_same : closed.before ∷ opening_entry closed.search.opening ≡ length start.steps ∷ opening_entry start.opening
  opens_same = opens ∙ ends.opens

  before_is : closed.before ≡ length start.steps
  before_is = let same = opens_same in cc

  opening_is : after.opening ≡ start.opening
  opening_is =
      let same = opens_same in
      ap (λ (t : Search). t.opening) is ∙ same_opening closed.search.opening start.opening cc

  steps_are : after.steps ≡ start.steps ++ ends.more
  steps_are =
      ap (λ (t : Search). t.steps) is
      ∙ same_steps closed.search.steps (start.steps ++ ends.more) (entries ∙ ends.seen)

  worked_since : AreWorkedFrom start.opening (state start) ends.more
  worked_since =
      let whole : AreWorkedAfter start.opening (length start.steps) (start.steps ++ ends.more) =
      subst (λ (o : Opening). AreWorkedAfter o (length start.steps) (start.steps ++ ends.more)) opening_is
      (subst (λ (n : ℕ). AreWorkedAfter after.opening n (start.steps ++ ends.more)) before_is
      (subst (λ (l : List FullStep). AreWorkedAfter after.opening closed.before l) steps_are worked)) in
      subst (λ (l : List FullStep). AreWorkedFrom start.opening (state start) l) (drop-seam start.steps ends.more)
      (subst (λ (l : List FullStep).
      AreWorkedFrom start.opening (state_of start.opening l) (drop (length start.steps) (start.steps ++ ends.more)))
      (take-append_seam start.steps ends.more) whole)

  all_ended : (worker : ℕ) → worker < after.opening.workers → HasEnded stops worker after.opening after.steps
  all_ended worker inside =
      let few = ap (λ (o : Opening). o.workers) opening_is ∙ workers_are in
      let ended = ends.ended worker (omega arith) (omega (arith, inside, few)) in
      subst (λ (o : Opening). HasEnded stops worker o after.steps) (sym opening_is)
      (subst (HasEnded stops worker start.opening) (sym steps_are) ended)

  -- it has gone on from the one that was handed in
  pub has_gone_on : HasGoneOn start after
  has_gone_on = record {
    opening = opening_is;
    added = ends.more;
    goes_on = sym steps_are;
    worked = worked_since;
    none_held = none_held stops after.opening after.steps opening history all_ended;
  }

  -- and is over where a worker was told so and wasn't stopped
  pub is_over : over ≡ true → ¬ stops → IsOver after.opening (state after)
  is_over told never =
      elim (ends.over told) [
        | inl was ↦
            still_over after.opening after.steps history
            (subst (λ (o : Opening). WasOver o after.steps) (sym opening_is)
            (subst (WasOver start.opening) (sym steps_are) was))
        | inr may ↦ absurd (never may)
      ]
