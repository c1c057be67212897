-- What a worker knows of a search that others went on with.
use Rattle.std.proofs.Common.{◌≡◌, ℕ, List, [], ◌∷◌, ◌++◌, map, refl, sym, ap, ◌∙◌, ◌||◌, Bool, true, false, true≢false}
use mathlib.Core.List.{IsPrefix}
use Rattle.std.proofs.lemmas.Bool.{eq-eqb}
use Rattle.vs_turn.specs.Calls.{AreCalls, NoCalls, has_ticket}
use Rattle.vs_tree.specs.Entries.{entry_of, worker_of}
use Rattle.vs_tree.specs.History.{FullStep, Opening, State, MayFollow, after, state_after}
use Rattle.vs_tree.proofs.CallerLemmas.{same_step}
use Rattle.vs_crew.specs.Sharing.{AreBy, AreByOthers, IsIdle}
use Rattle.vs_crew.proofs.others.Keeping.{Keeps, both_keep, same_keeps, step_keeps}

pub follow-first : (o : Opening) (s : State) (xs ys : List FullStep) → MayFollow o s (xs ++ ys) → MayFollow o s xs
follow-first o s [] ys may = tt
follow-first o s (x ∷ xs) ys may = (may.0, follow-first o (after s x) xs ys may.1)

pub follow-rest : (o : Opening) (s : State) (xs ys : List FullStep) → MayFollow o s (xs ++ ys)
    → MayFollow o (state_after s xs) ys
follow-rest o s [] ys may = may
follow-rest o s (x ∷ xs) ys may = follow-rest o (after s x) xs ys may.1

-- the steps of others keep what a worker has
pub steps_keep : (o : Opening) (s : State) (steps : List FullStep) (mine : ℕ) → MayFollow o s steps
    → AreByOthers mine steps → Keeps s (state_after s steps) mine
steps_keep o s [] mine may others = same_keeps s mine
steps_keep o s (step ∷ steps) mine may others =
    both_keep s (after s step) (state_after (after s step) steps) mine (step_keeps o s step mine may.0 others.0)
    (steps_keep o (after s step) steps mine may.1 others.1)

-- so a worker that was idle still is
pub idle_still : (o : Opening) (s n : State) (mine : ℕ) → Keeps s n mine → IsIdle mine o s → IsIdle mine o n
idle_still o s n mine keeps idle = record {
  is_worker = idle.is_worker;
  holds_none = λ k held. idle.holds_none k (keeps.back k held);
  stays = λ among. idle.stays (keeps.stays among);
}

-- entries that begin others are of steps that begin theirs
pub steps_begin : (xs ys : List FullStep) → IsPrefix (map entry_of xs) (map entry_of ys)
    → (rest : List FullStep) × (xs ++ rest ≡ ys)
steps_begin [] ys begins = (ys, refl)
steps_begin (x ∷ xs) [] begins = absurd cc
steps_begin (x ∷ xs) (y ∷ ys) (rest, begins) =
    let here : entry_of x ≡ entry_of y = cc in
    let there : map entry_of xs ++ rest ≡ map entry_of ys = cc in
    let found = steps_begin xs ys (rest, there) in
    let same = same_step x y here in
    (found.0, (λ i. same i ∷ found.1 i))

-- a worker has its own ticket
own_ticket : (worker : ℕ) → has_ticket (worker ∷ []) worker ≡ true
own_ticket worker = ap (λ (b : Bool). b || false) (eq-eqb worker worker refl)

-- entries of which none is a call of the worker are of others' steps
pub not_called : (worker : ℕ) (steps : List FullStep) → NoCalls (worker ∷ []) (map entry_of steps)
    → AreByOthers worker steps
not_called worker [] none = tt
not_called worker (step ∷ steps) none =
    ((λ same. not_mine (worker_of step) same none.0), not_called worker steps none.1)
  where
    not_mine : (other : ℕ) → other ≡ worker → has_ticket (worker ∷ []) other ≡ false → ⊥
    not_mine other same is =
        true≢false (sym (own_ticket worker) ∙ (ap (has_ticket (worker ∷ [])) (sym same) ∙ is))

-- and steps of the worker are calls of it
pub are_called : (worker : ℕ) (steps : List FullStep) → AreBy worker steps
    → AreCalls (worker ∷ []) (map entry_of steps)
are_called worker [] by = tt
are_called worker (step ∷ steps) by =
    (ap (has_ticket (worker ∷ [])) by.0 ∙ own_ticket worker, are_called worker steps by.1)
