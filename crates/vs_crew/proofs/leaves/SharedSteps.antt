-- A shared search that a worker went on with.
use Rattle.std.proofs.Common.{◌≡◌, ℕ, List, [], ◌∷◌, ◌++◌, length, refl, sym, ap, ◌∙◌, subst, arith, length-append, append-nil}
use Rattle.vs_tree.specs.Calls.{with_step}
use Rattle.vs_tree.specs.History.{FullStep, Opening, State, Took, GaveBack, IsAmong, first_state}
use Rattle.vs_tree.specs.Search.{Search, state}
use Rattle.vs_tree.specs.Takes.{taking}
use Rattle.vs_tree.specs.declared.calls.Take.{Take}
use Rattle.vs_tree.specs.declared.calls.Take.TheVariants.{Node, Wait, Done, Spent}
use Rattle.vs_tree.proofs.CallerLemmas.{state-last}
use Rattle.vs_node.specs.WorkedHistory.{AreWorkedFrom}
use Rattle.vs_crew.specs.Crew.{AreWorkedAfter, IsShared}
use Rattle.vs_crew.specs.Sharing.{AreBy, GoesOnBy}
use Rattle.vs_crew.proofs.leaves.WorkedSteps.{worked-later}

-- the steps that a worker made, and the work in them
pub record Makes (w : ℕ) (old new : Search) : Type 0 where
  pub opening : new.opening ≡ old.opening
  pub added : List FullStep
  pub goes_on : old.steps ++ added ≡ new.steps
  pub by_worker : AreBy w added
  pub worked : AreWorkedFrom old.opening (state old) added

pub makes_shared : (w before : ℕ) (old new : Search) → Makes w old new
    → IsShared (record { before = before; search = old }) → IsShared (record { before = before; search = new })
makes_shared w before old new makes is = record {
  begun =
      let size = ap (λ (l : List FullStep). length l) makes.goes_on in
      let sum = length-append old.steps makes.added in
      omega (arith, size, sum, is.begun);
  worked =
      subst (λ (o : Opening). AreWorkedAfter o before new.steps) (sym makes.opening)
      (subst (λ (l : List FullStep). AreWorkedAfter old.opening before l) makes.goes_on
      (worked-later old.opening before old.steps makes.added is.begun is.worked makes.worked));
}

pub makes_goes_on : (w before : ℕ) (old new : Search) → Makes w old new
    → GoesOnBy w (record { before = before; search = old }) (record { before = before; search = new })
makes_goes_on w before old new makes = record {
  before = refl;
  opening = makes.opening;
  added = makes.added;
  goes_on = makes.goes_on;
  by_worker = makes.by_worker;
}

-- where it asked for a leaf
pub take_makes : (w : ℕ) (old new : Search) (take : Take) → new ≡ record old { steps = taking w old.steps take }
    → Makes w old new
take_makes w old new take is = subst (λ (t : Search). Makes w old t) (sym is) (by_take take)
  where
    nothing : Makes w old old
    nothing = record {
      opening = refl;
      added = [];
      goes_on = append-nil old.steps;
      by_worker = tt;
      worked = tt;
    }

    by_take : (take : Take) → Makes w old (record old { steps = taking w old.steps take })
    by_take (Node leaf cost) = record {
      opening = refl;
      added = Took w leaf ∷ [];
      goes_on = refl;
      by_worker = (refl, tt);
      worked = (tt, tt);
    }
    by_take Wait = nothing
    by_take Done = nothing
    by_take Spent = nothing

-- where it gave its leaf back
pub gave_back_makes : (w leaf : ℕ) (old new : Search) → new ≡ with_step old (GaveBack w leaf) → Makes w old new
gave_back_makes w leaf old new is =
    subst (λ (t : Search). Makes w old t) (sym is)
    (record {
      opening = refl;
      added = GaveBack w leaf ∷ [];
      goes_on = refl;
      by_worker = (refl, tt);
      worked = (tt, tt);
    })

-- and has left then
pub gave_back_left : (w leaf : ℕ) (old new : Search) → new ≡ with_step old (GaveBack w leaf)
    → IsAmong w (state new).gone
gave_back_left w leaf old new is =
    subst (λ (s : State). IsAmong w s.gone)
    (sym (ap state is ∙ state-last (first_state old.opening) old.steps (GaveBack w leaf))) (0, refl)
