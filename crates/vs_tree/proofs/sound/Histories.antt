-- Every state of a history is sound.
use Rattle.std.proofs.Common.{◌≡◌, ℕ, zero, suc, ◌<◌, List, [], ◌∷◌, refl, subst, arith, Option, Some, None, IfSome, pos}
use Rattle.std.specs.List.{All}
use Rattle.std.proofs.lemmas.List.Elements.{All-cons, All-nil}
use Rattle.vs_instance.specs.Plan.{LayerBlock, IsPlan}
use Rattle.vs_instance.specs.Restriction.{IsRestriction}
use Rattle.vs_instance.proofs.CallerLemmas.{permitted_sets-IsRestriction, plans_lie_within}
use Rattle.vs_plan.specs.CheckedPlan.{Checked}
use Rattle.vs_prices.specs.Bounds.{IsNoLess}
use Rattle.vs_prices.specs.declared.bound.Bound.{Bound}
use Rattle.vs_prices.specs.declared.bound.Bound.TheVariants.{AtLeast}
use Rattle.vs_tree.specs.Laws.{HistoriesAreSound}
use Rattle.vs_tree.specs.Prices.{AreLawful, zero_prices}
use Rattle.vs_tree.specs.History.{FullStep, Opening, State, Took, Split, Closed, Offered, GaveBack, IsClosed, IsHeldBy, IsLeaf, IsLeafWorth, MayCome, MayFollow, after, first_state, plans_of, sets_at, state_after}
use Rattle.vs_tree.specs.Sound.{EachIsCheaper, IsInOneLeaf, IsOpening, IsPlanOf, IsSound}
use Rattle.vs_tree.proofs.LawfulPrices.{zero_worth, zeros_lawful}
use Rattle.vs_tree.proofs.sound.Took.{took_sound}
use Rattle.vs_tree.proofs.sound.Split.{split_sound}
use Rattle.vs_tree.proofs.sound.Closed.{closed_sound}
use Rattle.vs_tree.proofs.sound.Offered.{offered_sound}
use Rattle.vs_tree.proofs.sound.GaveBack.{gave_back_sound}

module _ (o : Opening) (opening : IsOpening o) where
  abbrev start : State
  start = first_state o

  -- of the first state nothing but the root is a leaf
  pub only_root : (k : ℕ) → IsLeaf start k → k ≡ 0
  only_root zero leaf = refl
  only_root (suc k) leaf = absurd cc

  not_closed : (k : ℕ) → IsClosed start k → ⊥
  not_closed zero (table, is) = cc
  not_closed (suc k) (table, is) = cc

  pub not_held : (worker k : ℕ) → IsHeldBy start worker k → ⊥
  not_held worker zero (table, is) = cc
  not_held worker (suc k) (table, is) = cc

  shared : (blocks : List LayerBlock) → IsPlan o.problem blocks → IsInOneLeaf start blocks
  shared blocks plan = record {
    leaf = 0;
    is_in = record { leaf = refl; within = plans_lie_within o.problem blocks plan };
    only = λ k is. only_root k is.leaf;
  }

  restrictions : (k : ℕ) → k < 1 → IsRestriction o.problem (sets_at start k)
  restrictions zero inside = permitted_sets-IsRestriction o.problem opening.instance
  restrictions (suc k) inside = absurd (omega arith)

  worths : (k : ℕ) (worth : Bound) → IsLeaf start k → IsLeafWorth o.problem start k worth
      → IsNoLess worth (AtLeast (pos 0))
  worths zero worth leaf is =
      zero_worth o.problem (sets_at start 0) (permitted_sets-IsRestriction o.problem opening.instance) worth is
  worths (suc k) worth leaf is = absurd cc

  plans : (first : Option Checked) → o.first ≡ first → All (IsPlanOf o.problem) (plans_of first)
  plans None is = All-nil (IsPlanOf o.problem)
  plans (Some plan) is =
      All-cons (IsPlanOf o.problem) plan []
      (subst (λ (q : Option Checked). IfSome q (IsPlanOf o.problem)) is opening.first) (All-nil (IsPlanOf o.problem))

  cheaper : (first : Option Checked) → EachIsCheaper (plans_of first)
  cheaper None k d inside = absurd (omega arith)
  cheaper (Some plan) k d inside = absurd (omega arith)

  pub first_sound : IsSound o start
  first_sound = record {
    shared_out = shared;
    tables = All-cons (AreLawful o.problem) (zero_prices o.problem) [] (zeros_lawful o.problem opening.instance)
        (All-nil (AreLawful o.problem));
    restrictions = restrictions;
    numbers = λ k leaf. let root = only_root k leaf in rw root (omega arith);
    worths = worths;
    plans = plans o.first refl;
    cheaper = cheaper o.first;
    closed = λ k worth closed. absurd (not_closed k closed);
    finished = refl;
    count_tables = refl;
    budget = omega arith;
    one_leaf = λ worker j k held. absurd (not_held worker j held);
    gone = λ worker k among held. not_held worker k held;
  }

  pub step_sound : (s : State) (step : FullStep) → MayCome o s step → IsSound o s → IsSound o (after s step)
  step_sound s (Took worker leaf) may sound = took_sound o s worker leaf may sound
  step_sound s (Split worker leaf table trip left prices) may sound =
      split_sound o s worker leaf table trip left prices may opening.instance sound
  step_sound s (Closed worker leaf table prices) may sound = closed_sound o s worker leaf table prices may sound
  step_sound s (Offered worker cost number added) may sound = offered_sound o s worker cost number added may sound
  step_sound s (GaveBack worker leaf) may sound = gave_back_sound o s worker leaf may sound

  -- from a sound state on, all that steps lead to is sound
  steps_sound : (s : State) (steps : List FullStep) → MayFollow o s steps → IsSound o s
      → IsSound o (state_after s steps)
  steps_sound s [] may sound = sound
  steps_sound s (step ∷ steps) may sound =
      steps_sound (after s step) steps may.1 (step_sound s step may.0 sound)

-- the law
pub histories_are_sound : HistoriesAreSound
histories_are_sound o steps opening history = steps_sound o opening (first_state o) steps history
    (first_sound o opening)
