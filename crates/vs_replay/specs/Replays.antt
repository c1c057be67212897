-- Whether the steps of a trace may come one after the other, and which of them may not.
use Rattle.std.specs.Prelude.{◌≡◌, ℕ, zero, suc, ◌<◌, length, take, IfSome, slice_index_or, ◌⊎◌}
use Rattle.vs_instance.specs.Problem.{Problem}
use Rattle.vs_tree.specs.History.{FullStep, State, IsHistory, MayCome, state_of}
use Rattle.vs_tree.specs.Sound.{IsPlanOf}
use Rattle.vs_tree.specs.Takes.{held_leaves}
use Rattle.vs_trace.specs.Traces.{told_first, told_opening, told_steps}
use Rattle.vs_trace.specs.declared.trace.Trace.{Trace}
use Rattle.vs_replay.specs.declared.replaying.Replayed.{Replayed}
use Rattle.vs_replay.specs.declared.replaying.Replayed.TheVariants.{NotAStep, Tree}

-- the first plan, if any, is one of the instance, at the cost that is told
abbrev pub IsFirstRight : Problem → Trace → Type 0
IsFirstRight p t = IfSome (told_first p t.first) (IsPlanOf p)

-- the state behind so many steps
abbrev pub state_behind : Problem → Trace → ℕ → State
state_behind p t k = state_of (told_opening p t) (take k (told_steps p t))

-- the steps may come one after the other, and no leaf is held at the end
pub record Replays (p : Problem) (t : Trace) : Type 0 where
  pub first : IsFirstRight p t
  pub history : IsHistory (told_opening p t) (told_steps p t)
  pub none_held : held_leaves (state_of (told_opening p t) (told_steps p t)) ≡ 0

-- so many steps may come, and the next one may not
pub record IsStuck (p : Problem) (t : Trace) (k : ℕ) : Type 0 where
  pub first : IsFirstRight p t
  pub before : IsHistory (told_opening p t) (take k (told_steps p t))
  pub inside : k < length t.steps.items
  pub stuck : (d : FullStep)
      → ¬ (MayCome (told_opening p t) (state_behind p t k) (slice_index_or (told_steps p t) k d))

-- all steps may come, and a leaf is held at the end
pub record IsLeftHeld (p : Problem) (t : Trace) (k : ℕ) : Type 0 where
  pub first : IsFirstRight p t
  pub history : IsHistory (told_opening p t) (told_steps p t)
  pub all : k ≡ length t.steps.items
  pub held : 0 < held_leaves (state_of (told_opening p t) (told_steps p t))

-- step n, counted from 1, is the first that may not come; 0 stands for the first plan, and one more than there are
-- steps for a leaf that is held at the end
abbrev pub IsWrongAt : Problem → Trace → ℕ → Type 0
IsWrongAt p t zero = ¬ (IsFirstRight p t)
IsWrongAt p t (suc k) = IsStuck p t k ⊎ IsLeftHeld p t k

-- what becomes of the trace
abbrev pub IsReplay : Problem → Trace → Replayed → Type 0
IsReplay p t (Tree tree) =
    Replays p t × (tree ≡ record { opening = told_opening p t; steps = told_steps p t })
IsReplay p t (NotAStep n) = IsWrongAt p t n × ¬ (Replays p t)
