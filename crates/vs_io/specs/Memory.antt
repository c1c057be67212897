-- What clauses see of a source and of a sink in memory.
use Rattle.std.specs.Prelude.{ℕ, List}

-- a source in memory: the bytes that are left, how many a take gives at most, which takes fail, counted from 1,
-- how many takes there were and how many of them failed
pub record SourceState : Type 0 where
  pub left : List ℕ
  pub piece : ℕ
  pub failing : List ℕ
  pub calls : ℕ
  pub faults : ℕ

-- a sink in memory: the bytes that it took, for how many more it has room, how many a put takes at most, which puts
-- fail, counted from 1, how many puts there were and how many of them failed
pub record SinkState : Type 0 where
  pub taken : List ℕ
  pub room : ℕ
  pub piece : ℕ
  pub failing : List ℕ
  pub calls : ℕ
  pub faults : ℕ
