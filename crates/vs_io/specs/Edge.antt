-- What clauses see of a source and of a sink over a device of the system.
use Rattle.std.specs.Prelude.{ℕ}

-- a writer, and how many puts failed
pub record Edge (D : Type 0) : Type 0 where
  pub device : D
  pub faults : ℕ

-- a reader, how many takes there were and how many of them failed
pub record ReadingEdge (D : Type 0) : Type 0 where
  pub device : D
  pub calls : ℕ
  pub faults : ℕ
