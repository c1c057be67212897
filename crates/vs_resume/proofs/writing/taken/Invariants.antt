use Rattle.std.proofs.Common.{◌≡◌, ℕ, take, slice_get}
use Rattle.std.specs.List.{All}
use Rattle.vs_resume.specs.Writing.{AreTaken}
use Rattle.vs_resume.proofs.writing.taken.Given as goal

-- the tables of the numbers before are taken, and the others are as they were
abbrev pub invariant-loop-number : goal.invariant-loop-number
invariant-loop-number l = record {
  taken : AreTaken l.fn.tables (take l.number-index l.numbers) l.some.items;
  left : (n : ℕ) → All (λ m. ¬ (m ≡ n)) (take l.number-index l.numbers)
      → slice_get l.tables n ≡ slice_get l.fn.tables n;
}
