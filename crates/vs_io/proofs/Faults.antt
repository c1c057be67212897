-- A count that rose has risen over any longer stretch.
use Rattle.std.proofs.Common.{◌≡◌, ℕ, ◌+◌, ◌≤◌, ◌⊎◌, inl, inr, arith}
use Rattle.vs_io.specs.Faults.{Rose, one_more}

-- one more was counted, when the count had risen or was still the first
pub Rose-counted : (first old new : ℕ) → (old ≡ first) ⊎ Rose first old → new ≡ one_more old → Rose first new
Rose-counted first old new before counted = elim before [
  | inl same ↦ grind (arith, counted, same)
  | inr rose ↦ elim rose [ inl higher ↦ grind (arith, counted, higher) | inr top ↦ inr (omega (arith, counted, top)) ]
]

-- one more was counted, and the count is at most one higher
pub one_more-within : (old new : ℕ) → new ≡ one_more old → new ≤ old + 1
one_more-within old new counted = omega (arith, counted)
