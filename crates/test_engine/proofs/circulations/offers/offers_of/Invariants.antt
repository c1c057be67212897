use Rattle.std.proofs.Common.{ℕ, Option, None, ℤ, length, pos, ◌≤ℤ◌}
use Rattle.std.specs.Prelude.{IsSome, IfSome}
use Rattle.vs_instance.specs.Dearest.{most_multiplier}
use Rattle.vs_instance.specs.Ways.{Permitted}
use Rattle.vs_instance.specs.declared.limits.TheConstants.{MAX_MULTIPLIER}
use Rattle.vs_types.proofs.CallerLemmas.{AreSoFar}
use Rattle.test_engine.proofs.circulations.offers.offers_of.Given as goal

abbrev pub invariant-loop-i : goal.invariant-loop-i
invariant-loop-i l =
    AreSoFar {X = Option ℤ} None (λ (i : ℕ) (o : Option ℤ). (IsSome o → Permitted l.instance 0 i)
    × IfSome o (λ m. (pos 0 ≤ℤ m) × (m ≤ℤ MAX_MULTIPLIER))
    × IfSome o (λ m. m ≤ℤ pos (most_multiplier (length l.instance.trips))))
    l.offers.items l.i
