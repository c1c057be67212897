use Rattle.std.proofs.Common.{◌≡◌, ℕ, Bool, true, false}
use Rattle.vs_instance.specs.Ways.{Permitted}
use Rattle.vs_types.proofs.CallerLemmas.{AreSoFar}
use Rattle.test_engine.proofs.circulations.offers.must_of.Given as goal

abbrev pub invariant-loop-i : goal.invariant-loop-i
invariant-loop-i l = AreSoFar false (λ (i : ℕ) (b : Bool). b ≡ true → Permitted l.instance 0 i) l.must.items l.i
