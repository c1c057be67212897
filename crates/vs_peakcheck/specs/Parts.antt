-- What the counting problem is made of.
use Rattle.std.specs.Prelude.{◌≡◌, ℕ}
use Rattle.vs_instance.specs.declared.parts.Parts.{Parts}
use Rattle.vs_instance.specs.Misfits.{AreParts, MakeInstance, problem_of}
use Rattle.vs_instance.specs.Problem.{Problem}
use Rattle.vs_peakcheck.specs.Counting.{counting}

-- the parts are in order, and make the counting problem's instance
pub record CountingParts (p : Problem) (l : ℕ) (parts : Parts) : Type 0 where
  pub are_parts : AreParts parts
  pub make : MakeInstance parts
  pub problem : problem_of parts ≡ counting p l
