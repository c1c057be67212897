-- The document that is written once all turns are over.
use Rattle.std.specs.Prelude.{◌≡◌, ℕ, List, map, slice_get, Some}
use Rattle.std.specs.List.{AllPairs, AllZip}
use Rattle.vs_instance.specs.Problem.{Problem}
use Rattle.vs_prices.specs.declared.table.Table.{Table}
use Rattle.vs_prices.specs.Claims.{claim_found}
use Rattle.vs_rows.specs.declared.document.Document.{Document}
use Rattle.vs_tree.specs.Report.{bound_of}
use Rattle.vs_cert.specs.StateDocument.{first_times}
use Rattle.vs_resume.specs.declared.course.Course.{Course}
use Rattle.vs_resume.specs.declared.writing.Named.{Named}
use Rattle.vs_resume.specs.Courses.{IsCourseOf}
use Rattle.vs_resume.specs.Order.{IsLeastWith, worths_in}
use Rattle.vs_resume.specs.Standing.{IsWrittenFor, Standing}

-- the numbers in the order in which they first came, and of each number its place among them
pub record AreFirstNamed (all : List ℕ) (named : Named) : Type 0 where
  pub numbers : named.numbers.items ≡ first_times all
  pub places : AllZip (λ place n. slice_get named.numbers.items place ≡ Some n) named.places.items all

-- no number stands twice
abbrev pub IsOnce : List ℕ → Type 0
IsOnce numbers = AllPairs (λ a b. ¬ (a ≡ b)) numbers

-- the tables of these numbers
abbrev pub AreTaken : List Table → List ℕ → List Table → Type 0
AreTaken tables numbers some = map Some some ≡ map (slice_get tables) numbers

-- the document prints what is in memory, with the bound and the claim that follow from it
pub record IsPrintedOf (c : Course) (count : ℕ) (d : Document) : Type 0 where
  pub written : (p : Problem) (s : Standing) → IsCourseOf p c s → IsWrittenFor s d
  pub bound : IsLeastWith c.cost (worths_in c.cases.items) (bound_of d.bound)
  pub claim : d.claim ≡ claim_found d.cost d.bound
  pub nodes : d.nodes ≡ count
