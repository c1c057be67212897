-- Which of some worths is the first of the least, and the least of them and of a cost.
use Rattle.std.specs.Prelude.{◌≡◌, ◌⊎◌, ℕ, ◌<◌, ◌≤◌, ◌-◌, ◌^◌, min, List, All, Contains, count_by, map, slice_index_or, Option, ℤ}
use Rattle.vs_prices.specs.Bounds.{IsNoLess}
use Rattle.vs_prices.specs.declared.bound.Bound.{Bound}
use Rattle.vs_prices.specs.declared.bound.Bound.TheVariants.{NoPlan}
use Rattle.vs_cert.specs.Answers.{is_below}
use Rattle.vs_tree.specs.Report.{bound_of}
use Rattle.vs_tree.specs.declared.calls.Stand.{Stand}
use Rattle.vs_resume.specs.declared.cases.Case.{Case}
use Rattle.vs_resume.specs.declared.course.Course.{Course}

-- what some leaves are worth
abbrev pub worths_in : List Case → List Bound
worths_in cases = map (λ found. found.worth) cases

abbrev pub worth_at : List Bound → ℕ → Bound
worth_at worths k = slice_index_or worths k NoPlan

-- worth k is, of the first so many, no more than any, and the first of those that are as low
pub record IsFirstLeast (worths : List Bound) (count k : ℕ) : Type 0 where
  pub within : k < count
  pub least : (j : ℕ) → j < count → IsNoLess (worth_at worths j) (worth_at worths k)
  pub first : (j : ℕ) → j < count → IsNoLess (worth_at worths k) (worth_at worths j) → k ≤ j

-- the least of some worths and of the cost, if any
pub record IsLeastWith (known : Option ℤ) (some : List Bound) (least : Bound) : Type 0 where
  pub worths : All (λ worth. IsNoLess worth least) some
  pub cost : IsNoLess (bound_of known) least
  pub reached : (least ≡ bound_of known) ⊎ Contains some least

-- how many leaves leave room for a plan that costs less, or for any plan where there is no cost
abbrev pub below_in : Option ℤ → List Case → ℕ
below_in known cases = count_by (λ found. is_below known found.worth) cases

-- how far a search has come that finished so many nodes
pub record IsStandOf (course : Course) (nodes : ℕ) (stand : Stand) : Type 0 where
  pub finished : stand.finished ≡ nodes
  pub below : stand.open ≡ min (below_in course.cost course.cases.items) (2 ^ 32 - 1)
  pub cost : stand.cost ≡ course.cost
  pub bound : IsLeastWith course.cost (worths_in course.cases.items) (bound_of stand.bound)
