-- A search within its budget has few enough entries.
use Rattle.std.proofs.Common.{◌≡◌, ℕ, zero, suc, ◌*◌, ◌/◌, ◌≤◌, ◌==◌, Bool, true, false, length, max, min, nat_lt, Option, Some, None, IfSome, refl, sym, subst, arith, if◌then◌else◌}
use Rattle.std.proofs.Math.Nat.{mul-div-le, mul-le-mul_left}
use Rattle.std.proofs.lemmas.Bool.Decides.{nat_tests}
use Rattle.std.proofs.lemmas.Nat.{mul-le}
use Rattle.vs_instance.specs.Instance.{IsInstance}
use Rattle.vs_instance.specs.Problem.{Problem}
use Rattle.vs_instance.specs.declared.limits.TheConstants.{MAX_BUDGET}
use Rattle.vs_replay.specs.Room.{HasRoom}
use Rattle.vs_replay.specs.declared.room.TheConstants.{MAX_ENTRIES}
use Rattle.mdvsp.specs.Budgets.{budget_of, default_budget, entries_of}
use Rattle.mdvsp.specs.declared.budget.TheConstants.{DEFAULT_NODES}

-- one table of an instance has few enough
one_table : (p : Problem) → IsInstance p → entries_of p ≤ MAX_ENTRIES
one_table p is =
    omega (arith, mul-le (length p.trips) (length p.layers) 10000 16 is.few_trips is.few_layers)

-- and so have as many as there are entries for
share_fits : (entries share : ℕ) → entries ≤ MAX_ENTRIES → share ≤ MAX_ENTRIES / entries
    → entries * max share 1 ≤ MAX_ENTRIES
share_fits entries zero few within = omega (arith, few)
share_fits entries (suc n) few within =
    let one : max (suc n) 1 ≡ suc n = omega arith in
    let up = mul-le-mul_left entries within in
    let down = mul-div-le MAX_ENTRIES entries in
    subst (λ (k : ℕ). entries * k ≤ MAX_ENTRIES) (sym one) (omega (arith, up, down))

-- where no budget is given
default_fits : (entries : ℕ) → entries ≤ MAX_ENTRIES → (none : Bool) → (entries == 0) ≡ none
    → entries * max (if none then DEFAULT_NODES else min DEFAULT_NODES (MAX_ENTRIES / entries)) 1 ≤ MAX_ENTRIES
default_fits entries few true is =
    let empty : entries ≡ 0 = grind (arith, nat_tests) in
    subst (λ (n : ℕ). n * max DEFAULT_NODES 1 ≤ MAX_ENTRIES) (sym empty) (omega arith)
default_fits entries few false is =
    share_fits entries (min DEFAULT_NODES (MAX_ENTRIES / entries)) few (omega arith)

default_few : (entries : ℕ) (none : Bool)
    → (if none then DEFAULT_NODES else min DEFAULT_NODES (MAX_ENTRIES / entries)) ≤ MAX_BUDGET
default_few entries true = omega arith
default_few entries false = omega arith

-- where one is given
given_fits : (entries nodes budget : ℕ) (large : Bool) → nat_lt MAX_ENTRIES (entries * max nodes 1) ≡ large
    → (if large then None else Some nodes) ≡ Some budget → entries * max budget 1 ≤ MAX_ENTRIES
given_fits entries nodes budget true is e = cc
given_fits entries nodes budget false is e =
    let few : entries * max nodes 1 ≤ MAX_ENTRIES = grind (arith, nat_tests) in
    let same : nodes ≡ budget = cc in
    subst (λ (k : ℕ). entries * max k 1 ≤ MAX_ENTRIES) same few

given_few : (nodes budget : ℕ) (large : Bool) → nodes ≤ MAX_BUDGET
    → (if large then None else Some nodes) ≡ Some budget → budget ≤ MAX_BUDGET
given_few nodes budget true few e = cc
given_few nodes budget false few e = let same : nodes ≡ budget = cc in subst (λ (k : ℕ). k ≤ MAX_BUDGET) same few

-- what is one of the two
of_default : (p : Problem) (budget : ℕ) → budget_of p None ≡ Some budget → default_budget p ≡ budget
of_default p budget e = cc

-- the tables of a search within its budget have room
pub budget_has_room : (p : Problem) (nodes : Option ℕ) (budget : ℕ) → IsInstance p
    → budget_of p nodes ≡ Some budget → HasRoom p budget
budget_has_room p None budget is e =
    subst (HasRoom p) (of_default p budget e)
    (default_fits (entries_of p) (one_table p is) (entries_of p == 0) refl)
budget_has_room p (Some nodes) budget is e =
    given_fits (entries_of p) nodes budget (nat_lt MAX_ENTRIES (entries_of p * max nodes 1)) refl e

-- and the budget isn't above the greatest
pub budget_few : (p : Problem) (nodes : Option ℕ) (budget : ℕ) → IfSome nodes (λ n. n ≤ MAX_BUDGET)
    → budget_of p nodes ≡ Some budget → budget ≤ MAX_BUDGET
budget_few p None budget few e =
    subst (λ (k : ℕ). k ≤ MAX_BUDGET) (of_default p budget e) (default_few (entries_of p) (entries_of p == 0))
budget_few p (Some nodes) budget few e =
    given_few nodes budget (nat_lt MAX_ENTRIES (entries_of p * max nodes 1)) few e
