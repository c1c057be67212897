-- A search without a budget comes no further than where it begins: with the greedy rule's plan and the table of zeros.
use Rattle.std.proofs.Common.{◌≡◌, ℕ, zero, suc, Bool, true, false, List, [], ◌∷◌, length, map, replicate, Option, Some, None, option_map, ℤ, pos, refl, sym, ap, ◌∙◌, subst, arith, if◌then◌else◌}
use Rattle.std.specs.Prelude.{MatchOption}
use Rattle.std.specs.List.{All, last_or}
use Rattle.std.proofs.lemmas.List.Elements.{All-head, All-replicate}
use Rattle.vs_instance.specs.Plan.{LayerBlock}
use Rattle.vs_instance.specs.Problem.{Problem}
use Rattle.vs_plan.specs.Blocks.{blocks_of}
use Rattle.vs_plan.specs.CheckedPlan.{Checked}
use Rattle.vs_plan.specs.Greedy.{GreedyGetsStuck, GreedyGives}
use Rattle.vs_prices.specs.Table.{Fits}
use Rattle.vs_prices.specs.declared.table.Table.{Table}
use Rattle.vs_tree.specs.History.{FullStep, Opening, Took, Split, Closed, Offered, GaveBack, IsHeldBy, IsHistory, MayCome, first_state, plans_of, state_of}
use Rattle.vs_tree.specs.Prices.{Prices, prices_of, zero_prices}
use Rattle.vs_tree.specs.StateTree.{IsTreeOf}
use Rattle.vs_prices.specs.Tree as tree
use Rattle.vs_cert.specs.StateDocument.{IsDocumentOf, first_times, known_blocks, tables_named}
use Rattle.vs_cert.specs.TreeText.{prices_of_number}
use Rattle.vs_rows.specs.declared.document.Document.{Document}
use Rattle.mdvsp.specs.Budgets.{budget_of}
use Rattle.mdvsp.specs.Laws.{HasGreedyPlan, IsZeroTable}
use Rattle.mdvsp.specs.SolveAnswer.{IsGreedyPlan, StoppedAnswer}

-- at first no leaf is held
none_held : (o : Opening) (worker k : ℕ) → ¬ (IsHeldBy (first_state o) worker k)
none_held o worker zero held = let is = held.1 in cc
none_held o worker (suc k) held = let is = held.1 in cc

-- and without a budget none can be taken
no_first_step : (o : Opening) (step : FullStep) → o.budget ≡ 0 → ¬ (MayCome o (first_state o) step)
no_first_step o (Took worker leaf) none may = let room = may.room in omega (arith, none, room)
no_first_step o (Split worker leaf table trip left prices) none may = none_held o worker leaf may.holds
no_first_step o (Closed worker leaf table prices) none may = none_held o worker leaf may.holds
no_first_step o (Offered worker cost number added) none may = none_held o worker may.leaf may.holds
no_first_step o (GaveBack worker leaf) none may = none_held o worker leaf may

no_steps : (o : Opening) (steps : List FullStep) → o.budget ≡ 0 → IsHistory o steps → steps ≡ []
no_steps o [] none history = refl
no_steps o (step ∷ steps) none history = absurd (no_first_step o step none history.0)

-- the one tree is a leaf with the first table
first_tree : (o : Opening) (t : tree.Tree) → IsTreeOf o.problem (first_state o) t → tables_named t ≡ 0 ∷ []
first_tree o (tree.Leaf table) is = let same : table ≡ 0 = is.is_tree.table_is in ap (λ (n : ℕ). n ∷ []) same
first_tree o (tree.Split trip left lower upper) is = let inner = is.is_tree.inner in cc

-- one table is listed
one_listed : (tables : List Table) (prices : Prices) → map prices_of tables ≡ prices ∷ []
    → (table : Table) × (tables ≡ table ∷ []) × (prices_of table ≡ prices)
one_listed [] prices e = absurd (omega (arith, ap length e))
one_listed (table ∷ []) prices e = (table, refl, cc)
one_listed (table ∷ other ∷ tables) prices e = absurd (omega (arith, ap length e))

abbrev IsZero : ℤ → Type 0
IsZero x = x ≡ pos 0

all_zeros : (n : ℕ) (xs : List ℤ) → xs ≡ replicate n (pos 0) → All IsZero xs
all_zeros n xs e = subst (All IsZero) (sym e) (All-replicate IsZero n (pos 0) refl)

zero_table : (p : Problem) (table : Table) → Fits p table → prices_of table ≡ zero_prices p → IsZeroTable p table
zero_table p table fits e = record {
  cost = ap (λ (x : Prices). x.ray) e;
  fits = fits;
  zeros = record {
    into = all_zeros _ table.into.items (ap (λ (x : Prices). x.into) e);
    from = all_zeros _ table.from.items (ap (λ (x : Prices). x.from) e);
    fleet = all_zeros _ table.fleet.items (ap (λ (x : Prices). x.fleet) e);
  };
}

-- the first plan is the cheapest
greedy_first : (p : Problem) (first : Option Checked) (cost : Option ℤ) (blocks : List LayerBlock)
    → IsGreedyPlan p first → cost ≡ option_map (λ plan. plan.cost) (last_or None (plans_of first))
    → blocks ≡ known_blocks (last_or None (plans_of first))
    → MatchOption cost (GreedyGetsStuck p) (λ _. GreedyGives p blocks)
greedy_first p None cost blocks stuck same blocks_are = rw same stuck
greedy_first p (Some plan) cost blocks is same blocks_are = rw (same, blocks_are) is.0

-- so many nodes are the budget, where they may be given
given_nodes : (nodes budget : ℕ) (large : Bool) → (if large then None else Some nodes) ≡ Some budget → budget ≡ nodes
given_nodes nodes budget true e = cc
given_nodes nodes budget false e = cc

pub given_budget : (p : Problem) (nodes budget : ℕ) → budget_of p (Some nodes) ≡ Some budget → budget ≡ nodes
given_budget p nodes budget e = given_nodes nodes budget _ e

-- what the document is like of a search without a budget
module _ (p : Problem) (workers : ℕ) (d : Document) (solves : StoppedAnswer p 0 workers d) where
  abbrev o : Opening
  o = solves.searched.opening

  first : IsDocumentOf o (first_state o) d
  first = subst (λ (steps : List FullStep). IsDocumentOf o (state_of o steps) d)
      (no_steps o solves.searched.steps solves.searched.made.begins.budget solves.searched.made.history)
      solves.searched.of_state

  pub greedy_plan : HasGreedyPlan p d
  greedy_plan = greedy_first p o.first d.cost (blocks_of d.plan) solves.searched.made.begins.first
      (first.cost ∙ first.is_report.cost) first.blocks

  listed : map prices_of d.tables.items ≡ zero_prices o.problem ∷ []
  listed = first.tables
      ∙ ap (λ (numbers : List ℕ). map (prices_of_number (first_state o)) (first_times numbers))
      (first_tree o first.tree first.is_tree)

  pub zero_listed : (table : Table) × (d.tables.items ≡ table ∷ []) × IsZeroTable p table
  zero_listed =
      let one = one_listed d.tables.items (zero_prices o.problem) listed in
      let fits = All-head (Fits p) one.0 [] (subst (All (Fits p)) one.1 solves.has_text.fits) in
      (one.0, one.1, zero_table p one.0 fits (one.2 ∙ ap zero_prices solves.searched.made.begins.problem))
