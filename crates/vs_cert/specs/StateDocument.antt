-- The document of a state of a search.
use Rattle.std.specs.Prelude.{◌≡◌, ℕ, ◌==◌, not, List, [], ◌∷◌, ◌++◌, map, filter, slice_get, slice_index_or, Option, Some, None}
use Rattle.vs_instance.specs.Plan.{LayerBlock}
use Rattle.vs_plan.specs.Blocks.{blocks_of}
use Rattle.vs_plan.specs.CheckedPlan.{Checked}
use Rattle.vs_tree.specs.History.{Opening, State, incumbent}
use Rattle.vs_tree.specs.Prices.{no_prices, prices_of}
use Rattle.vs_tree.specs.Report.{IsReport}
use Rattle.vs_tree.specs.StateTree.{IsTreeOf}
use Rattle.vs_prices.specs.Tree.{Tree, Leaf, Split}
use Rattle.vs_tree.specs.declared.calls.Report.{Report}
use Rattle.vs_rows.specs.Shapes.{preorder}
use Rattle.vs_rows.specs.declared.document.Document.{Document}

-- the numbers of the tables that the leaves name, from left to right
abbrev pub tables_named : Tree → List ℕ
tables_named (Leaf table) = table ∷ []
tables_named (Split trip left lower upper) = tables_named lower ++ tables_named upper

-- each number once, where it stands first
abbrev pub first_times : List ℕ → List ℕ
first_times [] = []
first_times (n ∷ rest) = n ∷ filter (λ m. not (m == n)) (first_times rest)

-- the same tree, whose leaves name tables by their places in a list of numbers
abbrev pub IsRenumbered : List ℕ → Tree → Tree → Type 0
IsRenumbered numbers (Leaf table) (Leaf place) = slice_get numbers place ≡ Some table
IsRenumbered numbers (Split trip left lower upper) (Split also part first second) =
    (also ≡ trip) × (part ≡ left) × IsRenumbered numbers lower first × IsRenumbered numbers upper second
IsRenumbered numbers _ _ = ⊥

-- the blocks of the cheapest plan so far, none where there is no plan
abbrev pub known_blocks : Option Checked → List LayerBlock
known_blocks None = []
known_blocks (Some plan) = plan.blocks

-- The document has the state's report, its cheapest plan, its tree of cases, and the tables that leaves name, in the
-- order in which leaves first name them.
pub record IsDocumentOf (o : Opening) (s : State) (d : Document) : Type 0 where
  pub report : Report
  pub is_report : IsReport o.problem s report
  pub claim : d.claim ≡ report.claim
  pub cost : d.cost ≡ report.cost
  pub bound : d.bound ≡ report.bound
  pub nodes : d.nodes ≡ s.finished
  pub blocks : blocks_of d.plan ≡ known_blocks (incumbent s)
  pub tree : Tree
  pub is_tree : IsTreeOf o.problem s tree
  pub shape : Tree
  pub renumbered : IsRenumbered (first_times (tables_named tree)) tree shape
  pub rows_are : d.shape.items ≡ preorder shape
  pub tables : map prices_of d.tables.items
      ≡ map (λ n. slice_index_or s.tables n no_prices) (first_times (tables_named tree))
