-- How many leaves a search may work on.
use Rattle.std.specs.Prelude.{ℕ, ◌+◌, ◌-◌, ◌*◌, ◌/◌, ◌==◌, nat_lt, max, min, if◌then◌else◌, length, count_by, Option, Some, None}
use Rattle.vs_instance.specs.Problem.{Problem}
use Rattle.vs_rows.specs.declared.document.Document.{Document}
use Rattle.vs_resume.specs.Answers.{is_leaf}

-- how many entering prices a table has, and as many leaving ones
abbrev pub entries_of : Problem → ℕ
entries_of p = length p.trips * length p.layers

-- where no budget is given: 200, or as many as the tables of a search may have entries for, which are 3,000,000
abbrev pub default_budget : Problem → ℕ
default_budget p =
    if entries_of p == 0 then 200 else min 200 (3000000 / entries_of p)

-- the budget of so many nodes, which may be given; none where the tables would have too many entries
abbrev pub budget_of : Problem → Option ℕ → Option ℕ
budget_of p None = Some (default_budget p)
budget_of p (Some nodes) = if nat_lt 3000000 (entries_of p * max nodes 1) then None else Some nodes

-- how many leaves the tree of a document has
abbrev pub leaves_in : Document → ℕ
leaves_in d = count_by is_leaf d.shape.items

-- how many nodes a search that is carried on from a document with so many leaves may work on: where none are given 200,
-- or as many as the tables may have entries for beside those of its leaves, which are 6,000,000 together
abbrev pub resumed_nodes : Problem → ℕ → Option ℕ → ℕ
resumed_nodes p leaves None =
    if entries_of p == 0 then 200 else min 200 (6000000 / entries_of p - leaves)
resumed_nodes p leaves (Some nodes) = nodes

-- the budget of so many nodes; none where the tables would have too many entries
abbrev pub room_for : Problem → ℕ → ℕ → Option ℕ
room_for p leaves nodes =
    if nat_lt 6000000 (entries_of p * max (leaves + nodes) 1) then None else Some nodes

-- the budget with which a search is carried on from a document, where so many nodes are given; none where the tables
-- would have too many entries
abbrev pub resumed_budget : Problem → Document → Option ℕ → Option ℕ
resumed_budget p d nodes = room_for p (leaves_in d) (resumed_nodes p (leaves_in d) nodes)
