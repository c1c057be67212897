-- What a worker that asks for a leaf is told.
use Rattle.std.specs.Prelude.{◌≡◌, ℕ, ◌+◌, ◌<◌, List, [], ◌∷◌, ◌++◌, ◌*◌, length, ◌⊎◌}
use Rattle.vs_types.specs.declared.layer_set.LayerSet.{LayerSet}
use Rattle.vs_instance.specs.Problem.{Problem}
use Rattle.vs_prices.specs.Bounds.{IsBelow}
use Rattle.vs_prices.specs.declared.bound.Bound.{Bound}
use Rattle.vs_prices.specs.declared.table.Table.{Table}
use Rattle.vs_tree.specs.declared.calls.Take.{Take}
use Rattle.vs_tree.specs.declared.calls.Take.TheVariants.{Node, Wait, Done, Spent}
use Rattle.vs_tree.specs.History as full
use Rattle.vs_tree.specs.History.{FullStep, Opening, State, IsFree, IsLeafWorth, IsNextLeaf, count_spots, is_held, known, prices_at, sets_at}
use Rattle.vs_tree.specs.Prices.{prices_of}

-- a free leaf leaves room for a plan cheaper than the incumbent
pub record IsWorkLeft (p : Problem) (s : State) : Type 0 where
  pub leaf : ℕ
  pub worth : Bound
  pub free : IsFree s leaf
  pub is_worth : IsLeafWorth p s leaf worth
  pub below : IsBelow worth (known s)

abbrev pub held_leaves : State → ℕ
held_leaves s = count_spots is_held s.places

-- the budget allows that one more leaf is worked on
abbrev pub IsRoomLeft : Opening → State → Type 0
IsRoomLeft o s = s.finished + held_leaves s < o.budget

-- the answer, by what the state has; and what stands in the buffers where a leaf was taken
abbrev pub IsTake : Opening → State → List LayerSet → Table → Take → Type 0
IsTake o s sets table (Node leaf cost) = IsRoomLeft o s × IsNextLeaf o.problem s leaf × (cost ≡ known s)
    × (sets ≡ sets_at s leaf) × (prices_of table ≡ prices_at s leaf)
IsTake o s sets table Wait = (0 < held_leaves s) × ¬ (IsRoomLeft o s × IsWorkLeft o.problem s)
IsTake o s sets table Done = (held_leaves s ≡ 0) × ¬ (IsWorkLeft o.problem s)
IsTake o s sets table Spent = (held_leaves s ≡ 0) × IsWorkLeft o.problem s × (s.finished ≡ o.budget)

-- a search is over: no leaf is held, and no free leaf leaves room for a cheaper plan, or the budget is spent
pub record IsOver (o : Opening) (s : State) : Type 0 where
  pub none_held : held_leaves s ≡ 0
  pub no_more : (¬ (IsWorkLeft o.problem s)) ⊎ (s.finished ≡ o.budget)

-- the steps that the answer adds
abbrev pub taking : ℕ → List FullStep → Take → List FullStep
taking worker steps (Node leaf cost) = steps ++ full.Took worker leaf ∷ []
taking worker steps Wait = steps
taking worker steps Done = steps
taking worker steps Spent = steps

-- a table with as many prices as one of the instance has
pub record IsSized (p : Problem) (table : Table) : Type 0 where
  pub into : length table.into.items ≡ length p.layers * length p.trips
  pub from : length table.from.items ≡ length p.layers * length p.trips
  pub fleet : length table.fleet.items ≡ length p.layers

-- where no leaf was taken, the buffers are as they were
abbrev pub AreBuffersKept : Take → List LayerSet → List LayerSet → Table → Table → Type 0
AreBuffersKept (Node leaf cost) sets new_sets table new_table = Unit {0}
AreBuffersKept Wait sets new_sets table new_table = (new_sets ≡ sets) × (new_table ≡ table)
AreBuffersKept Done sets new_sets table new_table = (new_sets ≡ sets) × (new_table ≡ table)
AreBuffersKept Spent sets new_sets table new_table = (new_sets ≡ sets) × (new_table ≡ table)
