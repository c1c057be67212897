-- The table of a leaf in the worker's buffer.
use Rattle.std.proofs.Common.{◌≡◌, ℕ, sym, subst}
use Rattle.vs_prices.specs.declared.table.Table.{Table}
use Rattle.vs_tree.specs.History.{Opening, State, IsLeaf, prices_at, spot_at, table_of}
use Rattle.vs_tree.specs.Prices.{AreLawful, no_prices, prices_of}
use Rattle.vs_tree.specs.Sound.{IsSound}

-- the prices of a leaf are lawful
pub leaf_lawful : (o : Opening) (s : State) (leaf : ℕ) (t : Table) → IsSound o s → IsLeaf s leaf
    → prices_of t ≡ prices_at s leaf → AreLawful o.problem (prices_of t)
leaf_lawful o s leaf t sound is_leaf listed =
    let lawful : AreLawful o.problem (prices_at s leaf) =
    sound.tables (table_of (spot_at s leaf)) no_prices (sound.numbers leaf is_leaf) in
    subst (AreLawful o.problem) (sym listed) lawful
