-- A leaf's new table is worth no less than 0, since its old one was.
use Rattle.std.proofs.Common.{ℕ, pos}
use Rattle.vs_prices.specs.Bounds.{IsNoLess}
use Rattle.vs_prices.specs.declared.bound.Bound.{Bound}
use Rattle.vs_prices.specs.declared.bound.Bound.TheVariants.{AtLeast}
use Rattle.vs_prices.proofs.CallerLemmas.{no_less-trans}
use Rattle.vs_tree.specs.Prices.{AreWorth, Prices, no_prices}
use Rattle.vs_tree.specs.History.{Opening, State, IsLeaf, MayGive, prices_at, sets_at, spot_at, table_of}
use Rattle.vs_tree.specs.Sound.{IsSound}
use Rattle.vs_tree.proofs.LawfulPrices.{lawful_worth}

pub new_worth : (o : Opening) (s : State) (leaf table : ℕ) (prices : Prices) → IsLeaf s leaf
    → MayGive o.problem s leaf table prices → IsSound o s → (worth : Bound)
    → AreWorth o.problem (sets_at s leaf) prices worth → IsNoLess worth (AtLeast (pos 0))
new_worth o s leaf table prices is_leaf gives sound worth is_worth =
    let old = sound.tables (table_of (spot_at s leaf)) no_prices (sound.numbers leaf is_leaf) in
    let before = lawful_worth o.problem (sets_at s leaf) (prices_at s leaf) old in
    no_less-trans worth before.0 (AtLeast (pos 0)) (gives.no_less worth before.0 is_worth before.1)
    (sound.worths leaf before.0 is_leaf before.1)
