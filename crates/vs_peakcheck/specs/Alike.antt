-- Claims that say the same.
use Rattle.std.specs.Prelude.{◌≡◌, List}
use Rattle.std.specs.List.{AllZip}
use Rattle.vs_plan.specs.Blocks.{pairs_of}
use Rattle.vs_peakcheck.specs.declared.claimed.Claimed.{Claimed}

-- of a layer both claim the same count, the same blocks, and prices of one kind that are the same
pub record SaysTheSame (c d : Claimed) : Type 0 where
  pub count : c.count ≡ d.count
  pub blocks : pairs_of c.blocks.items ≡ pairs_of d.blocks.items
  pub ray : c.table.ray ≡ d.table.ray
  pub into : c.table.into.items ≡ d.table.into.items
  pub from : c.table.from.items ≡ d.table.from.items
  pub fleet : c.table.fleet.items ≡ d.table.fleet.items

-- layer by layer
abbrev pub AreAlike : List Claimed → List Claimed → Type 0
AreAlike claimed others = AllZip SaysTheSame claimed others
