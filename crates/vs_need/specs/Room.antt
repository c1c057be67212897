-- Room for what a pass finds, and what a pass may be asked for.
use Rattle.std.specs.Prelude.{◌≡◌, ℕ, ◌<◌, ◌≤◌, List, length}
use Rattle.vs_instance.specs.Problem.{Problem}
use Rattle.vs_match.specs.LayerGraph.{LayerGraph}
use Rattle.vs_prices.specs.declared.table.Table.{Table}
use Rattle.vs_prices.specs.Table.{Fits}
use Rattle.vs_need.specs.declared.scratch.Scratch.{Scratch}
use Rattle.vs_match.specs.LayerNets.{AreNets, net_at}

-- for each node of any of the nets, and for each of so many trips
pub record HasRoom (trips : ℕ) (nets : List LayerGraph) (s : Scratch) : Type 0 where
  pub values : (l : ℕ) → l < length nets → (net_at nets l).graph.nodes ≤ length s.values.items
  pub outs : length s.outs.items ≡ trips
  pub nexts : length s.nexts.items ≡ trips
  pub ins : length s.ins.items ≡ trips
  pub links : length s.links.items ≡ trips

-- the nets are those of an instance that the table fits, and there is room for what passes find
pub record CanJudge (p : Problem) (nets : List LayerGraph) (table : Table) (s : Scratch) : Type 0 where
  pub nets_are : AreNets p nets
  pub fits : Fits p table
  pub room : HasRoom (length p.trips) nets s

-- the same for a layer, with an entry for each trip
pub record CanNeed (p : Problem) (nets : List LayerGraph) (table : Table) (l : ℕ) (s : Scratch)
    (entries : ℕ) : Type 0 where
  pub can_judge : CanJudge p nets table s
  pub layer : l < length p.layers
  pub each_trip : entries ≡ length p.trips

-- the scratch is as it was but for what is found by node and in one list by trip
pub record IsKept (old new : Scratch) : Type 0 where
  pub values : length new.values.items ≡ length old.values.items
  pub outs : length new.outs.items ≡ length old.outs.items
  pub nexts : length new.nexts.items ≡ length old.nexts.items
  pub ins : length new.ins.items ≡ length old.ins.items
  pub links : length new.links.items ≡ length old.links.items

-- the same for one pass, with so many entries for nodes and for trips
pub record CanFind (p : Problem) (nets : List LayerGraph) (table : Table) (trips l values
    found : ℕ) : Type 0 where
  pub nets_are : AreNets p nets
  pub fits : Fits p table
  pub layer : l < length p.layers
  pub trips_are : trips ≡ length p.trips
  pub nodes : (net_at nets l).graph.nodes ≤ values
  pub entries : length p.trips ≤ found
