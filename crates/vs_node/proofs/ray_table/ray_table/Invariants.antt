use Rattle.vs_node.specs.LayersDone.{AreNoPrices, AreSized}
use Rattle.vs_node.proofs.tables.RayTables.{IsRayOfFirst}
use Rattle.vs_node.proofs.ray_table.ray_table.Given as goal

abbrev pub invariant-loop-l : goal.invariant-loop-l
invariant-loop-l l = record {
  zeros : AreNoPrices l.zeros;
  sized : AreSized l.instance l.zeros;
  table : IsRayOfFirst l.instance l.short.0 l.prices l.zeros l.l l.table;
}
