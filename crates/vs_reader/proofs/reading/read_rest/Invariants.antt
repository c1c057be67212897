use Rattle.std.proofs.Common.{◌≡◌, ◌++◌, ◌<◌, ◌^◌, true, List, length}
use Rattle.vs_reader.specs.Rows.{Row}
use Rattle.vs_reader.specs.RowEnds.{weight_of}
use Rattle.vs_reader.specs.RowBuilding.{built, size_of, IsWhole}
use Rattle.vs_reader.specs.Left.{AreLeft, GivesNext}
use Rattle.vs_reader.proofs.reading.read_rest.Given as goal

abbrev pub invariant-loop-count : goal.invariant-loop-count
invariant-loop-count l = record {
  whole : IsWhole l.rest;
  size : size_of l.rest ≡ weight_of (built l.rest);
  few : weight_of (built l.rest) < 2 ^ 32;
  count : l._count ≡ length (built l.rest);
  rows : (rows : List Row) → GivesNext l.fn.records rows true → (left : List Row) × (rows ≡ built l.rest ++ left)
      × AreLeft l.records left;
}
