-- The stops that a deadhead's record names.
use Rattle.std.specs.Prelude.{List, ◌++◌}
use Rattle.vs_reader.specs.declared.records.Ends.{Ends}
use Rattle.vs_reader.specs.Names.{NameLists, Names}
use Rattle.vs_reader.specs.Rows.{Row, field_of}
use Rattle.vs_reader.specs.Rules.{Rule, known_name}

abbrev pub ends_rules : NameLists → Row → List Rule
ends_rules names row = known_name names.stops (field_of row 1) ++ known_name names.stops (field_of row 2)

abbrev pub NamesEnds : NameLists → Row → Ends → Type 0
NamesEnds names row ends =
    Names names.stops (field_of row 1) ends.from.0 × Names names.stops (field_of row 2) ends.to.0
