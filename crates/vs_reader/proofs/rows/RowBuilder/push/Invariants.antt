use Rattle.std.proofs.Common.{take}
use Rattle.csv.specs.Records.{fields_of}
use Rattle.vs_reader.proofs.places.RowBuilderLemmas.{HasFields}
use Rattle.vs_reader.proofs.rows.RowBuilder.push.Given as goal

abbrev pub invariant-loop-k : goal.invariant-loop-k
invariant-loop-k l = HasFields l.fn.self l.self (take l.k (fields_of l.row))
