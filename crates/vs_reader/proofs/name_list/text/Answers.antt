use Rattle.vs_reader.proofs.naming.NameLemmas.{IsUtf8-name}
use Rattle.vs_reader.proofs.name_list.text.Goals as goal

pub unreachable-requires : goal.unreachable-requires
unreachable-requires c = (c.in_default.ensures.cases).0 (IsUtf8-name c.args.name.now c.requires.bytes)
