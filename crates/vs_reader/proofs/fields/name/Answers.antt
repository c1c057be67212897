use Rattle.std.specs.Str.{IsValidUpTo, valid_up_to}
use Rattle.vs_reader.proofs.naming.NameLemmas.{name_from_utf8}
use Rattle.vs_reader.proofs.fields.name.Goals as goal

pub returns : goal.returns
returns c =
    name_from_utf8
    (λ e. IsValidUpTo c.args.field.now (valid_up_to e)) c.args.field.now c.from_utf8.result c.ok.result
    (c.is_name.ensures.0 c.if-not-is_name.false) c.from_utf8.ensures.cases c.ok.ensures.value
