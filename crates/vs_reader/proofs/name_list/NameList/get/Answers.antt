use Rattle.std.proofs.Common.{arith, ◌≡◌, ◌<◌, List, [], length, get_or, sym, ap, ◌∙◌, subst, Some}
use Rattle.std.specs.Prelude.{String}
use Rattle.std.specs.declared.alloc.Global.{Global}
use Rattle.std.specs.String.{string_bytes}
use Rattle.std.proofs.lemmas.List.{get_or-map, length-map}
use Rattle.std.proofs.lemmas.Option.{slice_get-get_or}
use Rattle.vs_reader.specs.Rows.{Field}
use Rattle.vs_reader.specs.NameRules.{AreNames}
use Rattle.vs_reader.proofs.naming.NameLemmas.{same_number}
use Rattle.vs_reader.proofs.name_list.NameList.get.Goals as goal

pub returns-clause-name : goal.returns-clause-name
returns-clause-name c =
    let texts = c.self.inside.names.keys in
    let within : c.args.number < length texts =
    omega (
      arith,
      ap (λ (ns : List Field). length ns) c.self.view_is,
      length-map texts (λ (t : String Global). string_bytes t),
      c.requires,
    ) in
    c.as_str.ensures.value
    ∙ ap (λ (t : String Global). string_bytes t)
    (c.index-as_slice-number.is
    ∙ ap (λ ts. get_or ts c.args.number c.index-as_slice-number.result) c.as_slice.ensures.keys)
    ∙ sym (get_or-map string_bytes texts c.args.number c.index-as_slice-number.result [] within)
    ∙ ap (λ (ns : List Field). get_or ns c.args.number []) c.self.view_is

pub returns-clause-only : goal.returns-clause-only
returns-clause-only c = λ k at.
    let are : AreNames c.args.self.now = subst (λ (ns : List Field). AreNames ns) c.self.view_is c.self.invariant in
    let name : c.as_str.result.now ≡ get_or c.args.self.now c.args.number [] = returns-clause-name c in
    same_number c.args.self.now c.as_str.result.now k c.args.number are.apart at
    (slice_get-get_or c.args.self.now c.args.number [] c.requires ∙ ap Some (sym name))
