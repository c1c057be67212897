use Rattle.std.proofs.Common.{◌≡◌, [], sym, ap, ◌∙◌, Some, arith, ◌<◌, length}
use Rattle.std.proofs.lemmas.Option.{slice_get-get_or}
use Rattle.std.proofs.lemmas.Slice.Eq.{bytes_eq-Decides}
use Rattle.vs_reader.proofs.name_list.NameList.find_near.Goals as goal

pub returns-then-eq-clause-found : goal.returns-then-eq-clause-found
returns-then-eq-clause-found c =
    let same : c.get.result.now ≡ c.args.name.now =
    (bytes_eq-Decides c.get.result.now c.args.name.now).0 (sym c.eq.ensures ∙ c.if-eq.true) in
    let within : c.args.guess < length c.args.self.now = omega (arith, c.len.ensures.count) in
    slice_get-get_or c.args.self.now c.args.guess [] within ∙ ap Some (sym c.get.ensures.name ∙ same)
