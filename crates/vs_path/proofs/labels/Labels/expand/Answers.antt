use Rattle.std.proofs.Common.{rules, SFits, w64}
use Rattle.std.proofs.lemmas.Int.{to_z-of_z}
use Rattle.vs_path.proofs.labels.Labels.expand.Goals as goal

pub returns-clause-relaxed : goal.returns-clause-relaxed
returns-clause-relaxed c =
    let fits : SFits w64 c.args.distance = search rules in
    let all = simp to_z-of_z at c.relax_from.ensures.relaxed in
    all.each
