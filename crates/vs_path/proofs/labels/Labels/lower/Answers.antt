use Rattle.std.proofs.Common.{refl, rules, SFits, w64}
use Rattle.std.proofs.lemmas.Int.{to_z-of_z}
use Rattle.vs_path.specs.Labels.{Lists, lists_of, lowered}
use Rattle.vs_path.proofs.labelling.Exploring.{lists-same}
use Rattle.vs_path.proofs.labels.Labels.lower.Goals as goal

pub returns-clause-lists : goal.returns-clause-lists
returns-clause-lists c =
    let fits : SFits w64 c.args.label = search rules in
    let waiting = simp to_z-of_z at c.lower.ensures.waiting in
    let new = c.lower.new.self in
    let l = lists_of c.args.self.now in
    let after : Lists =
    record { settled = new.settled; waiting = new.waiting; steps = new.steps; order = l.order } in
    lists-same after (lowered l c.args.node c.args.label c.args.step) c.lower.ensures.settled waiting
    c.lower.ensures.steps refl
