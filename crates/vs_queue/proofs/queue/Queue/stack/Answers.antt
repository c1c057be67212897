use Rattle.std.proofs.Common.{◌≡◌, ◌∙◌, sym, ap, rules, SFits, w64, to_z}
use Rattle.std.proofs.lemmas.Int.{to_z-of_z}
use Rattle.vs_queue.proofs.queue.Queue.stack.Goals as goal

-- what is put onto the stack has the floor as its key
pub returns-then-key-self-clause-stacked : goal.returns-then-key-self-clause-stacked
returns-then-key-self-clause-stacked c =
    let now = c.args.self.now in
    let fits : SFits w64 now.floor = search rules in
    let same : c.args.key ≡ now.floor =
    sym (to_z-of_z w64 c.args.key c.ranges.key) ∙ ap (to_z w64) c.if-key-self.true ∙ to_z-of_z w64 now.floor fits in
    search rules
