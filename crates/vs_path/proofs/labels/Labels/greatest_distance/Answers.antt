use Rattle.std.proofs.Common.{Option, subst, arith, refl, rules, SFits, w64, to_z}
use Rattle.std.proofs.lemmas.Int.{to_z-of_z}
use Rattle.vs_queue.specs.declared.node_table.Settled.{Settled}
use Rattle.vs_path.specs.Labels.{lists_of, settled_at}
use Rattle.vs_path.specs.Raising.{IsGreater}
use Rattle.vs_path.proofs.raised.RaisingUpTo.{greatest-all, greatest-more, greatest-none}
use Rattle.vs_path.proofs.labels.Labels.greatest_distance.Goals as goal

pub loop-v-init : goal.loop-v-init
loop-v-init c = greatest-none (lists_of c.args.self.now) _

pub loop-v-preserved : goal.loop-v-preserved
loop-v-preserved c =
    let l = lists_of c.args.self.now in
    let v = c.loop-v.v in
    let fits : SFits w64 c.greater-greatest.result = search rules in
    let P : Option Settled → Type 0 =
    λ o. IsGreater (to_z w64 c.loop-v.greatest-bits) o c.greater-greatest.result in
    simp to_z-of_z
    (greatest-more l v _ _ c.greater-greatest.result (settled_at l v) c.loop-v.invariant refl
    (subst P c.settled.ensures c.greater-greatest.ensures))

pub returns : goal.returns
returns c =
    let l = lists_of c.args.self.now in
    let fits : SFits w64 c.args.least = search rules in
    let upto = simp to_z-of_z at c.loop-v.invariant in
    greatest-all l c.loop-v.v c.args.least _ upto (omega (arith, c.len-v-end.ensures.settled, c.loop-v-test.false))
