use Rattle.std.proofs.Common.{◌+◌, ◌/◌, ◌∙◌, arith, length-set}
use Rattle.std.proofs.lemmas.List.{drop-set-lt, drop-set-add}
use Rattle.vs_tree.proofs.Matches.{played-leaf, played-more}
use Rattle.vs_tree.proofs.free_leaves.put.Goals as goal

pub loop-place-init : goal.loop-place-init
loop-place-init c =
    let t = c.requires.tournament in
    record {
      some = omega (arith, t.some);
      within = omega (arith, c.requires.spot);
      size = length-set c.args.entries.now _ _ ∙ t.size;
      played = played-leaf c.args.entries.now c.args.count (c.args.count + c.args.spot) c.args.entry (omega arith)
          t.played;
      leaves = drop-set-add c.args.count c.args.entries.now c.args.spot c.args.entry;
    }

pub loop-place-preserved : goal.loop-place-preserved
loop-place-preserved c =
    let inv = c.loop-place.invariant in
    record {
      some = omega arith;
      within = omega arith;
      size = length-set c.loop-place.entries _ _ ∙ inv.size;
      played = played-more c.loop-place.entries c.args.count (c.loop-place.place / 2) c.first_of.result
          (omega arith) (omega arith) inv.size c.first_of.ensures inv.played;
      leaves = drop-set-lt c.args.count c.loop-place.entries (c.loop-place.place / 2) c.first_of.result (omega arith)
          ∙ inv.leaves;
    }
