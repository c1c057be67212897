use Rattle.std.proofs.Common.{◌∙◌, ap, sym, subst, arith, ◌<◌, ◌+◌, length}
use Rattle.std.proofs.lemmas.List.{get_or_default}
use Rattle.vs_prices.specs.Bounds.{IsBelow}
use Rattle.vs_prices.specs.declared.bound.Bound.{Bound}
use Rattle.vs_prices.specs.declared.bound.Bound.TheVariants.{NoPlan}
use Rattle.vs_tree.specs.History.{is_inner}
use Rattle.vs_tree.specs.Report.{IsOpenCount}
use Rattle.vs_tree.proofs.search.Reporting.{no_place_open, one_open, one_shut}
use Rattle.vs_tree.proofs.tree.open_leaves.Goals as goal
use Rattle.vs_tree.proofs.tree.open_leaves.Goals.{else-is_open, then-is_open}

pub loop-k-init : goal.loop-k-init
loop-k-init c = no_place_open c.args.places.now.places c.args.worths.now c.args.known

pub loop-k-preserved : goal.loop-k-preserved
loop-k-preserved c =
    let end = c.loop-k.auto.k-end in
    let inside : c.loop-k.k < length c.args.worths.now =
    omega (arith, end, c.loop-k-test.true, c.requires.sized, c.len-k-end.ensures, c.requires.few) in
    let same = get_or_default c.args.worths.now c.loop-k.k NoPlan _ inside in
    let Counts = IsOpenCount c.args.places.now.places c.args.worths.now c.args.known (c.loop-k.k + 1) in
    elim c.if-is_open.branch [
      | then-is_open w ↦
          let is = c.is_open.ensures.0 w.if-is_open.true in
          subst Counts (sym w.count-is)
          (one_open c.args.places.now.places c.args.worths.now c.args.known c.loop-k.k c.loop-k.count c.loop-k.invariant
          (ap is_inner (sym c.spot.ensures) ∙ is.0)
          (subst (λ (x : Bound). IsBelow x c.args.known) (sym same) is.1))
      | else-is_open w ↦
          subst Counts (sym w.count-is)
          (one_shut c.args.places.now.places c.args.worths.now c.args.known c.loop-k.k c.loop-k.count c.loop-k.invariant
          (λ leaf below.
          let yes = c.is_open.ensures.1
          (ap is_inner c.spot.ensures ∙ leaf, subst (λ (x : Bound). IsBelow x c.args.known) same below) in
          let none = w.if-is_open.false in
          absurd cc))
    ]
