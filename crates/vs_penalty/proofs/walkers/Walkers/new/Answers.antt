use Rattle.std.proofs.Common.{List, sym, subst}
use Rattle.std.proofs.lemmas.List.Elements.{All-push}
use Rattle.vs_walk.specs.Walkers.{IsWalkerFor}
use Rattle.vs_penalty.specs.Seekers.{AreWalks}
use Rattle.vs_penalty.specs.declared.walkers.Walk.{Walk}
use Rattle.vs_penalty.proofs.walkers.Walkers.new.Goals as goal

pub loop-number-preserved : goal.loop-number-preserved
loop-number-preserved c =
    let p = c.args.case.now.instance.now in
    let one = c.in_ok-walker in
    subst (λ (walks : List Walk). AreWalks p walks) (sym c.in_ok-push.ensures.items)
    (All-push (λ walk. IsWalkerFor p walk.walker) c.loop-number.walks.items _ c.loop-number.invariant one.ensures)
