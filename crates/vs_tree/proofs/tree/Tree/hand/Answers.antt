use Rattle.std.proofs.Common.{◌≡◌, ◌∙◌, ◌<◌, ap, sym, subst, arith, length}
use Rattle.std.proofs.lemmas.List.{get_or_default}
use Rattle.vs_tree.specs.declared.calls.Hand.{Hand}
use Rattle.vs_tree.specs.declared.calls.Hand.TheVariants.{Gone}
use Rattle.vs_tree.specs.History.{state_of}
use Rattle.vs_tree.specs.Search.{IsHandOf, Search, hand_at, state}
use Rattle.vs_tree.proofs.search.Inside.{opening_of}
use Rattle.vs_tree.proofs.tree.Tree.hand.Goals as goal

pub index-requires : goal.index-requires
index-requires c =
    let i = c.self.inside in
    let workers = ap (λ (t : Search). t.opening.workers) c.self.view_is in
    omega (arith, workers, c.requires, i.hands.ok.0)

pub returns : goal.returns
returns c =
    let i = c.self.inside in
    let w = c.args.w in
    let workers = ap (λ (t : Search). t.opening.workers) c.self.view_is in
    let inside : w < length i.hands.items = omega (arith, workers, c.requires) in
    let at : hand_at i.hands.items w ≡ c.index.result.now =
    sym (c.index.ensures ∙ get_or_default i.hands.items w c.index.result.now Gone inside) in
    subst (λ (t : Search). IsHandOf (state t) w c.index.result.now) c.self.view_is
    (subst (λ (h : Hand). IsHandOf (state_of (opening_of i) i.log.steps) w h) at
    (c.self.invariant.parts.hands w inside))
