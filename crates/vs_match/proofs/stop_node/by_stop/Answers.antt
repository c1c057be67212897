use Rattle.std.proofs.Common.{◌≡◌, ℕ, List, [], ◌∷◌, map, Bor, subst, arith}
use Rattle.std.proofs.lemmas.List.{map-append}
use Rattle.vs_match.specs.declared.stop_node.StopNode.{StopNode}
use Rattle.vs_match.specs.StopNodes.{AreByStop}
use Rattle.vs_match.proofs.events.ByStop.{by_stop-none, by_stop-more}
use Rattle.vs_match.proofs.stop_node.by_stop.Goals as goal

abbrev lists : List (Bor (List StopNode)) → List (List StopNode)
lists = map (λ g. g.now)

pub loop-stop-init : goal.loop-stop-init
loop-stop-init c = rw c.in_ok-groups.ensures.items (by_stop-none c.args.stop_nodes.now)

pub loop-stop-preserved : goal.loop-stop-preserved
loop-stop-preserved c =
    rw c.in_ok-push.ensures.items
    (rw (map-append (λ (g : Bor (List StopNode)). g.now) c.loop-stop.groups.items (c.at_stop.result ∷ []))
    (by_stop-more c.loop-stop.stop c.args.stop_nodes.now (lists c.loop-stop.groups.items) c.at_stop.result.now
    c.loop-stop.invariant (c.at_stop.ensures.same, c.at_stop.ensures.rising)))

pub returns : goal.returns
returns c =
    let all : c.loop-stop.stop ≡ c.args.stops = omega (arith, c.loop-stop.auto.stop-end, c.loop-stop-test.false) in
    subst (λ (n : ℕ). AreByStop n c.args.stop_nodes.now (lists c.loop-stop.groups.items)) all c.loop-stop.invariant
