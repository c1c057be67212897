use Rattle.std.proofs.Common.{◌≡◌, ◌<◌, ◌∙◌, ◌+ℤ◌, ◌<ℤ◌, ℤ, ℕ, refl, sym, ap, subst, arith, rules, Some, SFits, w64, length, true, false}
use Rattle.std.proofs.lemmas.Int.{to_z-of_z}
use Rattle.vs_queue.specs.declared.step.Step.{Step}
use Rattle.vs_path.specs.Residual.{from_of, to_of}
use Rattle.vs_path.specs.LeastPaths.{LeastPaths, distance_at}
use Rattle.vs_path.specs.PathTree.{IsNoShorter, IsPathTree, paths_of, shortened, weight}
use Rattle.vs_path.proofs.labelling.Lowering.{read_at}
use Rattle.vs_path.proofs.correcting.Shortening.{lighter, no-shorter, shortened-tree, sum-fits}
use Rattle.vs_path.proofs.path_tree.PathTree.shorten.Goals as goal

-- what a node costs along the step fits
pub overflow_add-cost : goal.overflow_add-cost
overflow_add-cost c =
    let r = c.args.residual.now in
    let p = paths_of c.args.self.now in
    let s = c.args.step in
    let fits : SFits w64 c.in-Some.from = search rules in
    let fits_too : SFits w64 c.cost.result = search rules in
    let inside : c.from.result < length p.distances =
    omega (arith, c.from.ensures.of_net, c.requires.tree.size.distances) in
    let from : distance_at p (from_of r s) ≡ Some c.in-Some.from =
    ap (distance_at p) (sym c.from.ensures.node)
    ∙ read_at p.distances c.from.result c.index.result.now inside c.index.ensures ∙ c.in-Some.is in
    let label = c.in-Some.from +ℤ c.cost.result in
    let fits_sum : SFits w64 label =
    sum-fits r 0 p c.requires.tree c.requires.can (from_of r s) c.in-Some.from c.cost.result from c.cost.ensures.few in
    simp to_z-of_z fits_sum

-- the node costs no more as it is
pub returns-then-not-is_less-clause-corrected : goal.returns-then-not-is_less-clause-corrected
returns-then-not-is_less-clause-corrected c =
    let r = c.args.residual.now in
    let p = paths_of c.args.self.now in
    let s = c.args.step in
    let fits : SFits w64 c.in-Some.from = search rules in
    let fits_too : SFits w64 c.cost.result = search rules in
    let inside : c.from.result < length p.distances =
    omega (arith, c.from.ensures.of_net, c.requires.tree.size.distances) in
    let from : distance_at p (from_of r s) ≡ Some c.in-Some.from =
    ap (distance_at p) (sym c.from.ensures.node)
    ∙ read_at p.distances c.from.result c.index.result.now inside c.index.ensures ∙ c.in-Some.is in
    let label = c.in-Some.from +ℤ c.cost.result in
    let fits_sum : SFits w64 label =
    sum-fits r 0 p c.requires.tree c.requires.can (from_of r s) c.in-Some.from c.cost.result from c.cost.ensures.few in
    let inside_to : c.to-node.result < length p.distances =
    omega (arith, c.to-node.ensures.of_net, c.requires.tree.size.distances) in
    let known : distance_at p (to_of r s) ≡ c.index-known.result.now =
    ap (distance_at p) (sym c.to-node.ensures.node)
    ∙ read_at p.distances c.to-node.result c.index-known.result.now inside_to c.index-known.ensures in
    let sum = ap (λ (z : ℤ). c.in-Some.from +ℤ z) c.cost.ensures.cost in
    let to_less = simp to_z-of_z at c.is_less.ensures.1 in
    let worse : ((d : ℤ) → c.index-known.result.now ≡ Some d → label <ℤ d) → ⊥ =
    λ less. let wrong : false ≡ true = sym c.if-not-is_less.true ∙ to_less less in cc in
    let here = no-shorter r p s c.in-Some.from label c.index-known.result.now from sum known worse in
    (refl, λ t same. subst (λ (k : Step). IsNoShorter r p k) (sym same) here)

-- it costs less now
pub returns-clause-tree : goal.returns-clause-tree
returns-clause-tree c =
    let r = c.args.residual.now in
    let p = paths_of c.args.self.now in
    let s = c.args.step in
    let fits : SFits w64 c.in-Some.from = search rules in
    let fits_too : SFits w64 c.cost.result = search rules in
    let inside : c.from.result < length p.distances =
    omega (arith, c.from.ensures.of_net, c.requires.tree.size.distances) in
    let from : distance_at p (from_of r s) ≡ Some c.in-Some.from =
    ap (distance_at p) (sym c.from.ensures.node)
    ∙ read_at p.distances c.from.result c.index.result.now inside c.index.ensures ∙ c.in-Some.is in
    let label = c.in-Some.from +ℤ c.cost.result in
    let fits_sum : SFits w64 label =
    sum-fits r 0 p c.requires.tree c.requires.can (from_of r s) c.in-Some.from c.cost.result from c.cost.ensures.few in
    let inside_to : c.to-node.result < length p.distances =
    omega (arith, c.to-node.ensures.of_net, c.requires.tree.size.distances) in
    let known : distance_at p (to_of r s) ≡ c.index-known.result.now =
    ap (distance_at p) (sym c.to-node.ensures.node)
    ∙ read_at p.distances c.to-node.result c.index-known.result.now inside_to c.index-known.ensures in
    let sum = ap (λ (z : ℤ). c.in-Some.from +ℤ z) c.cost.ensures.cost in
    let is_open = c.is_open.ensures.0 c.if-not-is_open.false in
    let given_less = simp to_z-of_z at (c.is_less.ensures.0 c.if-not-is_less.false) in
    let less : (d : ℤ) → distance_at p (to_of r s) ≡ Some d → label <ℤ d = λ d is. given_less d (sym known ∙ is) in
    let inside_net : to_of r s < r.graph.nodes =
    subst (λ (v : ℕ). v < r.graph.nodes) c.to-node.ensures.node c.to-node.ensures.of_net in
    let given = simp to_z-of_z at c.give.ensures in
    let after : paths_of c.give.new.self ≡ shortened p (to_of r s) label s =
    given ∙ ap (λ (v : ℕ). shortened p v label s) c.to-node.ensures.node in
    subst (λ (q : LeastPaths). IsPathTree r 0 q) (sym after)
    (shortened-tree r 0 p c.requires.tree c.requires.can s is_open c.in-Some.from label from sum less inside_net)

pub returns-clause-corrected : goal.returns-clause-corrected
returns-clause-corrected c =
    let r = c.args.residual.now in
    let p = paths_of c.args.self.now in
    let s = c.args.step in
    let fits : SFits w64 c.in-Some.from = search rules in
    let fits_too : SFits w64 c.cost.result = search rules in
    let inside : c.from.result < length p.distances =
    omega (arith, c.from.ensures.of_net, c.requires.tree.size.distances) in
    let from : distance_at p (from_of r s) ≡ Some c.in-Some.from =
    ap (distance_at p) (sym c.from.ensures.node)
    ∙ read_at p.distances c.from.result c.index.result.now inside c.index.ensures ∙ c.in-Some.is in
    let label = c.in-Some.from +ℤ c.cost.result in
    let fits_sum : SFits w64 label =
    sum-fits r 0 p c.requires.tree c.requires.can (from_of r s) c.in-Some.from c.cost.result from c.cost.ensures.few in
    let inside_to : c.to-node.result < length p.distances =
    omega (arith, c.to-node.ensures.of_net, c.requires.tree.size.distances) in
    let known : distance_at p (to_of r s) ≡ c.index-known.result.now =
    ap (distance_at p) (sym c.to-node.ensures.node)
    ∙ read_at p.distances c.to-node.result c.index-known.result.now inside_to c.index-known.ensures in
    let sum = ap (λ (z : ℤ). c.in-Some.from +ℤ z) c.cost.ensures.cost in
    let is_open = c.is_open.ensures.0 c.if-not-is_open.false in
    let given_less = simp to_z-of_z at (c.is_less.ensures.0 c.if-not-is_less.false) in
    let less : (d : ℤ) → distance_at p (to_of r s) ≡ Some d → label <ℤ d = λ d is. given_less d (sym known ∙ is) in
    let inside_net : to_of r s < r.graph.nodes =
    subst (λ (v : ℕ). v < r.graph.nodes) c.to-node.ensures.node c.to-node.ensures.of_net in
    let given = simp to_z-of_z at c.give.ensures in
    let after : paths_of c.give.new.self ≡ shortened p (to_of r s) label s =
    given ∙ ap (λ (v : ℕ). shortened p v label s) c.to-node.ensures.node in
    subst (λ (q : LeastPaths). weight q < weight p) (sym after)
    (lighter r 0 p c.requires.tree c.requires.can s is_open c.in-Some.from label from sum less inside_net)
