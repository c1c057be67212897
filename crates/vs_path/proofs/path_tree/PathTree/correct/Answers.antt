use Rattle.std.proofs.Common.{◌<◌, Bool, subst}
use Rattle.vs_path.specs.Residual.{arc_no}
use Rattle.vs_path.specs.PathTree.{IsCorrected, paths_of}
use Rattle.vs_path.proofs.correcting.Corrected.{tree-least}
use Rattle.vs_path.proofs.path_tree.PathTree.correct.Goals as goal

-- no step is shorter any more
pub returns : goal.returns
returns c =
    let r = c.args.residual.now in
    let P : Bool → Type 0 =
    IsCorrected r (paths_of c.loop.self) (paths_of c.pass.new.self) (λ s. arc_no s < r.arcs) in
    let done = subst P c.loop-test.false c.pass.ensures.corrected in
    tree-least r 0 (paths_of c.pass.new.self) c.pass.ensures.tree (λ s is_open. done.1 s is_open.arc is_open)
