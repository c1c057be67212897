use Rattle.std.proofs.Common.{◌∙◌, List, ap, count_by}
use Rattle.vs_tree.specs.declared.calls.Hand.{Hand}
use Rattle.vs_tree.specs.Search.{Search, is_busy, state}
use Rattle.vs_tree.specs.Takes.{held_leaves}
use Rattle.vs_tree.proofs.tree.Tree.held.Goals as goal

pub returns : goal.returns
returns c =
    c.busy.ensures ∙ ap (λ (x : List Hand). count_by is_busy x) c.deref.ensures.value ∙ c.self.invariant.parts.busy
    ∙ ap (λ (t : Search). held_leaves (state t)) c.self.view_is
