use Rattle.std.proofs.Common.{sym, subst}
use Rattle.vs_tree.specs.Search.{state}
use Rattle.vs_crew.specs.Sharing.{HeldWhenLeft, IsIdle, Shared}
use Rattle.vs_crew.proofs.leaves.Finished.{still_idle}
use Rattle.vs_crew.proofs.shared_tree.SharedTree.stand.Goals as goal

pub returns : goal.returns
returns c = λ w left.
    let known = c.instance-instance.ensures in
    subst (λ (a : Shared). IsIdle w a.search.opening (state a.search)) c.self.view_is
    (still_idle c.self.inside.tree w known.opening known.history
    (subst (λ (a : Shared). HeldWhenLeft w (IsIdle w) a.search) (sym c.self.view_is) left))
