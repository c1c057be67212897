use Rattle.std.proofs.Common.{◌≡◌, length, sym, ap, ◌∙◌, subst}
use Rattle.vs_tree.specs.Search.{Search, state}
use Rattle.vs_crew.specs.Sharing.{NoneIsHeld}
use Rattle.test_meeting.proofs.Untouched.{same_search}
use Rattle.test_meeting.proofs.shared_out.Goals as goal

pub shared_again-again-requires : goal.shared_again-again-requires
shared_again-again-requires g c =
    let stood : c.steps_of-after.result ≡ c.steps_of-before.result = c.if-after-before.false in
    let long : length c.shared-tree.result.0.steps ≡ length c.args.tree.steps =
    sym c.steps_of-after.ensures ∙ stood ∙ c.steps_of-before.ensures in
    let same = same_search c.args.tree c.shared-tree.result.0 c.shared-tree.ensures long in (
      c.type_bounds.sync-R,
      (
        c.requires.nets,
        (
          ap (λ (s : Search). s.opening.problem) same ∙ c.requires.problem,
          (
            ap (λ (s : Search). s.opening.workers) same ∙ c.requires.workers,
            (
              subst (λ (s : Search). NoneIsHeld (state s)) (sym same) c.requires.none_held,
              ap (λ (s : Search). (state s).gone) same ∙ c.requires.none_gone,
            ),
          ),
        ),
      ),
    )
