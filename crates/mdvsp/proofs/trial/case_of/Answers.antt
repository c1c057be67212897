use Rattle.std.proofs.Common.{◌++◌, ◌∙◌, List, ℕ, subst}
use Rattle.vs_reply.specs.Answered.{RefusesCase}
use Rattle.mdvsp.proofs.owing.TrialOwed.{not_refused}
use Rattle.mdvsp.proofs.trial.case_of.Goals as goal

pub unreachable-requires : goal.unreachable-requires
unreachable-requires c =
    let made = c.args.made.now in
    let written = c.args.written.now in
    let same = c.as_slice-text.ensures.value ∙ c.in_ok-bytes.ensures in
    let refused = subst (λ (bytes : List ℕ). RefusesCase bytes c.in-Err.error) same c.in-Err.ensures.refused in
    not_refused made written c.requires.0 c.requires.1 c.requires.2 c.requires.3 c.in-Refused._answer
    (subst (RefusesCase (made ++ written)) c.in-Refused.is refused)
