use Rattle.mdvsp.proofs.owing.TrialOwed.{read_alike, read_holds}
use Rattle.mdvsp.proofs.trial.read_back.Goals as goal

pub returns : goal.returns
returns c = λ p names d is.
    let case = c.in_ok-case.case in
    read_alike c.args.made.now c.args.written.now p names d is case.input.instance case.input.names case.document
    c.in_ok-case.ensures.found

pub unreachable-requires : goal.unreachable-requires
unreachable-requires c =
    let case = c.in_ok-case.case in
    let written = c.requires in
    let holds = read_holds c.args.made.now c.args.written.now written.0 written.1 written.2 written.3
    case.input.instance case.input.names case.document c.in_ok-case.ensures.found in
    let yes = c.in_ok-check.ensures.holds.1 holds in
    cc (yes, c.in-No.is)
