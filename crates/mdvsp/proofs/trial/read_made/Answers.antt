use Rattle.std.proofs.Common.{[], subst, sym}
use Rattle.vs_reader.specs.ReadErrors.{IsRefusedError}
use Rattle.vs_make.specs.Made.{made_names, made_problem}
use Rattle.mdvsp.proofs.owing.TrialOwed.{made_stands, whole_as_read}
use Rattle.mdvsp.proofs.trial.read_made.Goals as goal

pub returns-in-Ok : goal.returns-in-Ok
returns-in-Ok c =
    let timetable = c.in-Ok.timetable in
    whole_as_read c.args.made.now (made_problem c.args.n) timetable.instance (made_names c.args.n) timetable.names
    (made_stands c.args.n c.args.made.now c.requires.trips c.requires.made) c.in-Ok.ensures.found

pub unreachable-requires : goal.unreachable-requires
unreachable-requires c =
    let n = c.args.n in
    let whole = made_stands n c.args.made.now c.requires.trips c.requires.made in
    c.in-Err.ensures.none (subst IsRefusedError (sym c.in-Refused.is) tt) (made_problem n) (made_names n)
    whole.before [] whole.stands
