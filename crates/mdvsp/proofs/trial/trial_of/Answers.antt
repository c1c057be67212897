use Rattle.std.proofs.Common.{ℕ, List, [], refl, sym, subst, ap}
use Rattle.vs_reader.proofs.CallerLemmas.{stands_counts}
use Rattle.vs_words.specs.Words.{IsUnlimited}
use Rattle.vs_words.specs.declared.command.Effort.{Effort}
use Rattle.mdvsp.specs.Answered.{AreWritten, IsReadOf}
use Rattle.mdvsp.proofs.owing.TrialOwed.{planned_written, trial_owed}
use Rattle.mdvsp.proofs.trial.trial_of.Goals as goal

pub plan-requires-clause-counts : goal.plan-requires-clause-counts
plan-requires-clause-counts g c lifetimes outlive =
    let timetable = c.in_ok-timetable.timetable in
    let whole = c.in_ok-timetable.ensures in
    stands_counts c.args.made.now timetable.instance timetable.names whole.before [] whole.stands

pub read_back-requires : goal.read_back-requires
read_back-requires g c =
    let timetable = c.in_ok-timetable.timetable in
    let whole = c.in_ok-timetable.ensures in
    subst (AreWritten c.args.made.now) (sym c.deref.ensures.value)
    (planned_written (IsUnlimited c.new-crew.result.gate.effort) c.new-crew.result.workers c.args.made.now
    timetable.instance timetable.names c.in_ok-planned.planned whole c.in_ok-planned.ensures)

pub returns : goal.returns
returns g c =
    let timetable = c.in_ok-timetable.timetable in
    let same = c.new-crew.ensures.effort in
    let unlimited : IsUnlimited c.new-crew.result.gate.effort =
    (ap (λ (effort : Effort). effort.seconds) same, ap (λ (effort : Effort). effort.gap) same) in
    trial_owed (IsUnlimited c.new-crew.result.gate.effort) c.new-crew.result.workers c.args.n c.args.made.now
    timetable.instance timetable.names c.in_ok-planned.planned _ c.in_ok-document.document unlimited
    c.new-crew.ensures.workers c.requires.made c.in_ok-timetable.ensures c.in_ok-planned.ensures
    (subst (λ (written : List ℕ). IsReadOf c.args.made.now written c.in_ok-document.document) c.deref.ensures.value
    c.in_ok-document.ensures) refl c.in_ok-text.ensures
