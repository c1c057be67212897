use Rattle.std.proofs.Common.{ℕ, List, inl}
use Rattle.vs_reader.specs.Rows.{Row}
use Rattle.mdvsp.specs.Laws.{MayBothBe}
use Rattle.mdvsp.specs.Owed.{Owes}
use Rattle.vs_words.specs.declared.command.Command.{Command}
use Rattle.vs_words.specs.declared.command.Command.TheVariants as commands
use Rattle.vs_words.specs.declared.command.Plain.TheVariants.{Check, Network, Blocks, Make, Peak, PeakCheck, Replay}
use Rattle.vs_words.specs.declared.command.Search.TheVariants.{Solve, Trial, Resume, Trace}
use Rattle.vs_reply.specs.declared.status.Status.{Status}
use Rattle.vs_peak.proofs.CallerLemmas.{one_peak_status}
use Rattle.vs_replay.proofs.CallerLemmas.{one_replay_status}
use Rattle.mdvsp.proofs.once.OneAnswer.{one_answer}
use Rattle.mdvsp.proofs.once.ResumeStatus.{resume_status}
use Rattle.mdvsp.proofs.once.SolveStatus.{solve_status, trial_status}
use Rattle.mdvsp.proofs.once.TraceStatus.{trace_status}
use Rattle.mdvsp.proofs.laws.one_status.Goals as goal

by_command : (command : Command) (bytes : List ℕ) (a b : Status) (r s : List Row) → Owes command bytes a r
    → Owes command bytes b s → MayBothBe a b
by_command (commands.Search (Solve effort)) bytes a b r s owed also = solve_status effort bytes a b r s owed also
by_command (commands.Search (Trial n)) bytes a b r s owed also = trial_status n a b r s owed also
by_command (commands.Search (Resume effort)) bytes a b r s owed also = resume_status effort bytes a b r s owed also
by_command (commands.Search (Trace effort)) bytes a b r s owed also = trace_status effort bytes a b r s owed also
by_command (commands.Plain Peak) bytes a b r s owed also = inl (one_peak_status bytes a b r s owed also)
by_command (commands.Plain Replay) bytes a b r s owed also = inl (one_replay_status bytes a b r s owed also)
by_command (commands.Plain Check) bytes a b r s owed also =
    inl (one_answer (commands.Plain Check) bytes a b r s tt owed also).0
by_command (commands.Plain Network) bytes a b r s owed also =
    inl (one_answer (commands.Plain Network) bytes a b r s tt owed also).0
by_command (commands.Plain Blocks) bytes a b r s owed also =
    inl (one_answer (commands.Plain Blocks) bytes a b r s tt owed also).0
by_command (commands.Plain (Make n)) bytes a b r s owed also =
    inl (one_answer (commands.Plain (Make n)) bytes a b r s tt owed also).0
by_command (commands.Plain PeakCheck) bytes a b r s owed also =
    inl (one_answer (commands.Plain PeakCheck) bytes a b r s tt owed also).0

pub returns : goal.returns
returns c = by_command
