-- What is owed for the same words and bytes is one thing.
use Rattle.std.proofs.Common.{◌≡◌, ℕ, List}
use Rattle.vs_reader.specs.Rows.{Row}
use Rattle.vs_reply.specs.declared.status.Status.{Status}
use Rattle.vs_reply.proofs.CallerLemmas.{one_made, one_of_blocks, one_of_check, one_of_network, one_of_peakcheck}
use Rattle.vs_replay.proofs.CallerLemmas.{one_of_replay}
use Rattle.vs_words.specs.declared.command.Command.{Command}
use Rattle.vs_words.specs.declared.command.Command.TheVariants as commands
use Rattle.vs_words.specs.declared.command.Plain.TheVariants.{Check, Network, Blocks, Make, Peak, PeakCheck, Replay}
use Rattle.mdvsp.specs.Laws.{IsDetermined}
use Rattle.mdvsp.specs.Owed.{Owes}

-- a command but `solve`, `trial`, `resume`, `trace` and `peak` is owed one status and one list of rows for what it read
pub one_answer : (command : Command) (bytes : List ℕ) (a b : Status) (r s : List Row) → IsDetermined command
    → Owes command bytes a r → Owes command bytes b s → (a ≡ b) × (r ≡ s)
one_answer (commands.Plain Check) bytes a b r s is x y = one_of_check bytes a b r s x y
one_answer (commands.Plain Network) bytes a b r s is x y = one_of_network bytes a b r s x y
one_answer (commands.Plain Blocks) bytes a b r s is x y = one_of_blocks bytes a b r s x y
one_answer (commands.Plain (Make n)) bytes a b r s is x y = one_made n a b r s x y
one_answer (commands.Plain PeakCheck) bytes a b r s is x y = one_of_peakcheck bytes a b r s x y
one_answer (commands.Plain Replay) bytes a b r s is x y = one_of_replay bytes a b r s x y
one_answer (commands.Plain Peak) bytes a b r s is x y = absurd is
one_answer (commands.Search search) bytes a b r s is x y = absurd is
