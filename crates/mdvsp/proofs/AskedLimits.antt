-- What words ask for keeps within the limits.
use Rattle.std.proofs.Common.{ℕ, List, [], ◌∷◌, sym, subst, arith}
use Rattle.std.proofs.lemmas.List.Elements.{All-head, All-tail}
use Rattle.vs_words.specs.declared.command.Command.{Command}
use Rattle.vs_words.specs.declared.command.Command.TheVariants as commands
use Rattle.vs_words.specs.declared.command.Effort.{Effort}
use Rattle.vs_words.specs.declared.command.Plain.TheVariants.{Check, Network, Blocks, Make, Peak, PeakCheck, Replay}
use Rattle.vs_words.specs.declared.command.Search.TheVariants.{Solve, Trial, Resume, Trace}
use Rattle.vs_words.specs.declared.words.Setting.{Setting}
use Rattle.vs_words.specs.declared.words.Setting.TheVariants.{Workers, Nodes, Seconds, Gap}
use Rattle.vs_words.specs.Words.{AreFurther, AreOptions, AskFor, GivenOption, HaveNumbers, IsNumberFor, IsWithinLimits, MayBeTaken, Word, default_effort, with_options, with_setting}

-- one option more
set_within : (setting : Setting) (word : Word) (n : ℕ) (effort : Effort) → MayBeTaken effort
    → IsNumberFor setting word n → MayBeTaken (with_setting setting effort n)
set_within Workers word n effort may is = (is.many, is.number.few, may.2, may.3, may.4)
set_within Nodes word n effort may is = (may.0, may.1, is.number.few, may.3, may.4)
set_within Seconds word n effort may is = (may.0, may.1, may.2, (is.many, is.number.few), may.4)
set_within Gap word n effort may is = (may.0, may.1, may.2, may.3, is.number.few)

abbrev HasNumber : GivenOption → Type 0
HasNumber o = IsNumberFor o.setting o.word o.n

options_within : (options : List GivenOption) (effort : Effort) → MayBeTaken effort → HaveNumbers options
    → MayBeTaken (with_options effort options)
options_within [] effort may have = may
options_within (o ∷ options) effort may have =
    options_within options (with_setting o.setting effort o.n)
    (set_within o.setting o.word o.n effort may (All-head HasNumber o options have))
    (All-tail HasNumber o options have)

default_within : MayBeTaken default_effort
default_within = (omega arith, omega arith, tt, tt, tt)

effort_within : (effort : Effort) (words : List Word) → AreOptions effort words → MayBeTaken effort
effort_within effort words are =
    subst MayBeTaken (sym are.effort_is) (options_within are.options default_effort default_within are.numbers)

further_within : (command : Command) (words : List Word) → AreFurther command words → IsWithinLimits command
further_within (commands.Search (Solve effort)) words are = effort_within effort words are
further_within (commands.Search (Trial n)) words are = are.2.few
further_within (commands.Search (Resume effort)) words are = effort_within effort words are
further_within (commands.Search (Trace effort)) words are = effort_within effort words are
further_within (commands.Plain Check) words are = tt
further_within (commands.Plain Network) words are = tt
further_within (commands.Plain Blocks) words are = tt
further_within (commands.Plain (Make n)) words are = are.2.few
further_within (commands.Plain Peak) words are = tt
further_within (commands.Plain PeakCheck) words are = tt
further_within (commands.Plain Replay) words are = tt

pub asked_within : (words : List Word) (command : Command) → AskFor words command → IsWithinLimits command
asked_within words command ask = further_within command ask.further ask.are_further
