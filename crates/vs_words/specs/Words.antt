-- What words ask for, and at which word they are bad.
use Rattle.std.specs.Prelude.{◌≡◌, ◌≢◌, ℕ, ◌+◌, ◌-◌, ◌<◌, ◌≤◌, List, [], ◌∷◌, ◌++◌, length, map, take, All, codes, String, string_bytes, slice_index_or, Option, Result, MatchResult, Some, None, IfSome}
use Rattle.std.specs.Str.Parse.{digits_value}
use Rattle.std.specs.declared.alloc.Global.{Global}
use Rattle.vs_instance.specs.declared.limits.TheConstants.{MAX_TRIPS, USUAL_TRIPS}
use Rattle.vs_reader.specs.Numbers.{AreDigits}
use Rattle.vs_words.specs.declared.command.Command.{Command}
use Rattle.vs_words.specs.declared.command.Command.TheVariants as commands
use Rattle.vs_words.specs.declared.command.Effort.{Effort}
use Rattle.vs_words.specs.declared.command.Plain.{Plain}
use Rattle.vs_words.specs.declared.command.Plain.TheVariants.{Check, Network, Blocks, Make, Peak, PeakCheck, Replay}
use Rattle.vs_words.specs.declared.command.Search.{Search}
use Rattle.vs_words.specs.declared.command.Search.TheVariants.{Solve, Trial, Resume, Trace}
use Rattle.vs_words.specs.declared.words.BadWord.{BadWord}
use Rattle.vs_words.specs.declared.words.Counting.{Counting}
use Rattle.vs_words.specs.declared.words.Counting.TheVariants as counting
use Rattle.vs_words.specs.declared.words.Given.{Given}
use Rattle.vs_words.specs.declared.words.Searching.{Searching}
use Rattle.vs_words.specs.declared.words.Searching.TheVariants as searching
use Rattle.vs_words.specs.declared.words.Setting.{Setting}
use Rattle.vs_words.specs.declared.words.Setting.TheVariants.{Workers, Nodes, Seconds, Gap}

-- a word, as bytes
abbrev pub Word : Type 0
Word = List ℕ

-- the first word of each command
abbrev pub first_of_search : Search → Word
first_of_search (Solve effort) = codes "solve"
first_of_search (Trial n) = codes "trial"
first_of_search (Resume effort) = codes "resume"
first_of_search (Trace effort) = codes "trace"

abbrev pub first_of_plain : Plain → Word
first_of_plain Check = codes "check"
first_of_plain Network = codes "network"
first_of_plain Blocks = codes "blocks"
first_of_plain (Make n) = codes "make"
first_of_plain Peak = codes "peak"
first_of_plain PeakCheck = codes "peakcheck"
first_of_plain Replay = codes "replay"

abbrev pub command_name : Command → Word
command_name (commands.Search search) = first_of_search search
command_name (commands.Plain plain) = first_of_plain plain

-- the command of so many trips
abbrev pub counted : Counting → ℕ → Command
counted counting.Make n = commands.Plain (Make n)
counted counting.Trial n = commands.Search (Trial n)

-- the command of a search with this effort
abbrev pub searched : Searching → Effort → Command
searched searching.Solve effort = commands.Search (Solve effort)
searched searching.Resume effort = commands.Search (Resume effort)
searched searching.Trace effort = commands.Search (Trace effort)

-- 1 to so many digits, with leading zeros or without, that write n, which is no greater than `most`
pub record IsNumberUpTo (count most : ℕ) (word : Word) (n : ℕ) : Type 0 where
  pub digits : AreDigits word count
  pub value : n ≡ digits_value 10 word
  pub few : n ≤ most

-- the word that an option of a search begins with
abbrev pub setting_name : Setting → Word
setting_name Workers = codes "--workers"
setting_name Nodes = codes "--nodes"
setting_name Seconds = codes "--seconds"
setting_name Gap = codes "--gap"

-- the least number and the greatest one that the option takes: 1 to 64 workers, 0 to 100,000 nodes, 1 to 86,400
-- seconds, and a gap of 0 to 1,000,000 parts per million
abbrev pub least_of : Setting → ℕ
least_of Workers = 1
least_of Nodes = 0
least_of Seconds = 1
least_of Gap = 0

abbrev pub most_of : Setting → ℕ
most_of Workers = 64
most_of Nodes = 100000
most_of Seconds = 86400
most_of Gap = 1000000

-- how many digits its number has at most
abbrev pub digits_of : Setting → ℕ
digits_of Workers = 6
digits_of Nodes = 6
digits_of Seconds = 7
digits_of Gap = 7

-- few enough digits that write n, which is one of the option's numbers
pub record IsNumberFor (setting : Setting) (word : Word) (n : ℕ) : Type 0 where
  pub number : IsNumberUpTo (digits_of setting) (most_of setting) word n
  pub many : least_of setting ≤ n

-- the effort of a search where the words don't say: 4 workers, no number of nodes, and no limit of time or of the gap
abbrev pub default_effort : Effort
default_effort = record { workers = 4; nodes = None; seconds = None; gap = None }

-- the name of a search, whatever its effort
abbrev pub search_name : Searching → Word
search_name kind = command_name (searched kind default_effort)

-- the effort with the option's number in it
abbrev pub with_setting : Setting → Effort → ℕ → Effort
with_setting Workers effort n = record effort { workers = n }
with_setting Nodes effort n = record effort { nodes = Some n }
with_setting Seconds effort n = record effort { seconds = Some n }
with_setting Gap effort n = record effort { gap = Some n }

-- an option as it is given: the word behind its name writes this number
pub record GivenOption : Type 0 where
  pub setting : Setting
  pub word : Word
  pub n : ℕ

-- the words of options, one after the other
abbrev pub option_words : List GivenOption → List Word
option_words [] = []
option_words (o ∷ options) = setting_name o.setting ∷ o.word ∷ option_words options

-- each of them is given with one of its numbers
abbrev pub HaveNumbers : List GivenOption → Type 0
HaveNumbers options = All (λ o. IsNumberFor o.setting o.word o.n) options

-- and none is given twice
abbrev pub AreOnce : List GivenOption → Type 0
AreOnce [] = Unit {0}
AreOnce (o ∷ options) = All (λ other. other.setting ≢ o.setting) options × AreOnce options

-- the effort with their numbers in it
abbrev pub with_options : Effort → List GivenOption → Effort
with_options effort [] = effort
with_options effort (o ∷ options) = with_options (with_setting o.setting effort o.n) options

-- the options of a search, in any order, each once at most
pub record AreOptions (effort : Effort) (words : List Word) : Type 0 where
  pub options : List GivenOption
  pub words_are : words ≡ option_words options
  pub numbers : HaveNumbers options
  pub once : AreOnce options
  pub effort_is : effort ≡ with_options default_effort options

-- how many trips the command takes at most
abbrev pub most_trips : Counting → ℕ
most_trips counting.Make = MAX_TRIPS
most_trips counting.Trial = USUAL_TRIPS

-- one word, which writes how many trips, no more than the command takes
abbrev pub IsTripCount : Counting → ℕ → List Word → Type 0
IsTripCount kind n words = (count : Word) × (words ≡ count ∷ []) × IsNumberUpTo 6 (most_trips kind) count n

-- the words behind the first
abbrev pub AreFurther : Command → List Word → Type 0
AreFurther (commands.Search (Solve effort)) words = AreOptions effort words
AreFurther (commands.Search (Trial n)) words = IsTripCount counting.Trial n words
AreFurther (commands.Search (Resume effort)) words = AreOptions effort words
AreFurther (commands.Search (Trace effort)) words = AreOptions effort words
AreFurther (commands.Plain (Make n)) words = IsTripCount counting.Make n words
AreFurther (commands.Plain _) words = words ≡ []

-- the words ask for the command
pub record AskFor (words : List Word) (command : Command) : Type 0 where
  pub further : List Word
  pub words_are : words ≡ command_name command ∷ further
  pub are_further : AreFurther command further

-- they ask for some command
abbrev pub AreAccepted : List Word → Type 0
AreAccepted words = (command : Command) × AskFor words command

-- they would, with further words or none behind them
abbrev pub Begin : List Word → Type 0
Begin words = (more : List Word) × AreAccepted (words ++ more)

-- Word n, counted from 1, is the first bad one: the words before it begin those of some command, and with it they begin
-- none's. A word is missing where they begin some command's and are none's; it is one more than there are.
pub record AreBadAt (words : List Word) (n : ℕ) : Type 0 where
  pub some : 1 ≤ n
  pub within : n ≤ length words + 1
  pub before : Begin (take (n - 1) words)
  pub bad : n ≤ length words → ¬ (Begin (take n words))
  pub missing : n ≡ length words + 1 → ¬ (AreAccepted words)

-- the command that the words ask for, or the first bad one
abbrev pub Answers : List Word → Result Command BadWord → Type 0
Answers words result = MatchResult result (AskFor words) (λ bad. AreBadAt words bad.0)

-- the command takes no further words
abbrev pub IsAlone : Plain → Type 0
IsAlone (Make n) = ⊥
IsAlone _ = Unit {0}

-- a search may have so many workers and nodes, 1 to 64, and where a number of nodes is given, 100,000 at most; and,
-- where they are given, as many seconds, 1 to 86,400, and such a gap, 1,000,000 parts per million at most
abbrev pub MayBeTaken : Effort → Type 0
MayBeTaken effort = (1 ≤ effort.workers) × (effort.workers ≤ 64) × IfSome effort.nodes (λ n. n ≤ 100000)
    × IfSome effort.seconds (λ s. (1 ≤ s) × (s ≤ 86400)) × IfSome effort.gap (λ g. g ≤ 1000000)

-- no limit of time or of the gap is given
abbrev pub IsUnlimited : Effort → Type 0
IsUnlimited effort = (effort.seconds ≡ None) × (effort.gap ≡ None)

-- a search may have as much as the command asks for, and its instance as many trips
abbrev pub IsSearchWithin : Search → Type 0
IsSearchWithin (Solve effort) = MayBeTaken effort
IsSearchWithin (Trial n) = n ≤ USUAL_TRIPS
IsSearchWithin (Resume effort) = MayBeTaken effort
IsSearchWithin (Trace effort) = MayBeTaken effort

abbrev pub IsPlainWithin : Plain → Type 0
IsPlainWithin (Make n) = n ≤ MAX_TRIPS
IsPlainWithin _ = Unit {0}

abbrev pub IsWithinLimits : Command → Type 0
IsWithinLimits (commands.Search search) = IsSearchWithin search
IsWithinLimits (commands.Plain plain) = IsPlainWithin plain

-- the command takes input
abbrev pub Reads : Command → Type 0
Reads (commands.Search (Trial n)) = ⊥
Reads (commands.Plain (Make n)) = ⊥
Reads _ = Unit {0}

-- the words ask for a command that takes input
abbrev pub AskToRead : List Word → Type 0
AskToRead words = (command : Command) × AskFor words command × Reads command

-- the word at a place, counted from 0
pub record IsWordAt (words : List Word) (place : ℕ) (word : Word) : Type 0 where
  pub within : place < length words
  pub word_is : slice_index_or words place [] ≡ word

-- the number that was given for the option, if any
abbrev pub number_in : Setting → Given → Option ℕ
number_in Workers given = given.workers
number_in Nodes given = given.nodes
number_in Seconds given = given.seconds
number_in Gap given = given.gap

-- the same with the option's number
abbrev pub given_with : Setting → Given → ℕ → Given
given_with Workers given n = record given { workers = Some n }
given_with Nodes given n = record given { nodes = Some n }
given_with Seconds given n = record given { seconds = Some n }
given_with Gap given n = record given { gap = Some n }

-- no option was given
abbrev pub none_given : Given
none_given = record { workers = None; nodes = None; seconds = None; gap = None }

abbrev pub given_by : Given → List GivenOption → Given
given_by given [] = given
given_by given (o ∷ options) = given_by (given_with o.setting given o.n) options

-- the workers that were asked for, or 4
abbrev pub workers_in : Option ℕ → ℕ
workers_in None = 4
workers_in (Some n) = n

-- the effort of what was given
abbrev pub effort_of : Given → Effort
effort_of given = record {
  workers = workers_in given.workers;
  nodes = given.nodes;
  seconds = given.seconds;
  gap = given.gap;
}

-- the words before a place are the name of a search and options behind it, which give this
pub record AreOptionsTaken (kind : Searching) (words : List Word) (place : ℕ) (given : Given) : Type 0 where
  pub options : List GivenOption
  pub within : place ≤ length words
  pub words_are : take place words ≡ search_name kind ∷ option_words options
  pub numbers : HaveNumbers options
  pub once : AreOnce options
  pub given_is : given ≡ given_by none_given options

-- one option more was taken, or the words are bad there
abbrev pub TakesOption : Searching → List Word → ℕ → Result Given BadWord → Type 0
TakesOption kind words place result =
    MatchResult result (AreOptionsTaken kind words (place + 2)) (λ bad. AreBadAt words bad.0)

-- words as bytes
abbrev pub words_of : List (String Global) → List Word
words_of words = map string_bytes words
