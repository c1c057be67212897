-- How a run may end: with what was read, and what was written.
use Rattle.std.specs.Prelude.{◌≡◌, ℕ, ◌<◌, ◌≤◌, List, [], ◌∷◌, length, Option, ◌⊎◌}
use Rattle.vs_words.specs.declared.command.Command.{Command}
use Rattle.vs_words.specs.declared.command.Command.TheVariants as commands
use Rattle.vs_words.specs.declared.command.Plain.TheVariants.{Make}
use Rattle.vs_words.specs.declared.command.Search.TheVariants.{Trial}
use Rattle.vs_io.specs.Bytes.{Takes, TakesAll, Appends, AppendsPrefix}
use Rattle.vs_io.specs.Faults.{Rose}
use Rattle.vs_io.specs.declared.slurping.SlurpError.{SlurpError}
use Rattle.vs_io.specs.declared.slurping.SlurpError.TheVariants.{ReadFault, TooLong, Memory}
use Rattle.vs_reply.specs.declared.status.Status.{Status}
use Rattle.vs_reply.specs.declared.status.Status.TheVariants as status
use Rattle.vs_reader.specs.Rows.{Row, lines}
use Rattle.vs_words.specs.Words.{Word, AreBadAt, AskFor, AskToRead, Reads}
use Rattle.vs_reply.specs.RefusalRows.{words_row}
use Rattle.vs_reply.specs.Cases.{input_limit}
use Rattle.mdvsp.specs.Owed.{Owes}

-- bytes, where they are told
abbrev pub Told : Type 0
Told = Option (List ℕ)

-- no more bytes were taken than an input may have
abbrev pub TookFew : Told → Told → Type 0
TookFew left left_after = (gone : List ℕ) × Takes left left_after gone × (length gone ≤ input_limit)

-- more were
abbrev pub TookTooMany : Told → Told → Type 0
TookTooMany left left_after = (gone : List ℕ) × Takes left left_after gone × (input_limit < length gone)

-- nothing was read
abbrev pub ReadNone : Told → Told → List ℕ → Type 0
ReadNone left left_after bytes = (bytes ≡ []) × (left_after ≡ left)

-- a command reads all bytes that are left, of which there may be so many; `make` and `trial` read none
abbrev pub HasRead : Command → Told → Told → List ℕ → Type 0
HasRead (commands.Search (Trial n)) left left_after bytes = ReadNone left left_after bytes
HasRead (commands.Plain (Make n)) left left_after bytes = ReadNone left left_after bytes
HasRead _ left left_after bytes = TakesAll left left_after bytes × (length bytes ≤ input_limit)

-- why it couldn't, with the count of the source's faults before and after it
abbrev pub CouldNotRead : Command → Told → Told → ℕ → ℕ → SlurpError → Type 0
CouldNotRead command left left_after faults faults_after ReadFault =
    Rose faults faults_after × TookFew left left_after × Reads command
CouldNotRead command left left_after faults faults_after TooLong = TookTooMany left left_after × Reads command
CouldNotRead command left left_after faults faults_after Memory = TookFew left left_after

-- how a run ends that couldn't read
abbrev pub unread_status : SlurpError → Status
unread_status ReadFault = status.ReadFault
unread_status TooLong = status.TooLong
unread_status Memory = status.NoMemory

-- a run: its words, the bytes that the source has left before and after it, those that the sink has taken before and
-- after it, and both counts of
-- faults before and after it
pub record Run : Type 0 where
  pub words : List Word
  pub left : Told
  pub left_after : Told
  pub taken : Told
  pub taken_after : Told
  pub source_faults : ℕ
  pub source_faults_after : ℕ
  pub sink_faults : ℕ
  pub sink_faults_after : ℕ

-- the words ask for a command, and these rows are owed with this answer for what it read
pub record IsOwed (run : Run) (answer : Status) (rows : List Row) : Type 0 where
  pub command : Command
  pub asked : AskFor run.words command
  pub bytes : List ℕ
  pub read : HasRead command run.left run.left_after bytes
  pub owed : Owes command bytes answer rows

-- the words are wrong, and this row tells where
pub record IsTold (run : Run) (row : Row) : Type 0 where
  pub place : ℕ
  pub bad : AreBadAt run.words place
  pub row_is : row ≡ words_row place

-- nothing was written
abbrev pub Unwritten : Run → Type 0
Unwritten run = run.taken_after ≡ run.taken

-- the work was done, and the rows written that are owed with this answer
abbrev pub Answered : Run → Status → Type 0
Answered run answer = (rows : List Row) × IsOwed run answer rows × Appends run.taken run.taken_after (lines rows)

-- the words are wrong: where they are was written, and nothing read
abbrev pub Refused : Run → Type 0
Refused run =
    (row : Row) × IsTold run row × Appends run.taken run.taken_after (lines (row ∷ [])) × (run.left_after ≡ run.left)

-- writing failed, after a first part of the rows that are owed
abbrev pub BrokenOff : Run → Type 0
BrokenOff run =
    ((answer : Status) × (rows : List Row) × IsOwed run answer rows
    × AppendsPrefix run.taken run.taken_after (lines rows))
    ⊎ ((row : Row) × IsTold run row × AppendsPrefix run.taken run.taken_after (lines (row ∷ []))
    × (run.left_after ≡ run.left))

-- what is true of a run that ends with this status
abbrev pub Ends : Run → Status → Type 0
Ends run status.Done = Answered run status.Done
Ends run status.SaysNo = Answered run status.SaysNo
Ends run status.BadWords = Refused run
Ends run status.BadInput = Answered run status.BadInput
Ends run status.ReadFault =
    Rose run.source_faults run.source_faults_after × Unwritten run × TookFew run.left run.left_after
    × AskToRead run.words
Ends run status.WriteFault = Rose run.sink_faults run.sink_faults_after × BrokenOff run
Ends run status.NoMemory = Unwritten run × TookFew run.left run.left_after
Ends run status.TooLong = TookTooMany run.left run.left_after × Unwritten run × AskToRead run.words
Ends run status.Infeasible = Answered run status.Infeasible
Ends run status.StillOpen = Answered run status.StillOpen
