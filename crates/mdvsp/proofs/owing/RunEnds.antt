-- How runs end, by what was answered and what was written.
use Rattle.std.proofs.Common.{◌≡◌, ℕ, inl, inr, ⊎_elim, List, [], ◌∷◌, ◌++◌, Some, None, Result, Ok, Err, ap, refl, sym, ◌∙◌, subst, arith, IfOk, append-nil}
use Rattle.std.specs.Option.{option_map}
use Rattle.vs_types.specs.declared.memory.Memory.{Memory}
use Rattle.vs_io.specs.Bytes.{Takes, TakesAll, Appends, AppendsPrefix}
use Rattle.vs_io.specs.declared.slurping.SlurpError.{SlurpError}
use Rattle.vs_io.specs.declared.slurping.SlurpError.TheVariants.{ReadFault, TooLong, Memory as NoRoom}
use Rattle.vs_reply.specs.declared.answer.Answer.{Answer}
use Rattle.vs_reply.specs.declared.status.Status.{Status}
use Rattle.vs_reply.specs.declared.status.Status.TheVariants.{Done, SaysNo, BadWords, BadInput, Infeasible, StillOpen}
use Rattle.vs_words.specs.declared.command.Command.{Command}
use Rattle.vs_words.specs.declared.command.Command.TheVariants as commands
use Rattle.vs_words.specs.declared.command.Plain.{Plain}
use Rattle.vs_words.specs.declared.command.Plain.TheVariants.{Check, Network, Blocks, Make, Peak, PeakCheck, Replay}
use Rattle.vs_words.specs.declared.command.Search.{Search}
use Rattle.vs_words.specs.declared.command.Search.TheVariants.{Solve, Trial, Resume, Trace}
use Rattle.mdvsp.specs.Answered.{IsOwedFor, IsSaid}
use Rattle.mdvsp.specs.Outcome.{Run, Told, Answered, CouldNotRead, Ends, HasRead, IsOwed, IsTold, TookFew, unread_status}
use Rattle.mdvsp.specs.Owed.{Owes, PlainOwes, SearchOwes}
use Rattle.vs_reader.specs.Rows.{Row, lines}
use Rattle.vs_words.specs.Words.{AreBadAt, AskFor}
use Rattle.vs_reply.specs.RefusalRows.{words_row}

-- what was owed for some command was written
search_ends : (run : Run) (search : Search) (bytes : List ℕ) (answer : Status) (rows : List Row)
    → SearchOwes search bytes answer rows → Answered run answer → Ends run answer
search_ends run (Solve effort) bytes Done rows o w = w
search_ends run (Solve effort) bytes BadInput rows o w = w
search_ends run (Solve effort) bytes Infeasible rows o w = w
search_ends run (Solve effort) bytes StillOpen rows o w = w
search_ends run (Solve effort) bytes _ rows o w = absurd o
search_ends run (Trial n) bytes Done rows o w = w
search_ends run (Trial n) bytes Infeasible rows o w = w
search_ends run (Trial n) bytes StillOpen rows o w = w
search_ends run (Trial n) bytes _ rows o w = absurd o
search_ends run (Resume effort) bytes Done rows o w = w
search_ends run (Resume effort) bytes SaysNo rows o w = w
search_ends run (Resume effort) bytes BadInput rows o w = w
search_ends run (Resume effort) bytes Infeasible rows o w = w
search_ends run (Resume effort) bytes StillOpen rows o w = w
search_ends run (Resume effort) bytes _ rows o w = absurd o
search_ends run (Trace effort) bytes Done rows o w = w
search_ends run (Trace effort) bytes BadInput rows o w = w
search_ends run (Trace effort) bytes Infeasible rows o w = w
search_ends run (Trace effort) bytes StillOpen rows o w = w
search_ends run (Trace effort) bytes _ rows o w = absurd o

plain_ends : (run : Run) (plain : Plain) (bytes : List ℕ) (answer : Status) (rows : List Row)
    → PlainOwes plain bytes answer rows → Answered run answer → Ends run answer
plain_ends run Check bytes Done rows o w = w
plain_ends run Check bytes SaysNo rows o w = w
plain_ends run Check bytes BadInput rows o w = w
plain_ends run Check bytes _ rows o w = absurd o
plain_ends run Network bytes Done rows o w = w
plain_ends run Network bytes BadInput rows o w = w
plain_ends run Network bytes _ rows o w = absurd o
plain_ends run Blocks bytes Done rows o w = w
plain_ends run Blocks bytes SaysNo rows o w = w
plain_ends run Blocks bytes BadInput rows o w = w
plain_ends run Blocks bytes _ rows o w = absurd o
plain_ends run (Make n) bytes Done rows o w = w
plain_ends run (Make n) bytes _ rows o w = absurd o
plain_ends run Peak bytes Done rows o w = w
plain_ends run Peak bytes BadInput rows o w = w
plain_ends run Peak bytes _ rows o w = absurd o
plain_ends run PeakCheck bytes Done rows o w = w
plain_ends run PeakCheck bytes SaysNo rows o w = w
plain_ends run PeakCheck bytes BadInput rows o w = w
plain_ends run PeakCheck bytes _ rows o w = absurd o
plain_ends run Replay bytes Done rows o w = w
plain_ends run Replay bytes SaysNo rows o w = w
plain_ends run Replay bytes BadInput rows o w = w
plain_ends run Replay bytes _ rows o w = absurd o

answered_ends : (run : Run) (command : Command) (bytes : List ℕ) (answer : Status) (rows : List Row)
    → Owes command bytes answer rows → Answered run answer → Ends run answer
answered_ends run (commands.Search search) bytes answer rows o w = search_ends run search bytes answer rows o w
answered_ends run (commands.Plain plain) bytes answer rows o w = plain_ends run plain bytes answer rows o w

ends_answered : (run : Run) (answer : Status) (rows : List Row) → IsOwed run answer rows
    → Appends run.taken run.taken_after (lines rows) → Ends run answer
ends_answered run answer rows o w = answered_ends run o.command o.bytes answer rows o.owed (rows, o, w)

-- all bytes that were left are gone
takes_all : (left left_after : Told) (bytes : List ℕ) → TakesAll left left_after bytes → Takes left left_after bytes
takes_all None left_after bytes h = ap (option_map (λ rest. bytes ++ rest)) (sym h.1)
takes_all (Some all) left_after bytes h =
    ap Some (h.0 ∙ sym (append-nil bytes)) ∙ ap (option_map (λ rest. bytes ++ rest)) (sym h.1)

takes_none : (left : Told) → Takes left left []
takes_none None = refl
takes_none (Some left) = refl

took_none : (left left_after : Told) → left_after ≡ left → TookFew left left_after
took_none left left_after same =
    ([], subst (λ (told : Told). Takes left told []) (sym same) (takes_none left), omega arith)

-- what a command read is gone, and isn't too much
took_few : (command : Command) (left left_after : Told) (bytes : List ℕ) → HasRead command left left_after bytes
    → TookFew left left_after
took_few (commands.Search (Trial n)) left left_after bytes h = took_none left left_after h.1
took_few (commands.Plain (Make n)) left left_after bytes h = took_none left left_after h.1
took_few (commands.Search (Solve effort)) left left_after bytes h = (bytes, takes_all left left_after bytes h.0, h.1)
took_few (commands.Search (Resume effort)) left left_after bytes h = (bytes, takes_all left left_after bytes h.0, h.1)
took_few (commands.Search (Trace effort)) left left_after bytes h = (bytes, takes_all left left_after bytes h.0, h.1)
took_few (commands.Plain Check) left left_after bytes h = (bytes, takes_all left left_after bytes h.0, h.1)
took_few (commands.Plain Network) left left_after bytes h = (bytes, takes_all left left_after bytes h.0, h.1)
took_few (commands.Plain Blocks) left left_after bytes h = (bytes, takes_all left left_after bytes h.0, h.1)
took_few (commands.Plain Peak) left left_after bytes h = (bytes, takes_all left left_after bytes h.0, h.1)
took_few (commands.Plain PeakCheck) left left_after bytes h = (bytes, takes_all left left_after bytes h.0, h.1)
took_few (commands.Plain Replay) left left_after bytes h = (bytes, takes_all left left_after bytes h.0, h.1)

-- a command's answer was said
pub command_ends : (run : Run) (command : Command) (bytes : List ℕ) (answer : Result Answer Memory) (said : Status)
    → AskFor run.words command → HasRead command run.left run.left_after bytes → IfOk answer (IsOwedFor command bytes)
    → IsSaid answer said run.taken run.taken_after run.sink_faults run.sink_faults_after → Ends run said
command_ends run command bytes (Err m) said asked read owed says =
    subst (Ends run) (sym says.0) (says.1, took_few command run.left run.left_after bytes read)
command_ends run command bytes (Ok a) said asked read owed says =
    let o : IsOwed run a.status owed.rows =
    record { command = command; asked = asked; bytes = bytes; read = read; owed = owed.owed } in
    ⊎_elim
    (λ s. subst (Ends run) (sym s.0)
    (ends_answered run a.status owed.rows o (subst (Appends run.taken run.taken_after) owed.text_is s.1)))
    (λ s. subst (Ends run) (sym s.0)
    (s.2, inl (a.status, owed.rows, o, subst (AppendsPrefix run.taken run.taken_after) owed.text_is s.1)))
    says

-- wrong words were told
pub wrong_words_end : (run : Run) (place : ℕ) (answer : Result Answer Memory) (said : Status)
    → run.left_after ≡ run.left → AreBadAt run.words place
    → IfOk answer (λ a. (a.status ≡ BadWords) × (a.text.items ≡ lines (words_row place ∷ [])))
    → IsSaid answer said run.taken run.taken_after run.sink_faults run.sink_faults_after → Ends run said
wrong_words_end run place (Err m) said same bad says said_so =
    subst (Ends run) (sym said_so.0)
    (said_so.1, took_none run.left run.left_after same)
wrong_words_end run place (Ok a) said same bad says said_so =
    let told : IsTold run (words_row place) = record { place = place; bad = bad; row_is = refl } in
    ⊎_elim
    (λ s. subst (Ends run) (sym (s.0 ∙ says.0))
    (words_row place, told, subst (Appends run.taken run.taken_after) says.1 s.1, same))
    (λ s. subst (Ends run) (sym s.0)
    (s.2, inr (words_row place, told, subst (AppendsPrefix run.taken run.taken_after) says.1 s.1, same)))
    said_so

-- the input couldn't be read
unread_so : (run : Run) (command : Command) (error : SlurpError) → AskFor run.words command
    → run.taken_after ≡ run.taken
    → CouldNotRead command run.left run.left_after run.source_faults run.source_faults_after error
    → Ends run (unread_status error)
unread_so run command ReadFault asked same could = (could.0, same, could.1, (command, asked, could.2))
unread_so run command TooLong asked same could = (could.0, same, (command, asked, could.1))
unread_so run command NoRoom asked same could = (same, could)

pub unread_ends : (run : Run) (command : Command) (error : SlurpError) (said : Status) → said ≡ unread_status error
    → AskFor run.words command → run.taken_after ≡ run.taken
    → CouldNotRead command run.left run.left_after run.source_faults run.source_faults_after error → Ends run said
unread_ends run command error said is asked same could =
    subst (Ends run) (sym is) (unread_so run command error asked same could)
