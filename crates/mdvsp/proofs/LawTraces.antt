-- What `trace` owes has `replay` write the document of its search.
use Rattle.std.proofs.Common.{◌≡◌, ℕ, ◌<◌, ◌^◌, List, ◌++◌, length, take, sym, subst, arith}
use Rattle.vs_instance.specs.Problem.{Problem}
use Rattle.vs_reader.specs.Names.{NameLists}
use Rattle.vs_reader.specs.Rows.{Row, lines}
use Rattle.vs_reader.specs.Texts.{EndsInLine, HasRows, StandsFor}
use Rattle.vs_cert.specs.TreeText.{IsTextOf}
use Rattle.vs_replay.specs.Owed.{ReplayOwes}
use Rattle.vs_replay.specs.Room.{HasRoom}
use Rattle.vs_replay.proofs.CallerLemmas.{written_traces_replay}
use Rattle.vs_reply.specs.declared.status.Status.{Status}
use Rattle.vs_reply.specs.declared.status.Status.TheVariants.{Done}
use Rattle.vs_rows.specs.DocumentRows.{document_rows}
use Rattle.vs_trace.specs.TraceRows.{IsOpeningForm, trace_text}
use Rattle.vs_tree.specs.History.{FullStep, IsHistory, Opening, state_of}
use Rattle.vs_tree.specs.Sound.{IsOpening}
use Rattle.vs_tree.specs.Takes.{held_leaves}
use Rattle.vs_words.specs.Words.{IsUnlimited, MayBeTaken}
use Rattle.vs_words.specs.declared.command.Effort.{Effort}
use Rattle.mdvsp.specs.Laws.{WritesAnswer}
use Rattle.mdvsp.specs.Owed.{OwesTrace}
use Rattle.mdvsp.proofs.SearchAnswers.{search_answers, stopped_answers}
use Rattle.mdvsp.proofs.TraceRoom.{budget_few, budget_has_room}

-- what is answered for the trace text of a search
abbrev Answers : Opening → List FullStep → NameLists → Status → List Row → Type 0
Answers o steps names replayed others =
    (replayed ≡ Done) × IsTextOf o (state_of o steps) names (lines others)

module _ (bytes read : List ℕ) (o : Opening) (steps : List FullStep) (names : NameLists) (before : ℕ)
    (rest : List Row) (replayed : Status) (others : List Row) (opening : IsOpening o) (history : IsHistory o steps)
    (few : length steps < 2 ^ 63) (form : IsOpeningForm o.budget o.workers)
    (none : held_leaves (state_of o steps) ≡ 0) (ends : EndsInLine read)
    (owes : ReplayOwes (read ++ lines (trace_text names o steps)) replayed others) where
  -- the same of an instance that is the opening's
  replays : (text : StandsFor bytes o.problem names before rest) → HasRows read (take before text.rows)
      → HasRoom o.problem o.budget → Answers o steps names replayed others
  replays text has room =
      written_traces_replay bytes read o steps names before rest text has ends opening history few form room none
      replayed others owes

  pub replays_as : (p : Problem) → o.problem ≡ p → (text : StandsFor bytes p names before rest)
      → HasRows read (take before text.rows) → HasRoom p o.budget → Answers o steps names replayed others
  replays_as p same =
      subst (λ (x : Problem). (text : StandsFor bytes x names before rest) → HasRows read (take before text.rows)
      → HasRoom x o.budget → Answers o steps names replayed others) same replays

module _ (effort : Effort) (bytes read : List ℕ) (answer replayed : Status) (rows others : List Row)
    (owed : OwesTrace effort bytes answer rows) (limits : MayBeTaken effort)
    (has : HasRows read (take owed.text.before owed.text.instance.rows)) (ends : EndsInLine read)
    (owes : ReplayOwes (read ++ lines rows) replayed others) where
  abbrev o : Opening
  o = owed.opening

  -- the opening keeps within the limits of a trace
  form : IsOpeningForm o.budget o.workers
  form =
      let begins = owed.tells.made.begins in
      subst (λ (n : ℕ). IsOpeningForm n o.workers) (sym begins.budget)
      (subst (λ (w : ℕ). IsOpeningForm owed.budget w) (sym begins.workers) (record {
        few_leaves = budget_few owed.problem effort.nodes owed.budget limits.2 owed.budget_is;
        some_workers = omega (arith, limits.0);
        few_workers = limits.1;
      }))

  room : HasRoom owed.problem o.budget
  room =
      subst (HasRoom owed.problem) (sym owed.tells.made.begins.budget)
      (budget_has_room owed.problem effort.nodes owed.budget owed.text.instance.text.makes.instance owed.budget_is)

  answers : Answers o owed.steps owed.names replayed others
  answers =
      let made = owed.tells.made in
      replays_as bytes read o owed.steps owed.names owed.text.before owed.text.rest replayed others made.is_opening
      made.history owed.tells.few_steps form made.none_held ends
      (subst (λ (written : List Row). ReplayOwes (read ++ lines written) replayed others) owed.rows_are owes)
      owed.problem made.begins.problem owed.text.instance has room

  pub written_traces_answer : (replayed ≡ Done) × WritesAnswer (IsUnlimited effort) owed.problem owed.names
      owed.budget effort.workers owed.opening owed.steps others
  written_traces_answer =
      let is = answers.1 in
      let same = owed.tells.made.begins.problem in (
        answers.0,
        record {
          document = is.document;
          of_state = is.of_state;
          solves = stopped_answers owed.problem owed.budget effort.workers owed.opening owed.steps is.document
              owed.tells.made is.of_state is.has_text;
          whole = λ unlimited. search_answers owed.problem owed.budget effort.workers owed.opening owed.steps
              is.document (owed.whole unlimited).made is.of_state is.has_text;
          lines_are =
              subst (λ (x : Problem). lines others ≡ lines (document_rows x owed.names is.document)) same is.bytes_are;
        },
      )
