-- Behind the records of its instance the trace text of a search has `replay` write a document of the search's state.
use Rattle.std.proofs.Common.{◌≡◌, ℕ, ◌<◌, ◌^◌, List, ◌++◌, length, take, refl, sym, ap, ◌∙◌, subst, inl, inr}
use Rattle.vs_instance.specs.Problem.{Problem}
use Rattle.vs_cert.specs.TreeText.{IsTextOf}
use Rattle.vs_document.proofs.CallerLemmas.{instance_names}
use Rattle.vs_reader.specs.NameRules.{AreNames}
use Rattle.vs_reader.specs.Names.{HaveCounts, NameLists}
use Rattle.vs_reader.specs.Rows.{Row, lines}
use Rattle.vs_reader.specs.Texts.{EndsInLine, HasRows, StandsFor}
use Rattle.vs_reader.proofs.CallerLemmas.{refused_none, stands_behind, stands_counts}
use Rattle.vs_replay.specs.Alike.{IsTold}
use Rattle.vs_replay.proofs.ToldSteps.{told_histories_come_back}
use Rattle.vs_replay.proofs.ComeBack.{comes_back}
use Rattle.vs_replay.proofs.OneReplay.{IsReplayOf, no_replay_of, not_refused, replay_of, too_large_for}
use Rattle.vs_replay.proofs.OneTrace.{tells_too}
use Rattle.vs_replay.proofs.PlainRows.{all_plain}
use Rattle.vs_replay.specs.Laws.{WrittenTracesReplay}
use Rattle.vs_replay.specs.Owed.{ReplayOwes}
use Rattle.vs_replay.specs.Room.{HasRoom}
use Rattle.vs_reply.specs.declared.status.Status.{Status}
use Rattle.vs_reply.specs.declared.status.Status.TheVariants as status
use Rattle.vs_trace.proofs.CallerLemmas.{traces_alike, written_traces_stand}
use Rattle.vs_trace.specs.Told.{Tells}
use Rattle.vs_trace.specs.TraceRows.{IsOpeningForm, trace_rows, trace_text}
use Rattle.vs_trace.specs.Traces.{TraceText, told_opening, told_steps}
use Rattle.vs_trace.specs.declared.trace.Trace.{Trace}
use Rattle.vs_tree.specs.History.{FullStep, IsHistory, Opening, state_of}
use Rattle.vs_tree.specs.Sound.{IsOpening}
use Rattle.vs_tree.specs.Takes.{held_leaves}

module _ (bytes read : List ℕ) (o : Opening) (steps : List FullStep) (names : NameLists) (before : ℕ) (rest : List Row)
    (text : StandsFor bytes o.problem names before rest) (has : HasRows read (take before text.rows))
    (ends : EndsInLine read) (opening : IsOpening o) (history : IsHistory o steps) (few : length steps < 2 ^ 63)
    (form : IsOpeningForm o.budget o.workers) (room : HasRoom o.problem o.budget)
    (none : held_leaves (state_of o steps) ≡ 0) where
  abbrev p : Problem
  p = o.problem

  abbrev written : List Row
  written = trace_text names o steps

  abbrev whole : List ℕ
  whole = read ++ lines written

  counts : HaveCounts p names
  counts = stands_counts bytes p names before rest text

  layers : AreNames names.layers
  layers = (instance_names bytes p names before rest text).layers

  trips : AreNames names.trips
  trips = (instance_names bytes p names before rest text).trips

  made : (t : Trace) × Tells o steps t × TraceText p names written t
  made = written_traces_stand o steps names opening history few form counts

  -- the bytes are read as the instance, and the rows of the trace behind it
  stands : StandsFor whole p names before written
  stands = stands_behind bytes read p names before rest written text has ends
      (all_plain names layers trips written (trace_rows (told_opening p made.0) (told_steps p made.0))
      made.2.rows_say) refl

  -- a trace for which the rows stand tells of the search
  tells : (t : Trace) → TraceText p names written t → IsTold o steps t
  tells t there = tells_too o steps made.0 t made.1
      (traces_alike p names layers trips written made.0 t made.2 there) made.2.fits there.fits

  has_room : (t : Trace) → TraceText p names written t → HasRoom p t.budget
  has_room t there =
      let budget : o.budget ≡ t.budget = ap (λ (x : Opening). x.budget) (sym (tells t there).opening) in
      subst (HasRoom p) budget room

  replayed : (rows : List Row) → IsReplayOf p names written rows → IsTextOf o (state_of o steps) names (lines rows)
  replayed rows is =
      let own = comes_back o steps is.trace names is.document opening history none (tells is.trace is.text)
      is.of_state in
      record {
        document = own.own;
        of_state = own.of_state;
        has_text = own.has_text is.has_text;
        bytes_are = ap lines (is.rows_are ∙ own.same);
      }

  pub answers : (answer : Status) (rows : List Row) → ReplayOwes whole answer rows
      → (answer ≡ status.Done) × IsTextOf o (state_of o steps) names (lines rows)
  answers status.Done rows owed = (refl, replayed rows (replay_of whole p names before written stands rows owed))
  answers status.SaysNo rows owed =
      let is = no_replay_of whole p names before written stands rows owed in
      absurd (is.fails (told_histories_come_back o steps is.trace opening history none (tells is.trace is.text)).0)
  answers status.BadInput rows (inl refusal) =
      absurd (refused_none whole refusal.refused p names before written refusal.is_refused stands)
  answers status.BadInput rows (inr (inl refusal)) =
      absurd (not_refused whole p names before written stands made.0 rows made.2 refusal)
  answers status.BadInput rows (inr (inr large)) =
      let is = too_large_for whole p names before written stands rows large in
      absurd (is.no_room (has_room is.trace is.text))
  answers _ rows owed = absurd owed

pub written_traces_replay : WrittenTracesReplay
written_traces_replay bytes read o steps names before rest text has ends opening history few form room none answer rows
    owed =
    answers bytes read o steps names before rest text has ends opening history few form room none answer rows owed
