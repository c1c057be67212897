-- What `replay` answers is owed.
use Rattle.std.proofs.Common.{◌≡◌, ℕ, List, [], ◌∷◌, Result, Ok, Err, inl, inr, refl, subst, IfOk}
use Rattle.vs_types.specs.declared.memory.Memory.{Memory}
use Rattle.vs_instance.specs.Problem.{Problem}
use Rattle.vs_check.proofs.CallerLemmas.{prove_their_claims}
use Rattle.vs_reader.specs.Names.{NameLists}
use Rattle.vs_reader.specs.Rows.{Row}
use Rattle.vs_reader.specs.Texts.{StandsFor}
use Rattle.vs_replay.specs.Replays.{Replays}
use Rattle.vs_reply.specs.Answered.{IsTextOf, RefusesText, TellsRow}
use Rattle.vs_reply.specs.declared.answer.Answer.{Answer}
use Rattle.vs_reply.specs.declared.status.Status.TheVariants as status
use Rattle.vs_reply.proofs.CallerLemmas.{owed_so}
use Rattle.vs_reply.specs.RefusalRows.{refusal_row, too_large_row}
use Rattle.vs_rows.specs.DocumentRows.{document_rows}
use Rattle.vs_trace.specs.TraceRefusals.{AreRefused}
use Rattle.vs_trace.specs.declared.refused.TraceWhy.{TraceWhy}
use Rattle.vs_trace.specs.Traces.{TraceText, told_opening, told_steps}
use Rattle.vs_trace.specs.declared.trace.Trace.{Trace}
use Rattle.vs_tree.specs.Search.{Search}
use Rattle.vs_replay.specs.Answered.{HasDocument, IsReplayed}
use Rattle.vs_replay.specs.Owed.{ReplayOwes, ReplayText}
use Rattle.vs_replay.specs.ReplayRows.{not_a_step_row, trace_refusal_row}
use Rattle.vs_replay.specs.Room.{HasRoom}

-- a text that is refused is owed its refusal
pub refusal_owed : (bytes : List ℕ) (r : Result Answer Memory) → IfOk r (RefusesText bytes)
    → IfOk r (IsTextOf (ReplayOwes bytes))
refusal_owed bytes (Ok a) says =
    owed_so (ReplayOwes bytes) a status.BadInput (refusal_row says.refused ∷ [])
    (inl (record { refused = says.refused; is_refused = says.is_refused; rows_are = refl })) says.status_is says.text_is
refusal_owed bytes (Err m) says = tt

-- and so is one behind whose instance no trace stands
pub trace_refusal_owed : (bytes : List ℕ) (p : Problem) (names : NameLists) (before : ℕ) (rest : List Row) (at : ℕ)
    (why : TraceWhy) (r : Result Answer Memory) → StandsFor bytes p names before rest
    → AreRefused p names before rest at why → IfOk r (TellsRow status.BadInput (trace_refusal_row at why))
    → IfOk r (IsTextOf (ReplayOwes bytes))
trace_refusal_owed bytes p names before rest at why (Ok a) stands refused says =
    owed_so (ReplayOwes bytes) a status.BadInput (trace_refusal_row at why ∷ []) (inr (inl (record {
      at = at;
      why = why;
      lacks = record {
        problem = p;
        names = names;
        before = before;
        rest = rest;
        instance = stands;
        refused = refused;
      };
      rows_are = refl;
    }))) says.0 says.1
trace_refusal_owed bytes p names before rest at why (Err m) stands refused says = tt

-- the document of the search that a trace tells is that of the state to which it replays
pub tells_document : (p : Problem) (names : NameLists) (t : Trace) (tree : Search) (r : Result Answer Memory)
    → HasRoom p t.budget
    → Replays p t × (tree ≡ record { opening = told_opening p t; steps = told_steps p t })
    → IfOk r (HasDocument tree names) → IfOk r (IsReplayed p names t)
tells_document p names t tree (Ok a) room is has =
    inr (inl (record {
      room = room;
      replays = is.0;
      has = subst (λ (s : Search). HasDocument s names a) is.1 has;
    }))
tells_document p names t tree (Err m) room is has = tt

-- what becomes of a trace is owed
replay_text : (bytes : List ℕ) (p : Problem) (names : NameLists) (t : Trace) (a : Answer)
    → ReplayText bytes p names t → IsReplayed p names t a → IsTextOf (ReplayOwes bytes) a
replay_text bytes p names t a text (inl large) =
    owed_so (ReplayOwes bytes) a status.BadInput (too_large_row ∷ []) (inr (inr (record {
      problem = p;
      names = names;
      trace = t;
      text = text;
      no_room = large.no_room;
      rows_are = refl;
    }))) large.tells.0 large.tells.1
replay_text bytes p names t a text (inr (inl told)) =
    let has = told.has in
    owed_so (ReplayOwes bytes) a status.Done (document_rows p names has.document) (record {
      problem = p;
      names = names;
      trace = t;
      text = text;
      room = told.room;
      replays = told.replays;
      document = has.document;
      of_state = has.of_state;
      has_text = has.has_text;
      holds = has.holds;
      proves = prove_their_claims p has.document text.instance.text.makes.instance has.holds;
      rows_are = refl;
    }) has.status_is has.text_is
replay_text bytes p names t a text (inr (inr told)) =
    owed_so (ReplayOwes bytes) a status.SaysNo (not_a_step_row told.step ∷ []) (record {
      problem = p;
      names = names;
      trace = t;
      text = text;
      room = told.room;
      fails = told.fails;
      step = told.step;
      wrong = told.wrong;
      rows_are = refl;
    }) told.tells.0 told.tells.1

pub replay_owed : (bytes : List ℕ) (p : Problem) (names : NameLists) (before : ℕ) (rest : List Row) (t : Trace)
    (r : Result Answer Memory) → StandsFor bytes p names before rest → TraceText p names rest t
    → IfOk r (IsReplayed p names t) → IfOk r (IsTextOf (ReplayOwes bytes))
replay_owed bytes p names before rest t (Ok a) stands trace is =
    replay_text bytes p names t a (record { before = before; rest = rest; instance = stands; trace = trace }) is
replay_owed bytes p names before rest t (Err m) stands trace is = tt
