-- What `replay` is owed is one thing.
use Rattle.std.proofs.Common.{◌≡◌, ℕ, List, [], ◌∷◌, refl, sym, ap, ◌∙◌, subst, inl, inr}
use Rattle.vs_instance.specs.Problem.{Problem}
use Rattle.vs_cert.specs.StateDocument.{IsDocumentOf}
use Rattle.vs_document.proofs.CallerLemmas.{instance_names}
use Rattle.vs_reader.specs.NameRules.{AreNames}
use Rattle.vs_reader.specs.Names.{NameLists}
use Rattle.vs_reader.specs.Rows.{Row}
use Rattle.vs_reader.specs.Texts.{StandsFor}
use Rattle.vs_reader.proofs.CallerLemmas.{one_reading, refused_none}
use Rattle.vs_replay.specs.Replays.{IsWrongAt, Replays}
use Rattle.vs_replay.proofs.ToldSteps.{told_histories_come_back}
use Rattle.vs_replay.proofs.ComeBack.{comes_back}
use Rattle.vs_replay.proofs.OneDocument.{one_document}
use Rattle.vs_replay.proofs.OneStep.{one_step}
use Rattle.vs_replay.proofs.OneTrace.{told_by_other}
use Rattle.vs_replay.specs.Owed.{LacksTrace, OwesNoReplay, OwesNotAStep, OwesReplayed, OwesTooLargeTrace, OwesTraceRefusal, ReplayOwes, told_state}
use Rattle.vs_replay.specs.ReplayRows.{not_a_step_row, trace_refusal_row}
use Rattle.vs_replay.specs.Room.{HasRoom}
use Rattle.vs_reply.proofs.CallerLemmas.{one_of_network}
use Rattle.vs_reply.specs.declared.status.Status.{Status}
use Rattle.vs_reply.specs.declared.status.Status.TheVariants as status
use Rattle.vs_rows.specs.DocumentRows.{document_rows}
use Rattle.vs_rows.specs.DocumentText.{HasText}
use Rattle.vs_rows.specs.declared.document.Document.{Document}
use Rattle.vs_trace.specs.Alike.{AreAlike}
use Rattle.vs_trace.specs.declared.refused.TraceWhy.{TraceWhy}
use Rattle.vs_trace.specs.TraceRefusals.{AreRefused}
use Rattle.vs_trace.proofs.CallerLemmas.{trace_not_refused, trace_refused_once, traces_alike}
use Rattle.vs_trace.specs.Traces.{TraceText, told_opening, told_steps}
use Rattle.vs_trace.specs.declared.trace.Trace.{Trace}
use Rattle.vs_tree.specs.Sound.{IsOpening}

-- what is owed for rows that stand behind an instance: a document of the state to which a trace replays
pub record IsReplayOf (p : Problem) (names : NameLists) (rest : List Row) (rows : List Row) : Type 0 where
  pub trace : Trace
  pub text : TraceText p names rest trace
  pub room : HasRoom p trace.budget
  pub replays : Replays p trace
  pub document : Document
  pub of_state : IsDocumentOf (told_opening p trace) (told_state p trace) document
  pub has_text : HasText p document
  pub rows_are : rows ≡ document_rows p names document

-- or a trace that doesn't replay, or one for which there is no room
pub record IsNoReplayOf (p : Problem) (names : NameLists) (rest : List Row) (rows : List Row) : Type 0 where
  pub trace : Trace
  pub text : TraceText p names rest trace
  pub room : HasRoom p trace.budget
  pub fails : ¬ (Replays p trace)
  pub step : ℕ
  pub wrong : IsWrongAt p trace step
  pub rows_are : rows ≡ not_a_step_row step ∷ []

pub record IsTooLargeFor (p : Problem) (names : NameLists) (rest : List Row) : Type 0 where
  pub trace : Trace
  pub text : TraceText p names rest trace
  pub no_room : ¬ (HasRoom p trace.budget)

module _ (bytes : List ℕ) (p : Problem) (names : NameLists) (before : ℕ) (rest : List Row)
    (stands : StandsFor bytes p names before rest) where
  layers : AreNames names.layers
  layers = (instance_names bytes p names before rest stands).layers

  trips : AreNames names.trips
  trips = (instance_names bytes p names before rest stands).trips

  -- whatever instance the bytes stand for, it is this one
  pub replay_of : (rows : List Row) → OwesReplayed bytes rows → IsReplayOf p names rest rows
  replay_of rows owed =
      let same = one_reading bytes p owed.problem names owed.names before owed.text.before rest owed.text.rest stands
      owed.text.instance in
      subst (λ (q : Problem). IsReplayOf q names rest rows) same.0
      (subst (λ (n : NameLists). IsReplayOf owed.problem n rest rows) same.1
      (subst (λ (r : List Row). IsReplayOf owed.problem owed.names r rows) same.3 (record {
        trace = owed.trace;
        text = owed.text.trace;
        room = owed.room;
        replays = owed.replays;
        document = owed.document;
        of_state = owed.of_state;
        has_text = owed.has_text;
        rows_are = owed.rows_are;
      })))

  pub no_replay_of : (rows : List Row) → OwesNotAStep bytes rows → IsNoReplayOf p names rest rows
  no_replay_of rows owed =
      let same = one_reading bytes p owed.problem names owed.names before owed.text.before rest owed.text.rest stands
      owed.text.instance in
      subst (λ (q : Problem). IsNoReplayOf q names rest rows) same.0
      (subst (λ (n : NameLists). IsNoReplayOf owed.problem n rest rows) same.1
      (subst (λ (r : List Row). IsNoReplayOf owed.problem owed.names r rows) same.3 (record {
        trace = owed.trace;
        text = owed.text.trace;
        room = owed.room;
        fails = owed.fails;
        step = owed.step;
        wrong = owed.wrong;
        rows_are = owed.rows_are;
      })))

  pub too_large_for : (rows : List Row) → OwesTooLargeTrace bytes rows → IsTooLargeFor p names rest
  too_large_for rows owed =
      let same = one_reading bytes p owed.problem names owed.names before owed.text.before rest owed.text.rest stands
      owed.text.instance in
      subst (λ (q : Problem). IsTooLargeFor q names rest) same.0
      (subst (λ (n : NameLists). IsTooLargeFor owed.problem n rest) same.1
      (subst (λ (r : List Row). IsTooLargeFor owed.problem owed.names r) same.3
      (record { trace = owed.trace; text = owed.text.trace; no_room = owed.no_room })))

  refused_here : (at : ℕ) (why : TraceWhy) → LacksTrace bytes at why → AreRefused p names before rest at why
  refused_here at why lacks =
      let same = one_reading bytes p lacks.problem names lacks.names before lacks.before rest lacks.rest stands
      lacks.instance in
      subst (λ (x : Problem). AreRefused x names before rest at why) same.0
      (subst (λ (x : NameLists). AreRefused lacks.problem x before rest at why) same.1
      (subst (λ (x : ℕ). AreRefused lacks.problem lacks.names x rest at why) same.2
      (subst (λ (x : List Row). AreRefused lacks.problem lacks.names lacks.before x at why) same.3 lacks.refused)))

  -- rows that stand for a trace aren't refused
  pub not_refused : (t : Trace) (rows : List Row) → TraceText p names rest t → OwesTraceRefusal bytes rows → ⊥
  not_refused t rows text refusal =
      trace_not_refused p names layers trips before rest t refusal.at refusal.why text
      (refused_here refusal.at refusal.why refusal.lacks)

  pub one_refused : (r s : List Row) → OwesTraceRefusal bytes r → OwesTraceRefusal bytes s → r ≡ s
  one_refused r s a b =
      let same = trace_refused_once p names layers trips before rest a.at b.at a.why b.why
      (refused_here a.at a.why a.lacks) (refused_here b.at b.why b.lacks) in
      a.rows_are ∙ ap (λ (n : ℕ). trace_refusal_row n a.why ∷ []) same.0
      ∙ ap (λ (w : TraceWhy). trace_refusal_row b.at w ∷ []) same.1 ∙ sym b.rows_are

  -- traces that the same rows stand for
  module _ (t u : Trace) (one : TraceText p names rest t) (other : TraceText p names rest u) where
    alike : AreAlike p t u
    alike = traces_alike p names layers trips rest t u one other

    pub also_room : HasRoom p t.budget → HasRoom p u.budget
    also_room room = subst (HasRoom p) alike.budget room

    -- the one replays where the other does
    pub also_replays : Replays p t → Replays p u
    also_replays replays =
        let opening : IsOpening (told_opening p t) =
        record { instance = stands.text.makes.instance; first = replays.first } in
        (told_histories_come_back (told_opening p t) (told_steps p t) u opening replays.history replays.none_held
        (told_by_other p t u alike one.fits other.fits)).0

    -- to states whose documents have the same rows
    one_replay_text : Replays p t → (d e : Document) → IsDocumentOf (told_opening p t) (told_state p t) d
        → IsDocumentOf (told_opening p u) (told_state p u) e → document_rows p names d ≡ document_rows p names e
    one_replay_text replays d e of_one of_other =
        let opening : IsOpening (told_opening p t) =
        record { instance = stands.text.makes.instance; first = replays.first } in
        let own = comes_back (told_opening p t) (told_steps p t) u names e opening replays.history replays.none_held
        (told_by_other p t u alike one.fits other.fits) of_other in
        one_document (told_opening p t) (told_state p t) names d own.own of_one own.of_state ∙ sym own.same

    -- or the same step may not come
    same_step : (n m : ℕ) → IsWrongAt p t n → IsWrongAt p u m → n ≡ m
    same_step n m a b =
        one_step p stands.text.makes.instance t u alike (traces_alike p names layers trips rest u t other one) one.fits
        other.fits n m a b

  pub one_replayed : (r s : List Row) → IsReplayOf p names rest r → IsReplayOf p names rest s → r ≡ s
  one_replayed r s a b =
      a.rows_are
      ∙ one_replay_text a.trace b.trace a.text b.text a.replays a.document b.document a.of_state b.of_state
      ∙ sym b.rows_are

  pub one_denied : (r s : List Row) → IsNoReplayOf p names rest r → IsNoReplayOf p names rest s → r ≡ s
  one_denied r s a b =
      a.rows_are
      ∙ ap (λ (n : ℕ). not_a_step_row n ∷ []) (same_step a.trace b.trace a.text b.text a.step b.step a.wrong b.wrong)
      ∙ sym b.rows_are

  -- a trace for which there is room is refused in no way
  pub never_refused : (t : Trace) (rows : List Row) → TraceText p names rest t → HasRoom p t.budget
      → OwesNoReplay bytes rows → ⊥
  never_refused t rows text room (inl refusal) =
      refused_none bytes refusal.refused p names before rest refusal.is_refused stands
  never_refused t rows text room (inr (inl refusal)) = not_refused t rows text refusal
  never_refused t rows text room (inr (inr large)) =
      let there = too_large_for rows large in
      there.no_room (also_room t there.trace text there.text room)

-- one that replays isn't said not to
replays_or_not : (bytes : List ℕ) (r s : List Row) → OwesReplayed bytes r → OwesNotAStep bytes s → ⊥
replays_or_not bytes r s owed denied =
    let text = owed.text in
    let there = no_replay_of bytes owed.problem owed.names text.before text.rest text.instance s denied in
    there.fails (also_replays bytes owed.problem owed.names text.before text.rest text.instance owed.trace there.trace
    text.trace there.text owed.replays)

replayed_or_refused : (bytes : List ℕ) (r s : List Row) → OwesReplayed bytes r → OwesNoReplay bytes s → ⊥
replayed_or_refused bytes r s owed refused =
    let text = owed.text in
    never_refused bytes owed.problem owed.names text.before text.rest text.instance owed.trace s text.trace owed.room
    refused

denied_or_refused : (bytes : List ℕ) (r s : List Row) → OwesNotAStep bytes r → OwesNoReplay bytes s → ⊥
denied_or_refused bytes r s owed refused =
    let text = owed.text in
    never_refused bytes owed.problem owed.names text.before text.rest text.instance owed.trace s text.trace owed.room
    refused

-- a text is refused in one way
one_refusal_row : (bytes : List ℕ) (r s : List Row) → OwesNoReplay bytes r → OwesNoReplay bytes s → r ≡ s
one_refusal_row bytes r s (inl a) (inl b) = (one_of_network bytes status.BadInput status.BadInput r s a b).1
one_refusal_row bytes r s (inl a) (inr (inl b)) =
    let lacks = b.lacks in
    absurd (refused_none bytes a.refused lacks.problem lacks.names lacks.before lacks.rest a.is_refused lacks.instance)
one_refusal_row bytes r s (inl a) (inr (inr b)) =
    absurd (refused_none bytes a.refused b.problem b.names b.text.before b.text.rest a.is_refused b.text.instance)
one_refusal_row bytes r s (inr (inl a)) (inl b) =
    let lacks = a.lacks in
    absurd (refused_none bytes b.refused lacks.problem lacks.names lacks.before lacks.rest b.is_refused lacks.instance)
one_refusal_row bytes r s (inr (inl a)) (inr (inl b)) =
    let lacks = a.lacks in
    one_refused bytes lacks.problem lacks.names lacks.before lacks.rest lacks.instance r s a b
one_refusal_row bytes r s (inr (inl a)) (inr (inr b)) =
    absurd (not_refused bytes b.problem b.names b.text.before b.text.rest b.text.instance b.trace r b.text.trace a)
one_refusal_row bytes r s (inr (inr a)) (inl b) =
    absurd (refused_none bytes b.refused a.problem a.names a.text.before a.text.rest b.is_refused a.text.instance)
one_refusal_row bytes r s (inr (inr a)) (inr (inl b)) =
    absurd (not_refused bytes a.problem a.names a.text.before a.text.rest a.text.instance a.trace s a.text.trace b)
one_refusal_row bytes r s (inr (inr a)) (inr (inr b)) = a.rows_are ∙ sym b.rows_are

-- so one status is owed, and one list of rows
pub one_of_replay : (bytes : List ℕ) (a b : Status) (r s : List Row) → ReplayOwes bytes a r → ReplayOwes bytes b s
    → (a ≡ b) × (r ≡ s)
one_of_replay bytes status.Done status.Done r s x y =
    let text = x.text in (
      refl,
      one_replayed bytes x.problem x.names text.before text.rest text.instance r s
          (replay_of bytes x.problem x.names text.before text.rest text.instance r x)
          (replay_of bytes x.problem x.names text.before text.rest text.instance s y),
    )
one_of_replay bytes status.SaysNo status.SaysNo r s x y =
    let text = x.text in (
      refl,
      one_denied bytes x.problem x.names text.before text.rest text.instance r s
          (no_replay_of bytes x.problem x.names text.before text.rest text.instance r x)
          (no_replay_of bytes x.problem x.names text.before text.rest text.instance s y),
    )
one_of_replay bytes status.BadInput status.BadInput r s x y = (refl, one_refusal_row bytes r s x y)
one_of_replay bytes status.Done status.SaysNo r s x y = absurd (replays_or_not bytes r s x y)
one_of_replay bytes status.SaysNo status.Done r s x y = absurd (replays_or_not bytes s r y x)
one_of_replay bytes status.Done status.BadInput r s x y = absurd (replayed_or_refused bytes r s x y)
one_of_replay bytes status.BadInput status.Done r s x y = absurd (replayed_or_refused bytes s r y x)
one_of_replay bytes status.SaysNo status.BadInput r s x y = absurd (denied_or_refused bytes r s x y)
one_of_replay bytes status.BadInput status.SaysNo r s x y = absurd (denied_or_refused bytes s r y x)
one_of_replay bytes status.Done _ r s x y = absurd y
one_of_replay bytes status.SaysNo _ r s x y = absurd y
one_of_replay bytes status.BadInput _ r s x y = absurd y
one_of_replay bytes _ b r s x y = absurd x

pub one_replay_status : (bytes : List ℕ) (a b : Status) (r s : List Row) → ReplayOwes bytes a r → ReplayOwes bytes b s
    → a ≡ b
one_replay_status bytes a b r s x y = (one_of_replay bytes a b r s x y).0
