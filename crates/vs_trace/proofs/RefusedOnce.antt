-- Rows are refused in one way, and rows that stand for a trace aren't.
use Rattle.std.proofs.Common.{◌≡◌, ℕ, ◌+◌, List, [], ◌∷◌, refl, sym, ◌∙◌, inl, inr}
use Rattle.vs_instance.specs.Problem.{Problem}
use Rattle.vs_reader.specs.Rows.{Row}
use Rattle.vs_reader.specs.Names.{NameLists}
use Rattle.vs_reader.specs.NameRules.{AreNames}
use Rattle.vs_rows.proofs.CallerLemmas.{AreClear, not_refused, once_from}
use Rattle.vs_trace.specs.TraceRows.{TraceRow}
use Rattle.vs_trace.specs.Traces.{TraceText}
use Rattle.vs_trace.specs.declared.trace.Trace.{Trace}
use Rattle.vs_trace.specs.declared.refused.TraceWhy.{TraceWhy}
use Rattle.vs_trace.specs.declared.refused.TraceError.{TraceError}
use Rattle.vs_trace.specs.declared.refused.TraceError.TheVariants as error
use Rattle.vs_trace.specs.Places.{AtOpening, Place}
use Rattle.vs_trace.specs.TraceRefusals.{AreRefused, IsRefusal, IsRefusedError, traces}
use Rattle.vs_trace.proofs.AcceptedRows.{behind_head, leads_text}
use Rattle.vs_trace.proofs.TellsOnce.{tells_once}

not_wrong : (place : Place) (said : TraceRow) (why : TraceWhy) → traces.IsRight place said
    → traces.IsWrong place said why → ⊥
not_wrong place said why right (inl (wrong, is)) = wrong right.0
not_wrong place said why right (inr (has, wrong, is)) = wrong right.1

wrong_once : (place : Place) (said : TraceRow) (why other : TraceWhy) → traces.IsWrong place said why
    → traces.IsWrong place said other → why ≡ other
wrong_once place said why other (inl (_, is)) (inl (_, is')) = is ∙ sym is'
wrong_once place said why other (inl (wrong, _)) (inr (has, _, _)) = absurd (wrong has)
wrong_once place said why other (inr (has, _, _)) (inl (wrong, _)) = absurd (wrong has)
wrong_once place said why other (inr (_, _, is)) (inr (_, _, is')) = is ∙ sym is'

module _ (p : Problem) (names : NameLists) (layers : AreNames names.layers) (trips : AreNames names.trips) where
  clear : AreClear traces p names
  clear = record {
    once = tells_once names layers trips;
    last = λ said. refl;
    not_wrong = not_wrong;
    one_reason = wrong_once;
  }

  pub trace_refused_once : (before : ℕ) (rows : List Row) (at to : ℕ) (why other : TraceWhy)
      → AreRefused p names before rows at why → AreRefused p names before rows to other → (at ≡ to) × (why ≡ other)
  trace_refused_once before [] at to why other a b = (a.0 ∙ sym b.0, a.1 ∙ sym b.1)
  trace_refused_once before (row ∷ rows) at to why other (inl a) (inl b) = (a.1 ∙ sym b.1, a.2 ∙ sym b.2)
  trace_refused_once before (row ∷ rows) at to why other (inl a) (inr b) = absurd (a.0 b.0)
  trace_refused_once before (row ∷ rows) at to why other (inr a) (inl b) = absurd (b.0 a.0)
  trace_refused_once before (row ∷ rows) at to why other (inr a) (inr b) =
      once_from traces p names clear rows (before + 1 + 1) AtOpening at to why other a.1 b.1

  -- rows that stand for a trace aren't refused
  pub trace_not_refused : (before : ℕ) (rows : List Row) (t : Trace) (at : ℕ) (why : TraceWhy)
      → TraceText p names rows t → AreRefused p names before rows at why → ⊥
  trace_not_refused before [] t at why text refused = text.rows_say
  trace_not_refused before (row ∷ rows) t at why text (inl (other, _, _)) = other text.rows_say.0
  trace_not_refused before (row ∷ rows) t at why text (inr (_, later)) =
      not_refused traces p names clear rows (behind_head p t) (before + 1 + 1) AtOpening at why text.rows_say.1
      (leads_text p t text.fits) later

  -- rows that are refused stand for no trace
  pub refusal_leaves_none : (before : ℕ) (rows : List Row) (e : TraceError) (t : Trace)
      → IsRefusal p names before rows e → IsRefusedError e → TraceText p names rows t → ⊥
  refusal_leaves_none before rows error.Memory t refused is text = is
  refusal_leaves_none before rows (error.Refused at why) t refused is text =
      trace_not_refused before rows t at why text refused
