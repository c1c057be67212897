use Rattle.std.proofs.Common.{arith, sym, ◌∙◌}
use Rattle.std.proofs.lemmas.Bool.{false≢true}
use Rattle.vs_trace.proofs.SplitForms.{split_kind, split_many, split_names, split_numbers, split_says}
use Rattle.vs_trace.proofs.reading.forms.split.Goals as goal
use Rattle.vs_trace.proofs.reading.forms.split.Goals.{then-fields-lt5-via-then-fields-lt5, then-fields-lt5-via-else-fields-lt5+then-not-is_text}

pub returns-then-fields-lt5-clause-none : goal.returns-then-fields-lt5-clause-none
returns-then-fields-lt5-clause-none c = λ worker spot trip left says. elim c.then-fields-lt5.branch [
  | then-fields-lt5-via-then-fields-lt5 w ↦
      omega (arith, split_many _ _ worker spot trip left says, w.if-fields-lt5.true, c.fields.ensures)
  | then-fields-lt5-via-else-fields-lt5+then-not-is_text w ↦
      false≢true (sym w.if-not-is_text.true
      ∙ w.is_text.ensures.1 (w.field.ensures ∙ split_kind _ _ worker spot trip left says))
]

pub returns-in_err-worker-clause-none : goal.returns-in_err-worker-clause-none
returns-in_err-worker-clause-none c =
    rw c.from_residual.ensures
    (λ worker spot trip left says.
    c.in_err-worker.ensures.none (worker, spot) (split_numbers _ _ worker spot trip left says))

pub returns-in_err-left-clause-none : goal.returns-in_err-left-clause-none
returns-in_err-left-clause-none c =
    rw c.from_residual-in_err-left.ensures
    (λ worker spot trip left says. c.in_err-left.ensures.none left (split_names _ _ worker spot trip left says))

pub returns-clause-found : goal.returns-clause-found
returns-clause-found c =
    split_says _ _ (c.in_ok-worker.worker, c.in_ok-worker.spot) c.in_ok-trip.trip c.in_ok-left.left _
    (omega (arith, c.if-fields-lt5.false, c.fields.ensures))
    (sym c.field.ensures ∙ c.is_text.ensures.0 c.if-not-is_text.false) c.in_ok-worker.ensures.found c.field-name.ensures
    c.in_ok-trip.ensures.found.1 c.in_ok-trip.ensures.found.0 c.in_ok-left.ensures.found
    (omega (arith, c.requires.input.counts.layers, c.layers-layers.ensures.instance.few_layers))
