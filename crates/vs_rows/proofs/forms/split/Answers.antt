use Rattle.std.proofs.Common.{arith, sym, ◌∙◌}
use Rattle.std.proofs.lemmas.Bool.{false≢true}
use Rattle.vs_rows.proofs.rows.SplitLayers.{split_says, split_begins, split_names}
use Rattle.vs_rows.proofs.forms.split.Goals as goal

pub returns-then-not-begins_as-clause-none : goal.returns-then-not-begins_as-clause-none
returns-then-not-begins_as-clause-none c = λ trip left says.
    false≢true (sym c.if-not-begins_as.true ∙ c.begins_as.ensures.1 (split_begins _ _ trip left says))

pub returns-in_err-left-clause-none : goal.returns-in_err-left-clause-none
returns-in_err-left-clause-none c =
    rw c.from_residual-in_err-left.ensures
    (λ trip left says. c.in_err-left.ensures.none left (split_names _ _ trip left says))

pub returns-clause-found : goal.returns-clause-found
returns-clause-found c =
    split_says _ _ c.in_ok-trip.trip c.in_ok-left.left _ (c.begins_as.ensures.0 c.if-not-begins_as.false)
    c.field.ensures c.in_ok-trip.ensures.found.1 c.in_ok-trip.ensures.found.0 c.in_ok-left.ensures.found
    (omega (arith, c.requires.input.counts.layers, c.layers-layers.ensures.instance.few_layers))
