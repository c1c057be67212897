use Rattle.std.proofs.Common.{arith, sym, ◌∙◌}
use Rattle.std.proofs.lemmas.Bool.{false≢true}
use Rattle.vs_rows.proofs.CallerLemmas.{err_passes}
use Rattle.vs_trace.specs.Reading.{IsRefusalOf}
use Rattle.vs_trace.proofs.ReadThrough.{passes}
use Rattle.vs_trace.proofs.WholeReading.{all_read, behind_end, behind_the_head, no_trace, read_for}
use Rattle.vs_trace.proofs.reading.whole.read_rows.Goals as goal

pub returns-then-not-has_head-clause-refused : goal.returns-then-not-has_head-clause-refused
returns-then-not-has_head-clause-refused c =
    rw c.refusal.ensures
    (no_trace c.args.input.now (λ both. false≢true (sym c.if-not-has_head.true ∙ c.has_head.ensures.1 both)))

pub returns-in_err-budget-clause-refused : goal.returns-in_err-budget-clause-refused
returns-in_err-budget-clause-refused c =
    let both = c.has_head.ensures.0 c.if-not-has_head.false in
    err_passes _ (IsRefusalOf c.args.input.now) c.from_residual.ensures.1
    (behind_the_head c.args.input.now _ both.0 both.1 c.in_err-budget.ensures.refused)

pub returns-in_err-first-clause-refused : goal.returns-in_err-first-clause-refused
returns-in_err-first-clause-refused c =
    let both = c.has_head.ensures.0 c.if-not-has_head.false in
    err_passes _ (IsRefusalOf c.args.input.now) c.from_residual-in_err-first.ensures.1
    (behind_the_head c.args.input.now _ both.0 both.1
    (passes c.args.input.now _ c.in_ok-budget.ensures.found.reads.lead c.in_err-first.ensures.refused))

pub returns-in_err-steps-clause-refused : goal.returns-in_err-steps-clause-refused
returns-in_err-steps-clause-refused c =
    let both = c.has_head.ensures.0 c.if-not-has_head.false in
    err_passes _ (IsRefusalOf c.args.input.now) c.from_residual-in_err-steps.ensures.1
    (behind_the_head c.args.input.now _ both.0 both.1
    (passes c.args.input.now _ c.in_ok-budget.ensures.found.reads.lead
    (passes c.args.input.now _ c.in_ok-first.ensures.found.reads.lead c.in_err-steps.ensures.refused)))

pub returns-then-end-len-clause-refused : goal.returns-then-end-len-clause-refused
returns-then-end-len-clause-refused c =
    let both = c.has_head.ensures.0 c.if-not-has_head.false in
    rw c.refusal-then-end-len.ensures
    (behind_end c.args.input.now c.in_ok-first.at c.in_ok-steps.end c.in_ok-budget.budget c.in_ok-budget.workers
    c.in_ok-first.first c.in_ok-steps.steps.items both.0 both.1 c.in_ok-budget.ensures.found
    c.in_ok-first.ensures.found c.in_ok-steps.ensures.found (omega (arith, c.if-end-len.true, c.len.ensures)))

pub returns-clause-found : goal.returns-clause-found
returns-clause-found c =
    let both = c.has_head.ensures.0 c.if-not-has_head.false in
    all_read c.args.input.now _ c.in_ok-first.at c.in_ok-steps.end both.0 both.1 c.in_ok-budget.ensures.found
    c.in_ok-first.ensures.found c.in_ok-steps.ensures.found (omega (arith, c.if-end-len.false, c.len.ensures))

pub returns-clause-read_for : goal.returns-clause-read_for
returns-clause-read_for c =
    let both = c.has_head.ensures.0 c.if-not-has_head.false in
    read_for c.args.input.now _ c.in_ok-first.at c.in_ok-steps.end both.0 both.1 c.in_ok-budget.ensures.found
    c.in_ok-first.ensures.found c.in_ok-steps.ensures.found (omega (arith, c.if-end-len.false, c.len.ensures))
    c.requires
