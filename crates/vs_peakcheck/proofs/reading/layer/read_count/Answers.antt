use Rattle.vs_peakcheck.specs.PeakRefusals.{peaks}
use Rattle.vs_peakcheck.specs.PeakRows.{CountRow}
use Rattle.vs_peakcheck.specs.Places.{AtLayer}
use Rattle.vs_peakcheck.specs.Reading.{IsRefusedAt, peak_said}
use Rattle.vs_rows.proofs.CallerLemmas.{err_passes, out_of_order}
use Rattle.vs_peakcheck.proofs.rows.OtherKinds.{no_count_row}
use Rattle.vs_peakcheck.proofs.rows.ReadLayers.{count_of_another, count_read}
use Rattle.vs_peakcheck.proofs.reading.layer.read_count.Goals as goal

pub returns-in_err-said-clause-refused : goal.returns-in_err-said-clause-refused
returns-in_err-said-clause-refused c =
    err_passes _ (IsRefusedAt c.args.input.now c.args.row (AtLayer c.args.l.0)) c.from_residual.ensures.1
    (c.in_err-said.ensures.refused (AtLayer c.args.l.0) (λ e. cc))

pub returns-in_default : goal.returns-in_default
returns-in_default c =
    let input = c.args.input.now in
    let s = c.in_ok-said.said in
    record {
      found = tt;
      refused = rw c.refusal.ensures
          (out_of_order peaks input c.args.row c.in_ok-said.ensures.within (AtLayer c.args.l.0) (peak_said s)
          c.in_ok-said.ensures.says tt (λ e. cc)
          (no_count_row input.instance c.args.l.0 s c.requires.layer c.in_default.not-Count));
    }

pub returns-then-layer-l-clause-refused : goal.returns-then-layer-l-clause-refused
returns-then-layer-l-clause-refused c =
    let input = c.args.input.now in
    let says = rw c.in-Count.is at c.in_ok-said.ensures.says in
    rw c.refusal-then-layer-l.ensures
    (out_of_order peaks input c.args.row c.in_ok-said.ensures.within (AtLayer c.args.l.0)
    (CountRow c.in-Count.layer.0 c.in-Count.count) says tt (λ e. cc)
    (count_of_another input c.args.row c.args.l.0 c.in_ok-said.ensures.within c.in-Count.layer.0 c.in-Count.count says
    c.if-layer-l.true))

pub returns-clause-found : goal.returns-clause-found
returns-clause-found c =
    let says = rw c.in-Count.is at c.in_ok-said.ensures.says in
    count_read c.args.input.now c.args.row c.args.l.0 c.in_ok-said.ensures.within c.in-Count.layer.0 c.in-Count.count
    says c.if-layer-l.false
