use Rattle.std.proofs.Common.{length, arith}
use Rattle.vs_peakcheck.specs.PeakRefusals.{peaks}
use Rattle.vs_peakcheck.specs.Places.{AtLayer}
use Rattle.vs_peakcheck.specs.Reading.{IsRefusedAt, peak_said}
use Rattle.vs_rows.proofs.CallerLemmas.{err_passes, out_of_order}
use Rattle.vs_peakcheck.proofs.rows.OtherKinds.{no_end}
use Rattle.vs_peakcheck.proofs.rows.ReadLayers.{rows_behind_end}
use Rattle.vs_peakcheck.proofs.reading.text.read_end.Goals as goal

pub returns-in_err-said-clause-refused : goal.returns-in_err-said-clause-refused
returns-in_err-said-clause-refused c =
    let place = AtLayer (length c.args.input.now.instance.layers) in
    err_passes _ (IsRefusedAt c.args.input.now c.args.row place) c.from_residual.ensures.1
    (c.in_err-said.ensures.refused place (λ e. cc))

pub returns-in_default : goal.returns-in_default
returns-in_default c =
    let input = c.args.input.now in
    let s = c.in_ok-said.said in
    record {
      found = tt;
      refused = rw c.refusal.ensures
          (out_of_order peaks input c.args.row c.in_ok-said.ensures.within
          (AtLayer (length input.instance.layers)) (peak_said s) c.in_ok-said.ensures.says tt (λ e. cc)
          (no_end input c.args.row s c.requires.input c.in_ok-said.ensures.says c.in_default.not-End));
    }

pub returns-then-row-len-clause-refused : goal.returns-then-row-len-clause-refused
returns-then-row-len-clause-refused c =
    let says = rw c.in-End.is at c.in_ok-said.ensures.says in
    rw c.refusal-then-row-len.ensures
    (rows_behind_end c.args.input.now c.args.row (omega (arith, c.if-row-len.true, c.len.ensures)) says)
