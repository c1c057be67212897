use Rattle.std.proofs.Common.{◌≡◌, length, arith}
use Rattle.vs_peak.proofs.ClaimedPeaks.{all_checked, all_hold, all_prove, no_peaks, one_more_peak}
use Rattle.vs_peak.proofs.claiming.peaks.Goals as goal

pub loop-l-init : goal.loop-l-init
loop-l-init c = no_peaks c.args.instance.now _ c.new-all.ensures.items

pub loop-l-preserved : goal.loop-l-preserved
loop-l-preserved c =
    one_more_peak c.args.instance.now c.loop-l.l c.loop-l.all.items _ c.claim_of.result c.loop-l.invariant
    c.claim_of.ensures c.in_ok-push.ensures.items

pub returns-clause-checked : goal.returns-clause-checked
returns-clause-checked c =
    let all : c.loop-l.l ≡ length c.args.instance.now.layers =
    omega (arith, c.loop-l-test.false, c.layers-l-end.ensures.count, c.loop-l.auto.l-end) in
    all_checked c.args.instance.now c.loop-l.l c.loop-l.all.items c.loop-l.invariant all

pub returns-clause-holds : goal.returns-clause-holds
returns-clause-holds c = all_hold c.args.instance.now c.loop-l.l c.loop-l.all.items c.loop-l.invariant

pub returns-clause-proves : goal.returns-clause-proves
returns-clause-proves c = all_prove c.args.instance.now c.loop-l.l c.loop-l.all.items c.loop-l.invariant
