use Rattle.std.proofs.Common.{ℕ, ◌+◌, List, sym, subst, take}
use Rattle.vs_ship.specs.Shipments.{IsSentAlong, GainAlong}
use Rattle.vs_ship.proofs.shipping.Carrying.{forward-<, back-<, sent-forward, sent-back, gain-forward, gain-back}
use Rattle.vs_ship.proofs.draining.carry.Goals as goal
use Rattle.vs_ship.proofs.draining.carry.Goals.{in-Forward, in-Back}

pub loop-step-preserved : goal.loop-step-preserved
loop-step-preserved c =
    let old = c.args.units.now in
    let now = c.loop-step.units in
    let path = c.args.path.now in
    let i = c.loop-step.step-index in
    let inv = c.loop-step.invariant in
    let within = c.loop-step-test.true in
    let Sent : List ℕ → Type 0 = λ units. IsSentAlong old units path (i + 1) in
    let Gain : List ℕ → Type 0 = λ units. GainAlong old units (take (i + 1) path) in
    elim c.match-step.branch [
      | in-Forward w ↦
          let k = w.in-Forward.k in
          let at = forward-< old now path i c.requires within inv.sent k w.in-Forward.is in
          record {
            sent = subst Sent (sym w.units-is) (sent-forward old now path i c.requires within inv.sent k
                w.in-Forward.is);
            gain = subst Gain (sym w.units-is) (gain-forward old now path i k within inv.sent.each_arc at.0 inv.gain
                w.in-Forward.is);
          }
      | in-Back w ↦
          let k = w.in-Back.k in
          let at = back-< old now path i c.requires within inv.sent k w.in-Back.is in
          record {
            sent = subst Sent (sym w.units-is) (sent-back old now path i c.requires within inv.sent k w.in-Back.is);
            gain = subst Gain (sym w.units-is) (gain-back old now path i k within inv.sent.each_arc at.0 inv.gain
                w.in-Back.is at.1);
          }
    ]
