use Rattle.std.proofs.Common.{length, refl, sym, subst}
use Rattle.vs_types.specs.LayerSet.{Has}
use Rattle.vs_instance.specs.declared.trip.Trip.{Trip}
use Rattle.vs_instance.specs.Pieces.{in_piece, out_piece, trip_piece}
use Rattle.vs_instance.specs.Ways.{Permitted}
use Rattle.vs_instance.proofs.CallerLemmas.{in_payable, out_payable, trip_payable}
use Rattle.vs_multi.specs.Multipliers.{MayCostAlone}
use Rattle.vs_multi.proofs.OwnBlocks.{found_payable, own_cost_is, piece_found, sum_is, sum_limits}
use Rattle.vs_multi.proofs.starting.own_cost.Goals as goal

pub returns-clause-value : goal.returns-clause-value
returns-clause-value c =
    let permitted : Permitted c.args.instance.now c.args.l.0 c.args.i.0 =
    subst (λ (t : Trip). Has t.layers c.args.l.0) c.trip.ensures (c.if-not-has.ensures.0 refl) in
    own_cost_is c.args.instance.now c.args.l c.args.i c.layers.ensures.instance c.requires.layer c.requires.trip
    permitted c.in_ok-out.out c.trip_cost.result c.in_ok-back.back _ c.in_ok-out.ensures.value
    c.trip_cost.ensures.value c.in_ok-back.ensures.value
    (sum_is c.in_ok-out.out c.trip_cost.result c.in_ok-back.back c.in_ok-out.ensures.limit c.trip_cost.ensures.limit
    c.in_ok-back.ensures.limit)

pub returns-clause-limits : goal.returns-clause-limits
returns-clause-limits c =
    let p = c.args.instance.now in
    let inst = c.layers.ensures.instance in
    let trips = length p.trips in
    let there = piece_found c.in_ok-out.out (out_piece p c.args.l.0 c.args.i.0) c.in_ok-out.ensures.value in
    let home = piece_found c.in_ok-back.back (in_piece p c.args.l.0 c.args.i.0) c.in_ok-back.ensures.value in
    let out_all = found_payable trips c.in_ok-out.out there.0 there.2
    (out_payable p inst c.args.l.0 c.args.i.0 there.0 c.requires.layer there.1) in
    let trip_all = found_payable trips c.trip_cost.result (trip_piece p c.args.l.0 c.args.i.0) c.trip_cost.ensures.value
    (trip_payable p inst c.args.l.0 c.args.i.0 c.requires.layer c.requires.trip) in
    let back_all = found_payable trips c.in_ok-back.back home.0 home.2
    (in_payable p inst c.args.l.0 c.args.i.0 home.0 c.requires.layer home.1) in
    subst (MayCostAlone trips)
    (sym (sum_is c.in_ok-out.out c.trip_cost.result c.in_ok-back.back c.in_ok-out.ensures.limit
    c.trip_cost.ensures.limit c.in_ok-back.ensures.limit))
    (sum_limits trips c.in_ok-out.out c.trip_cost.result c.in_ok-back.back c.in_ok-out.ensures.limit
    c.trip_cost.ensures.limit c.in_ok-back.ensures.limit out_all trip_all back_all)
