use Rattle.std.proofs.Common.{arith}
use Rattle.std.proofs.lemmas.Int.{ints}
use Rattle.vs_connect.proofs.RestTimes.{leaves_in_time, times_found}
use Rattle.vs_connect.proofs.pieces.rest_times.Goals as goal

pub overflow_sub-result : goal.overflow_sub-result
overflow_sub-result c =
    leaves_in_time c.args.instance.now c.args.l c.args.i c.args.j c.trip-ended.result.now c.trip-next.result.now
    c.layer.result.now c.trip-ended.ensures c.trip-next.ensures c.layer.ensures c.in_ok-rest.rest c.in_ok-back.back
    c.in_ok-out.out c.in_ok-rest.ensures.value c.in_ok-back.ensures c.in_ok-out.ensures

pub returns : goal.returns
returns c =
    times_found c.args.instance.now c.args.l c.args.i c.args.j c.trip-ended.result.now c.trip-next.result.now
    c.layer.result.now c.trip-ended.ensures c.trip-next.ensures c.layer.ensures c.in_ok-rest.rest c.in_ok-back.back
    c.in_ok-out.out c.in_ok-rest.ensures.value c.in_ok-back.ensures c.in_ok-out.ensures
    c.in_ok-direct.direct c.in_ok-direct.ensures.value (omega (arith, ints, c.if-rest-direct.false))
