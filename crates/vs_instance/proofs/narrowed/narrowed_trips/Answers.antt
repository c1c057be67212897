use Rattle.std.proofs.Common.{◌≡◌, ◌++◌, [], ◌∷◌, length, map, sym, ap, ◌∙◌, arith}
use Rattle.std.specs.List.{range_with_len}
use Rattle.std.proofs.lemmas.List.FromFn.{map-range_with_len_more}
use Rattle.vs_instance.specs.Narrowed.{narrowed_trip}
use Rattle.vs_instance.proofs.narrowed.narrowed_trips.Goals as goal

pub loop-i-preserved : goal.loop-i-preserved
loop-i-preserved c =
    let i = c.loop-i.i in
    let each = narrowed_trip c.args.trips.now c.args.sets.now in
    let more = map-range_with_len_more each 0 i i (omega arith) in
    c.in_ok-push.ensures.items
    ∙ (λ k. c.loop-i.invariant k ++ c.with_layers.ensures k ∷ [])
    ∙ sym more

pub returns : goal.returns
returns c =
    let all : c.loop-i.i ≡ length c.args.trips.now = omega arith in
    c.loop-i.invariant
    ∙ ap (λ n. map (narrowed_trip c.args.trips.now c.args.sets.now) (range_with_len 0 n)) all
