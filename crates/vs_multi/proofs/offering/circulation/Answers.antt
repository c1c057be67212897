use Rattle.std.proofs.lemmas.Result.{IfOk-weaker}
use Rattle.vs_multi.proofs.offering.circulation.Goals as goal

pub relaxed-requires : goal.relaxed-requires
relaxed-requires c =
    let case = c.args.case.now in
    record {
      of_layer = (
        case.instance.now,
        c.args.l,
        c.requires.case.nets.instance,
        c.requires.lawful,
        c.offer.ensures.lawful,
      );
    }

pub returns : goal.returns
returns c =
    let case = c.args.case.now in
    IfOk-weaker c.relaxed.result _ _
    (λ circ least. (
      c.offer.new.offers,
      c.offer.ensures.each,
      least case.instance.now c.args.l c.requires.case.nets.instance c.requires.lawful c.offer.ensures.lawful,
    )) c.relaxed.ensures.least
