use Rattle.std.proofs.Common.{◌≡◌, ◌+◌, ◌<◌, ◌≤◌, ℕ, List, length, ap, arith, subst}
use Rattle.std.specs.List.{SwappedAt}
use Rattle.vs_match.specs.LayerNets.{net_at}
use Rattle.vs_circ.specs.shipping.Ready.{CanRun}
use Rattle.vs_bundle.specs.Runs.{HasRun}
use Rattle.vs_bundle.proofs.Parts.{each_back, each_there, exchanged_back, layers_there}
use Rattle.vs_bundle.proofs.round.Round.+run_from.Goals as goal

pub run_from-requires : goal.run_from-requires
run_from-requires g t c κs within =
    let brought = c.bring-from.ensures in
    let here : c.args.k < length c.args.places.now = omega (arith, c.requires.place, c.if-k-places.false) in
    let ready =
    each_there (λ l kept. CanRun (net_at c.args.self.now.nets.now l) kept) c.args.places.now c.bring-from.new.places
    c.args.kept.now c.bring-from.new.kept c.args.k c.bring-from.result brought.places brought.kept brought.each_kept
    (omega (arith, c.requires.each, here)) (omega (arith, c.requires.each, brought.from)) c.requires.ready in
    let layers =
    layers_there (length c.args.self.now.nets.now) c.args.places.now c.bring-from.new.places c.args.k
    c.bring-from.result brought.places brought.each_place here brought.from c.requires.layers in
    let each : length c.bring-from.new.places ≡ length c.bring-from.new.kept =
    omega (arith, brought.each_place, brought.each_kept, c.requires.each) in
    let place : c.args.k + 1 ≤ length c.bring-from.new.places = omega (arith, brought.each_place, here) in (
      omega (arith, brought.each_place, here),
      (within, (c.requires.works, (each, (place, (layers, (c.requires.offers, ready)))))),
    )

pub returns-clause-places : goal.returns-clause-places
returns-clause-places g t c =
    exchanged_back c.args.places.now c.bring-from.new.places c.exchange.new.places c.args.k c.bring-from.result
    c.bring-from.ensures.places
    (subst (λ ps. SwappedAt ps c.exchange.new.places c.args.k c.bring-from.result) c.run_from.ensures.places
    c.exchange.ensures.places)
    (omega (
      arith,
      c.exchange.ensures.each_place,
      c.bring-from.ensures.each_place,
      ap (λ (ps : List ℕ). length ps) c.run_from.ensures.places,
    ))

pub returns-clause-run : goal.returns-clause-run
returns-clause-run g t c =
    each_back (λ l kept. HasRun (net_at c.args.self.now.nets.now l) c.args.self.now.offers.now l kept)
    c.args.places.now c.bring-from.new.places c.run_from.new.kept c.exchange.new.kept c.args.k c.bring-from.result
    c.bring-from.ensures.places c.exchange.ensures.kept c.exchange.ensures.each_kept
    (omega (
      arith,
      c.run_from.ensures.each,
      c.bring-from.ensures.each_kept,
      c.requires.each,
      c.requires.place,
      c.if-k-places.false,
    ))
    (omega (arith, c.run_from.ensures.each, c.bring-from.ensures.each_kept, c.requires.each, c.bring-from.ensures.from))
    c.run_from.ensures.run
