use Rattle.std.proofs.Common.{◌<◌, ◌≤◌, ℕ, ap, sym, subst, refl, ◌∙◌, arith, length}
use Rattle.std.proofs.lemmas.Bool.{eqb-true, not-false}
use Rattle.std.proofs.lemmas.List.{length-map, take_all}
use Rattle.vs_types.specs.declared.numbers.TripNo.{TripNo}
use Rattle.vs_plan.specs.Blocks.{pair_of}
use Rattle.vs_peakcheck.specs.Counting.{numbered, permitted_trips}
use Rattle.vs_peakcheck.proofs.problem.PermittedTrips.{few_permitted}
use Rattle.vs_peakcheck.proofs.problem.CountedRows.{no_trips, one_more_trip, stands_nowhere}
use Rattle.vs_peakcheck.proofs.reading.blocks.counted_block.Goals as goal

pub loop-k-init : goal.loop-k-init
loop-k-init c = no_trips c.args.instance.now c.args.l c.args.block.now.trips.items _ c.in_ok-counted.ensures.items

pub place_of-requires : goal.place_of-requires
place_of-requires c =
    let p = c.args.instance.now in
    omega (
      arith,
      ap length c.requires.trips,
      length-map (permitted_trips p c.args.l.0) numbered,
      few_permitted p c.args.l.0,
      c.trips-trips.ensures.instance.few_trips,
    )

pub returns-in_default-clause-none : goal.returns-in_default-clause-none
returns-in_default-clause-none c =
    let p = c.args.instance.now in
    let block = c.args.block.now in
    let i = c.index.result.now in
    let within : c.loop-k.k < length block.trips.items =
    omega (arith, c.loop-k-test.true, c.len-k-end.ensures, block.trips.ok.0) in
    let inside : i.0 < length p.trips =
    subst (λ (t : TripNo). t.0 < length p.trips) (sym c.index.ensures) (c.requires.block c.loop-k.k i within) in
    stands_nowhere p c.args.l (pair_of block) c.args.trips.now c.loop-k.k i within c.index.ensures inside
    c.requires.trips c.in_default.ensures

pub loop-k-preserved : goal.loop-k-preserved
loop-k-preserved c =
    let block = c.args.block.now in
    let within : c.loop-k.k < length block.trips.items =
    omega (arith, c.loop-k-test.true, c.len-k-end.ensures, block.trips.ok.0) in
    one_more_trip c.args.instance.now c.args.l c.args.trips.now block.trips.items c.loop-k.counted.items _ c.loop-k.k
    c.in-Some.place c.index.result.now c.requires.trips c.loop-k.invariant within c.index.ensures c.in-Some.ensures.0
    c.in-Some.ensures.1 c.in_ok-push.ensures.items

pub returns-clause-found : goal.returns-clause-found
returns-clause-found c =
    let block = c.args.block.now in
    let past : length block.trips.items ≤ c.loop-k.k =
    omega (arith, c.loop-k-test.false, c.len-k-end.ensures, block.trips.ok.0) in
    record {
      of_only = refl;
      of_layer = ap (λ (n : ℕ). record { 0 = n })
          (eqb-true block.layer.0 c.args.l.0 (not-false _ (sym c.if-ne.ensures)));
      trips = c.loop-k.invariant.within;
      own_is = c.loop-k.invariant.own_is ∙ take_all c.loop-k.k block.trips.items past;
    }
