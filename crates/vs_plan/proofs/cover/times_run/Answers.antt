use Rattle.std.proofs.Common.{◌≡◌, ◌<◌, ◌==◌, ℕ, List, All, count_by, length, drop, slice_index, arith, sym, subst, ap, ◌∙◌}
use Rattle.std.proofs.lemmas.List.{take_at}
use Rattle.vs_types.specs.declared.numbers.TripNo.{TripNo}
use Rattle.vs_instance.specs.Plan.{LayerBlock, times_run}
use Rattle.vs_plan.specs.Blocks.{pairs_of, pair_of}
use Rattle.vs_plan.specs.Blocks.{IsOfInstance}
use Rattle.vs_plan.proofs.TakenBlocks.{one_more, pair_at, inside_pairs, whole_plan}
use Rattle.vs_plan.proofs.PlanTrips.{counts-times_of}
use Rattle.vs_plan.proofs.cover.times_run.Goals as goal

pub count_trips-requires-clause-trips : goal.count_trips-requires-clause-trips
count_trips-requires-clause-trips c =
    let bs = c.args.blocks.now in
    let b = c.block-item.result in
    let read =
    subst (IsOfInstance c.args.instance.now)
    (pair_at bs c.loop-block.block-index b (pair_of b) c.loop-block-test.true c.block-item.is)
    (c.requires.of_instance c.loop-block.block-index (pair_of b)
    (inside_pairs bs c.loop-block.block-index c.loop-block-test.true)) in
    let trips =
    subst (All (λ (t : TripNo). t.0 < length c.args.instance.now.trips)) (sym c.deref.ensures.value) read.trips in
    let size = ap length c.deref_mut.ensures.value in
    λ k d h. omega (arith, trips k d h, size, c.loop-block.invariant.size)

pub count_trips-requires-clause-room : goal.count_trips-requires-clause-room
count_trips-requires-clause-room c =
    let more =
    one_more c.args.instance.now c.args.blocks.now c.loop-block.block-index c.block-item.result
    c.loop-block-test.true c.block-item.is in
    let same = ap length c.deref.ensures.value in
    let size = ap length c.deref_mut.ensures.value in
    λ i h.
    let inside : i < length c.args.instance.now.trips = omega (arith, size, c.loop-block.invariant.size) in
    let count = ap (λ (xs : List ℕ). slice_index xs i) c.deref_mut.ensures.value in
    omega (
      arith,
      more.within,
      more.few_times i,
      c.requires.few_trips,
      same,
      count,
      c.loop-block.invariant.counted i inside,
    )

pub loop-block-preserved : goal.loop-block-preserved
loop-block-preserved c =
    let more =
    one_more c.args.instance.now c.args.blocks.now c.loop-block.block-index c.block-item.result
    c.loop-block-test.true c.block-item.is in
    let size = ap length c.deref_mut.ensures.value in
    let len : length c.count_trips.new.counts ≡ c.loop-block.times.len =
    omega (arith, size, c.count_trips.auto.counts, c.loop-block.times.ok.0) in
    let whole =
    take_at c.count_trips.new.counts
    (drop (length c.count_trips.new.counts) c.loop-block.times.items) c.loop-block.times.len len in
    record {
      size = ap length whole ∙ omega (arith, size, c.count_trips.auto.counts, c.loop-block.invariant.size);
      counted = λ k h.
          let inside : k < length c.deref_mut.result.now = omega (arith, size, c.loop-block.invariant.size) in
          let before = ap (λ (xs : List ℕ). slice_index xs k) c.deref_mut.ensures.value in
          let counted = ap (count_by (λ (t : TripNo). t.0 == k)) c.deref.ensures.value in
          ap (λ (xs : List ℕ). slice_index xs k) whole
          ∙ omega (
            arith,
            c.count_trips.ensures k inside,
            before,
            counted,
            more.times k,
            c.loop-block.invariant.counted k h,
          );
    }

pub returns-clause-times : goal.returns-clause-times
returns-clause-times c =
    let whole = whole_plan c.args.blocks.now c.loop-block.block-index c.loop-block-test.false in
    counts-times_of c.args.instance.now
    (pairs_of c.args.blocks.now) c.loop-block.times.items c.loop-block.invariant.size
    (λ k inside. c.loop-block.invariant.counted k inside ∙ ap (λ (xs : List LayerBlock). times_run xs k) whole)
