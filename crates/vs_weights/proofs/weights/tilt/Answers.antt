use Rattle.std.proofs.Common.{◌≡◌, ℕ, ◌+◌, ◌<◌, ◌≤◌, arith, get_or, length, subst, sym, List}
use Rattle.std.proofs.lemmas.Int.{ints}
use Rattle.vs_cuts.specs.Numbers.{IsNear}
use Rattle.vs_weights.specs.Steps.{ArePeaksOf, AreSlopes}
use Rattle.vs_weights.specs.declared.standing.Standing.{Standing}
use Rattle.vs_weights.specs.declared.weights.Peaks.{Peaks}
use Rattle.vs_cuts.proofs.CallerLemmas.{entry_read}
use Rattle.vs_weights.proofs.Steps.{short_below, slopes_rest, slopes_set}
use Rattle.vs_weights.proofs.weights.tilt.Goals as goal
use Rattle.vs_weights.proofs.weights.tilt.Goals.{then-standing, else-standing}

pub more_lacking-requires-clause-left : goal.more_lacking-requires-clause-left
more_lacking-requires-clause-left c = entry_read _ _ _ _ _ c.args.reach.few_products (omega arith) c.requires.left

pub more_lacking-requires-clause-taken : goal.more_lacking-requires-clause-taken
more_lacking-requires-clause-taken c = entry_read _ _ _ _ _ c.args.reach.few_products (omega arith) c.requires.taken

pub tilt-requires : goal.tilt-requires
tilt-requires c =
    let few = c.args.reach.few_products in
    let more : IsNear c.args.reach.products c.more_lacking.result =
    c.more_lacking.ensures c.args.reach.products (entry_read _ _ _ _ _ (omega arith) few c.requires.left)
    (entry_read _ _ _ _ _ (omega arith) few c.requires.taken) in
    let slope =
    c.loop-place.invariant.rest c.loop-place.place c.index-standings-place.result (omega arith) (omega arith) in
    grind (arith, ints)

pub see-requires : goal.see-requires
see-requires c =
    let few = c.args.reach.few_products in
    let more : IsNear c.args.reach.products c.more_lacking.result =
    c.more_lacking.ensures c.args.reach.products (entry_read _ _ _ _ _ (omega arith) few c.requires.left)
    (entry_read _ _ _ _ _ (omega arith) few c.requires.taken) in
    let slope =
    c.loop-place.invariant.rest c.loop-place.place c.index-standings-place.result (omega arith) (omega arith) in
    let tilted = c.tilt.ensures in
    short_below _ _ _ c.along-step.ensures (grind (arith, ints))

pub loop-place-preserved : goal.loop-place-preserved
loop-place-preserved c =
    let reach = c.args.reach in
    let kept = c.loop-place.invariant in
    let all : List Standing → Type 0 = AreSlopes (reach.slopes + reach.products) in
    let rest : List Standing → Type 0 =
    λ standings. (k : ℕ) (d : Standing) → c.loop-place.place + 1 ≤ k → k < length standings
    → IsNear reach.slopes (get_or standings k d).slope in
    let each : length c.loop-place.standings ≡ length c.if-standing.standings = omega arith in
    let peaks : ArePeaksOf (length c.if-standing.standings) c.loop-place.peaks =
    subst (λ (n : ℕ). ArePeaksOf n c.loop-place.peaks) each kept.peaks in
    elim c.if-standing.branch [
      | then-standing w ↦
          let few = reach.few_products in
          let more : IsNear reach.products w.more_lacking.result =
          w.more_lacking.ensures reach.products (entry_read _ _ _ _ _ (omega arith) few c.requires.left)
          (entry_read _ _ _ _ _ (omega arith) few c.requires.taken) in
          let slope = kept.rest c.loop-place.place c.index-standings-place.result (omega arith) (omega arith) in
          let tilted = w.tilt.ensures in
          let near : IsNear (reach.slopes + reach.products) w.tilt.new.self.slope = grind (arith, ints) in
          record {
            all = subst all (sym w.standings-is) (slopes_set _ _ _ _ near kept.all);
            rest = subst rest (sym w.standings-is) (slopes_rest _ _ _ _ kept.rest);
            peaks =
                subst (λ (one : Peaks). ArePeaksOf (length c.if-standing.standings) one) (sym w.peaks-is)
                (w.see.ensures (length c.if-standing.standings) (omega arith) peaks);
          }
      | else-standing w ↦
          record {
            all =
                subst all (sym w.standings-is)
                (slopes_set _ _ _ _ (kept.all c.loop-place.place _ (omega arith)) kept.all);
            rest = subst rest (sym w.standings-is) (slopes_rest _ _ _ _ kept.rest);
            peaks = subst (λ (one : Peaks). ArePeaksOf (length c.if-standing.standings) one) (sym w.peaks-is) peaks;
          }
    ]
