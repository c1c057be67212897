use Rattle.std.proofs.Common.{◌≡◌, ℕ, suc, ◌-◌, List, [], length-set, set, slice_index_or, subst, arith, sym, ◌∙◌}
use Rattle.vs_types.specs.declared.layer_set.LayerSet.{LayerSet}
use Rattle.vs_tree.specs.Cuts.{AreLaid, cut_at, sets_of}
use Rattle.vs_tree.proofs.CutSets.{laid-up, sets-root}
use Rattle.vs_tree.proofs.places.lay_cuts.Goals as goal

pub loop-spot-preserved : goal.loop-spot-preserved
loop-spot-preserved c =
    let inv = c.loop-spot.invariant in
    let cuts = c.args.cuts.now in
    let all = sets_of c.args.permitted.now cuts in
    let k = c.loop-spot.spot - 1 in
    let t = (cut_at cuts k).trip.0 in
    let next : suc k ≡ c.loop-spot.spot = omega arith in
    let target : List LayerSet = slice_index_or all c.args.k [] in
    let before = c.requires.cuts k (omega (arith, inv.within)) in
    let here : AreLaid target (slice_index_or all (suc k) []) c.loop-spot.sets =
    subst (λ (j : ℕ). AreLaid target (slice_index_or all j []) c.loop-spot.sets) (sym next) inv.laid in
    record {
      within = omega (arith, before.before, inv.within);
      size = length-set c.loop-spot.sets t c.laid.result ∙ inv.size;
      laid = subst (λ (x : LayerSet). AreLaid target (slice_index_or all (cut_at cuts k).parent [])
          (set c.loop-spot.sets t x))
          (sym c.laid.ensures)
          (laid-up c.args.permitted.now cuts c.requires.cuts target c.loop-spot.sets k
          (omega (arith, inv.within)) inv.size
          here);
    }

pub returns : goal.returns
returns c =
    let all = sets_of c.args.permitted.now c.args.cuts.now in
    let target : List LayerSet = slice_index_or all c.args.k [] in
    let root : c.loop-spot.spot ≡ 0 = omega arith in
    let at : AreLaid target (slice_index_or all 0 []) c.loop-spot.sets =
    subst (λ (j : ℕ). AreLaid target (slice_index_or all j []) c.loop-spot.sets) root c.loop-spot.invariant.laid in
    subst (λ (x : List LayerSet). AreLaid target x c.loop-spot.sets)
    (sets-root c.args.permitted.now c.args.cuts.now c.requires.cuts) at
