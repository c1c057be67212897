use Rattle.std.proofs.Common.{◌≡◌, ◌∙◌, ℕ, ℤ, arith, get_or, length, pos, set, subst, sym, to_z, of_z, w64}
use Rattle.std.proofs.lemmas.List.{length-set}
use Rattle.vs_multi.specs.Multipliers.{AreWithin, IsMultiplier}
use Rattle.vs_multi.proofs.CallerLemmas.{within-set}
use Rattle.vs_walk.proofs.scope.offer_free.Goals as goal
use Rattle.vs_walk.proofs.scope.offer_free.Goals.{then-count-gt1, else-count-gt1}

pub loop-i-preserved : goal.loop-i-preserved
loop-i-preserved c =
    let offered = c.loop-i.offered in
    let i = c.loop-i.i in
    let inv = c.loop-i.invariant in
    let trips = length c.args.offered.now in
    let put : (m stored : ℤ) → stored ≡ to_z w64 (of_z w64 m) → IsMultiplier trips m
    → AreWithin (set offered i stored) =
    λ m stored is of. subst (λ (z : ℤ). AreWithin (set offered i z)) (sym is)
    (within-set trips offered i m inv.each inv.within of) in
    let best : IsMultiplier trips (get_or c.args.best.now i (pos 0)) =
    subst (λ (n : ℕ). IsMultiplier n (get_or c.args.best.now i (pos 0))) c.requires.best (c.requires.best_within i) in
    record {
      each = length-set offered i _ ∙ inv.each;
      within = elim c.if-count-gt1.branch [
        | then-count-gt1 w ↦ put (get_or c.args.best.now i (pos 0)) _ w.offered-is best
        | else-count-gt1 w ↦ put c.args.high _ w.offered-is c.requires.high
      ];
    }
