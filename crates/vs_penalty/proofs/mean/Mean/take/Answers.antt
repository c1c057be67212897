use Rattle.std.proofs.Common.{◌≡◌, ◌+◌, ◌<◌, ◌≤◌, ℕ, List, length, set, arith, get_or, sym, subst, ◌∙◌, ext_get_or, w64, ℤ, pos, of_z, to_z}
use Rattle.std.proofs.lemmas.Int.{ints, to_z-of_z}
use Rattle.std.proofs.lemmas.List.{length-set, get_or_default}
use Rattle.vs_multi.specs.Multipliers.{IsMultiplier}
use Rattle.vs_penalty.specs.Means.{LiesBetween}
use Rattle.vs_penalty.proofs.Between.{between-IsMultiplier, between-same}
use Rattle.vs_penalty.proofs.OneSet.{each_after_set}
use Rattle.vs_penalty.proofs.mean.Mean.take.Goals as goal

pub loop-i-preserved : goal.loop-i-preserved
loop-i-preserved c =
    let old : List ℤ = c.args.self.now.multipliers.items in
    let newest : List ℤ = c.args.newest.now in
    let items : List ℤ = c.loop-i.self.multipliers.items in
    let i = c.loop-i.i in
    let inv = c.loop-i.invariant in
    let number : ℤ = to_z w64 (of_z w64 c.nearer.result) in
    let inside : i < length items = omega (arith, inv.each_trip, c.requires.each_trip, c.loop-i-test.true) in
    let before : get_or items i (pos 0) ≡ get_or old i (pos 0) = inv.left i (omega arith) in
    let kept = inv.within i in
    let newer = c.requires.newest i in
    let same = to_z-of_z w64 c.nearer.result (record { sfits = c.nearer.type_inv }) in
    let read : c.index.result.now ≡ get_or items i (pos 0) =
    c.index.ensures ∙ get_or_default items i c.index.result.now (pos 0) inside in
    let start : to_z w64 (of_z w64 c.index.result.now) ≡ c.index.result.now =
    to_z-of_z w64 c.index.result.now (omega (arith, ints, read, kept.0, kept.1)) in
    let end = to_z-of_z w64 (get_or newest i (pos 0)) (omega (arith, ints, newer.0, newer.1)) in
    let between : LiesBetween (get_or old i (pos 0)) (get_or newest i (pos 0)) number =
    between-same (to_z w64 (of_z w64 c.index.result.now)) (to_z w64 (of_z w64 (get_or newest i (pos 0))))
    c.nearer.result c.nearer.ensures.between (get_or old i (pos 0)) (get_or newest i (pos 0)) number
    (start ∙ read ∙ before) end (sym same) in
    let long : length newest ≡ length (set items i number) =
    omega (arith, length-set items i number, inv.each_trip, c.requires.each_trip) in
    let other_is : (k : ℕ) → IsMultiplier (length newest) (get_or items k (pos 0)) =
    λ k. subst (λ (n : ℕ). IsMultiplier n (get_or items k (pos 0)))
    (inv.each_trip ∙ sym c.requires.each_trip) (inv.within k) in
    let is : IsMultiplier (length newest) number =
    between-IsMultiplier (get_or old i (pos 0)) (get_or newest i (pos 0)) number between (length newest)
    (subst (λ (n : ℕ). IsMultiplier n (get_or old i (pos 0))) (sym c.requires.each_trip) (c.requires.within i)) newer in
    record {
      each_trip = length-set items i number ∙ inv.each_trip;
      within = λ k. subst (λ (n : ℕ). IsMultiplier n (get_or (set items i number) k (pos 0))) long
          (each_after_set (λ j n. IsMultiplier (length newest) n) items i number inside (λ j other. other_is j) is k);
      passes = inv.passes;
      taken = each_after_set (λ k n. k < i + 1 → LiesBetween (get_or old k (pos 0)) (get_or newest k (pos 0)) n)
          items i number inside (λ k other below. inv.taken k (omega arith)) (λ below. between);
      whole = each_after_set (λ k n. k < i + 1 → c.loop-i.self.passes ≡ 1 → n ≡ get_or newest k (pos 0))
          items i number inside (λ k other below one. inv.whole k (omega arith) one)
          (λ below one. same ∙ c.nearer.ensures.whole one ∙ end);
      left = each_after_set (λ k n. i + 1 ≤ k → n ≡ get_or old k (pos 0))
          items i number inside (λ k other past. inv.left k (omega arith)) (λ past. absurd (omega arith));
    }

pub returns-clause-first : goal.returns-clause-first
returns-clause-first c none =
    let inv = c.loop-i.invariant in
    let items : List ℤ = c.loop-i.self.multipliers.items in
    let newest : List ℤ = c.args.newest.now in
    let all = c.loop-i-test.false in
    let one : c.loop-i.self.passes ≡ 1 =
    omega (arith, inv.passes, none, c.saturating_add.ensures, c.min-self.ensures) in
    let long : length items ≡ length newest = omega (arith, inv.each_trip, c.requires.each_trip) in
    ext_get_or (pos 0) items newest long (λ k below. inv.whole k (omega (arith, all, long, below)) one)
