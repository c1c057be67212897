use Rattle.std.proofs.Common.{ℕ, ℤ, replicate, ap, ◌∙◌, rules, w64}
use Rattle.std.proofs.lemmas.Int.{to_z-of_z}
use Rattle.vs_penalty.proofs.EvenMultipliers.{even-AreMultipliers}
use Rattle.vs_penalty.proofs.paying.evenly.Goals as goal

pub returns : goal.returns
returns c =
    let p = c.args.case.now.instance.now in
    let trips = c.trips.result in
    let same = c.in_ok-multipliers.ensures.items_if_clones_equal (search rules)
    ∙ ap (λ (x : ℤ). replicate trips x) (to_z-of_z w64 c.args.paid c.ranges.paid)
    ∙ ap (λ (n : ℕ). replicate n c.args.paid) c.trips.ensures.count in
    even-AreMultipliers p c.args.paid c.in_ok-multipliers.multipliers.items same c.requires
