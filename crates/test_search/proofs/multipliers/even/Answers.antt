use Rattle.std.proofs.Common.{ℕ, ◌∙◌, ap, arith, length, pos, replicate, rules}
use Rattle.std.proofs.lemmas.Int.{ints}
use Rattle.vs_penalty.proofs.EvenMultipliers.{even-AreMultipliers, little_within}
use Rattle.test_search.proofs.multipliers.even.Goals as goal

pub returns : goal.returns
returns c =
    let p = c.args.instance.now in
    let same = c.in_ok-multipliers.ensures.items_if_clones_equal (search rules)
    ∙ ap (λ (n : ℕ). replicate n (pos 30000)) c.trips.ensures.count in
    even-AreMultipliers p (pos 30000) c.in_ok-multipliers.multipliers.items same
    (little_within (length p.trips) (pos 30000) c.trips.ensures.instance.few_trips
    (omega (arith, ints)) (omega (arith, ints)))
