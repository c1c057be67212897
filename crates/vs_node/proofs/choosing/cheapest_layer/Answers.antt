use Rattle.std.proofs.Common.{◌≡◌, ◌+◌, ◌<◌, ◌⊎◌, ◌<ℤ◌, ◌≤ℤ◌, ℕ, arith, rules, sym, ◌∙◌, subst, to_z, of_z, w64, ℤ}
use Rattle.std.specs.Prelude.{Option, MatchOption, []}
use Rattle.std.proofs.lemmas.Int.{ints}
use Rattle.vs_types.specs.LayerSet.{Has, members}
use Rattle.vs_types.specs.declared.numbers.LayerNo.{LayerNo}
use Rattle.vs_node.proofs.sets.Cheapest.{IsSoFar, so_far-absent, so_far-kept, so_far-lowest, so_far-taken}
use Rattle.vs_node.proofs.choosing.cheapest_layer.Goals as goal
use Rattle.vs_node.proofs.choosing.cheapest_layer.Goals.{then-has+then-price-least, then-has+else-price-least, else-has}

pub loop-k-init : goal.loop-k-init
loop-k-init c =
    let p = c.args.instance.now in
    let set = c.args.set in
    let price = c.trip_price-least.ensures in
    let word : to_z w64 (of_z w64 c.trip_price-least.result) ≡ c.trip_price-least.result =
    omega (arith, ints, price.low, price.high) in
    let lowest = subst (λ (o : Option LayerNo). MatchOption o (members set ≡ [])
    (λ l. Has set l.0 × ((k : ℕ) → Has set k → (k ≡ l.0) ⊎ (l.0 < k)))) c.unwrap-cheapest.ensures
    c.lowest.ensures.least in
    so_far-lowest p set c.args.table.now c.args.i.0 (to_z w64 (of_z w64 c.trip_price-least.result))
    c.unwrap-cheapest.result.0 lowest.0 lowest.1 (search rules) (word ∙ price.value)

pub loop-k-preserved : goal.loop-k-preserved
loop-k-preserved c =
    let p = c.args.instance.now in
    let set = c.args.set in
    let table = c.args.table.now in
    let i = c.args.i.0 in
    let k = c.loop-k.k in
    let Claim = λ (least : ℤ) (l : LayerNo). IsSoFar p set table i least (k + 1) l.0 in
    let so_far = c.loop-k.invariant in
    let few : k < 16 = search rules in
    elim c.if-has.branch [
      | then-has+then-price-least w ↦
          let price = w.trip_price-price.ensures in
          let word : to_z w64 (of_z w64 w.trip_price-price.result) ≡ w.trip_price-price.result =
          omega (arith, ints, price.low, price.high) in
          let has : Has set k = search rules in
          let less : w.trip_price-price.result <ℤ to_z w64 c.loop-k.least-bits = grind (arith, ints) in
          subst (λ (least : ℤ). Claim least c.if-has.cheapest) (sym w.least-is)
          (subst (Claim (to_z w64 (of_z w64 w.trip_price-price.result))) (sym w.cheapest-is)
          (so_far-taken p set table i (to_z w64 c.loop-k.least-bits) k c.loop-k.cheapest.0 so_far
          (to_z w64 (of_z w64 w.trip_price-price.result)) has few (word ∙ price.value)
          (omega (arith, ints, word, less))))
      | then-has+else-price-least w ↦
          let price = w.trip_price-price.ensures in
          let word : to_z w64 (of_z w64 w.trip_price-price.result) ≡ w.trip_price-price.result =
          omega (arith, ints, price.low, price.high) in
          let no_less : to_z w64 c.loop-k.least-bits ≤ℤ w.trip_price-price.result = grind (arith, ints) in
          subst (λ (least : ℤ). Claim least c.if-has.cheapest) (sym w.least-is)
          (subst (Claim (to_z w64 c.loop-k.least-bits)) (sym w.cheapest-is)
          (so_far-kept p set table i (to_z w64 c.loop-k.least-bits) k c.loop-k.cheapest.0 so_far
          w.trip_price-price.result price.value no_less))
      | else-has w ↦
          let absent : ¬ (Has set k) = λ has. search rules in
          subst (λ (least : ℤ). Claim least c.if-has.cheapest) (sym w.least-is)
          (subst (Claim (to_z w64 c.loop-k.least-bits)) (sym w.cheapest-is)
          (so_far-absent p set table i (to_z w64 c.loop-k.least-bits) k c.loop-k.cheapest.0 so_far absent))
    ]

pub returns-clause-cheapest : goal.returns-clause-cheapest
returns-clause-cheapest c =
    let instance = c.layers.ensures.instance in
    record {
      among = c.loop-k.invariant.among;
      first = λ m has.
          let inside = c.requires.set m has in
          let end = c.loop-k-test.false in
          let below = c.loop-k.invariant.below in
          c.loop-k.invariant.first m (omega (arith, c.layers-k-end.ensures.count)) has;
    }
