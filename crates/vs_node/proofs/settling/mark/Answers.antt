use Rattle.std.proofs.Common.{◌≡◌, ◌+◌, ◌<◌, Bool, false, List, [], ◌∷◌, ◌++◌, length, set, take, arith, sym, ap, ◌∙◌}
use Rattle.std.specs.Int.{bit_at}
use Rattle.std.proofs.lemmas.List.{get_or-map, length-map, take_all, take_more, take_more_set}
use Rattle.vs_instance.specs.Restriction.{set_of}
use Rattle.vs_prices.proofs.CallerLemmas.{same_test}
use Rattle.vs_types.specs.Parts.{has}
use Rattle.vs_node.specs.LayersDone.{must_in}
use Rattle.vs_node.proofs.settling.mark.Goals as goal

pub loop-i-preserved : goal.loop-i-preserved
loop-i-preserved c =
    let sets = c.args.sets.now in
    let must = c.loop-i.must in
    let l = c.args.l.0 in
    let i = c.loop-i.i in
    let inside : i < length sets = omega (arith, c.requires.size, c.loop-i-test.true) in
    let long = length-map sets (λ set. has set l) in
    let same : c.has.result ≡ has (set_of sets i) l =
    same_test c.has.result (bit_at (set_of sets i).0 l) c.has.ensures in
    let marked : take (i + 1) (set must i c.has.result) ≡ take (i + 1) (must_in sets l) =
    take_more_set must i c.has.result (omega (arith, c.loop-i.auto.must, c.loop-i-test.true))
    ∙ ap (λ (xs : List Bool). xs ++ c.has.result ∷ []) c.loop-i.invariant
    ∙ ap (λ (b : Bool). take i (must_in sets l) ++ b ∷ [])
    (same ∙ sym (get_or-map (λ set. has set l) sets i (record { 0 = 0 }) false inside))
    ∙ sym (take_more (must_in sets l) i false (omega (arith, inside, long))) in
    marked

pub returns : goal.returns
returns c =
    let sets = c.args.sets.now in
    let l = c.args.l.0 in
    let long = length-map sets (λ set. has set l) in
    sym (take_all c.loop-i.i c.loop-i.must (omega (arith, c.loop-i.auto.must, c.loop-i-test.false)))
    ∙ c.loop-i.invariant
    ∙ take_all c.loop-i.i (must_in sets l) (omega (arith, long, c.requires.size, c.loop-i-test.false))
