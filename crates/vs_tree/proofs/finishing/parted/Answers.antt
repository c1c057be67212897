use Rattle.std.proofs.Common.{◌≡◌, List, set, ap, sym, ◌∙◌, subst}
use Rattle.std.proofs.lemmas.List.{set-set}
use Rattle.vs_types.specs.declared.layer_set.LayerSet.{LayerSet}
use Rattle.vs_instance.specs.Restriction.{IsRestriction}
use Rattle.vs_prices.specs.Worth.{IsWorth}
use Rattle.vs_prices.specs.Tree.{right_of, with_set}
use Rattle.vs_prices.proofs.CallerLemmas.{right-restricts}
use Rattle.vs_tree.proofs.finishing.parted.Goals as goal

pub worth-upper-requires-clause-restriction : goal.worth-upper-requires-clause-restriction
worth-upper-requires-clause-restriction c =
    let sets = c.args.sets.now in
    let written : set (set sets c.args.trip.0 c.args.left) c.args.trip.0 c.minus-right.result
    ≡ with_set sets c.args.trip (right_of sets c.args.trip c.args.left) =
    set-set sets c.args.trip.0 c.args.left c.minus-right.result
    ∙ ap (λ (x : LayerSet). set sets c.args.trip.0 x) c.minus-right.ensures.value in
    subst (λ (x : List LayerSet). IsRestriction c.args.instance.now x) (sym written)
    (right-restricts c.args.instance.now sets c.args.trip c.args.left c.requires.trip c.requires.part
    c.requires.restriction)

pub returns-clause-upper : goal.returns-clause-upper
returns-clause-upper c =
    let sets = c.args.sets.now in
    let written : set (set sets c.args.trip.0 c.args.left) c.args.trip.0 c.minus-right.result
    ≡ with_set sets c.args.trip (right_of sets c.args.trip c.args.left) =
    set-set sets c.args.trip.0 c.args.left c.minus-right.result
    ∙ ap (λ (x : LayerSet). set sets c.args.trip.0 x) c.minus-right.ensures.value in
    subst (λ (x : List LayerSet). IsWorth c.args.instance.now x c.args.table.now c.worth-upper.result) written
    c.worth-upper.ensures.worth

pub returns-clause-sets : goal.returns-clause-sets
returns-clause-sets c = set-set c.args.sets.now c.args.trip.0 c.args.left c.minus-right.result
