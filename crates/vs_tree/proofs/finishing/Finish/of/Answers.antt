use Rattle.std.proofs.Common.{arith, refl, sym, ◌∙◌, subst}
use Rattle.vs_types.specs.declared.layer_set.LayerSet.{LayerSet}
use Rattle.vs_types.specs.declared.numbers.TripNo.{TripNo}
use Rattle.vs_prices.specs.Worth.{IsWorth}
use Rattle.vs_prices.specs.Tree.{right_of, with_set}
use Rattle.vs_tree.specs.Finishes.{IsNextIn}
use Rattle.vs_tree.proofs.finishing.Finish.of.Goals as goal

pub parted-requires-clause-trip : goal.parted-requires-clause-trip
parted-requires-clause-trip c =
    let inside = (subst (IsNextIn c.args.instance.now c.args.sets.now) c.in-Split.is c.requires.next).0 in
    let each = c.requires.restriction.each_trip in
    omega (arith, inside, each)

pub returns-in-Split-clause-worths : goal.returns-in-Split-clause-worths
returns-in-Split-clause-worths c =
    let p = c.args.instance.now in
    let sets = c.args.sets.now in
    let table = c.args.table.now in
    let made = c.parted.result in
    let is = c.parted.ensures in
    record {
      right = is.right ∙ (λ i. right_of sets (sym is.trip i) (sym is.left i));
      lower = record {
        table = table;
        listed = refl;
        worth = subst (λ (z : TripNo × LayerSet). IsWorth p (with_set sets z.0 z.1) table made.lower)
            (λ i. (sym is.trip i, sym is.left i)) is.lower;
      };
      upper = record {
        table = table;
        listed = refl;
        worth = subst (λ (z : TripNo × LayerSet). IsWorth p (with_set sets z.0 (right_of sets z.0 z.1)) table
            made.upper)
            (λ i. (sym is.trip i, sym is.left i)) is.upper;
      };
    }
