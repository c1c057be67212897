use Rattle.std.proofs.Common.{◌<◌, List, length, refl, sym, ap, ◌∙◌, subst, arith, Option, ℤ}
use Rattle.std.proofs.lemmas.Bool.{false≢true}
use Rattle.vs_types.specs.declared.layer_set.LayerSet.{LayerSet}
use Rattle.vs_types.specs.Parts.{IsProperPart}
use Rattle.vs_instance.specs.Problem.{Problem}
use Rattle.vs_instance.specs.Restriction.{IsRestriction, set_of}
use Rattle.vs_prices.specs.Bounds.{IsBelow}
use Rattle.vs_prices.specs.Table.{Fits, HoldingTable}
use Rattle.vs_tree.specs.Calls.{finishing}
use Rattle.vs_tree.specs.History.{MayCome}
use Rattle.vs_tree.specs.Prices.{prices_of}
use Rattle.vs_tree.specs.Search.{state}
use Rattle.vs_tree.specs.declared.calls.Next.{Next}
use Rattle.vs_replay.proofs.FinishedLeaves.{closes_done, finishes_no_less, leaf_restriction, leaf_worth, may_close, may_split}
use Rattle.vs_replay.proofs.finishing.finish_of.Goals as goal

pub worth-worth-requires-clause-restriction : goal.worth-worth-requires-clause-restriction
worth-worth-requires-clause-restriction c =
    let t = c.args.tree.now in
    let known = c.instance-instance.ensures in
    let done = c.args.done.now in
    leaf_restriction t.opening known.opening t.steps known.history done.worker done.leaf c.args.instance.now
    c.args.sets.now c.requires.same c.requires.sets c.requires.holds

pub returns-then-not-is_no_less-clause-finish : goal.returns-then-not-is_no_less-clause-finish
returns-then-not-is_no_less-clause-finish c =
    let t = c.args.tree.now in
    let o = t.opening in
    let s = state t in
    let done = c.args.done.now in
    let worth = c.worth-worth.result in
    let is_worth =
    leaf_worth o s done.leaf c.args.instance.now c.args.sets.now done.table worth c.requires.same c.requires.sets
    c.worth-worth.ensures.worth in
    λ may. false≢true (sym c.if-not-is_no_less.true ∙ c.is_no_less.ensures.1
    (finishes_no_less o s done.worker done.leaf done.table worth c.leaf_worth.result is_worth c.leaf_worth.ensures
    done.next may))

pub returns-then-is_below-clause-finish : goal.returns-then-is_below-clause-finish
returns-then-is_below-clause-finish c =
    let t = c.args.tree.now in
    let o = t.opening in
    let s = state t in
    let done = c.args.done.now in
    let worth = c.worth-worth.result in
    let is_worth =
    leaf_worth o s done.leaf c.args.instance.now c.args.sets.now done.table worth c.requires.same c.requires.sets
    c.worth-worth.ensures.worth in
    let below = subst (λ (k : Option ℤ). IsBelow worth k) c.known_cost.ensures
    (c.is_below.ensures.0 c.if-is_below.true) in
    let comes = λ (next : Next). MayCome o s (finishing s done.worker done.leaf (prices_of done.table) next) in
    λ may. closes_done o s done.worker done.leaf done.table worth c.leaf_worth.result is_worth c.leaf_worth.ensures
    (subst comes c.in-Close.is may) below

pub slice_copy_out-is_proper_part : goal.slice_copy_out-is_proper_part
slice_copy_out-is_proper_part c =
    let restriction : IsRestriction c.args.instance.now c.args.sets.now =
    let t = c.args.tree.now in
    let known = c.instance-instance.ensures in
    let done = c.args.done.now in
    leaf_restriction t.opening known.opening t.steps known.history done.worker done.leaf c.args.instance.now
    c.args.sets.now c.requires.same c.requires.sets c.requires.holds in
    omega (arith, c.if-trip-trips.false, c.trips.ensures.count, restriction.each_trip)

pub of-requires-clause-restriction : goal.of-requires-clause-restriction
of-requires-clause-restriction c =
    let t = c.args.tree.now in
    let known = c.instance-instance.ensures in
    let done = c.args.done.now in
    leaf_restriction t.opening known.opening t.steps known.history done.worker done.leaf c.args.instance.now
    c.args.sets.now c.requires.same c.requires.sets c.requires.holds

pub returns-else-is_below-clause-finish : goal.returns-else-is_below-clause-finish
returns-else-is_below-clause-finish c =
    let t = c.args.tree.now in
    let o = t.opening in
    let s = state t in
    let done = c.args.done.now in
    let worth = c.worth-worth.result in
    let is_worth =
    leaf_worth o s done.leaf c.args.instance.now c.args.sets.now done.table worth c.requires.same c.requires.sets
    c.worth-worth.ensures.worth in
    let fits = subst (λ (q : Problem). Fits q done.table) (sym c.requires.same) c.requires.fits in
    let holds = subst (λ (q : Problem). HoldingTable q done.table) (sym c.requires.same) c.requires.lawful in
    let no_less = c.is_no_less.ensures.0 c.if-not-is_no_less.false in
    let comes = λ (next : Next). MayCome o s (finishing s done.worker done.leaf (prices_of done.table) next) in (
      sym c.in-Close.is,
      (
        record { table = done.table; listed = refl; worth = c.worth-worth.ensures.worth },
        subst comes (sym c.in-Close.is)
            (may_close o s done.worker done.leaf done.table worth c.leaf_worth.result is_worth c.leaf_worth.ensures
            c.requires.holds fits holds no_less
            (λ below. false≢true (sym c.if-is_below.false ∙ c.is_below.ensures.1
            (subst (λ (k : Option ℤ). IsBelow worth k) (sym c.known_cost.ensures) below)))),
      ),
    )

pub returns-else-not-is_proper_part-clause-finish : goal.returns-else-not-is_proper_part-clause-finish
returns-else-not-is_proper_part-clause-finish c =
    let t = c.args.tree.now in
    let o = t.opening in
    let s = state t in
    let done = c.args.done.now in
    let worth = c.worth-worth.result in
    let is_worth =
    leaf_worth o s done.leaf c.args.instance.now c.args.sets.now done.table worth c.requires.same c.requires.sets
    c.worth-worth.ensures.worth in
    let fits = subst (λ (q : Problem). Fits q done.table) (sym c.requires.same) c.requires.fits in
    let holds = subst (λ (q : Problem). HoldingTable q done.table) (sym c.requires.same) c.requires.lawful in
    let no_less = c.is_no_less.ensures.0 c.if-not-is_no_less.false in
    let comes = λ (next : Next). MayCome o s (finishing s done.worker done.leaf (prices_of done.table) next) in
    let trip = c.in-Split.trip in
    let left = c.in-Split.left in
    let inside : trip.0 < length o.problem.trips =
    omega (arith, c.if-trip-trips.false, c.trips.ensures.count, ap (λ (q : Problem). length q.trips) c.requires.same) in
    let part =
    subst (λ (sets : List LayerSet). IsProperPart left (set_of sets trip.0)) c.requires.sets
    (c.is_proper_part.ensures.part.0 c.if-not-is_proper_part.false) in (
      c.of.ensures.next,
      (
        c.of.ensures.worths,
        subst comes (sym c.in-Split.is)
            (may_split o s done.worker done.leaf done.table worth c.leaf_worth.result is_worth c.leaf_worth.ensures
            c.requires.holds fits holds no_less trip left inside part),
      ),
    )
