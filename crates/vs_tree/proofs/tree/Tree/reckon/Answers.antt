use Rattle.std.proofs.Common.{◌≡◌, false, List, length, ap, sym, ◌∙◌, subst, arith}
use Rattle.std.proofs.lemmas.List.{with_items_is}
use Rattle.std.specs.Vec.{with_items}
use Rattle.vs_types.specs.declared.layer_set.LayerSet.{LayerSet}
use Rattle.vs_instance.specs.Restriction.{IsRestriction}
use Rattle.vs_tree.specs.Finishes.{AreWorths, IsNextIn}
use Rattle.vs_tree.specs.History.{is_inner, place_at, sets_at, spot_at}
use Rattle.vs_tree.specs.Prices.{AreLawful, prices_of}
use Rattle.vs_tree.specs.Search.{Search, state}
use Rattle.vs_tree.proofs.LawfulPrices.{lawful_fits}
use Rattle.vs_tree.proofs.search.Facts.{leaf_is, restriction-at, sets-are}
use Rattle.vs_tree.proofs.search.Finishing.{other_room}
use Rattle.vs_tree.proofs.search.Inside.{opening_of, parts_of}
use Rattle.vs_tree.proofs.tree.Tree.reckon.Goals as goal

pub sets-requires-clause-spot : goal.sets-requires-clause-spot
sets-requires-clause-spot c =
    let i = c.self.inside in
    let leaf = c.args.leaf in
    leaf_is (opening_of i) (parts_of i) c.self.invariant leaf
    (subst (λ (t : Search). is_inner (spot_at (state t) leaf) ≡ false) (sym c.self.view_is) c.requires.leaf)

pub sets-requires-clause-size : goal.sets-requires-clause-size
sets-requires-clause-size c =
    let i = c.self.inside in
    let o = opening_of i in
    let a = parts_of i in
    let is = c.self.invariant in
    let leaf = c.args.leaf in
    let inside = leaf_is o a is leaf
    (subst (λ (t : Search). is_inner (spot_at (state t) leaf) ≡ false) (sym c.self.view_is) c.requires.leaf) in
    let each = restriction-at o a is leaf inside in
    let size : length c.as_mut_slice-sets.result.now ≡ length (place_at i.places.places leaf).sets =
    omega (arith, c.as_mut_slice-sets.ensures.len, i.sets.ok.0, is.parts.sets_size, each.each_trip) in
    size

pub of-requires-clause-fits : goal.of-requires-clause-fits
of-requires-clause-fits c =
    let i = c.self.inside in
    lawful_fits i.instance c.args.table.now
    (subst (λ (t : Search). AreLawful t.opening.problem (prices_of c.args.table.now)) (sym c.self.view_is)
    c.requires.lawful)

pub of-requires-clause-restriction : goal.of-requires-clause-restriction
of-requires-clause-restriction c =
    let i = c.self.inside in
    let o = opening_of i in
    let a = parts_of i in
    let is = c.self.invariant in
    let leaf = c.args.leaf in
    let inside = leaf_is o a is leaf
    (subst (λ (t : Search). is_inner (spot_at (state t) leaf) ≡ false) (sym c.self.view_is) c.requires.leaf) in
    subst (λ (x : List LayerSet). IsRestriction i.instance x) (sym c.sets.ensures) (restriction-at o a is leaf inside)

pub of-requires-clause-next : goal.of-requires-clause-next
of-requires-clause-next c =
    let i = c.self.inside in
    let leaf = c.args.leaf in
    subst (λ (x : List LayerSet). IsNextIn i.instance x c.args.next)
    (sets-are (opening_of i) (parts_of i) c.self.invariant leaf ∙ sym c.sets.ensures)
    (subst (λ (t : Search). IsNextIn t.opening.problem (sets_at (state t) leaf) c.args.next) (sym c.self.view_is)
    c.requires.next)

pub invariant_of-self : goal.invariant_of-self
invariant_of-self c =
    let i = c.self.inside in
    let o = opening_of i in
    let a = parts_of i in
    let is = c.self.invariant in
    let leaf = c.args.leaf in
    let inside = leaf_is o a is leaf
    (subst (λ (t : Search). is_inner (spot_at (state t) leaf) ≡ false) (sym c.self.view_is) c.requires.leaf) in
    let each = restriction-at o a is leaf inside in
    let written = ap (λ (x : List LayerSet). length x) c.sets.ensures in
    let size : length c.of.new.sets ≡ length i.sets.items =
    omega (arith, c.of.ensures.size, written, each.each_trip, is.parts.sets_size) in
    other_room o a (with_items i.sets c.of.new.sets).items is
    (ap (λ (x : List LayerSet). length x) (with_items_is i.sets c.of.new.sets
    (omega (arith, size, i.sets.ok.0))) ∙ size)

pub returns-clause-worths : goal.returns-clause-worths
returns-clause-worths c =
    let i = c.self.inside in
    let leaf = c.args.leaf in
    subst (λ (t : Search). AreWorths t.opening.problem (sets_at (state t) leaf) (prices_of c.args.table.now)
    c.of.result)
    c.self.view_is
    (subst (λ (x : List LayerSet). AreWorths i.instance x (prices_of c.args.table.now) c.of.result)
    (c.sets.ensures ∙ sym (sets-are (opening_of i) (parts_of i) c.self.invariant leaf)) c.of.ensures.worths)
