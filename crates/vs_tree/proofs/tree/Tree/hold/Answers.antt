use Rattle.std.proofs.Common.{ℕ, false, length, ap, sym, ◌∙◌, subst, arith, refl, length-set, set, ◌*◌}
use Rattle.vs_tree.specs.declared.calls.Hand.TheVariants.{Has}
use Rattle.vs_tree.specs.declared.spot.Spot.TheVariants.{Held}
use Rattle.vs_tree.specs.History.{MayTake, is_inner, table_of, with_spot}
use Rattle.vs_tree.specs.Log.{Log}
use Rattle.vs_tree.specs.Search.{IsSearch, Parts, Search, state}
use Rattle.vs_tree.proofs.search.Facts.{leaf_is, number-inside, restriction-at, spot-is, table-fits}
use Rattle.vs_tree.proofs.search.Inside.{opening_of, parts_of}
use Rattle.vs_tree.proofs.search.Taking.{took_search}
use Rattle.vs_tree.proofs.tree.Tree.hold.Goals as goal

pub sets-requires-clause-size : goal.sets-requires-clause-size
sets-requires-clause-size c =
    let i = c.self.inside in
    let may = subst (λ (t : Search). MayTake t.opening (state t) c.args.w c.args.leaf) (sym c.self.view_is)
    c.requires.may in
    let inside = leaf_is (opening_of i) (parts_of i) c.self.invariant c.args.leaf (ap is_inner may.next.free.1) in
    let each = restriction-at (opening_of i) (parts_of i) c.self.invariant c.args.leaf inside in
    let trips = ap (λ (t : Search). length t.opening.problem.trips) c.self.view_is in
    omega (arith, each.each_trip, c.requires.sets, trips)

pub table-requires : goal.table-requires
table-requires c =
    let i = c.self.inside in
    let may = subst (λ (t : Search). MayTake t.opening (state t) c.args.w c.args.leaf) (sym c.self.view_is)
    c.requires.may in
    let named = ap table_of (sym c.in-Free.is ∙ c.spot.ensures
    ∙ sym (spot-is (opening_of i) (parts_of i) c.self.invariant c.args.leaf)) in
    number-inside (opening_of i) (parts_of i) c.self.invariant c.args.leaf c.in-Free.table
    (ap is_inner may.next.free.1) named

pub copy_prices-requires-clause-into : goal.copy_prices-requires-clause-into
copy_prices-requires-clause-into c =
    let i = c.self.inside in
    let may = subst (λ (t : Search). MayTake t.opening (state t) c.args.w c.args.leaf) (sym c.self.view_is)
    c.requires.may in
    let named = ap table_of (sym c.in-Free.is ∙ c.spot.ensures
    ∙ sym (spot-is (opening_of i) (parts_of i) c.self.invariant c.args.leaf)) in
    let inside = number-inside (opening_of i) (parts_of i) c.self.invariant c.args.leaf c.in-Free.table
    (ap is_inner may.next.free.1) named in
    let fits = table-fits (opening_of i) (parts_of i) c.self.invariant c.in-Free.table c.table.result.now inside
    c.table.ensures in
    c.requires.table.into ∙ ap (λ (t : Search). length t.opening.problem.layers * length t.opening.problem.trips)
    (sym c.self.view_is)
    ∙ sym fits.into_size

pub copy_prices-requires-clause-from : goal.copy_prices-requires-clause-from
copy_prices-requires-clause-from c =
    let i = c.self.inside in
    let may = subst (λ (t : Search). MayTake t.opening (state t) c.args.w c.args.leaf) (sym c.self.view_is)
    c.requires.may in
    let named = ap table_of (sym c.in-Free.is ∙ c.spot.ensures
    ∙ sym (spot-is (opening_of i) (parts_of i) c.self.invariant c.args.leaf)) in
    let inside = number-inside (opening_of i) (parts_of i) c.self.invariant c.args.leaf c.in-Free.table
    (ap is_inner may.next.free.1) named in
    let fits = table-fits (opening_of i) (parts_of i) c.self.invariant c.in-Free.table c.table.result.now inside
    c.table.ensures in
    c.requires.table.from ∙ ap (λ (t : Search). length t.opening.problem.layers * length t.opening.problem.trips)
    (sym c.self.view_is)
    ∙ sym fits.from_size

pub copy_prices-requires-clause-fleet : goal.copy_prices-requires-clause-fleet
copy_prices-requires-clause-fleet c =
    let i = c.self.inside in
    let may = subst (λ (t : Search). MayTake t.opening (state t) c.args.w c.args.leaf) (sym c.self.view_is)
    c.requires.may in
    let named = ap table_of (sym c.in-Free.is ∙ c.spot.ensures
    ∙ sym (spot-is (opening_of i) (parts_of i) c.self.invariant c.args.leaf)) in
    let inside = number-inside (opening_of i) (parts_of i) c.self.invariant c.args.leaf c.in-Free.table
    (ap is_inner may.next.free.1) named in
    let fits = table-fits (opening_of i) (parts_of i) c.self.invariant c.in-Free.table c.table.result.now inside
    c.table.ensures in
    c.requires.table.fleet ∙ ap (λ (t : Search). length t.opening.problem.layers) (sym c.self.view_is)
    ∙ sym fits.fleet_size

pub invariant_of-self : goal.invariant_of-self
invariant_of-self c =
    let i = c.self.inside in
    let w = c.args.w in
    let leaf = c.args.leaf in
    let may = subst (λ (t : Search). MayTake t.opening (state t) w leaf) (sym c.self.view_is) c.requires.may in
    let named = ap table_of (sym c.in-Free.is ∙ c.spot.ensures
    ∙ sym (spot-is (opening_of i) (parts_of i) c.self.invariant leaf)) in
    let b : Parts = record {
      places = c.relabel.new.self;
      log = c.add.new.self;
      hands = set i.hands.items w (Has leaf false);
      free = c.put.new.self;
      worths = i.worths.items;
      finished = i.finished;
      sets = i.sets.items;
    } in
    let places = c.relabel.ensures.places
    ∙ ap (λ (n : ℕ). with_spot i.places.places leaf (Held w n)) named in
    subst (λ (n : ℕ). IsSearch (record (opening_of i) { workers = n }) b)
    (sym (length-set i.hands.items w (Has leaf false)))
    (took_search (opening_of i) (parts_of i) c.self.invariant w leaf may b
    (ap (λ (x : Log). x.steps) c.add.ensures) (ap (λ (x : Log). x.tables) c.add.ensures)
    (ap (λ (x : Log). x.plans) c.add.ensures) (ap (λ (x : Log). x.step_room) c.add.ensures)
    (ap (λ (x : Log). x.table_room) c.add.ensures) (ap (λ (x : Log). x.plan_room) c.add.ensures)
    places c.relabel.ensures.room refl c.put.ensures refl refl refl)
