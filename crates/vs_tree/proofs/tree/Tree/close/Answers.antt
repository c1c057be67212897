use Rattle.std.proofs.Common.{◌≡◌, ℕ, ◌+◌, List, [], ◌∷◌, ◌++◌, length, set, ap, sym, ◌∙◌, subst, arith, refl, length-set, slice_index_or}
use Rattle.vs_tree.specs.declared.calls.Hand.TheVariants.{Idle}
use Rattle.vs_tree.specs.declared.step.Step.TheVariants.{Closed}
use Rattle.vs_tree.specs.History as full
use Rattle.vs_tree.specs.History.{FullStep, MayClose, is_inner, sets_at, state_of}
use Rattle.vs_tree.specs.Log.{Log, full_step}
use Rattle.vs_tree.specs.Prices.{AreWorth, Prices, no_prices, prices_of}
use Rattle.vs_tree.specs.Search.{IsSearch, Parts, Search, state}
use Rattle.vs_tree.proofs.search.ClosedLeaf.{closed_search}
use Rattle.vs_tree.proofs.search.Facts.{leaf_is, places_within, tables_are, within_budget}
use Rattle.vs_tree.proofs.search.GivingBack.{worker_inside}
use Rattle.vs_tree.proofs.search.Inside.{may_close, opening_of, parts_of}
use Rattle.vs_tree.proofs.search.Released.{room_for_step, unfinished}
use Rattle.vs_tree.proofs.sound.Closed.{last-prices}
use Rattle.vs_tree.proofs.tree.Tree.close.Goals as goal

pub add_table-number-requires : goal.add_table-number-requires
add_table-number-requires c =
    let is = c.self.invariant in
    let may = may_close c.self.inside _ c.self.view_is c.args.w c.args.leaf _ c.requires.may in
    let are = tables_are _ _ is in
    let more = unfinished _ _ is c.args.w c.args.leaf may.holds in
    omega (arith, are, more, is.parts.tables_room)

pub index_mut-worth_there-requires : goal.index_mut-worth_there-requires
index_mut-worth_there-requires c =
    let i = c.self.inside in
    let is = c.self.invariant in
    let may = may_close i _ c.self.view_is c.args.w c.args.leaf _ c.requires.may in
    let leaf_inside = leaf_is _ _ is c.args.leaf (ap is_inner may.holds.1) in
    let few = places_within _ _ is in
    omega (arith, leaf_inside, few, is.parts.worths_size, i.worths.ok.0)

pub index_mut-requires : goal.index_mut-requires
index_mut-requires c =
    let i = c.self.inside in
    let is = c.self.invariant in
    let may = may_close i _ c.self.view_is c.args.w c.args.leaf _ c.requires.may in
    let inside = worker_inside _ _ is c.args.w c.args.leaf may.holds in
    omega (arith, inside, i.hands.ok.0)

pub overflow_add-self : goal.overflow_add-self
overflow_add-self c =
    let is = c.self.invariant in
    let all = within_budget _ _ is in
    omega (arith, all, is.few_leaves)

pub add-requires-clause-room : goal.add-requires-clause-room
add-requires-clause-room c =
    let is = c.self.invariant in
    let may = may_close c.self.inside _ c.self.view_is c.args.w c.args.leaf _ c.requires.may in
    let room = room_for_step _ _ is c.args.w c.args.leaf may.holds in
    let steps = ap (λ (x : Log). length x.steps) c.add_table-number.ensures.log in
    let same = ap (λ (x : Log). x.step_room) c.add_table-number.ensures.log in
    omega (arith, room, steps, same)

pub invariant_of-self : goal.invariant_of-self
invariant_of-self c =
    let i = c.self.inside in
    let o = opening_of i in
    let a = parts_of i in
    let is = c.self.invariant in
    let w = c.args.w in
    let leaf = c.args.leaf in
    let may = may_close i _ c.self.view_is w leaf _ c.requires.may in
    let number = c.add_table-number.result in
    let prices = prices_of c.args.table in
    let new : Log = c.add_table-number.new.self in
    let named : number ≡ length (state_of o a.log.steps).tables =
    c.add_table-number.ensures.number ∙ ap (λ (x : List Prices). length x) (sym is.parts.tables) in
    let may_close : MayClose o (state_of o a.log.steps) w leaf number prices =
    subst (λ (n : ℕ). MayClose o (state_of o a.log.steps) w leaf n prices) (sym named) may in
    let tables : new.tables ≡ a.log.tables ++ prices ∷ [] = ap (λ (x : Log). x.tables) c.add_table-number.ensures.log in
    let added : full_step new.tables new.plans (Closed w leaf number) ≡ full.Closed w leaf number prices =
    ap (λ (x : Prices). full.Closed w leaf number x)
    (ap (λ (x : List Prices). slice_index_or x number no_prices) tables
    ∙ last-prices a.log.tables prices number c.add_table-number.ensures.number) in
    let steps : c.add.new.self.steps ≡ a.log.steps ++ full.Closed w leaf number prices ∷ [] =
    ap (λ (x : Log). x.steps) c.add.ensures
    ∙ ap (λ (x : FullStep). new.steps ++ x ∷ []) added
    ∙ ap (λ (x : Log). x.steps ++ full.Closed w leaf number prices ∷ []) c.add_table-number.ensures.log in
    let worth =
    subst (λ (t : Search). AreWorth t.opening.problem (sets_at (state t) leaf) prices c.args.worth) (sym c.self.view_is)
    c.requires.worth in
    let b : Parts = record {
      places = c.relabel.new.self;
      log = c.add.new.self;
      hands = set i.hands.items w Idle;
      free = i.free;
      worths = set i.worths.items leaf c.args.worth;
      finished = i.finished + 1;
      sets = i.sets.items;
    } in
    subst (λ (n : ℕ). IsSearch (record o { workers = n }) b) (sym (length-set i.hands.items w Idle))
    (closed_search o a is w leaf number prices may_close c.args.worth worth b
    steps (ap (λ (x : Log). x.tables) c.add.ensures ∙ tables)
    (ap (λ (x : Log). x.plans) c.add.ensures ∙ ap (λ (x : Log). x.plans) c.add_table-number.ensures.log)
    (ap (λ (x : Log). x.step_room) c.add.ensures ∙ ap (λ (x : Log). x.step_room) c.add_table-number.ensures.log)
    (ap (λ (x : Log). x.table_room) c.add.ensures ∙ ap (λ (x : Log). x.table_room) c.add_table-number.ensures.log)
    (ap (λ (x : Log). x.plan_room) c.add.ensures ∙ ap (λ (x : Log). x.plan_room) c.add_table-number.ensures.log)
    c.relabel.ensures.places c.relabel.ensures.room refl refl refl refl refl)
