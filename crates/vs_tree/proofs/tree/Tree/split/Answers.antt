use Rattle.std.proofs.Common.{◌≡◌, ◌≢◌, ℕ, ◌+◌, List, [], ◌∷◌, ◌++◌, length, set, ap, sym, ◌∙◌, subst, arith, refl, length-set, slice_index_or}
use Rattle.vs_types.specs.LayerSet.{members}
use Rattle.vs_types.specs.declared.layer_set.LayerSet.{LayerSet}
use Rattle.vs_tree.specs.declared.calls.Hand.TheVariants.{Idle}
use Rattle.vs_tree.specs.declared.step.Step.TheVariants.{Split}
use Rattle.vs_tree.specs.Calls.{with_step}
use Rattle.vs_tree.specs.Cuts.{split_at}
use Rattle.vs_tree.specs.Free.{with_parts}
use Rattle.vs_tree.specs.History as full
use Rattle.vs_tree.specs.History.{FullStep, MaySplit, is_inner, place_at, sets_at, spot_at, state_of}
use Rattle.vs_tree.specs.Log.{Log, full_step}
use Rattle.vs_tree.specs.Prices.{Prices, no_prices, prices_of}
use Rattle.vs_tree.specs.Search.{IsSearch, Parts, Search, state}
use Rattle.vs_prices.specs.Tree.{right_of}
use Rattle.vs_types.proofs.CallerLemmas.{some-layers}
use Rattle.vs_tree.proofs.search.Facts.{leaf_is, restriction-at, sets-are, tables_are, within_budget}
use Rattle.vs_tree.proofs.search.GivingBack.{worker_inside}
use Rattle.vs_tree.proofs.search.Inside.{may_split, opening_of, parting_inside, parts_of}
use Rattle.vs_tree.proofs.search.Released.{room_for_step, unfinished}
use Rattle.vs_tree.proofs.search.SplitLeaf.{split_search}
use Rattle.vs_tree.proofs.sound.Closed.{last-prices}
use Rattle.vs_tree.proofs.tree.Tree.split.Goals as goal

pub add_table-number-requires : goal.add_table-number-requires
add_table-number-requires c =
    let i = c.self.inside in
    let is = c.self.invariant in
    let may = may_split i _ c.self.view_is c.args.w c.args.leaf _ c.args.parting.trip c.args.parting.left
    c.requires.may in
    let more = unfinished _ _ is c.args.w c.args.leaf may.holds in
    let are = tables_are _ _ is in
    omega (arith, are, more, is.parts.tables_room)

pub split-lower-requires-clause-trip : goal.split-lower-requires-clause-trip
split-lower-requires-clause-trip c =
    let i = c.self.inside in
    let is = c.self.invariant in
    let may = may_split i _ c.self.view_is c.args.w c.args.leaf _ c.args.parting.trip c.args.parting.left
    c.requires.may in
    let leaf_inside = leaf_is _ _ is c.args.leaf (ap is_inner may.holds.1) in
    let root = restriction-at _ _ is 0 (omega (arith, leaf_inside)) in
    omega (arith, root.each_trip, may.of_instance)

pub split-lower-requires-clause-left : goal.split-lower-requires-clause-left
split-lower-requires-clause-left c =
    let i = c.self.inside in
    let may = may_split i _ c.self.view_is c.args.w c.args.leaf _ c.args.parting.trip c.args.parting.left
    c.requires.may in
    some-layers c.args.parting.left may.part.some

pub split-lower-requires-clause-right : goal.split-lower-requires-clause-right
split-lower-requires-clause-right c =
    let i = c.self.inside in
    let may = may_split i _ c.self.view_is c.args.w c.args.leaf _ c.args.parting.trip c.args.parting.left
    c.requires.may in
    let parting = parting_inside i _ c.self.view_is c.args.leaf _ c.args.parting c.requires.parting in
    some-layers c.args.parting.right (subst (λ (x : LayerSet). members x ≢ []) (sym parting.right) may.part.others)

pub split-lower-requires-clause-room : goal.split-lower-requires-clause-room
split-lower-requires-clause-room c =
    let i = c.self.inside in
    let is = c.self.invariant in
    let may = may_split i _ c.self.view_is c.args.w c.args.leaf _ c.args.parting.trip c.args.parting.left
    c.requires.may in
    let more = unfinished _ _ is c.args.w c.args.leaf may.holds in
    omega (arith, more, is.parts.few_places, is.parts.places_room)

pub free_parts-requires-clause-inside : goal.free_parts-requires-clause-inside
free_parts-requires-clause-inside c =
    let i = c.self.inside in
    let is = c.self.invariant in
    let may = may_split i _ c.self.view_is c.args.w c.args.leaf _ c.args.parting.trip c.args.parting.left
    c.requires.may in
    let more = unfinished _ _ is c.args.w c.args.leaf may.holds in
    omega (arith, more, is.parts.few_places, c.split-lower.ensures.number, is.parts.free_size)

pub free_parts-requires-clause-few : goal.free_parts-requires-clause-few
free_parts-requires-clause-few c =
    let i = c.self.inside in
    let is = c.self.invariant in
    let may = may_split i _ c.self.view_is c.args.w c.args.leaf _ c.args.parting.trip c.args.parting.left
    c.requires.may in
    let more = unfinished _ _ is c.args.w c.args.leaf may.holds in
    omega (arith, more, is.parts.few_places, c.split-lower.ensures.number, is.few_leaves)

pub index_mut-lower_worth-requires : goal.index_mut-lower_worth-requires
index_mut-lower_worth-requires c =
    let i = c.self.inside in
    let is = c.self.invariant in
    let may = may_split i _ c.self.view_is c.args.w c.args.leaf _ c.args.parting.trip c.args.parting.left
    c.requires.may in
    let more = unfinished _ _ is c.args.w c.args.leaf may.holds in
    omega (arith, more, is.parts.few_places, c.split-lower.ensures.number, is.parts.worths_size, i.worths.ok.0)

pub index_mut-upper_worth-requires : goal.index_mut-upper_worth-requires
index_mut-upper_worth-requires c =
    let i = c.self.inside in
    let is = c.self.invariant in
    let may = may_split i _ c.self.view_is c.args.w c.args.leaf _ c.args.parting.trip c.args.parting.left
    c.requires.may in
    let more = unfinished _ _ is c.args.w c.args.leaf may.holds in
    omega (arith, more, is.parts.few_places, c.split-lower.ensures.number, is.parts.worths_size, i.worths.ok.0)

pub index_mut-requires : goal.index_mut-requires
index_mut-requires c =
    let i = c.self.inside in
    let is = c.self.invariant in
    let may = may_split i _ c.self.view_is c.args.w c.args.leaf _ c.args.parting.trip c.args.parting.left
    c.requires.may in
    let inside = worker_inside _ _ is c.args.w c.args.leaf may.holds in
    omega (arith, inside, i.hands.ok.0)

pub overflow_add-self : goal.overflow_add-self
overflow_add-self c =
    let is = c.self.invariant in
    let all = within_budget _ _ is in
    omega (arith, all, is.few_leaves)

pub add-requires-clause-room : goal.add-requires-clause-room
add-requires-clause-room c =
    let i = c.self.inside in
    let is = c.self.invariant in
    let may = may_split i _ c.self.view_is c.args.w c.args.leaf _ c.args.parting.trip c.args.parting.left
    c.requires.may in
    let room = room_for_step _ _ is c.args.w c.args.leaf may.holds in
    let steps = ap (λ (x : Log). length x.steps) c.add_table-number.ensures.log in
    let same = ap (λ (x : Log). x.step_room) c.add_table-number.ensures.log in
    omega (arith, room, steps, same)

pub invariant_of-self : goal.invariant_of-self
invariant_of-self c =
    let i = c.self.inside in
    let o = opening_of i in
    let a = parts_of i in
    let is = c.self.invariant in
    let w = c.args.w in
    let leaf = c.args.leaf in
    let may = may_split i _ c.self.view_is w leaf _ c.args.parting.trip c.args.parting.left c.requires.may in
    let parting = parting_inside i _ c.self.view_is leaf _ c.args.parting c.requires.parting in
    let number = c.add_table-number.result in
    let prices = prices_of c.args.table in
    let trip = c.args.parting.trip in
    let left = c.args.parting.left in
    let new : Log = c.add_table-number.new.self in
    let named : number ≡ length (state_of o a.log.steps).tables =
    c.add_table-number.ensures.number ∙ ap (λ (x : List Prices). length x) (sym is.parts.tables) in
    let tables : new.tables ≡ a.log.tables ++ prices ∷ [] = ap (λ (x : Log). x.tables) c.add_table-number.ensures.log in
    let added : full_step new.tables new.plans (Split w leaf number trip left) ≡ full.Split w leaf number trip
    left prices =
    ap (λ (x : Prices). full.Split w leaf number trip left x)
    (ap (λ (x : List Prices). slice_index_or x number no_prices) tables
    ∙ last-prices a.log.tables prices number c.add_table-number.ensures.number) in
    let steps : c.add.new.self.steps ≡ a.log.steps ++ full.Split w leaf number trip left prices ∷ [] =
    ap (λ (x : Log). x.steps) c.add.ensures
    ∙ ap (λ (x : FullStep). new.steps ++ x ∷ []) added
    ∙ ap (λ (x : Log). x.steps ++ full.Split w leaf number trip left prices ∷ []) c.add_table-number.ensures.log in
    let may_split : MaySplit o (state_of o a.log.steps) w leaf number trip left prices =
    subst (λ (n : ℕ). MaySplit o (state_of o a.log.steps) w leaf n trip left prices) (sym named) may in
    let two = c.args.parting in
    let right : two.right ≡ right_of (place_at i.places.places leaf).sets trip left =
    parting.right ∙ ap (λ (x : List LayerSet). right_of x trip left) (sets-are o a is leaf) in
    let first = c.split-lower.result in
    let first_is : first ≡ length i.places.places = c.split-lower.ensures.number in
    let b : Parts = record {
      places = c.split-lower.new.self;
      log = c.add.new.self;
      hands = set i.hands.items w Idle;
      free = c.free_parts.new.free;
      worths = set (set i.worths.items first two.lower) (first + 1) two.upper;
      finished = i.finished + 1;
      sets = i.sets.items;
    } in
    subst (λ (n : ℕ). IsSearch (record o { workers = n }) b) (sym (length-set i.hands.items w Idle))
    (split_search o a is w leaf number trip left prices may_split two.lower two.upper parting.lower parting.upper b
    steps (ap (λ (x : Log). x.tables) c.add.ensures ∙ tables)
    (ap (λ (x : Log). x.plans) c.add.ensures ∙ ap (λ (x : Log). x.plans) c.add_table-number.ensures.log)
    (ap (λ (x : Log). x.step_room) c.add.ensures ∙ ap (λ (x : Log). x.step_room) c.add_table-number.ensures.log)
    (ap (λ (x : Log). x.table_room) c.add.ensures ∙ ap (λ (x : Log). x.table_room) c.add_table-number.ensures.log)
    (ap (λ (x : Log). x.plan_room) c.add.ensures ∙ ap (λ (x : Log). x.plan_room) c.add_table-number.ensures.log)
    (c.split-lower.ensures.places
    ∙ ap (λ (x : LayerSet). split_at i.places.places leaf trip left x number) right)
    c.split-lower.ensures.room refl
    (c.free_parts.ensures ∙ ap (λ (m : ℕ). with_parts i.free m two.lower two.upper) first_is)
    (ap (λ (m : ℕ). set (set i.worths.items m two.lower) (m + 1) two.upper) first_is)
    refl refl)

pub returns : goal.returns
returns c =
    let i = c.self.inside in
    let o = opening_of i in
    let a = parts_of i in
    let is = c.self.invariant in
    let w = c.args.w in
    let leaf = c.args.leaf in
    let may = may_split i _ c.self.view_is w leaf _ c.args.parting.trip c.args.parting.left c.requires.may in
    let number = c.add_table-number.result in
    let prices = prices_of c.args.table in
    let trip = c.args.parting.trip in
    let left = c.args.parting.left in
    let new : Log = c.add_table-number.new.self in
    let named : number ≡ length (state_of o a.log.steps).tables =
    c.add_table-number.ensures.number ∙ ap (λ (x : List Prices). length x) (sym is.parts.tables) in
    let tables : new.tables ≡ a.log.tables ++ prices ∷ [] = ap (λ (x : Log). x.tables) c.add_table-number.ensures.log in
    let added : full_step new.tables new.plans (Split w leaf number trip left) ≡ full.Split w leaf number trip
    left prices =
    ap (λ (x : Prices). full.Split w leaf number trip left x)
    (ap (λ (x : List Prices). slice_index_or x number no_prices) tables
    ∙ last-prices a.log.tables prices number c.add_table-number.ensures.number) in
    let steps : c.add.new.self.steps ≡ a.log.steps ++ full.Split w leaf number trip left prices ∷ [] =
    ap (λ (x : Log). x.steps) c.add.ensures
    ∙ ap (λ (x : FullStep). new.steps ++ x ∷ []) added
    ∙ ap (λ (x : Log). x.steps ++ full.Split w leaf number trip left prices ∷ []) c.add_table-number.ensures.log in
    let named_so : full.Split w leaf number trip left prices
    ≡ full.Split w leaf (length (state_of o a.log.steps).tables) trip left prices =
    ap (λ (k : ℕ). full.Split w leaf k trip left prices) named in
    ap (λ (n : ℕ). record { opening = record o { workers = n }; steps = c.add.new.self.steps })
    (length-set i.hands.items w Idle)
    ∙ ap (λ (x : List FullStep). record { opening = o; steps = x }) steps
    ∙ ap (λ (x : FullStep). record { opening = o; steps = a.log.steps ++ x ∷ [] }) named_so
    ∙ ap (λ (t : Search). with_step t (full.Split w leaf (length (state t).tables) trip left prices)) c.self.view_is
