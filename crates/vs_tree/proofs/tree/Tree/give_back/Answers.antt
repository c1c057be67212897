use Rattle.std.proofs.Common.{◌≡◌, ℕ, set, ap, sym, ◌∙◌, subst, arith, refl, length-set, get_or, Some}
use Rattle.std.proofs.lemmas.List.{get_or_default}
use Rattle.vs_prices.specs.declared.bound.Bound.{Bound}
use Rattle.vs_prices.specs.declared.bound.Bound.TheVariants.{NoPlan}
use Rattle.vs_tree.specs.Calls.{HoldsSome, with_step}
use Rattle.vs_tree.specs.declared.calls.Hand.TheVariants.{Has, Gone}
use Rattle.vs_tree.specs.declared.spot.Spot.TheVariants.{Free}
use Rattle.vs_tree.specs.History as full
use Rattle.vs_tree.specs.History.{IsHeldBy, after, is_held, is_inner, spot_at, state_of, table_of, with_spot}
use Rattle.vs_tree.specs.Log.{Log}
use Rattle.vs_tree.specs.Search.{IsSearch, Parts, Search, state}
use Rattle.vs_tree.proofs.search.Facts.{leaf_is, places_within, spot-is}
use Rattle.vs_tree.proofs.search.GivingBack.{hand_has, has-leaf, worker_inside}
use Rattle.vs_tree.proofs.search.Inside.{opening_of, parts_of}
use Rattle.vs_tree.proofs.search.Released.{gave_back_search, room_for_step}
use Rattle.vs_tree.proofs.tree.Tree.give_back.Goals as goal

pub index-requires : goal.index-requires
index-requires c =
    let i = c.self.inside in
    let o = opening_of i in
    let a = parts_of i in
    let is = c.self.invariant in
    let w = c.args.w in
    let held = subst (λ (t : Search). HoldsSome (state t) w) (sym c.self.view_is) c.requires in
    let inside = worker_inside o a is w held.0 held.1 in
    omega (arith, inside, i.hands.ok.0)

pub unreachable-requires : goal.unreachable-requires
unreachable-requires c =
    let i = c.self.inside in
    let o = opening_of i in
    let a = parts_of i in
    let is = c.self.invariant in
    let w = c.args.w in
    let held = subst (λ (t : Search). HoldsSome (state t) w) (sym c.self.view_is) c.requires in
    let inside = worker_inside o a is w held.0 held.1 in
    let has = hand_has o a is w held.0 held.1 in
    let at : c.index.result.now ≡ Has held.0 has.0 =
    c.index.ensures ∙ get_or_default i.hands.items w c.index.result.now Gone inside ∙ has.1 in
    c.in_default.not-Has held.0 has.0 at

pub spot-requires : goal.spot-requires
spot-requires c =
    let i = c.self.inside in
    let o = opening_of i in
    let a = parts_of i in
    let is = c.self.invariant in
    let w = c.args.w in
    let held = subst (λ (t : Search). HoldsSome (state t) w) (sym c.self.view_is) c.requires in
    let inside = worker_inside o a is w held.0 held.1 in
    let has = hand_has o a is w held.0 held.1 in
    let at : c.index.result.now ≡ Has held.0 has.0 =
    c.index.ensures ∙ get_or_default i.hands.items w c.index.result.now Gone inside ∙ has.1 in
    let leaf_is_held : c.in-Has.leaf ≡ held.0 = has-leaf _ _ _ _ (sym c.in-Has.is ∙ at) in
    let held_here : IsHeldBy (state_of o a.log.steps) w c.in-Has.leaf =
    subst (λ (k : ℕ). IsHeldBy (state_of o a.log.steps) w k) (sym leaf_is_held) held.1 in
    let leaf_inside = leaf_is o a is c.in-Has.leaf (ap is_inner held_here.1) in
    leaf_inside

pub unreachable-requires-in_default-spot : goal.unreachable-requires-in_default-spot
unreachable-requires-in_default-spot c =
    let i = c.self.inside in
    let o = opening_of i in
    let a = parts_of i in
    let is = c.self.invariant in
    let w = c.args.w in
    let held = subst (λ (t : Search). HoldsSome (state t) w) (sym c.self.view_is) c.requires in
    let inside = worker_inside o a is w held.0 held.1 in
    let has = hand_has o a is w held.0 held.1 in
    let at : c.index.result.now ≡ Has held.0 has.0 =
    c.index.ensures ∙ get_or_default i.hands.items w c.index.result.now Gone inside ∙ has.1 in
    let leaf_is_held : c.in-Has.leaf ≡ held.0 = has-leaf _ _ _ _ (sym c.in-Has.is ∙ at) in
    let held_here : IsHeldBy (state_of o a.log.steps) w c.in-Has.leaf =
    subst (λ (k : ℕ). IsHeldBy (state_of o a.log.steps) w k) (sym leaf_is_held) held.1 in
    let leaf_inside = leaf_is o a is c.in-Has.leaf (ap is_inner held_here.1) in
    c.in_default-spot.not-Held _ _ (c.spot.ensures ∙ sym (spot-is o a is c.in-Has.leaf) ∙ held_here.1)

pub index-least-requires : goal.index-least-requires
index-least-requires c =
    let i = c.self.inside in
    let o = opening_of i in
    let a = parts_of i in
    let is = c.self.invariant in
    let w = c.args.w in
    let held = subst (λ (t : Search). HoldsSome (state t) w) (sym c.self.view_is) c.requires in
    let inside = worker_inside o a is w held.0 held.1 in
    let has = hand_has o a is w held.0 held.1 in
    let at : c.index.result.now ≡ Has held.0 has.0 =
    c.index.ensures ∙ get_or_default i.hands.items w c.index.result.now Gone inside ∙ has.1 in
    let leaf_is_held : c.in-Has.leaf ≡ held.0 = has-leaf _ _ _ _ (sym c.in-Has.is ∙ at) in
    let held_here : IsHeldBy (state_of o a.log.steps) w c.in-Has.leaf =
    subst (λ (k : ℕ). IsHeldBy (state_of o a.log.steps) w k) (sym leaf_is_held) held.1 in
    let leaf_inside = leaf_is o a is c.in-Has.leaf (ap is_inner held_here.1) in
    let few = places_within o a is in
    omega (arith, leaf_inside, few, is.parts.worths_size, i.worths.ok.0)

pub put-requires : goal.put-requires
put-requires c =
    let i = c.self.inside in
    let o = opening_of i in
    let a = parts_of i in
    let is = c.self.invariant in
    let w = c.args.w in
    let held = subst (λ (t : Search). HoldsSome (state t) w) (sym c.self.view_is) c.requires in
    let inside = worker_inside o a is w held.0 held.1 in
    let has = hand_has o a is w held.0 held.1 in
    let at : c.index.result.now ≡ Has held.0 has.0 =
    c.index.ensures ∙ get_or_default i.hands.items w c.index.result.now Gone inside ∙ has.1 in
    let leaf_is_held : c.in-Has.leaf ≡ held.0 = has-leaf _ _ _ _ (sym c.in-Has.is ∙ at) in
    let held_here : IsHeldBy (state_of o a.log.steps) w c.in-Has.leaf =
    subst (λ (k : ℕ). IsHeldBy (state_of o a.log.steps) w k) (sym leaf_is_held) held.1 in
    let leaf_inside = leaf_is o a is c.in-Has.leaf (ap is_inner held_here.1) in
    let few = places_within o a is in
    omega (arith, leaf_inside, few, is.parts.free_size)

pub index_mut-requires : goal.index_mut-requires
index_mut-requires c =
    let i = c.self.inside in
    let o = opening_of i in
    let a = parts_of i in
    let is = c.self.invariant in
    let w = c.args.w in
    let held = subst (λ (t : Search). HoldsSome (state t) w) (sym c.self.view_is) c.requires in
    let inside = worker_inside o a is w held.0 held.1 in
    omega (arith, inside, i.hands.ok.0)

pub add-requires-clause-room : goal.add-requires-clause-room
add-requires-clause-room c =
    let i = c.self.inside in
    let o = opening_of i in
    let a = parts_of i in
    let is = c.self.invariant in
    let w = c.args.w in
    let held = subst (λ (t : Search). HoldsSome (state t) w) (sym c.self.view_is) c.requires in
    let inside = worker_inside o a is w held.0 held.1 in
    room_for_step o a is w held.0 held.1

pub invariant_of-self : goal.invariant_of-self
invariant_of-self c =
    let i = c.self.inside in
    let o = opening_of i in
    let a = parts_of i in
    let is = c.self.invariant in
    let w = c.args.w in
    let held = subst (λ (t : Search). HoldsSome (state t) w) (sym c.self.view_is) c.requires in
    let inside = worker_inside o a is w held.0 held.1 in
    let has = hand_has o a is w held.0 held.1 in
    let at : c.index.result.now ≡ Has held.0 has.0 =
    c.index.ensures ∙ get_or_default i.hands.items w c.index.result.now Gone inside ∙ has.1 in
    let leaf_is_held : c.in-Has.leaf ≡ held.0 = has-leaf _ _ _ _ (sym c.in-Has.is ∙ at) in
    let held_here : IsHeldBy (state_of o a.log.steps) w c.in-Has.leaf =
    subst (λ (k : ℕ). IsHeldBy (state_of o a.log.steps) w k) (sym leaf_is_held) held.1 in
    let leaf_inside = leaf_is o a is c.in-Has.leaf (ap is_inner held_here.1) in
    let few = places_within o a is in
    let b : Parts = record {
      places = c.relabel.new.self;
      log = c.add.new.self;
      hands = set i.hands.items w Gone;
      free = c.put.new.self;
      worths = i.worths.items;
      finished = i.finished;
      sets = i.sets.items;
    } in
    let named : c.in-Held.table ≡ table_of (spot_at (state_of o a.log.steps) c.in-Has.leaf) =
    ap table_of (sym c.in-Held.is ∙ c.spot.ensures ∙ sym (spot-is o a is c.in-Has.leaf)) in
    let least : c.index-least.result.now ≡ get_or i.worths.items c.in-Has.leaf NoPlan =
    c.index-least.ensures ∙ get_or_default i.worths.items c.in-Has.leaf c.index-least.result.now NoPlan
    (omega (arith, leaf_inside, few, is.parts.worths_size)) in
    subst (λ (n : ℕ). IsSearch (record o { workers = n }) b) (sym (length-set i.hands.items w Gone))
    (gave_back_search o a is w c.in-Has.leaf held_here b
    (ap (λ (x : Log). x.steps) c.add.ensures) (ap (λ (x : Log). x.tables) c.add.ensures)
    (ap (λ (x : Log). x.plans) c.add.ensures) (ap (λ (x : Log). x.step_room) c.add.ensures)
    (ap (λ (x : Log). x.table_room) c.add.ensures) (ap (λ (x : Log). x.plan_room) c.add.ensures)
    (c.relabel.ensures.places ∙ ap (λ (n : ℕ). with_spot i.places.places c.in-Has.leaf (Free n)) named)
    c.relabel.ensures.room refl
    (c.put.ensures ∙ ap (λ (x : Bound). set i.free c.in-Has.leaf
    (Some (record { worth = x; leaf = c.in-Has.leaf }))) least)
    refl refl refl)

pub returns : goal.returns
returns c =
    let i = c.self.inside in
    let o = opening_of i in
    let a = parts_of i in
    let is = c.self.invariant in
    let w = c.args.w in
    let held = subst (λ (t : Search). HoldsSome (state t) w) (sym c.self.view_is) c.requires in
    let inside = worker_inside o a is w held.0 held.1 in
    let has = hand_has o a is w held.0 held.1 in
    let at : c.index.result.now ≡ Has held.0 has.0 =
    c.index.ensures ∙ get_or_default i.hands.items w c.index.result.now Gone inside ∙ has.1 in
    let leaf_is_held : c.in-Has.leaf ≡ held.0 = has-leaf _ _ _ _ (sym c.in-Has.is ∙ at) in
    let held_here : IsHeldBy (state_of o a.log.steps) w c.in-Has.leaf =
    subst (λ (k : ℕ). IsHeldBy (state_of o a.log.steps) w k) (sym leaf_is_held) held.1 in
    let leaf_inside = leaf_is o a is c.in-Has.leaf (ap is_inner held_here.1) in
    record {
      leaf = c.in-Has.leaf;
      held = subst (λ (t : Search). IsHeldBy (state t) w c.in-Has.leaf) c.self.view_is held_here;
      adds =
          ap (λ (n : ℕ). record { opening = record o { workers = n }; steps = c.add.new.self.steps })
          (length-set i.hands.items w Gone)
          ∙ ap (λ (x : Log). record { opening = o; steps = x.steps }) c.add.ensures
          ∙ ap (λ (t : Search). with_step t (full.GaveBack w c.in-Has.leaf)) c.self.view_is;
    }
