use Rattle.std.proofs.Common.{◌≡◌, ℕ, true, false, List, [], ◌∷◌, ◌++◌, set, ap, sym, ◌∙◌, subst, arith, refl, length-set, append-nil, None, ℤ, SFits, w64, rules}
use Rattle.std.proofs.lemmas.Int.{to_z-of_z}
use Rattle.vs_tree.specs.Calls.{HoldsSome}
use Rattle.vs_tree.specs.declared.calls.Hand.{Hand}
use Rattle.vs_tree.specs.declared.calls.Hand.TheVariants.{Has}
use Rattle.vs_tree.specs.History as full
use Rattle.vs_tree.specs.History.{FullStep, IsAmong, IsCheaper, MayOffer, known, state_of}
use Rattle.vs_tree.specs.Log.{Log}
use Rattle.vs_tree.specs.Search.{IsSearch, Parts, Search, hand_at, is_busy, state}
use Rattle.vs_tree.proofs.search.GivingBack.{has-leaf, worker_inside}
use Rattle.vs_tree.proofs.search.Inside.{opening_of, parts_of}
use Rattle.vs_tree.proofs.search.Offering.{had, offered_search}
use Rattle.vs_tree.proofs.search.Released.{room_for_step}
use Rattle.vs_tree.proofs.tree.Tree.refuse.Goals as goal

pub leaf_in_hand-leaf-requires-clause-worker : goal.leaf_in_hand-leaf-requires-clause-worker
leaf_in_hand-leaf-requires-clause-worker c =
    let i = c.self.inside in
    let o = opening_of i in
    let a = parts_of i in
    let is = c.self.invariant in
    let w = c.args.w in
    let held = subst (λ (t : Search). HoldsSome (state t) w) (sym c.self.view_is) c.requires.holds in
    let new = subst (λ (t : Search). ¬ (IsAmong w (state t).offered)) (sym c.self.view_is) c.requires.first_time in
    let inside = worker_inside o a is w held.0 held.1 in
    let have = had o a is w held.0 held.1 new in
    omega (arith, inside, i.hands.ok.0, c.deref.ensures.len)

pub leaf_in_hand-leaf-requires-clause-has : goal.leaf_in_hand-leaf-requires-clause-has
leaf_in_hand-leaf-requires-clause-has c =
    let i = c.self.inside in
    let o = opening_of i in
    let a = parts_of i in
    let is = c.self.invariant in
    let w = c.args.w in
    let held = subst (λ (t : Search). HoldsSome (state t) w) (sym c.self.view_is) c.requires.holds in
    let new = subst (λ (t : Search). ¬ (IsAmong w (state t).offered)) (sym c.self.view_is) c.requires.first_time in
    let inside = worker_inside o a is w held.0 held.1 in
    let have = had o a is w held.0 held.1 new in
    ap (λ (x : List Hand). is_busy (hand_at x w)) c.deref.ensures.value ∙ ap is_busy have

pub add-requires-clause-room : goal.add-requires-clause-room
add-requires-clause-room c =
    let i = c.self.inside in
    let o = opening_of i in
    let a = parts_of i in
    let is = c.self.invariant in
    let w = c.args.w in
    let held = subst (λ (t : Search). HoldsSome (state t) w) (sym c.self.view_is) c.requires.holds in
    let new = subst (λ (t : Search). ¬ (IsAmong w (state t).offered)) (sym c.self.view_is) c.requires.first_time in
    let inside = worker_inside o a is w held.0 held.1 in
    let have = had o a is w held.0 held.1 new in
    room_for_step o a is w held.0 held.1

pub invariant_of-self : goal.invariant_of-self
invariant_of-self c =
    let i = c.self.inside in
    let o = opening_of i in
    let a = parts_of i in
    let is = c.self.invariant in
    let w = c.args.w in
    let held = subst (λ (t : Search). HoldsSome (state t) w) (sym c.self.view_is) c.requires.holds in
    let new = subst (λ (t : Search). ¬ (IsAmong w (state t).offered)) (sym c.self.view_is) c.requires.first_time in
    let inside = worker_inside o a is w held.0 held.1 in
    let have = had o a is w held.0 held.1 new in
    let at : hand_at c.deref.result.now w ≡ Has held.0 false =
    ap (λ (x : List Hand). hand_at x w) c.deref.ensures.value ∙ have in
    let same : c.leaf_in_hand-leaf.result ≡ held.0 =
    has-leaf _ _ _ _ (sym c.leaf_in_hand-leaf.ensures.1 ∙ at) in
    let dear = subst (λ (t : Search). ¬ (IsCheaper c.args.cost (known (state t)))) (sym c.self.view_is)
    c.requires.dear in
    let may : MayOffer o (state_of o a.log.steps) w c.args.cost None None = record {
      leaf = held.0;
      holds = held.1;
      first_time = new;
      accepted = λ cheap. absurd (dear cheap);
      refused = λ not_cheap. (refl, refl);
    } in
    let b : Parts = record {
      places = i.places;
      log = c.add.new.self;
      hands = set i.hands.items w (Has c.leaf_in_hand-leaf.result true);
      free = i.free;
      worths = i.worths.items;
      finished = i.finished;
      sets = i.sets.items;
    } in
    subst (λ (n : ℕ). IsSearch (record o { workers = n }) b)
    (sym (length-set i.hands.items w (Has c.leaf_in_hand-leaf.result true)))
    (offered_search o a is w held.0 held.1 new c.args.cost None None may b
    (ap (λ (x : Log). x.steps) c.add.ensures
    ∙ ap (λ (x : ℤ). a.log.steps ++ full.Offered w x None None ∷ [])
    (let fits : SFits w64 c.args.cost = search rules in rw to_z-of_z refl))
    (ap (λ (x : Log). x.tables) c.add.ensures)
    (ap (λ (x : Log). x.plans) c.add.ensures ∙ sym (append-nil a.log.plans))
    (ap (λ (x : Log). x.step_room) c.add.ensures)
    (ap (λ (x : Log). x.table_room) c.add.ensures) (ap (λ (x : Log). x.plan_room) c.add.ensures)
    refl (ap (λ (k : ℕ). set i.hands.items w (Has k true)) same) refl refl refl refl)
