use Rattle.std.proofs.Common.{◌≡◌, ℕ, true, false, List, [], ◌∷◌, ◌++◌, length, set, ap, sym, ◌∙◌, subst, arith, refl, length-set, Option, Some, slice_get, ℤ, SFits, w64, to_z, of_z, rules}
use Rattle.std.proofs.lemmas.Int.{to_z-of_z}
use Rattle.vs_plan.specs.CheckedPlan.{Checked}
use Rattle.vs_tree.specs.Calls.{HoldsSome, offering, with_step}
use Rattle.vs_tree.specs.declared.calls.Hand.{Hand}
use Rattle.vs_tree.specs.declared.calls.Hand.TheVariants.{Has}
use Rattle.vs_tree.specs.History as full
use Rattle.vs_tree.specs.History.{FullStep, IsAmong, IsCheaper, MayOffer, known, state_of}
use Rattle.vs_tree.specs.Log.{Log}
use Rattle.vs_tree.specs.Search.{IsSearch, Parts, Search, hand_at, is_busy, state}
use Rattle.vs_tree.proofs.Accepted.{get-last}
use Rattle.vs_tree.proofs.search.GivingBack.{has-leaf, worker_inside}
use Rattle.vs_tree.proofs.search.Inside.{opening_of, parts_of}
use Rattle.vs_tree.proofs.search.Offering.{had, offered_search, room_for_plan}
use Rattle.vs_tree.proofs.search.Released.{room_for_step}
use Rattle.vs_tree.proofs.tree.Tree.accept.Goals as goal

pub leaf_in_hand-leaf-requires-clause-worker : goal.leaf_in_hand-leaf-requires-clause-worker
leaf_in_hand-leaf-requires-clause-worker c =
    let i = c.self.inside in
    let o = opening_of i in
    let a = parts_of i in
    let is = c.self.invariant in
    let w = c.args.w in
    let held = subst (λ (t : Search). HoldsSome (state t) w) (sym c.self.view_is) c.requires.holds in
    let new = subst (λ (t : Search). ¬ (IsAmong w (state t).offered)) (sym c.self.view_is) c.requires.first_time in
    let inside = worker_inside o a is w held.0 held.1 in
    let have = had o a is w held.0 held.1 new in
    omega (arith, inside, i.hands.ok.0, c.deref.ensures.len)

pub leaf_in_hand-leaf-requires-clause-has : goal.leaf_in_hand-leaf-requires-clause-has
leaf_in_hand-leaf-requires-clause-has c =
    let i = c.self.inside in
    let o = opening_of i in
    let a = parts_of i in
    let is = c.self.invariant in
    let w = c.args.w in
    let held = subst (λ (t : Search). HoldsSome (state t) w) (sym c.self.view_is) c.requires.holds in
    let new = subst (λ (t : Search). ¬ (IsAmong w (state t).offered)) (sym c.self.view_is) c.requires.first_time in
    let inside = worker_inside o a is w held.0 held.1 in
    let have = had o a is w held.0 held.1 new in
    ap (λ (x : List Hand). is_busy (hand_at x w)) c.deref.ensures.value ∙ ap is_busy have

pub add-requires-clause-room : goal.add-requires-clause-room
add-requires-clause-room c =
    let i = c.self.inside in
    let o = opening_of i in
    let a = parts_of i in
    let is = c.self.invariant in
    let w = c.args.w in
    let held = subst (λ (t : Search). HoldsSome (state t) w) (sym c.self.view_is) c.requires.holds in
    let new = subst (λ (t : Search). ¬ (IsAmong w (state t).offered)) (sym c.self.view_is) c.requires.first_time in
    let inside = worker_inside o a is w held.0 held.1 in
    let have = had o a is w held.0 held.1 new in
    let room = room_for_step o a is w held.0 held.1 in
    let steps = ap (λ (x : Log). length x.steps) c.add_plan-number.ensures.log in
    let limit = ap (λ (x : Log). x.step_room) c.add_plan-number.ensures.log in
    omega (arith, room, steps, limit)

pub add_plan-number-requires : goal.add_plan-number-requires
add_plan-number-requires c =
    let i = c.self.inside in
    let o = opening_of i in
    let a = parts_of i in
    let is = c.self.invariant in
    let w = c.args.w in
    let held = subst (λ (t : Search). HoldsSome (state t) w) (sym c.self.view_is) c.requires.holds in
    let new = subst (λ (t : Search). ¬ (IsAmong w (state t).offered)) (sym c.self.view_is) c.requires.first_time in
    let inside = worker_inside o a is w held.0 held.1 in
    let have = had o a is w held.0 held.1 new in
    room_for_plan o a is w held.0 held.1 new

pub invariant_of-self : goal.invariant_of-self
invariant_of-self c =
    let i = c.self.inside in
    let o = opening_of i in
    let a = parts_of i in
    let is = c.self.invariant in
    let w = c.args.w in
    let held = subst (λ (t : Search). HoldsSome (state t) w) (sym c.self.view_is) c.requires.holds in
    let new = subst (λ (t : Search). ¬ (IsAmong w (state t).offered)) (sym c.self.view_is) c.requires.first_time in
    let inside = worker_inside o a is w held.0 held.1 in
    let have = had o a is w held.0 held.1 new in
    let at : hand_at c.deref.result.now w ≡ Has held.0 false =
    ap (λ (x : List Hand). hand_at x w) c.deref.ensures.value ∙ have in
    let same : c.leaf_in_hand-leaf.result ≡ held.0 =
    has-leaf _ _ _ _ (sym c.leaf_in_hand-leaf.ensures.1 ∙ at) in
    let number = c.add_plan-number.result in
    let plan = c.args.plan in
    let log : Log = c.add_plan-number.new.self in
    let named : number ≡ length a.log.plans = c.add_plan-number.ensures.number in
    let counted : number ≡ length (state_of o a.log.steps).accepted =
    named ∙ ap (λ (x : List Checked). length x) (sym is.parts.plans) in
    let cost : to_z w64 (of_z w64 c.cost-cost.result) ≡ plan.cost =
    let fits : SFits w64 c.cost-cost.result = search rules in rw to_z-of_z c.cost-cost.ensures.value in
    let got : slice_get log.plans number ≡ Some plan =
    ap (λ (x : Log). slice_get x.plans number) c.add_plan-number.ensures.log ∙ get-last a.log.plans plan number named in
    let step : FullStep = full.Offered w plan.cost (Some number) (Some plan) in
    let steps : c.add.new.self.steps ≡ a.log.steps ++ step ∷ [] =
    ap (λ (x : Log). x.steps) c.add.ensures
    ∙ ap (λ (x : ℤ). log.steps ++ full.Offered w x (Some number) (slice_get log.plans number) ∷ []) cost
    ∙ ap (λ (x : Option Checked). log.steps ++ full.Offered w plan.cost (Some number) x ∷ []) got
    ∙ ap (λ (x : Log). x.steps ++ step ∷ []) c.add_plan-number.ensures.log in
    let cheap = subst (λ (t : Search). IsCheaper plan.cost (known (state t))) (sym c.self.view_is) c.requires.cheaper in
    let same_problem : plan.problem ≡ o.problem =
    c.requires.plan ∙ ap (λ (t : Search). t.opening.problem) (sym c.self.view_is) in
    let may : MayOffer o (state_of o a.log.steps) w plan.cost (Some number) (Some plan) = record {
      leaf = held.0;
      holds = held.1;
      first_time = new;
      accepted = λ _. record {
        plan = plan;
        adds = refl;
        next = ap (λ (k : ℕ). Some k) counted;
        checked = c.cost-cost.ensures.checked;
        of_instance = same_problem;
        costs = refl;
      };
      refused = λ not_cheap. absurd (not_cheap cheap);
    } in
    let b : Parts = record {
      places = i.places;
      log = c.add.new.self;
      hands = set i.hands.items w (Has c.leaf_in_hand-leaf.result true);
      free = i.free;
      worths = i.worths.items;
      finished = i.finished;
      sets = i.sets.items;
    } in
    subst (λ (n : ℕ). IsSearch (record o { workers = n }) b)
    (sym (length-set i.hands.items w (Has c.leaf_in_hand-leaf.result true)))
    (offered_search o a is w held.0 held.1 new plan.cost (Some number) (Some plan) may b steps
    (ap (λ (x : Log). x.tables) c.add.ensures ∙ ap (λ (x : Log). x.tables) c.add_plan-number.ensures.log)
    (ap (λ (x : Log). x.plans) c.add.ensures ∙ ap (λ (x : Log). x.plans) c.add_plan-number.ensures.log)
    (ap (λ (x : Log). x.step_room) c.add.ensures ∙ ap (λ (x : Log). x.step_room) c.add_plan-number.ensures.log)
    (ap (λ (x : Log). x.table_room) c.add.ensures ∙ ap (λ (x : Log). x.table_room) c.add_plan-number.ensures.log)
    (ap (λ (x : Log). x.plan_room) c.add.ensures ∙ ap (λ (x : Log). x.plan_room) c.add_plan-number.ensures.log)
    refl (ap (λ (k : ℕ). set i.hands.items w (Has k true)) same) refl refl refl refl)

pub returns : goal.returns
returns c =
    let i = c.self.inside in
    let o = opening_of i in
    let a = parts_of i in
    let is = c.self.invariant in
    let w = c.args.w in
    let held = subst (λ (t : Search). HoldsSome (state t) w) (sym c.self.view_is) c.requires.holds in
    let new = subst (λ (t : Search). ¬ (IsAmong w (state t).offered)) (sym c.self.view_is) c.requires.first_time in
    let inside = worker_inside o a is w held.0 held.1 in
    let have = had o a is w held.0 held.1 new in
    let number = c.add_plan-number.result in
    let plan = c.args.plan in
    let log : Log = c.add_plan-number.new.self in
    let named : number ≡ length a.log.plans = c.add_plan-number.ensures.number in
    let counted : number ≡ length (state_of o a.log.steps).accepted =
    named ∙ ap (λ (x : List Checked). length x) (sym is.parts.plans) in
    let cost : to_z w64 (of_z w64 c.cost-cost.result) ≡ plan.cost =
    let fits : SFits w64 c.cost-cost.result = search rules in rw to_z-of_z c.cost-cost.ensures.value in
    let got : slice_get log.plans number ≡ Some plan =
    ap (λ (x : Log). slice_get x.plans number) c.add_plan-number.ensures.log ∙ get-last a.log.plans plan number named in
    let step : FullStep = full.Offered w plan.cost (Some number) (Some plan) in
    let steps : c.add.new.self.steps ≡ a.log.steps ++ step ∷ [] =
    ap (λ (x : Log). x.steps) c.add.ensures
    ∙ ap (λ (x : ℤ). log.steps ++ full.Offered w x (Some number) (slice_get log.plans number) ∷ []) cost
    ∙ ap (λ (x : Option Checked). log.steps ++ full.Offered w plan.cost (Some number) x ∷ []) got
    ∙ ap (λ (x : Log). x.steps ++ step ∷ []) c.add_plan-number.ensures.log in
    let named_so : full.Offered w plan.cost (Some number) (Some plan)
    ≡ full.Offered w plan.cost (Some (length (state_of o a.log.steps).accepted)) (Some plan) =
    ap (λ (k : ℕ). full.Offered w plan.cost (Some k) (Some plan)) counted in
    ap (λ (n : ℕ). record { opening = record o { workers = n }; steps = c.add.new.self.steps })
    (length-set i.hands.items w (Has c.leaf_in_hand-leaf.result true))
    ∙ ap (λ (x : List FullStep). record { opening = o; steps = x }) steps
    ∙ ap (λ (x : FullStep). record { opening = o; steps = a.log.steps ++ x ∷ [] }) named_so
    ∙ ap (λ (t : Search). with_step t (offering (state t) w plan true)) c.self.view_is
