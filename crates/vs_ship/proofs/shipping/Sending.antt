-- A unit sent along a path that was found.
use Rattle.std.proofs.Common.{◌≡◌, ◌≢◌, ◌<◌, ◌∙◌, ℕ, zero, suc, List, [], ◌∷◌, length, set, get_or, sym, ap, subst, arith, inl, inr, ℤ, pos, ◌+ℤ◌, ◌-ℤ◌, ◌≤ℤ◌, ◌<ℤ◌, length-set}
use Rattle.std.proofs.lemmas.Int.{ints}
use Rattle.std.proofs.lemmas.Bool.{cases_eq, cases_lt}
use Rattle.std.proofs.lemmas.List.{get_or-set_same, get_or-set_other}
use Rattle.std.specs.Int.{int_max}
use Rattle.vs_layer.specs.Graph.{Graph}
use Rattle.vs_instance.specs.Lagrangian.{total}
use Rattle.vs_queue.specs.declared.step.Step.{Step}
use Rattle.vs_queue.specs.declared.step.Step.TheVariants.{Forward, Back}
use Rattle.vs_path.specs.declared.residual.Costs.{Costs}
use Rattle.vs_path.specs.declared.residual.TheConstants.{MAX_SEARCH_PRICE}
use Rattle.vs_path.specs.StepCosts.{most_step}
use Rattle.vs_path.proofs.CallerLemmas.{steps-few}
use Rattle.vs_path.specs.Residual.{ResidualNet, HasSignRule, IsWithin, AllWithin, IsOpen, IsPath, price_at, reduced, step_in}
use Rattle.vs_path.specs.Labels.{Lacks}
use Rattle.vs_path.specs.Search.{IsGoal}
use Rattle.vs_ship.specs.declared.shipment.Shipment.{Shipment}
use Rattle.vs_ship.specs.declared.shipment.TheConstants.{MAX_FIRST_PRICE}
use Rattle.vs_ship.specs.Balance.{IsBalanced, weighed}
use Rattle.vs_ship.specs.Shipments.{CanShip, IsSized, AreInRoom, IsSentAlong, GainAlong, Ships, CanTakeAll, CanTake, after_unit, excess, residual_of}
use Rattle.vs_ship.proofs.balance.Numbers.{total-set, above-pred, above-suc}
use Rattle.vs_ship.proofs.balance.Weighed.{weighed-pred, weighed-suc}
use Rattle.vs_ship.proofs.shipping.Paths.{leads-open, leads-gain, path-apart}

module _ (surplus : List ℤ) (source goal : ℕ) (some : pos 0 <ℤ price_at surplus source) (lacks : Lacks surplus goal)
    (from : source < length surplus) (to : goal < length surplus) where
  abbrev left : List ℤ
  left = set surplus source (price_at surplus source -ℤ pos 1)

  apart : goal ≢ source
  apart same = let e = ap (price_at surplus) same in absurd (omega (arith, ints, e))

  left-goal : price_at left goal ≡ price_at surplus goal
  left-goal = get_or-set_other surplus source goal (price_at surplus source -ℤ pos 1) (pos 0) (λ e. apart e)

  to-left : goal < length left
  to-left = omega (arith, length-set surplus source (price_at surplus source -ℤ pos 1))

  pub unit-source : price_at (after_unit surplus source goal) source ≡ price_at surplus source -ℤ pos 1
  unit-source =
      get_or-set_other left goal source (price_at left goal +ℤ pos 1) (pos 0) (λ e. apart (sym e))
      ∙ get_or-set_same surplus source (price_at surplus source -ℤ pos 1) (pos 0) from

  pub unit-goal : price_at (after_unit surplus source goal) goal ≡ price_at surplus goal +ℤ pos 1
  unit-goal =
      get_or-set_same left goal (price_at left goal +ℤ pos 1) (pos 0) to-left
      ∙ ap (λ (z : ℤ). z +ℤ pos 1) left-goal

  pub unit-other : (v : ℕ) → v ≢ source → v ≢ goal → price_at (after_unit surplus source goal) v ≡ price_at surplus v
  unit-other v not_source not_goal =
      get_or-set_other left goal v (price_at left goal +ℤ pos 1) (pos 0) (λ e. not_goal e)
      ∙ get_or-set_other surplus source v (price_at surplus source -ℤ pos 1) (pos 0) (λ e. not_source e)

  pub unit-length : length (after_unit surplus source goal) ≡ length surplus
  unit-length = length-set left goal (price_at left goal +ℤ pos 1) ∙ length-set surplus source
      (price_at surplus source -ℤ pos 1)

  pub unit-total : total (after_unit surplus source goal) ≡ total surplus
  unit-total =
      let first = total-set surplus source (price_at surplus source -ℤ pos 1) from in
      let second = total-set left goal (price_at left goal +ℤ pos 1) to-left in
      omega (arith, ints, first, second)

  pub unit-weighed : (weight : ℕ → ℤ)
      → weighed weight (after_unit surplus source goal) ≡ weighed weight surplus +ℤ (weight goal -ℤ weight source)
  unit-weighed weight =
      let first = weighed-pred weight surplus source from in
      let second = weighed-suc weight left goal to-left in
      omega (arith, ints, first, second)

  abbrev above : ℤ → ℤ
  above z = int_max (pos 0) z

  total_above-set : (xs : List ℤ) (i : ℕ) (y : ℤ) → i < length xs
      → excess (set xs i y) ≡ (excess xs -ℤ above (price_at xs i)) +ℤ above y
  total_above-set [] i y within = absurd (omega arith)
  total_above-set (x ∷ xs) zero y within = omega (arith, ints)
  total_above-set (x ∷ xs) (suc i) y within = let rest = total_above-set xs i y (omega arith) in omega
      (arith, ints, rest)

  pub unit-excess : excess (after_unit surplus source goal) ≡ excess surplus -ℤ pos 1
  unit-excess =
      let first = total_above-set surplus source (price_at surplus source -ℤ pos 1) from in
      let second = total_above-set left goal (price_at left goal +ℤ pos 1) to-left in
      let less = above-pred (price_at surplus source) (omega (arith, ints)) in
      let more = above-suc (price_at left goal) (omega (arith, ints, left-goal)) in
      omega (arith, ints, first, second, less, more)

  -- nothing comes to a node for good, and no node lacks a unit that didn't
  pub unit-none_left : (v : ℕ) → price_at surplus v ≤ℤ pos 0 → price_at (after_unit surplus source goal) v ≤ℤ pos 0
  unit-none_left v none =
      elim (cases_eq v source) [
        | inl same ↦ let e = ap (price_at surplus) same in absurd (omega (arith, ints, e))
        | inr not_source ↦
            elim (cases_eq v goal) [
              | inl same ↦
                  let e = ap (price_at (after_unit surplus source goal)) same in omega (arith, ints, e, unit-goal)
              | inr not_goal ↦ omega (arith, ints, unit-other v not_source not_goal)
            ]
      ]

  pub unit-lacks : (v : ℕ) → Lacks (after_unit surplus source goal) v → Lacks surplus v
  unit-lacks v lacks_now =
      elim (cases_eq v source) [
        | inl same ↦
            let e = ap (price_at (after_unit surplus source goal)) same in
            absurd (omega (arith, ints, e, unit-source))
        | inr not_source ↦
            elim (cases_eq v goal) [
              | inl same ↦ subst (Lacks surplus) (sym same) lacks
              | inr not_goal ↦ omega (arith, ints, unit-other v not_source not_goal)
            ]
      ]

-- a step costs the same in both
reduced-same : (g : Graph) (old new : Shipment) (prices : List ℤ) (s : Step) → new.costs ≡ old.costs
    → reduced (residual_of g new) prices s ≡ reduced (residual_of g old) prices s
reduced-same g old new prices (Forward k) same =
    let e = ap (λ (c : Costs). price_at c.cost.items k) same in omega (arith, ints, e)
reduced-same g old new prices (Back k) same =
    let e = ap (λ (c : Costs). price_at c.cost.items k) same in omega (arith, ints, e)

module _ (g : Graph) (old new : Shipment) (source goal : ℕ) (path : List Step) (can : CanShip g old)
    (some : pos 0 <ℤ price_at old.surplus.items source) (from : source < g.nodes) (to : goal < g.nodes)
    (found : IsGoal (residual_of g old) old.surplus.items source old.prices.items new.prices.items path goal)
    (same_costs : new.costs ≡ old.costs) (sent : IsSentAlong old.flow.units.items new.flow.units.items path
    (length path))
    (gain : GainAlong old.flow.units.items new.flow.units.items path)
    (surplus : new.surplus.items ≡ after_unit old.surplus.items source goal)
    (priced : length new.prices.items ≡ length old.prices.items) where
  abbrev r : ResidualNet
  r = residual_of g old

  abbrev old_units : ℕ → ℕ
  old_units k = get_or old.flow.units.items k 0

  abbrev new_units : ℕ → ℕ
  new_units k = get_or new.flow.units.items k 0

  room_same : (k : ℕ) → get_or new.costs.room.items k 0 ≡ get_or old.costs.room.items k 0
  room_same k = ap (λ (c : Costs). get_or c.room.items k 0) same_costs

  open_at : (i : ℕ) → i < length path → IsOpen r (step_in path i)
  open_at = leads-open r source path goal found.is_path.leads

  in_room : AreInRoom g new
  in_room k within =
      elim (cases_lt (old_units k) (new_units k)) [
        | inl above ↦
            let among = sent.more k above in
            let open_ = subst (IsOpen r) among.2 (open_at among.0 among.1) in
            omega (arith, sent.one k, open_.room, room_same k)
        | inr not_above ↦ omega (arith, can.in_room k within, room_same k)
      ]

  -- a step of the path, and so the same step turned round, costs nothing
  tight : (s : Step) (i : ℕ) → i < length path → step_in path i ≡ s → reduced r new.prices.items s ≡ pos 0
  tight s i within is = ap (reduced r new.prices.items) (sym is) ∙ found.tight i within

  signs_old : (s : Step) → IsOpen (residual_of g new) s → pos 0 ≤ℤ reduced r new.prices.items s
  signs_old (Forward k) open_ =
      elim (cases_lt (old_units k) (get_or old.costs.room.items k 0)) [
        | inl has_room ↦ found.sign_rule (Forward k) (record { arc = open_.arc; room = has_room })
        | inr full ↦
            let among = sent.less k (omega (arith, open_.room, room_same k)) in
            let none = tight (Back k) among.0 among.1 among.2 in
            omega (arith, ints, none)
      ]
  signs_old (Back k) open_ =
      elim (cases_lt 0 (old_units k)) [
        | inl carries ↦ found.sign_rule (Back k) (record { arc = open_.arc; room = carries })
        | inr empty ↦
            let among = sent.more k (omega (arith, open_.room)) in
            let none = tight (Forward k) among.0 among.1 among.2 in
            omega (arith, ints, none)
      ]

  signs : HasSignRule (residual_of g new) new.prices.items
  signs s open_ = omega (arith, ints, signs_old s open_, reduced-same g old new new.prices.items s same_costs)

  from_old : source < length old.surplus.items
  from_old = omega (arith, can.sized.surplus)

  to_old : goal < length old.surplus.items
  to_old = omega (arith, can.sized.surplus)

  sized : IsSized g new
  sized = record {
    units = sent.each_arc ∙ can.sized.units;
    cost = ap (λ (c : Costs). length c.cost.items) same_costs ∙ can.sized.cost;
    room = ap (λ (c : Costs). length c.room.items) same_costs ∙ can.sized.room;
    prices = priced ∙ can.sized.prices;
    surplus = ap length surplus
        ∙ unit-length old.surplus.items source goal some found.lacks from_old to_old
        ∙ can.sized.surplus;
  }

  prices_within : AllWithin MAX_SEARCH_PRICE new.prices.items
  prices_within v =
      let before = can.prices v in
      let fell = found.fell v in
      let first = can.first goal found.lacks in
      elim (found.not_far v) [
        | inl same ↦ record {
          low = omega (arith, ints, before.low, same);
          high = omega
              (arith, ints, before.high, fell);
        }
        | inr near ↦ record {
          low = omega (arith, ints, first.low, near, steps-few g.nodes g.nodes (omega arith));
          high = omega (arith, ints, before.high, fell);
        }
      ]

  first_within : (v : ℕ) → Lacks new.surplus.items v → IsWithin MAX_FIRST_PRICE (price_at new.prices.items v)
  first_within v lacks =
      let now = subst (λ (xs : List ℤ). Lacks xs v) surplus lacks in
      let lacked = unit-lacks old.surplus.items source goal some found.lacks from_old to_old v now in
      subst (IsWithin MAX_FIRST_PRICE) (sym (found.kept v lacked)) (can.first v lacked)

  pub sent-can : CanShip g new
  sent-can = record {
    sized = sized;
    nodes = can.nodes;
    costs = subst (λ (c : Costs). AllWithin (pos (most_step g.nodes)) c.cost.items)
        (sym same_costs) can.costs;
    rooms = λ k. omega (arith, room_same k, can.rooms k);
    prices = prices_within;
    first = first_within;
    signs = signs;
    in_room = in_room;
    even = ap total surplus ∙ unit-total old.surplus.items source goal some found.lacks from_old to_old ∙ can.even;
  }

  balanced : (supply : List ℤ) → IsBalanced g supply old.flow.units.items old.surplus.items
      → IsBalanced g supply new.flow.units.items new.surplus.items
  balanced supply balance weight =
      let before = balance weight in
      let unit = unit-weighed old.surplus.items source goal some found.lacks from_old to_old weight in
      let now = ap (weighed weight) surplus in
      let gains = gain weight g.arcs can.sized.units in
      let ends = leads-gain weight r source path goal found.is_path.leads in
      omega (arith, ints, before, unit, now, gains, ends)

  few : (k : ℕ) → k < length g.arcs
      → (pos (new_units k) +ℤ excess new.surplus.items) ≤ℤ (pos (old_units k) +ℤ excess old.surplus.items)
  few k within =
      let one = sent.one k in
      let unit = unit-excess old.surplus.items source goal some found.lacks from_old to_old in
      let now = ap excess surplus in
      omega (arith, ints, one, unit, now)

  pub sent-ships : Ships g old new
  sent-ships = record {
    can = sent-can;
    same_costs = same_costs;
    balanced = balanced;
    few = few;
    fell = found.fell;
    none_left = λ v none.
        subst (λ (xs : List ℤ). price_at xs v ≤ℤ pos 0) (sym surplus)
        (unit-none_left old.surplus.items source goal some found.lacks from_old to_old v none);
  }

-- a unit can take the steps of a path that was found
pub can-take : (g : Graph) (s : Shipment) (source goal : ℕ) (path : List Step) → CanShip g s
    → IsPath (residual_of g s) source path goal
    → CanTakeAll s.flow.units.items path
can-take g s source goal path can is_path = record {
  each = λ i within. take_one (step_in path i) (leads-open (residual_of g s) source path goal is_path.leads i within);
  apart = path-apart (residual_of g s) source path goal is_path;
}
  where
    take_one : (step : Step) → IsOpen (residual_of g s) step → CanTake s.flow.units.items step
    take_one (Forward k) open_ =
        (omega (arith, open_.arc, can.sized.units), omega (arith, open_.room, can.rooms k))
    take_one (Back k) open_ = (omega (arith, open_.arc, can.sized.units), open_.room)

-- what was found, named otherwise
pub goal-as : (r r' : ResidualNet) (s s' o o' n n' : List ℤ) (path path' : List Step) (source goal : ℕ) → r ≡ r'
    → s ≡ s'
    → o ≡ o' → n ≡ n' → path ≡ path' → IsGoal r s source o n path goal → IsGoal r' s' source o' n' path' goal
goal-as r r' s s' o o' n n' path path' source goal same_r same_s same_o same_n same_path found =
    subst (λ (p : List Step). IsGoal r' s' source o' n' p goal) same_path
    (subst (λ (x : List ℤ). IsGoal r' s' source o' x path goal) same_n
    (subst (λ (x : List ℤ). IsGoal r' s' source x n path goal) same_o
    (subst (λ (x : List ℤ). IsGoal r' x source o n path goal) same_s
    (subst (λ (x : ResidualNet). IsGoal x s source o n path goal) same_r found))))
