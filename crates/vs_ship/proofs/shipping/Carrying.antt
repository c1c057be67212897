-- The units on the arcs while a unit goes along a path, step by step.
use Rattle.std.proofs.Common.{◌≡◌, ◌≢◌, ◌<◌, ◌≤◌, ◌+◌, ◌-◌, ◌^◌, ◌∙◌, ℕ, List, [], ◌∷◌, ◌++◌, length, take, set, get_or, sym, ap, subst, arith, inl, inr, ℤ, ◌+ℤ◌, length-set, add-one}
use Rattle.std.proofs.Math.Seq.{take-suc}
use Rattle.std.proofs.lemmas.Int.{ints}
use Rattle.std.proofs.lemmas.Bool.{cases_eq, cases_lt}
use Rattle.std.proofs.lemmas.List.{get_or-set_same, get_or-set_other}
use Rattle.vs_instance.proofs.CallerLemmas.{total-map_append}
use Rattle.vs_layer.specs.declared.arc.Arc.{Arc}
use Rattle.vs_queue.specs.declared.step.Step.{Step}
use Rattle.vs_queue.specs.declared.step.Step.TheVariants.{Forward, Back}
use Rattle.vs_path.specs.Residual.{step_in}
use Rattle.vs_ship.specs.Balance.{steps_gain, step_gain}
use Rattle.vs_ship.specs.Shipments.{CanTake, CanTakeAll, IsAmong, IsSentAlong, GainAlong}
use Rattle.vs_ship.proofs.balance.Gained.{gained-more, gained-less}

module _ (old now : List ℕ) (path : List Step) (count : ℕ) (can : CanTakeAll old path) (within : count < length path)
    (sent : IsSentAlong old now path count) where
  among-more : (s : Step) → IsAmong path count s → IsAmong path (count + 1) s
  among-more s (i, less, is) = (i, omega arith, is)

  here-not-before : (s : Step) → step_in path count ≡ s → IsAmong path count s → ⊥
  here-not-before s here (i, less, is) = can.apart i count less within (is ∙ sym here)

  module _ (k : ℕ) (forward : step_in path count ≡ Forward k) where
    can_forward : CanTake old (Forward k)
    can_forward = subst (CanTake old) forward (can.each count within)

    -- the arc of the next step forward carries no more than at first
    pub forward-before : get_or now k 0 ≤ get_or old k 0
    forward-before =
        elim (cases_lt (get_or old k 0) (get_or now k 0)) [
          | inl above ↦ absurd (here-not-before (Forward k) forward (sent.more k above))
          | inr not_above ↦ not_above
        ]

    pub forward-< : (k < length now) × (get_or now k 0 + 1 < 2 ^ 32)
    forward-< =
        let can_here = can_forward in
        (omega (arith, can_here.0, sent.each_arc), omega (arith, can_here.1, forward-before))

    abbrev more_units : List ℕ
    more_units = set now k (get_or now k 0 + 1)

    more-same : get_or more_units k 0 ≡ get_or now k 0 + 1
    more-same = get_or-set_same now k (get_or now k 0 + 1) 0 forward-<.0

    more-other : (j : ℕ) → j ≢ k → get_or more_units j 0 ≡ get_or now j 0
    more-other j away = get_or-set_other now k j (get_or now k 0 + 1) 0 (λ e. away e)

    -- what holds at the arc and elsewhere holds at each arc
    at_each : (P : ℕ → ℕ → Type 0) → P k (get_or now k 0 + 1) → ((j : ℕ) → P j (get_or now j 0))
        → (j : ℕ) → P j (get_or more_units j 0)
    at_each P here elsewhere j =
        elim (cases_eq j k) [
          | inl same ↦
              let Q : ℕ → Type 0 = λ i. P i (get_or more_units i 0) in
              let R : ℕ → Type 0 = P k in
              subst Q (sym same) (subst R (sym more-same) here)
          | inr away ↦ let R : ℕ → Type 0 = P j in subst R (sym (more-other j away)) (elsewhere j)
        ]

    pub sent-forward : IsSentAlong old more_units path (count + 1)
    sent-forward =
        let before = forward-before in
        record {
          each_arc = length-set now k (get_or now k 0 + 1) ∙ sent.each_arc;
          one = at_each (λ j n. n ≤ get_or old j 0 + 1) (omega arith) sent.one;
          more = at_each (λ j n. get_or old j 0 < n → IsAmong path (count + 1) (Forward j))
              (λ above. (count, omega arith, forward))
              (λ j above. among-more (Forward j) (sent.more j above));
          less = at_each (λ j n. n < get_or old j 0 → IsAmong path (count + 1) (Back j))
              (λ below. among-more (Back k) (sent.less k (omega arith)))
              (λ j below. among-more (Back j) (sent.less j below));
        }

  module _ (k : ℕ) (back : step_in path count ≡ Back k) where
    can_back : CanTake old (Back k)
    can_back = subst (CanTake old) back (can.each count within)

    -- the arc of the next step back carries no less than at first
    pub back-before : get_or old k 0 ≤ get_or now k 0
    back-before =
        elim (cases_lt (get_or now k 0) (get_or old k 0)) [
          | inl below ↦ absurd (here-not-before (Back k) back (sent.less k below))
          | inr not_below ↦ not_below
        ]

    pub back-< : (k < length now) × (0 < get_or now k 0)
    back-< =
        let can_here = can_back in
        (omega (arith, can_here.0, sent.each_arc), omega (arith, can_here.1, back-before))

    abbrev less_units : List ℕ
    less_units = set now k (get_or now k 0 - 1)

    less-same : get_or less_units k 0 ≡ get_or now k 0 - 1
    less-same = get_or-set_same now k (get_or now k 0 - 1) 0 back-<.0

    less-other : (j : ℕ) → j ≢ k → get_or less_units j 0 ≡ get_or now j 0
    less-other j away = get_or-set_other now k j (get_or now k 0 - 1) 0 (λ e. away e)

    at_each_less : (P : ℕ → ℕ → Type 0) → P k (get_or now k 0 - 1) → ((j : ℕ) → P j (get_or now j 0))
        → (j : ℕ) → P j (get_or less_units j 0)
    at_each_less P here elsewhere j =
        elim (cases_eq j k) [
          | inl same ↦
              let Q : ℕ → Type 0 = λ i. P i (get_or less_units i 0) in
              let R : ℕ → Type 0 = P k in
              subst Q (sym same) (subst R (sym less-same) here)
          | inr away ↦ let R : ℕ → Type 0 = P j in subst R (sym (less-other j away)) (elsewhere j)
        ]

    pub sent-back : IsSentAlong old less_units path (count + 1)
    sent-back =
        let some = back-<.1 in
        let one = sent.one k in
        record {
          each_arc = length-set now k (get_or now k 0 - 1) ∙ sent.each_arc;
          one = at_each_less (λ j n. n ≤ get_or old j 0 + 1) (omega arith) sent.one;
          more = at_each_less (λ j n. get_or old j 0 < n → IsAmong path (count + 1) (Forward j))
              (λ above. absurd (omega arith))
              (λ j above. among-more (Forward j) (sent.more j above));
          less = at_each_less (λ j n. n < get_or old j 0 → IsAmong path (count + 1) (Back j))
              (λ below. (count, omega arith, back))
              (λ j below. among-more (Back j) (sent.less j below));
        }

-- one more step gains its own weight
steps_gain-more : (weight : ℕ → ℤ) (arcs : List Arc) (path : List Step) (count : ℕ) (s : Step) → count < length path
    → step_in path count ≡ s
    → steps_gain weight arcs (take (count + 1) path) ≡ steps_gain weight arcs
    (take count path) +ℤ step_gain weight arcs s
steps_gain-more weight arcs path count s within here =
    let split : take (count + 1) path ≡ take count path ++ s ∷ [] =
    rw add-one (take-suc path count (Forward 0) within ∙ ap (λ (x : Step). take count path ++ x ∷ []) here) in
    let both = total-map_append (step_gain weight arcs) (take count path) (s ∷ []) in
    let same = ap (λ (ss : List Step). steps_gain weight arcs ss) split in
    omega (arith, ints, both, same)

module _ (old now : List ℕ) (path : List Step) (count k : ℕ) (within : count < length path)
    (each_arc : length now ≡ length old)
    (of_net : k < length now) (gain : GainAlong old now (take count path)) where
  -- a unit more on an arc gains what a step forward does
  pub gain-forward : step_in path count ≡ Forward k
      → GainAlong old (set now k (get_or now k 0 + 1)) (take (count + 1) path)
  gain-forward forward weight arcs sized =
      let before = gain weight arcs sized in
      let here = gained-more weight arcs now k (omega arith) (omega arith) in
      let steps = steps_gain-more weight arcs path count (Forward k) within forward in
      omega (arith, ints, before, here, steps)

  -- a unit less gains what a step back does
  pub gain-back : step_in path count ≡ Back k → 0 < get_or now k 0
      → GainAlong old (set now k (get_or now k 0 - 1)) (take (count + 1) path)
  gain-back back some weight arcs sized =
      let before = gain weight arcs sized in
      let here = gained-less weight arcs now k (omega arith) (omega arith) some in
      let steps = steps_gain-more weight arcs path count (Back k) within back in
      omega (arith, ints, before, here, steps)
