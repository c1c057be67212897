-- What is known of an instance's layers, trips and ways.
use Rattle.std.proofs.Common.{◌≡◌, ◌≢◌, ℕ, ◌*◌, ◌<◌, ◌≤◌, Bool, cond, length, refl, sym, ap, ◌∙◌, subst, inl, inr, arith}
use Rattle.std.specs.FinMap as map
use Rattle.std.specs.Option.{IfSome, IsSomeAnd}
use Rattle.std.specs.declared.option.Option.{Option}
use Rattle.std.specs.declared.option.Option.TheVariants.{None, Some}
use Rattle.std.proofs.lemmas.Bool.{cases_eq, eq-eqb, ne_eqb}
use Rattle.std.proofs.lemmas.Nat.{mul-le}
use Rattle.std.proofs.lemmas.Option.{same_Some, MatchOption-at_some}
use Rattle.vs_instance.specs.declared.way.Way.{Way}
use Rattle.vs_instance.specs.declared.limits.TheConstants.{MAX_MINUTES, MAX_METRES, MAX_PER_MINUTE, MAX_PER_METRE, TWO_DAYS}
use Rattle.vs_instance.specs.Problem.{Problem}
use Rattle.vs_instance.specs.Instance.{IsInstance, IsLayer, IsTrip, IsDeadhead, IsNoLonger}
use Rattle.vs_instance.specs.Ways.{way, no_way, trip_of, layer_of, no_trip, no_layer}
use Rattle.vs_instance.specs.Pieces.{rated}

module _ (p : Problem) (is : IsInstance p) where
  -- each trip and each layer is within the limits
  pub trip_of-IsTrip : (i : ℕ) → i < length p.trips → IsTrip p (trip_of p i)
  trip_of-IsTrip i within = is.trips i no_trip within

  pub layer_of-IsLayer : (l : ℕ) → l < length p.layers → IsLayer p (layer_of p l)
  layer_of-IsLayer l within = is.layers l no_layer within

-- the way from a stop to itself, and the way to another stop
pub way-same : (p : Problem) (k s : ℕ) → k ≡ s → way p k s ≡ Some no_way
way-same p k s same = ap (λ (b : Bool). cond b (Some no_way) (map.get p.deadheads (k, s))) (eq-eqb k s same)

pub way-other : (p : Problem) (k s : ℕ) → k ≢ s → way p k s ≡ map.get p.deadheads (k, s)
way-other p k s apart = ap (λ (b : Bool). cond b (Some no_way) (map.get p.deadheads (k, s))) (ne_eqb k s apart)

-- how long a way can be
pub record IsWithinLimits (w : Way) : Type 0 where
  pub minutes : w.minutes ≤ MAX_MINUTES
  pub metres : w.metres ≤ MAX_METRES

module _ (p : Problem) (is : IsInstance p) where
  -- a deadhead that is given
  pub get-IsDeadhead : (k s : ℕ) (w : Way) → map.get p.deadheads (k, s) ≡ Some w → IsDeadhead p k s w
  get-IsDeadhead k s w given = MatchOption-at_some _ (IsDeadhead p k s) w given (is.deadheads k s)

  -- the limits of a way
  pub way-within : (k s : ℕ) (w : Way) → way p k s ≡ Some w → IsWithinLimits w
  way-within k s w found =
      elim (cases_eq k s) [
        | inl same ↦
            let none : no_way ≡ w = same_Some no_way w (sym (way-same p k s same) ∙ found) in
            subst IsWithinLimits none (record { minutes = omega arith; metres = omega arith })
        | inr apart ↦
            let d = get-IsDeadhead k s w (sym (way-other p k s apart) ∙ found) in
            record { minutes = d.minutes; metres = d.metres }
      ]

  pub way-IfSome : (k s : ℕ) → IfSome (way p k s) (λ w. (w.minutes ≤ MAX_MINUTES) × (w.metres ≤ MAX_METRES))
  way-IfSome k s = by_way (way p k s) refl
    where
      by_way : (o : Option Way) → way p k s ≡ o → IfSome o (λ w. (w.minutes ≤ MAX_MINUTES) × (w.metres ≤ MAX_METRES))
      by_way None e = tt
      by_way (Some w) e = let limits = way-within k s w e in (limits.minutes, limits.metres)

  -- ways are closed, also where two of the three stops are one
  pub way-closed : (k s t : ℕ) (a b : Way) → way p k s ≡ Some a → way p s t ≡ Some b
      → IsSomeAnd (way p k t) (IsNoLonger a b)
  way-closed k s t a b first second =
      elim (cases_eq k t) [
        | inl same ↦
            subst (λ (o : Option Way). IsSomeAnd o (IsNoLonger a b)) (sym (way-same p k t same))
            (record { minutes = omega arith; metres = omega arith })
        | inr apart ↦ elim (cases_eq k s) [
          | inl same ↦
              let whole : way p k t ≡ Some b = ap (λ (x : ℕ). way p x t) same ∙ second in
              subst (λ (o : Option Way). IsSomeAnd o (IsNoLonger a b)) (sym whole)
              (record { minutes = omega arith; metres = omega arith })
          | inr before ↦ elim (cases_eq s t) [
            | inl same ↦
                let whole : way p k t ≡ Some a = ap (λ (x : ℕ). way p k x) (sym same) ∙ first in
                subst (λ (o : Option Way). IsSomeAnd o (IsNoLonger a b)) (sym whole)
                (record { minutes = omega arith; metres = omega arith })
            | inr after ↦
                subst (λ (o : Option Way). IsSomeAnd o (IsNoLonger a b)) (sym (way-other p k t apart))
                (is.closed k s t a b apart (sym (way-other p k s before) ∙ first)
                (sym (way-other p s t after) ∙ second))
          ]
        ]
      ]

  -- what minutes and metres cost at most: each fits 34 bits
  pub rated-below : (l minutes metres : ℕ) → l < length p.layers → minutes ≤ TWO_DAYS → metres ≤ MAX_METRES
      → rated p l minutes metres ≤ 12880000000
  rated-below l minutes metres within few short =
      let layer = layer_of-IsLayer p is l within in
      let time : (layer_of p l).per_minute * minutes ≤ MAX_PER_MINUTE * TWO_DAYS =
      mul-le _ _ _ _ layer.per_minute few in
      let length' : (layer_of p l).per_metre * metres ≤ MAX_PER_METRE * MAX_METRES =
      mul-le _ _ _ _ layer.per_metre short in
      omega arith
