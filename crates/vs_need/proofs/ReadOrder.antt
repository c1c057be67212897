-- Which arcs are read before which.
use Rattle.std.proofs.Common.{◌≡◌, ◌≢◌, ℕ, ◌+◌, ◌-◌, ◌<◌, ◌≤◌, ◌⊎◌, inl, inr, Bool, true, false, cond, ap, arith}
use Rattle.std.proofs.lemmas.Bool.{cases_lt}
use Rattle.vs_layer.specs.Graph.{arc_of}
use Rattle.vs_match.specs.declared.arc_kind.ArcKind.TheVariants.{Return}
use Rattle.vs_match.specs.LayerGraph.{LayerGraph, arcs_in, kind_of}
use Rattle.vs_need.specs.Nets.{CanBePassed}
use Rattle.vs_need.proofs.Joined.{far_by, near_by}

-- arc k of so many is among the first that are read, from the last on or from the first
abbrev pub IsReadBy : Bool → ℕ → ℕ → ℕ → Type 0
IsReadBy true count read k = (k < count) × (count ≤ k + read)
IsReadBy false count read k = (k < count) × (k < read)

abbrev pub arc_by : Bool → ℕ → ℕ → ℕ
arc_by b count read = cond b (count - (read + 1)) read

pub read_none : (b : Bool) (count k : ℕ) → IsReadBy b count 0 k → ⊥
read_none true count k is = omega (arith, is.0, is.1)
read_none false count k is = omega (arith, is.1)

pub read_within : (b : Bool) (count read k : ℕ) → IsReadBy b count read k → k < count
read_within true count read k is = is.0
read_within false count read k is = is.0

pub read_all : (b : Bool) (count k : ℕ) → k < count → IsReadBy b count count k
read_all true count k within = (within, omega arith)
read_all false count k within = (within, within)

pub read_older : (b : Bool) (count read k : ℕ) → IsReadBy b count read k → IsReadBy b count (read + 1) k
read_older true count read k is = (is.0, omega (arith, is.1))
read_older false count read k is = (is.0, omega (arith, is.1))

pub read_new : (b : Bool) (count read : ℕ) → read < count → IsReadBy b count (read + 1) (arc_by b count read)
read_new true count read within = (omega arith, omega arith)
read_new false count read within = (within, omega arith)

pub read_not : (b : Bool) (count read : ℕ) → read < count → IsReadBy b count read (arc_by b count read) → ⊥
read_not true count read within is = omega (arith, is.1)
read_not false count read within is = omega (arith, is.1)

pub read_more : (b : Bool) (count read k : ℕ) → read < count → IsReadBy b count (read + 1) k
    → IsReadBy b count read k ⊎ (k ≡ arc_by b count read)
read_more true count read k within is = elim (cases_lt (k + read) count) [
  | inl last ↦ inr (omega (arith, is.1))
  | inr before ↦ inl (is.0, before)
]
read_more false count read k within is = elim (cases_lt k read) [
  | inl before ↦ inl (is.0, before)
  | inr last ↦ inr (omega (arith, is.1))
]

module _ (n : LayerGraph) (trips : ℕ) (can : CanBePassed n trips) where
  -- an arc that leaves a higher node stands behind
  behind : (j k : ℕ) → j < arcs_in n → k < arcs_in n → (arc_of n.graph j).from < (arc_of n.graph k).from → j < k
  behind j k within within' higher = elim (cases_lt j k) [
    | inl less ↦ less
    | inr more ↦ elim (cases_lt k j) [
      | inl before ↦ absurd (omega (arith, can.rising k j before within, higher))
      | inr after ↦
          let same : j ≡ k = omega arith in
          let e : (arc_of n.graph j).from ≡ (arc_of n.graph k).from = ap (λ (m : ℕ). (arc_of n.graph m).from) same in
          absurd (omega (arith, e, higher))
    ]
  ]

  -- before an arc all those are read that have its far end as their near end
  pub read_before : (b : Bool) (read j k : ℕ) → j ≡ arc_by b (arcs_in n) read → j < arcs_in n → k < arcs_in n
      → kind_of n j ≢ Return → kind_of n k ≢ Return
      → near_by b (arc_of n.graph k) ≡ far_by b (arc_of n.graph j) → IsReadBy b (arcs_in n) read k
  read_before true read j k is within within' real real' meet =
      let up = can.upward j within real in
      let later = behind j k within within' (omega (arith, up, meet)) in
      (within', omega (arith, later, is))
  read_before false read j k is within within' real real' meet =
      let up = can.upward k within' real' in
      let earlier = behind k j within' within (omega (arith, up, meet)) in
      (within', omega (arith, earlier, is))
