use Rattle.std.proofs.Common.{◌≡◌, ◌⊎◌, ◌<◌, ◌^◌, ℕ, [], sym, subst, arith, inl, inr, Option, MatchOption, rules}
use Rattle.vs_types.specs.LayerSet.{Has, members}
use Rattle.vs_types.specs.declared.layer_set.LayerSet.{LayerSet}
use Rattle.vs_types.specs.declared.numbers.LayerNo.{LayerNo}
use Rattle.vs_types.proofs.CallerLemmas.{Has-below, members-some}
use Rattle.vs_walk.specs.Penalties.{IsLowest}
use Rattle.vs_walk.proofs.choosing.lowest_layer.Goals as goal
use Rattle.vs_walk.proofs.choosing.lowest_layer.Goals.{in_default-via-in-Some+else-has, in_default-via-in_default}

-- what is found of a set's lowest layer
abbrev Finds : LayerSet → Option LayerNo → Type 0
Finds set found =
    MatchOption found (members set ≡ []) (λ l. Has set l.0 × ((k : ℕ) → Has set k → (k ≡ l.0) ⊎ (l.0 < k)))

-- no set has two lowest layers
one-lowest : (set : LayerSet) (l k : ℕ) → IsLowest set l → IsLowest set k → l ≡ k
one-lowest set l k is other = elim (is.least k other.has) [
  | inl e ↦ sym e
  | inr above ↦ elim (other.least l is.has) [
    | inl e ↦ e
    | inr below ↦ absurd (omega (arith, above, below))
  ]
]

pub returns-in_default-clause-lowest : goal.returns-in_default-clause-lowest
returns-in_default-clause-lowest c =
    let permitted = c.args.permitted in
    let runs = c.args.runs in
    let found = subst (Finds permitted) c.unwrap.ensures c.lowest-in_default.ensures.least in
    let never : (l : ℕ) → IsLowest runs l → ¬ (Has permitted l) =
    λ l is has. elim c.in_default.branch [
      | in_default-via-in-Some+else-has w ↦
          let one = w.in-Some.ensures.least in
          let e = one-lowest runs l w.in-Some.l.0 is (record { has = one.0; least = one.1 }) in
          search (rules, w.if-has.ensures.1 (subst (Has permitted) e has))
      | in_default-via-in_default w ↦
          let fits : runs.0 < 2 ^ 16 = search (rules, c.well_formed) in
          members-some runs l (Has-below runs l fits is.has) is.has w.in_default.ensures.least
    ] in
    inr (record { has = found.0; least = found.1 }, never)
