-- No distance is negative, where prices keep the sign rule.
use Rattle.std.proofs.Common.{◌≡◌, ℕ, zero, suc, ◌<◌, ◌∙◌, List, sym, ap, arith, inl, inr, Some, ℤ, pos, ◌≤ℤ◌}
use Rattle.std.proofs.lemmas.Bool.{cases_eq}
use Rattle.std.proofs.lemmas.Int.{ints}
use Rattle.vs_queue.specs.declared.node_table.Settled.{Settled}
use Rattle.vs_path.specs.Residual.{ResidualNet, HasSignRule, from_of}
use Rattle.vs_path.specs.Labels.{Lists, AreLabels, settled_at, source_of}

-- up to so many places
pub not-negative : (r : ResidualNet) (prices : List ℤ) (l : Lists) → AreLabels r prices l → HasSignRule r prices
    → (n v : ℕ) (a : Settled) → settled_at l v ≡ Some a → a.place < n → pos 0 ≤ℤ a.distance
not-negative r prices l labels sign zero v a is below = absurd (omega arith)
not-negative r prices l labels sign (suc n) v a is below =
    elim (cases_eq v (source_of l)) [
      | inl same ↦
          let from = labels.source_is in
          let e : Some from.0 ≡ Some a = sym from.1 ∙ ap (settled_at l) (sym same) ∙ is in
          let k : from.0 ≡ a = cc in
          let d : a.distance ≡ pos 0 = ap (λ (b : Settled). b.distance) (sym k) ∙ from.2 in
          omega (arith, ints, d)
      | inr away ↦
          let arrival = labels.arrived v a is away in
          let before = arrival.before in
          let more =
          not-negative r prices l labels sign n (from_of r arrival.step) arrival.from arrival.from_is (omega arith) in
          let sum = arrival.sum in
          let kept = sign arrival.step arrival.is_open in
          omega (arith, ints, sum, kept, more)
    ]
