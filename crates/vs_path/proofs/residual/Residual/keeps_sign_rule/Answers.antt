use Rattle.std.proofs.Common.{◌≡◌, ◌∙◌, sym, ◌<◌, ◌+◌, ◌≤ℤ◌, ℕ, pos, true, false, subst, arith, inl, inr}
use Rattle.std.proofs.lemmas.Bool.{cases_lt}
use Rattle.vs_queue.specs.declared.step.Step.{Step}
use Rattle.vs_queue.specs.declared.step.Step.TheVariants.{Forward, Back}
use Rattle.vs_path.specs.Residual.{ResidualNet, IsOpen, arc_no, reduced}
use Rattle.std.proofs.Common.{List, ℤ}
use Rattle.vs_path.proofs.residual.Residual.keeps_sign_rule.Goals as goal

abbrev IsKept : ResidualNet → List ℤ → Step → Type 0
IsKept r prices s = IsOpen r s → pos 0 ≤ℤ reduced r prices s

-- one arc more, both ways
kept-more : (r : ResidualNet) (prices : List ℤ) (k : ℕ) → IsKept r prices (Forward k) → IsKept r prices (Back k)
    → ((s : Step) → IsOpen r s → arc_no s < k → pos 0 ≤ℤ reduced r prices s)
    → (s : Step) → IsOpen r s → arc_no s < k + 1 → pos 0 ≤ℤ reduced r prices s
kept-more r prices k forward back before (Forward j) is_open below =
    elim (cases_lt j k) [
      | inl less ↦ before (Forward j) is_open less
      | inr last ↦
          let e : k ≡ j = omega arith in subst (λ (i : ℕ). IsKept r prices (Forward i)) e forward is_open
    ]
kept-more r prices k forward back before (Back j) is_open below =
    elim (cases_lt j k) [
      | inl less ↦ before (Back j) is_open less
      | inr last ↦
          let e : k ≡ j = omega arith in subst (λ (i : ℕ). IsKept r prices (Back i)) e back is_open
    ]

pub returns-then-not-forward : goal.returns-then-not-forward
returns-then-not-forward c = (
  λ wrong. absurd (let e : false ≡ true = wrong in cc),
  λ rule. sym c.if-not-forward.true ∙ c.is_kept-forward.ensures.1 (rule (Forward c.loop-k.k)),
)

pub returns-then-not-back : goal.returns-then-not-back
returns-then-not-back c = (
  λ wrong. absurd (let e : false ≡ true = wrong in cc),
  λ rule. sym c.if-not-back.true ∙ c.is_kept-back.ensures.1 (rule (Back c.loop-k.k)),
)

pub loop-k-preserved : goal.loop-k-preserved
loop-k-preserved c =
    kept-more c.args.self.now c.args.prices.now c.loop-k.k (c.is_kept-forward.ensures.0 c.if-not-forward.false)
    (c.is_kept-back.ensures.0 c.if-not-back.false) c.loop-k.invariant
