-- The order of pairs of stops is total, and only equal pairs tie in it.
use Rattle.std.proofs.Common.{◌≡◌, ℕ, Bool, true, false, ◌&&◌, eqb, refl, ap, ◌∙◌, subst}
use Rattle.std.specs.FinMap.{IsAntisymmetric}
use Rattle.std.specs.Ordering.{eq_by_cmp, nat_cmp, is_eq}
use Rattle.std.specs.Cmp.{IsTotalOrder, nat_cmp_total, then_total, on_total, tied_itself, Equal-is, both_tied, unsigned_ties, first_so, second_so}
use Rattle.std.proofs.lemmas.Bool.{eqb-true}
use Rattle.vs_instance.specs.Problem.{pair_cmp}

pub pair_cmp-total : IsTotalOrder pair_cmp
pair_cmp-total = then_total (on_total (λ (x : ℕ × ℕ). x.0) nat_cmp_total) (on_total (λ (x : ℕ × ℕ). x.1) nat_cmp_total)

-- pairs that tie are equal
pub same_pair : (a b : ℕ × ℕ) → eq_by_cmp pair_cmp a b ≡ true → a ≡ b
same_pair a b e =
    let both : (eqb a.0 b.0 && eqb a.1 b.1) ≡ true =
    both_tied (eqb a.0 b.0) (eqb a.1 b.1) (nat_cmp a.0 b.0) (nat_cmp a.1 b.1) (unsigned_ties a.0 b.0)
    (unsigned_ties a.1 b.1) ∙ e in
    let first : a.0 ≡ b.0 = eqb-true a.0 b.0 (first_so (eqb a.0 b.0) (eqb a.1 b.1) both) in
    let second : a.1 ≡ b.1 = eqb-true a.1 b.1 (second_so (eqb a.0 b.0) (eqb a.1 b.1) both) in
    λ i. (first i, second i)

pub pair_cmp-IsAntisymmetric : IsAntisymmetric pair_cmp
pair_cmp-IsAntisymmetric a b e = same_pair a b (ap is_eq e)

pub tied_same : (a b : ℕ × ℕ) → a ≡ b → eq_by_cmp pair_cmp a b ≡ true
tied_same a b e = subst (λ (c : ℕ × ℕ). eq_by_cmp pair_cmp a c ≡ true) e (ap is_eq (tied_itself pair_cmp-total a))

not_true : (b : Bool) → (b ≡ true → ⊥) → b ≡ false
not_true true not = absurd (not refl)
not_true false not = refl

pub tied_apart : (a b : ℕ × ℕ) → (a ≡ b → ⊥) → eq_by_cmp pair_cmp a b ≡ false
tied_apart a b apart =
    not_true (eq_by_cmp pair_cmp a b) (λ e. apart (pair_cmp-IsAntisymmetric a b ((Equal-is (pair_cmp a b)).0 e)))
