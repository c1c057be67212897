-- The first of the numbers that pass a test, by what is measured of them.
use Rattle.std.proofs.Common.{ℕ, zero, suc, ◌<◌, ◌≤◌, inl, inr, arith, subst}
use Rattle.std.specs.Prelude.{◌⊎◌}
use Rattle.std.proofs.lemmas.Bool.{cases_eq, cases_lt}
use Rattle.std.specs.Prelude.{length}
use Rattle.vs_instance.specs.Problem.{Problem}
use Rattle.vs_instance.specs.Ways.{trip_of}
use Rattle.std.specs.Int.{bit_at}
use Rattle.vs_match.specs.Events.{MayRun}

-- i passes, and what is measured of it is no more than of any other below n that passes
pub record IsLeast (n : ℕ) (Such : ℕ → Type 0) (measure : ℕ → ℕ) : Type 0 where
  pub i : ℕ
  pub within : i < n
  pub passes : Such i
  pub least : (j : ℕ) → j < n → Such j → measure i ≤ measure j

module _ (Such : ℕ → Type 0) (decide : (i : ℕ) → Such i ⊎ (¬ (Such i))) (measure : ℕ → ℕ) where
  below_or_last : (n j : ℕ) (P : ℕ → Type 0) → ((i : ℕ) → i < n → P i) → P n → j < suc n → P j
  below_or_last n j P below last within =
      elim (cases_lt j n) [ inl less ↦ below j less | inr not ↦ subst P (omega arith) last ]

  one_more : (n : ℕ) → IsLeast n Such measure ⊎ ((j : ℕ) → j < n → ¬ (Such j)) → Such n ⊎ (¬ (Such n))
      → IsLeast (suc n) Such measure ⊎ ((j : ℕ) → j < suc n → ¬ (Such j))
  one_more n (inl old) (inr not) = inl (record {
    i = old.i;
    within = omega (arith, old.within);
    passes = old.passes;
    least = λ j within passes. below_or_last n j (λ k. Such k → measure old.i ≤ measure k)
        (λ k less. old.least k less) (λ has. absurd (not has)) within passes;
  })
  one_more n (inl old) (inl has) =
      elim (cases_lt (measure n) (measure old.i)) [
        | inl new ↦ inl (record {
          i = n;
          within = omega arith;
          passes = has;
          least = λ j within passes. below_or_last n j (λ k. Such k → measure n ≤ measure k)
              (λ k less other. omega (arith, new, old.least k less other))
              (λ _. omega arith) within passes;
        })
        | inr same ↦ inl (record {
          i = old.i;
          within = omega (arith, old.within);
          passes = old.passes;
          least = λ j within passes. below_or_last n j (λ k. Such k → measure old.i ≤ measure k)
              (λ k less. old.least k less) (λ _. same) within passes;
        })
      ]
  one_more n (inr none) (inl has) = inl (record {
    i = n;
    within = omega arith;
    passes = has;
    least = λ j within passes. below_or_last n j (λ k. Such k → measure n ≤ measure k)
        (λ k less other. absurd (none k less other)) (λ _. omega arith) within passes;
  })
  one_more n (inr none) (inr not) = inr (λ j within. below_or_last n j (λ k. ¬ (Such k)) none not within)

  find_least : (n : ℕ) → IsLeast n Such measure ⊎ ((j : ℕ) → j < n → ¬ (Such j))
  find_least zero = inr (λ j within. absurd (omega arith))
  find_least (suc n) = one_more n (find_least n) (decide n)

  -- where one passes, there is a least
  pub least_of : (n k : ℕ) → k < n → Such k → IsLeast n Such measure
  least_of n k within passes = elim (find_least n) [ inl least ↦ least | inr none ↦ absurd (none k within passes) ]

-- two tests together
pub decide_both : {P Q : Type 0} → P ⊎ (¬ P) → Q ⊎ (¬ Q) → (P × Q) ⊎ (¬ (P × Q))
decide_both (inl p) (inl q) = inl (p, q)
decide_both (inl p) (inr not) = inr (λ both. not both.1)
decide_both (inr not) q = inr (λ both. not both.0)

pub decide_lt : (m n : ℕ) → (m < n) ⊎ (¬ (m < n))
decide_lt m n = elim (cases_lt m n) [ inl less ↦ inl less | inr not ↦ inr (λ less. omega (arith, less, not)) ]

pub decide_le : (m n : ℕ) → (m ≤ n) ⊎ (¬ (m ≤ n))
decide_le m n = elim (cases_lt n m) [ inl less ↦ inr (λ le. omega (arith, less, le)) | inr le ↦ inl le ]

pub decide_may_run : (p : Problem) (l i : ℕ) → MayRun p l i ⊎ (¬ (MayRun p l i))
decide_may_run p l i = decide_both (decide_lt i (length p.trips)) (cases_eq (bit_at (trip_of p i).layers.0 l) 1)
