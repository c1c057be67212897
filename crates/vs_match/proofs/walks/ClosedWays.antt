-- Ways that follow each other, under closed deadheads.
use Rattle.std.proofs.Common.{◌≡◌, ℕ, ◌+◌, ◌≤◌, if◌then◌else◌, Option, Some, None, refl, sym, ap, ◌∙◌, inl, inr, arith}
use Rattle.std.specs.Prelude.{IsSomeAnd, unwrap_or}
use Rattle.std.specs.FinMap as map
use Rattle.std.proofs.lemmas.Bool.{cases_eq, eq-eqb}
use Rattle.vs_instance.specs.declared.way.Way.{Way}
use Rattle.vs_instance.specs.Problem.{Problem}
use Rattle.vs_instance.specs.Ways.{way, no_way}
use Rattle.vs_instance.specs.Instance.{IsInstance, IsNoLonger}
use Rattle.vs_instance.proofs.CallerLemmas.{way-other}

pub some-same : {X : Type 0} (x y : X) → ◌≡◌ {A = Option X} (Some x) (Some y) → x ≡ y
some-same x y e = ap (λ o. unwrap_or o x) e

pub way-own : (p : Problem) (k : ℕ) → way p k k ≡ Some no_way
way-own p k = ap (λ b. if b then Some no_way else map.get p.deadheads (k, k)) (eq-eqb k k refl)

-- a way that is no longer than these two together
pub record IsThrough (p : Problem) (k t : ℕ) (a b : Way) : Type 0 where
  pub by : Way
  pub way_is : way p k t ≡ Some by
  pub minutes : by.minutes ≤ a.minutes + b.minutes
  pub metres : by.metres ≤ a.metres + b.metres

from_closure : (p : Problem) (k t : ℕ) (a b : Way) (o : Option Way) → way p k t ≡ o → IsSomeAnd o (IsNoLonger a b)
    → IsThrough p k t a b
from_closure p k t a b (Some w) is short =
    record { by = w; way_is = is; minutes = short.minutes; metres = short.metres }
from_closure p k t a b None is short = absurd short

-- where ways lead from k to s and from s to t, one leads from k to t that is no longer than both
pub way-through : (p : Problem) → IsInstance p → (k s t : ℕ) (a b : Way) → way p k s ≡ Some a → way p s t ≡ Some b
    → IsThrough p k t a b
way-through p is k s t a b first second =
    elim (cases_eq k s) [
      | inl same ↦
          record {
            by = b;
            way_is = ap (λ (n : ℕ). way p n t) same ∙ second;
            minutes = omega arith;
            metres =
                omega arith;
          }
      | inr apart ↦ elim (cases_eq s t) [
        | inl same ↦
            record {
              by = a;
              way_is = ap (λ (n : ℕ). way p k n) (sym same) ∙ first;
              minutes = omega arith;
              metres =
                  omega arith;
            }
        | inr apart' ↦ elim (cases_eq k t) [
          | inl same ↦
              record {
                by = no_way;
                way_is = ap (λ (n : ℕ). way p k n) (sym same) ∙ way-own p k;
                minutes =
                    omega arith;
                metres = omega arith;
              }
          | inr round ↦ from_closure p k t a b (map.get p.deadheads (k, t)) (way-other p k t round)
              (is.closed k s t a b round (sym (way-other p k s apart) ∙ first) (sym (way-other p s t apart') ∙ second))
        ]
      ]
    ]
