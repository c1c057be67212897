-- Weights of 1 at some of the nodes, and of 0 elsewhere.
use Rattle.std.proofs.Common.{◌≡◌, ◌∙◌, ℕ, zero, suc, Bool, true, false, cond, eqb, List, [], ◌∷◌, refl, sym, ap, arith, inl, inr, ℤ, pos, neg_ℤ, ◌-ℤ◌, ◌*ℤ◌}
use Rattle.std.proofs.lemmas.Int.{ints}
use Rattle.std.proofs.lemmas.Bool.{cases_eq, eq-eqb, ne_eqb}
use Rattle.vs_path.specs.Search.{IsIn}

-- 1 where the test is met
abbrev pub one_where : (ℕ → Bool) → ℕ → ℤ
one_where test v = cond (test v) (pos 1) (pos 0)

-- what units gain that go from a node that meets the test or not to one that does or not
abbrev pub passed : Bool → Bool → ℕ → ℤ
passed true true n = pos 0
passed true false n = neg_ℤ (pos n)
passed false true n = pos n
passed false false n = pos 0

pub passed-is : (from to : Bool) (n : ℕ)
    → (cond to (pos 1) (pos 0) -ℤ cond from (pos 1) (pos 0)) *ℤ pos n ≡ passed from to n
passed-is true true n = omega (arith, ints)
passed-is true false n = omega (arith, ints)
passed-is false true n = omega (arith, ints)
passed-is false false n = omega (arith, ints)

-- whether a node is one of these
abbrev pub is_in : List ℕ → ℕ → Bool
is_in [] v = false
is_in (u ∷ nodes) v = cond (eqb u v) true (is_in nodes v)

pub is_in-from : (nodes : List ℕ) (v : ℕ) → IsIn nodes v → is_in nodes v ≡ true
is_in-from [] v (i, within, is) = absurd (omega arith)
is_in-from (u ∷ nodes) v (zero, within, is) = ap (λ (b : Bool). cond b true (is_in nodes v)) (eq-eqb u v is)
is_in-from (u ∷ nodes) v (suc i, within, is) = go (eqb u v) (is_in-from nodes v (i, omega arith, is))
  where
    go : (b : Bool) → is_in nodes v ≡ true → cond b true (is_in nodes v) ≡ true
    go true rest = refl
    go false rest = rest

pub is_in-to : (nodes : List ℕ) (v : ℕ) → is_in nodes v ≡ true → IsIn nodes v
is_in-to [] v e = absurd (cc)
is_in-to (u ∷ nodes) v e =
    elim (cases_eq u v) [
      | inl same ↦ (0, omega arith, same)
      | inr apart ↦
          let rest = is_in-to nodes v (ap (λ (b : Bool). cond b true (is_in nodes v)) (sym (ne_eqb u v apart)) ∙ e) in
          (suc rest.0, omega (arith, rest.1), rest.2)
    ]
