-- A table is worth one bound.
use Rattle.std.specs.Prelude.{int_lt}
use Rattle.std.proofs.Common.{◌≡◌, Bool, true, false, cond, subst, List, refl, sym, ap, ◌∙◌, arith, MatchBool, ℤ, pos, ◌≤ℤ◌, ◌<ℤ◌}
use Rattle.std.proofs.lemmas.Bool.{false≢true}
use Rattle.std.proofs.lemmas.Int.{ints}
use Rattle.vs_types.specs.declared.layer_set.LayerSet.{LayerSet}
use Rattle.vs_types.proofs.CallerLemmas.{match_false}
use Rattle.vs_instance.specs.Problem.{Problem}
use Rattle.vs_prices.specs.declared.bound.Bound.{Bound}
use Rattle.vs_prices.specs.declared.bound.Bound.TheVariants.{AtLeast, NoPlan}
use Rattle.vs_prices.specs.declared.table.Table.{Table}
use Rattle.vs_prices.specs.Worth.{IsRoundedUp, IsWorth, rounded_up, table_value, worth_of}
use Rattle.vs_prices.proofs.Rounding.{rounded_once, rounded_up-IsRoundedUp}

match_true : (b : Bool) (P Q : Type 0) → b ≡ true → P → MatchBool b P Q
match_true b P Q e h = subst (λ (x : Bool). MatchBool x P Q) (sym e) h

positive : (v : ℤ) → int_lt (pos 0) v ≡ true → pos 0 <ℤ v
positive v h = grind (arith, ints)

not_positive : (v : ℤ) → int_lt (pos 0) v ≡ false → v ≤ℤ pos 0
not_positive v h = grind (arith, ints)

number_once : (ray : Bool) (v m n : ℤ) → MatchBool ray ((v ≤ℤ pos 0) × (m ≡ pos 0)) (IsRoundedUp v m)
    → MatchBool ray ((v ≤ℤ pos 0) × (n ≡ pos 0)) (IsRoundedUp v n) → m ≡ n
number_once true v m n a b = a.1 ∙ sym b.1
number_once false v m n a b = rounded_once v m n a b

never_both : (ray : Bool) (v n : ℤ) → MatchBool ray ((v ≤ℤ pos 0) × (n ≡ pos 0)) (IsRoundedUp v n) → ray ≡ true
    → pos 0 <ℤ v → ⊥
never_both true v n a e above = let le = a.0 in omega (arith, ints)
never_both false v n a e above = false≢true e

pub worth_once : (p : Problem) (sets : List LayerSet) (table : Table) (a b : Bound) → IsWorth p sets table a
    → IsWorth p sets table b → a ≡ b
worth_once p sets table (AtLeast m) (AtLeast n) a b =
    ap AtLeast (number_once table.ray (table_value p sets table) m n a b)
worth_once p sets table (AtLeast m) NoPlan a b = absurd (never_both table.ray (table_value p sets table) m a b.0 b.1)
worth_once p sets table NoPlan (AtLeast n) a b = absurd (never_both table.ray (table_value p sets table) n b a.0 a.1)
worth_once p sets table NoPlan NoPlan a b = refl

module _ (p : Problem) (sets : List LayerSet) (table : Table) where
  value_worth : (ray : Bool) → table.ray ≡ ray
      → IsWorth p sets table
      (cond ray (cond (int_lt (pos 0) (table_value p sets table)) NoPlan (AtLeast (pos 0)))
      (AtLeast (rounded_up (table_value p sets table))))
  value_worth true is = by_test (int_lt (pos 0) (table_value p sets table)) refl
    where
      by_test : (b : Bool) → int_lt (pos 0) (table_value p sets table) ≡ b
          → IsWorth p sets table (cond b NoPlan (AtLeast (pos 0)))
      by_test true above = (is, positive (table_value p sets table) above)
      by_test false above = match_true table.ray _ _ is (not_positive (table_value p sets table) above, refl)
  value_worth false is = match_false table.ray _ _ is (rounded_up-IsRoundedUp (table_value p sets table))

  pub worth_of-IsWorth : IsWorth p sets table (worth_of p sets table)
  worth_of-IsWorth = value_worth table.ray refl

  -- what a table is worth is the function's value
  pub worth_is : (bound : Bound) → IsWorth p sets table bound → bound ≡ worth_of p sets table
  worth_is bound is = worth_once p sets table bound (worth_of p sets table) is worth_of-IsWorth
