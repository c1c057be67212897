-- What tests answer, and what holds of each value that there may be.
use Rattle.std.proofs.Common.{◌≡◌, ℕ, Bool, true, false, cond, ◌&&◌, refl, sym, subst, arith, Option, None, Some, MatchBool, ℤ, ◌≤ℤ◌}
use Rattle.std.specs.Prelude.{IfSome, int_lt}
use Rattle.std.proofs.lemmas.Int.{ints}

-- a number isn't less exactly where it is no less
pub not_less : (n bound : ℤ) → int_lt n bound ≡ false → bound ≤ℤ n
not_less n bound h = grind (arith, ints)

pub less_not : (n bound : ℤ) → bound ≤ℤ n → int_lt n bound ≡ false
less_not n bound h = grind (arith, ints)

-- two tests fail together where the second fails whenever the first holds
pub and_false : (a b : Bool) → (a ≡ true → b ≡ false) → (a && b) ≡ false
and_false true b fails = fails refl
and_false false b fails = refl

-- nothing, whatever the test says
pub no-matter : (b : Bool) → ◌≡◌ {A = ℕ} (cond b 0 0) 0
no-matter true = refl
no-matter false = refl

-- where a test fails, what has to hold is the other
pub match_false : (b : Bool) (P Q : Type 0) → b ≡ false → Q → MatchBool b P Q
match_false b P Q e h = subst (λ (x : Bool). MatchBool x P Q) (sym e) h

-- what holds of all numbers holds of the one that there may be
pub each_some : (o : Option ℕ) (P : ℕ → Type 0) → ((c : ℕ) → P c) → IfSome o P
each_some None P each = tt
each_some (Some c) P each = each c
