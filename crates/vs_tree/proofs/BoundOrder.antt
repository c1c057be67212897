-- Bounds in their order.
use Rattle.std.proofs.Common.{◌≡◌, Option, None, Some, refl, sym, ap, subst, inl, inr, ℤ}
use Rattle.vs_prices.specs.Bounds.{IsNoLess}
use Rattle.vs_prices.specs.declared.bound.Bound.{Bound}
use Rattle.vs_instance.specs.Problem.{Problem}
use Rattle.vs_tree.specs.History.{State}
use Rattle.vs_tree.specs.Report.{IsLesser, bound_of}

pub same_bound : (x y : Option ℤ) → bound_of x ≡ bound_of y → x ≡ y
same_bound None None e = refl
same_bound None (Some n) e = cc
same_bound (Some m) None e = cc
same_bound (Some m) (Some n) e = let same : m ≡ n = cc in ap Some same

-- of two bounds that are the lesser one of a state each is no less than the other
pub lesser-no_less : (p : Problem) (s : State) (a b : Bound) → IsLesser p s a → IsLesser p s b → IsNoLess a b
lesser-no_less p s a b one other =
    elim one.reached [
      | inl same ↦ subst (λ (x : Bound). IsNoLess x b) (sym same) other.cost
      | inr leaf ↦ other.leaves leaf.leaf a leaf.is_leaf leaf.worth
    ]
