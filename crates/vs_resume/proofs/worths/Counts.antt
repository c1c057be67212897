-- How many leaves aren't below a cost, where they are worth more and the cost is less.
use Rattle.std.proofs.Common.{◌≡◌, ℕ, zero, suc, ◌+◌, ◌<◌, ◌≤◌, not, Bool, true, false, cond, List, [], ◌∷◌, length, refl, sym, ap, subst, arith, Option, Some, None, slice_get, ℤ, ◌≤ℤ◌}
use Rattle.std.specs.Prelude.{int_lt}
use Rattle.std.proofs.lemmas.Int.{ints}
use Rattle.std.proofs.lemmas.List.Sums.{sum_by-append, sum_by-cons}
use Rattle.vs_prices.specs.Bounds.{IsBelow, IsNoLess}
use Rattle.vs_prices.specs.declared.bound.Bound.{Bound}
use Rattle.vs_prices.specs.declared.bound.Bound.TheVariants.{AtLeast, NoPlan}
use Rattle.vs_prices.proofs.CallerLemmas.{no_less-refl}
use Rattle.vs_cert.specs.Answers.{count_not_below, is_below}
use Rattle.vs_resume.specs.InPlace.{in_place}
use Rattle.vs_resume.proofs.trees.InPlace.{in_place-cons}
use Rattle.vs_resume.proofs.worths.Settled.{AreNoLess, IsNoMore}

abbrev out : Option ℤ → Bound → ℕ
out cost worth = cond (not (is_below cost worth)) 1 0

-- a test that fails fails for more and beside less
still_less : (b c n m : ℤ) → b ≤ℤ c → n ≤ℤ m → (f g : Bool) → int_lt n c ≡ f → int_lt m b ≡ g
    → cond (not f) 1 0 ≤ cond (not g) 1 0
still_less b c n m cost worth true g before after = omega arith
still_less b c n m cost worth false false before after = omega arith
still_less b c n m cost worth false true before after = absurd (grind (arith, ints))

out_more : (less cost : Option ℤ) (more worth : Bound) → IsNoMore less cost → IsNoLess more worth
    → out cost worth ≤ out less more
out_more None None NoPlan worth no_more no_less = grind arith
out_more (Some b) None NoPlan worth no_more no_less = grind arith
out_more None (Some c) more worth no_more no_less = absurd no_more
out_more (Some b) (Some c) NoPlan worth no_more no_less = grind arith
out_more less cost (AtLeast m) NoPlan no_more no_less = absurd no_less
out_more None None (AtLeast m) (AtLeast n) no_more no_less = omega arith
out_more (Some b) None (AtLeast m) (AtLeast n) no_more no_less = omega arith
out_more (Some b) (Some c) (AtLeast m) (AtLeast n) no_more no_less =
    still_less b c n m no_more no_less (int_lt n c) (int_lt m b) refl refl

pub more_not_below : (less cost : Option ℤ) (more worths : List Bound) → IsNoMore less cost → AreNoLess more worths
    → count_not_below cost worths ≤ count_not_below less more
more_not_below less cost [] [] no_more no_less = omega arith
more_not_below less cost [] (w ∷ worths) no_more no_less = absurd no_less
more_not_below less cost (m ∷ more) [] no_more no_less = absurd no_less
more_not_below less cost (m ∷ more) (w ∷ worths) no_more no_less =
    omega (
      arith,
      out_more less cost m w no_more no_less.0,
      more_not_below less cost more worths no_more no_less.1,
      sum_by-cons (out cost) w worths,
      sum_by-cons (out less) m more,
    )

-- each counts once at most
once : (b : Bool) → cond (not b) 1 0 ≤ 1
once true = omega arith
once false = omega arith

each_once : (cost : Option ℤ) (worth : Bound) → out cost worth ≤ 1
each_once cost worth = once (is_below cost worth)

at_most : (cost : Option ℤ) (worths : List Bound) → count_not_below cost worths ≤ length worths
at_most cost [] = omega arith
at_most cost (w ∷ worths) =
    omega (arith, at_most cost worths, each_once cost w, sum_by-cons (out cost) w worths)

-- the same worths
each_itself : (worths : List Bound) → AreNoLess worths worths
each_itself [] = tt
each_itself (w ∷ worths) = (no_less-refl w, each_itself worths)

-- a worth that is below a cost
below-out : (cost : Option ℤ) (worth : Bound) → IsBelow worth cost → out cost worth ≤ 0
below-out cost NoPlan below = absurd below
below-out None (AtLeast n) below = omega arith
below-out (Some c) (AtLeast n) below = by_test (int_lt n c) refl
  where
    by_test : (f : Bool) → int_lt n c ≡ f → cond (not f) 1 0 ≤ 0
    by_test true is = omega arith
    by_test false is = absurd (grind (arith, ints))

-- others in the place of a worth that was below the cost: all that weren't below it aren't below the lesser cost
pub others_not_below : (less cost : Option ℤ) (worths others : List Bound) (k : ℕ) (worth : Bound) → IsNoMore less cost
    → slice_get worths k ≡ Some worth → IsBelow worth cost
    → count_not_below cost worths + count_not_below less others ≤ count_not_below less (in_place worths k others)
others_not_below less cost [] others k worth no_more stands below = absurd cc
others_not_below less cost (w ∷ worths) others zero worth no_more stands below =
    let is : w ≡ worth = cc in
    let none : out cost w ≤ 0 = subst (λ (v : Bound). out cost v ≤ 0) (sym is) (below-out cost worth below) in
    omega (
      arith,
      none,
      more_not_below less cost worths worths no_more (each_itself worths),
      sum_by-cons (out cost) w worths,
      sum_by-append (out less) others worths,
    )
others_not_below less cost (w ∷ worths) others (suc k) worth no_more stands below =
    let placed = ap (count_not_below less) (in_place-cons w worths others k) in
    omega (
      arith,
      placed,
      others_not_below less cost worths others k worth no_more stands below,
      out_more less cost w w no_more (no_less-refl w),
      sum_by-cons (out cost) w worths,
      sum_by-cons (out less) w (in_place worths k others),
    )

-- not all of them are, where one is below it
pub one_below : (cost : Option ℤ) (worths : List Bound) (k : ℕ) (worth : Bound) → slice_get worths k ≡ Some worth
    → IsBelow worth cost → count_not_below cost worths < length worths
one_below cost [] k worth stands below = absurd cc
one_below cost (w ∷ worths) zero worth stands below =
    let is : w ≡ worth = cc in
    let none : out cost w ≤ 0 = subst (λ (v : Bound). out cost v ≤ 0) (sym is) (below-out cost worth below) in
    omega (arith, none, at_most cost worths, sum_by-cons (out cost) w worths)
one_below cost (w ∷ worths) (suc k) worth stands below =
    omega (
      arith,
      one_below cost worths k worth stands below,
      each_once cost w,
      sum_by-cons (out cost) w worths,
    )
