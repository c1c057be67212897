-- Leaves whose tables show a bound, and what comes in the place of one of them.
use Rattle.std.proofs.Common.{◌≡◌, ℕ, zero, suc, ◌-◌, ◌<◌, List, [], ◌∷◌, ◌++◌, length, Option, Some, None, subst, arith, ℤ}
use Rattle.std.specs.Prelude.{slice_get}
use Rattle.std.specs.List.{All}
use Rattle.std.proofs.lemmas.Int.{ints}
use Rattle.std.proofs.lemmas.List.Elements.{All-nil, All-cons, All-head, All-tail}
use Rattle.vs_instance.specs.Problem.{Problem}
use Rattle.vs_prices.specs.Bounds.{IsNoLess}
use Rattle.vs_prices.specs.Worth.{Reaches}
use Rattle.vs_prices.specs.declared.bound.Bound.{Bound}
use Rattle.vs_prices.specs.declared.bound.Bound.TheVariants.{AtLeast, NoPlan}
use Rattle.vs_prices.specs.Tree.{LeafPlace}
use Rattle.vs_tree.specs.Prices.{AreWorth, Prices}
use Rattle.vs_tree.proofs.CallerLemmas.{one_worth}
use Rattle.vs_resume.specs.Standing.{AreNamedWorths, IsNamedWorth}

-- what is no less than a worth that reaches the bound reaches it too
reaches-no_less : (bound : Option ℤ) (a b : Bound) → IsNoLess a b → Reaches b bound → Reaches a bound
reaches-no_less bound NoPlan b more reaches = tt
reaches-no_less bound (AtLeast n) NoPlan more reaches = absurd more
reaches-no_less None (AtLeast n) (AtLeast m) more reaches = reaches
reaches-no_less (Some c) (AtLeast n) (AtLeast m) more reaches = omega (arith, ints)

-- the first part of a list has the items that it had
get-append : {A : Type 0} (xs ys : List A) (k : ℕ) (x : A) → slice_get xs k ≡ Some x → slice_get (xs ++ ys) k ≡ Some x
get-append [] ys k x e = cc
get-append (y ∷ xs) ys zero x e = e
get-append (y ∷ xs) ys (suc k) x e = get-append xs ys k x e

pub get-left : {A : Type 0} (xs ys : List A) (k : ℕ) (x : A) → k < length xs → slice_get (xs ++ ys) k ≡ Some x
    → slice_get xs k ≡ Some x
get-left [] ys k x lt e = absurd (omega arith)
get-left (y ∷ xs) ys zero x lt e = e
get-left (y ∷ xs) ys (suc k) x lt e = get-left xs ys k x (omega arith) e

pub get-right : {A : Type 0} (xs ys : List A) (k : ℕ) (x : A) → ¬ (k < length xs) → slice_get (xs ++ ys) k ≡ Some x
    → slice_get ys (k - length xs) ≡ Some x
get-right [] ys k x past e = subst (λ (n : ℕ). slice_get ys n ≡ Some x) (omega arith) e
get-right (y ∷ xs) ys zero x past e = absurd (past (omega arith))
get-right (y ∷ xs) ys (suc k) x past e =
    subst (λ (n : ℕ). slice_get ys n ≡ Some x) (omega arith)
    (get-right xs ys k x (λ lt. past (omega arith)) e)

module _ (p : Problem) (bound : Option ℤ) where
  -- the table that a leaf names reaches the bound there
  abbrev pub IsStrong : List Prices → LeafPlace → Type 0
  IsStrong tables leaf = (worth : Bound) × IsNamedWorth p tables leaf worth × Reaches worth bound

  abbrev pub AreStrong : List Prices → List LeafPlace → Type 0
  AreStrong tables places = All (IsStrong tables) places

  -- with further tables behind them
  strong-more : (tables added : List Prices) (leaf : LeafPlace) → IsStrong tables leaf → IsStrong (tables ++ added) leaf
  strong-more tables added leaf s =
      (s.0, (s.1.0, get-append tables added leaf.table s.1.0 s.1.1, s.1.2), s.2)

  pub are_strong-more : (tables added : List Prices) (places : List LeafPlace) → AreStrong tables places
      → AreStrong (tables ++ added) places
  are_strong-more tables added [] s = All-nil (IsStrong (tables ++ added))
  are_strong-more tables added (leaf ∷ places) s =
      All-cons (IsStrong (tables ++ added)) leaf places
      (strong-more tables added leaf (All-head (IsStrong tables) leaf places s))
      (are_strong-more tables added places (All-tail (IsStrong tables) leaf places s))

  -- one of them
  pub strong_at : (tables : List Prices) (places : List LeafPlace) (k : ℕ) (leaf : LeafPlace) → AreStrong tables places
      → slice_get places k ≡ Some leaf → IsStrong tables leaf
  strong_at tables [] k leaf s e = cc
  strong_at tables (other ∷ places) zero leaf s e =
      let same : other ≡ leaf = cc in subst (IsStrong tables) same (All-head (IsStrong tables) other places s)
  strong_at tables (other ∷ places) (suc k) leaf s e =
      strong_at tables places k leaf (All-tail (IsStrong tables) other places s) e

  -- what it is worth
  pub worth_at : (tables : List Prices) (places : List LeafPlace) (worths : List Bound) (k : ℕ) (leaf : LeafPlace)
      (worth : Bound) → AreNamedWorths p tables places worths → slice_get places k ≡ Some leaf
      → slice_get worths k ≡ Some worth → IsNamedWorth p tables leaf worth
  worth_at tables [] worths k leaf worth are e f = cc
  worth_at tables (other ∷ places) [] k leaf worth are e f = absurd are
  worth_at tables (other ∷ places) (w ∷ worths) zero leaf worth are e f =
      let same : other ≡ leaf = cc in
      let also : w ≡ worth = cc in
      subst (IsNamedWorth p tables leaf) also (subst (λ (x : LeafPlace). IsNamedWorth p tables x w) same are.0)
  worth_at tables (other ∷ places) (w ∷ worths) (suc k) leaf worth are e f =
      worth_at tables places worths k leaf worth are.1 e f

  -- a leaf is worth one bound
  one_named : (tables : List Prices) (leaf : LeafPlace) (a b : Bound) → IsNamedWorth p tables leaf a
      → IsNamedWorth p tables leaf b → a ≡ b
  one_named tables leaf a b x y =
      let e = x.1 in let f = y.1 in
      let same : x.0 ≡ y.0 = cc in
      one_worth p leaf.sets y.0 a b (subst (λ (prices : Prices). AreWorth p leaf.sets prices a) same x.2) y.2

  -- so it reaches the bound if its table does
  pub reaches_by : (tables : List Prices) (leaf : LeafPlace) (worth : Bound) → IsStrong tables leaf
      → IsNamedWorth p tables leaf worth → Reaches worth bound
  reaches_by tables leaf worth s named =
      subst (λ (w : Bound). Reaches w bound) (one_named tables leaf s.0 worth s.1 named) s.2

  -- leaves that are worth no less than what reaches it are strong
  pub strong_deeper : (tables : List Prices) (places : List LeafPlace) (worths : List Bound) (worth : Bound)
      → AreNamedWorths p tables places worths → All (λ deeper. IsNoLess deeper worth) worths → Reaches worth bound
      → AreStrong tables places
  strong_deeper tables [] worths worth are more reaches = All-nil (IsStrong tables)
  strong_deeper tables (leaf ∷ places) [] worth are more reaches = absurd are
  strong_deeper tables (leaf ∷ places) (w ∷ worths) worth are more reaches =
      All-cons (IsStrong tables) leaf places (
        w,
        are.0,
        reaches-no_less bound w worth (All-head (λ (deeper : Bound). IsNoLess deeper worth) w worths more)
            reaches,
      )
      (strong_deeper tables places worths worth are.1
      (All-tail (λ (deeper : Bound). IsNoLess deeper worth) w worths more) reaches)
