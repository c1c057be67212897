-- Deadheads are closed exactly where no three stops have a misfit.
use Rattle.std.proofs.Common.{◌≡◌, ◌≢◌, ℕ, ◌+◌, ◌<◌, Bool, true, false, cond, ◌||◌, eqb, [], refl, subst, arith}
use Rattle.std.specs.FinMap as map
use Rattle.std.specs.Option.{IsSomeAnd}
use Rattle.std.specs.declared.option.Option.{Option}
use Rattle.std.specs.declared.option.Option.TheVariants as option
use Rattle.std.proofs.lemmas.Bool.{ltb-false, le-ltb, eqb-false, ne_eqb, or_parts, or_from}
use Rattle.vs_instance.specs.declared.way.Way.{Way}
use Rattle.vs_instance.specs.Instance.{IsNoLonger}
use Rattle.vs_instance.specs.Misfits.{closure_misfits, misfits_from, misfits_by, triple_misfits, apart_misfits, detour_misfits, longer_misfits}
use Rattle.vs_instance.proofs.misfits.Empty.{None, both_none, none-append, false_from_none, none_from_false, number_none, none_numbers}
use Rattle.vs_instance.proofs.deadheads.Gathered.{Map}

module _ (k s t : ℕ) (a b : Way) where
  no_longer : (w : Way) → None (longer_misfits k s t a b w) → IsNoLonger a b w
  no_longer w none =
      let parts = both_none _ _ none in
      record {
        minutes = ltb-false (a.minutes + b.minutes) w.minutes (false_from_none _ _ parts.0);
        metres = ltb-false (a.metres + b.metres) w.metres (false_from_none _ _ parts.1);
      }

  none_of_no_longer : (w : Way) → IsNoLonger a b w → None (longer_misfits k s t a b w)
  none_of_no_longer w is =
      none-append _ _ (none_from_false _ _ (le-ltb _ _ is.minutes)) (none_from_false _ _ (le-ltb _ _ is.metres))

  direct_way : (o : Option Way) → None (detour_misfits k s t (option.Some a) (option.Some b) o)
      → IsSomeAnd o (IsNoLonger a b)
  direct_way (option.Some w) none = no_longer w none
  direct_way option.None none = cc

  none_of_direct : (o : Option Way) → IsSomeAnd o (IsNoLonger a b)
      → None (detour_misfits k s t (option.Some a) (option.Some b) o)
  none_of_direct (option.Some w) is = none_of_no_longer w is
  none_of_direct option.None is = absurd is

pub none_of_detour : (k s t : ℕ) (a b o : Option Way)
    → ((x y : Way) → a ≡ option.Some x → b ≡ option.Some y → IsSomeAnd o (IsNoLonger x y))
    → None (detour_misfits k s t a b o)
none_of_detour k s t (option.Some x) (option.Some y) o each = none_of_direct k s t x y o (each x y refl refl)
none_of_detour k s t (option.Some x) option.None o each = refl
none_of_detour k s t option.None b o each = refl

-- the three stops are three
apart_none : (k s t : ℕ) (a b o : Option Way) → k ≢ s → s ≢ t → k ≢ t → None (apart_misfits k s t a b o)
    → None (detour_misfits k s t a b o)
apart_none k s t a b o ks st kt none =
    let test : ((eqb k s || eqb s t) || eqb k t) ≡ false =
    or_from _ _ (or_from _ _ (ne_eqb k s ks) (ne_eqb s t st)) (ne_eqb k t kt) in
    subst (λ (x : Bool). None (cond x [] (detour_misfits k s t a b o))) test none

pub none_of_apart : (k s t : ℕ) (a b o : Option Way)
    → (k ≢ s → s ≢ t → k ≢ t → None (detour_misfits k s t a b o))
    → None (apart_misfits k s t a b o)
none_of_apart k s t a b o each = by_test ((eqb k s || eqb s t) || eqb k t) refl
  where
    by_test : (x : Bool) → ((eqb k s || eqb s t) || eqb k t) ≡ x → None (cond x [] (detour_misfits k s t a b o))
    by_test true is = refl
    by_test false is =
        let last = or_parts _ _ is in
        let both = or_parts _ _ last.0 in
        each (eqb-false k s both.0) (eqb-false s t both.1) (eqb-false k t last.1)

module _ (n : ℕ) (given : Map) where
  triple_none : None (closure_misfits n given) → (k s t : ℕ) → k < n → s < n → t < n → None (triple_misfits given k s t)
  triple_none none k s t of_k of_s of_t =
      let from_k = number_none (misfits_from n given) 0 n none k (omega arith) (omega arith) in
      let by_s = number_none (misfits_by n given k) 0 n from_k s (omega arith) (omega arith) in
      number_none (triple_misfits given k s) 0 n by_s t (omega arith) (omega arith)

  -- each deadhead leads from one of the stops to another
  abbrev pub BetweenStops : Type 0
  BetweenStops = (k s : ℕ) (w : Way) → map.get given (k, s) ≡ option.Some w → (k < n) × (s < n) × (k ≢ s)

  pub closed_from_none : BetweenStops → None (closure_misfits n given) → (k s t : ℕ) (a b : Way) → k ≢ t
      → map.get given (k, s) ≡ option.Some a
      → map.get given (s, t) ≡ option.Some b → IsSomeAnd (map.get given (k, t)) (IsNoLonger a b)
  closed_from_none between none k s t a b apart first second =
      let ks = between k s a first in
      let st = between s t b second in
      let triple = triple_none none k s t ks.0 ks.1 st.1 in
      let detour =
      apart_none k s t (map.get given (k, s)) (map.get given (s, t))
      (map.get given (k, t)) ks.2 st.2 apart triple in
      direct_way k s t a b (map.get given (k, t))
      (subst (λ (o : Option Way). None (detour_misfits k s t (option.Some a) o (map.get given (k, t)))) second
      (subst (λ (o : Option Way). None (detour_misfits k s t o (map.get given (s, t)) (map.get given (k, t)))) first
      detour))

  pub none_of_closed : ((k s t : ℕ) (a b : Way) → k ≢ t → map.get given (k, s) ≡ option.Some a
      → map.get given (s, t) ≡ option.Some b
      → IsSomeAnd (map.get given (k, t)) (IsNoLonger a b)) → None (closure_misfits n given)
  none_of_closed closed =
      none_numbers (misfits_from n given) 0 n (λ k _ _.
      none_numbers (misfits_by n given k) 0 n (λ s _ _.
      none_numbers (triple_misfits given k s) 0 n (λ t _ _.
      none_of_apart k s t (map.get given (k, s)) (map.get given (s, t)) (map.get given (k, t)) (λ _ _ apart.
      none_of_detour k s t (map.get given (k, s)) (map.get given (s, t)) (map.get given (k, t)) (λ a b first second.
      closed k s t a b apart first second)))))
