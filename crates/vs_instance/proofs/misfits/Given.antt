-- Deadheads with no misfit stand in the map once and within the limits, and the other way round.
use Rattle.std.proofs.Common.{◌≡◌, ◌≢◌, ℕ, zero, suc, ◌<◌, ◌≤◌, Bool, true, false, cond, ◌&&◌, ltb, eqb, List, [], ◌∷◌, length, get_or, take, refl, sym, ap, ◌∙◌, subst, arith}
use Rattle.std.specs.FinMap as map
use Rattle.std.specs.List.{fold, list_any, All, AllPairs}
use Rattle.std.specs.declared.option.Option.TheVariants as option
use Rattle.std.specs.Ordering.{eq_by_cmp}
use Rattle.std.specs.Cmp.{Equal-is, nat_eq_equiv}
use Rattle.std.proofs.lemmas.Bool.{ltb-false, le-ltb, eqb-false, ne_eqb, or_parts, or_from, false_from_ne_true, both_ways}
use Rattle.std.proofs.lemmas.List.{length-take, get_or-take, get_or_default}
use Rattle.std.proofs.lemmas.List.Folds.{list_any_none, list_any_at}
use Rattle.vs_instance.specs.declared.parts.Deadhead.{Deadhead}
use Rattle.vs_instance.specs.declared.way.Way.{Way}
use Rattle.vs_instance.specs.declared.limits.TheConstants.{MAX_MINUTES, MAX_METRES}
use Rattle.vs_instance.specs.Problem.{pair_cmp}
use Rattle.vs_instance.specs.Misfits.{are_twins, has_twin_before, deadhead_misfits}
use Rattle.vs_instance.proofs.misfits.Empty.{None, both_none, none-append, false_from_none, none_from_false}
use Rattle.vs_instance.proofs.deadheads.Pairs.{pair_cmp-total, pair_cmp-IsAntisymmetric, tied_same}
use Rattle.vs_instance.proofs.deadheads.Gathered.{Map, with_deadhead, tied_twins, way_given, pair_of}

-- what a deadhead without a misfit is
pub record IsFit (twice : Bool) (d : Deadhead) : Type 0 where
  pub apart : d.from.0 ≢ d.to.0
  pub some_minutes : 1 ≤ d.minutes
  pub minutes : d.minutes ≤ MAX_MINUTES
  pub metres : d.metres ≤ MAX_METRES
  pub once : twice ≡ false

pub deadhead_fits : (twice : Bool) (n : ℕ) (d : Deadhead) → None (deadhead_misfits twice n d) → IsFit twice d
deadhead_fits twice n d none =
    let last = both_none _ _ none in
    let third = both_none _ _ last.0 in
    let second = both_none _ _ third.0 in
    let minutes = or_parts (eqb d.minutes 0) (ltb MAX_MINUTES d.minutes) (false_from_none _ _ second.1) in
    let some : d.minutes ≡ 0 → ⊥ = eqb-false d.minutes 0 minutes.0 in
    record {
      apart = eqb-false d.from.0 d.to.0 (false_from_none _ _ second.0);
      some_minutes = omega arith;
      minutes = ltb-false MAX_MINUTES d.minutes minutes.1;
      metres = ltb-false MAX_METRES d.metres (false_from_none _ _ third.1);
      once = false_from_none _ _ last.1;
    }

pub none_of_deadhead : (twice : Bool) (n : ℕ) (d : Deadhead) → IsFit twice d → None (deadhead_misfits twice n d)
none_of_deadhead twice n d is =
    let some : d.minutes ≡ 0 → ⊥ = λ none. omega (arith, is.some_minutes, none) in
    none-append _ _ (none-append _ _ (none-append _ _ (none_from_false _ _ (ne_eqb d.from.0 d.to.0 is.apart))
    (none_from_false _ _ (or_from _ _ (ne_eqb d.minutes 0 some) (le-ltb MAX_MINUTES d.minutes is.minutes))))
    (none_from_false _ _ (le-ltb MAX_METRES d.metres is.metres))) (none_from_false _ _ is.once)

-- what holds of the pair and the way of each deadhead holds of all that the map has
pub given_all : (P : ℕ × ℕ → Way → Type 0) (m : Map) (ds : List Deadhead)
    → ((q : ℕ × ℕ) (w : Way) → map.get m q ≡ option.Some w → P q w)
    → All (λ d. P (pair_of d) (way_given d)) ds → (q : ℕ × ℕ) (w : Way)
    → map.get (fold with_deadhead m ds) q ≡ option.Some w → P q w
given_all P m [] before each q w is = before q w is
given_all P m (d ∷ ds) before each q w is =
    given_all P (with_deadhead m d) ds
    (λ r v here.
    let inserted : cond (eq_by_cmp pair_cmp r (pair_of d)) (option.Some (way_given d)) (map.get m r) ≡ option.Some v =
    sym (map.get-insert pair_cmp-total m (pair_of d) (way_given d) r) ∙ here in
    one_of P m d r v before (each 0 d (omega arith)) (eq_by_cmp pair_cmp r (pair_of d)) refl inserted)
    (λ k e within. each (suc k) e (omega arith)) q w is
  where
    one_of : (P : ℕ × ℕ → Way → Type 0) (m : Map) (d : Deadhead) (r : ℕ × ℕ) (v : Way)
        → ((q : ℕ × ℕ) (w : Way) → map.get m q ≡ option.Some w → P q w)
        → P (pair_of d) (way_given d) → (b : Bool) → eq_by_cmp pair_cmp r (pair_of d) ≡ b
        → cond b (option.Some (way_given d)) (map.get m r) ≡ option.Some v → P r v
    one_of P m d r v before own true tied is =
        let same : pair_of d ≡ r =
        sym (pair_cmp-IsAntisymmetric r (pair_of d) ((Equal-is (pair_cmp r (pair_of d))).0 tied)) in
        let way : way_given d ≡ v = cc in
        subst (λ (x : ℕ × ℕ). P x v) same (subst (P (pair_of d)) way own)
    one_of P m d r v before own false tied is = before r v is

-- no twin after a deadhead: its pair stays as it was
kept : (m : Map) (ds : List Deadhead) (d : Deadhead) → list_any (λ e. are_twins e d) ds ≡ false
    → map.get (fold with_deadhead m ds) (pair_of d) ≡ map.get m (pair_of d)
kept m [] d none = refl
kept m (e ∷ ds) d none =
    let parts = or_parts (are_twins e d) (list_any (λ x. are_twins x d) ds) none in
    kept (with_deadhead m e) ds d parts.1
    ∙ map.get-insert pair_cmp-total m (pair_of e) (way_given e) (pair_of d)
    ∙ ap (λ (b : Bool). cond b (option.Some (way_given e)) (map.get m (pair_of d))) (tied_twins e d ∙ parts.0)

are_twins-comm : (d e : Deadhead) → are_twins d e ≡ are_twins e d
are_twins-comm d e = λ i. nat_eq_equiv.symm d.from.0 e.from.0 i && nat_eq_equiv.symm d.to.0 e.to.0 i

-- where no deadhead stands twice, the map has each one's own way
pub own_way : (m : Map) (ds : List Deadhead) → AllPairs (λ d e. are_twins d e ≡ false) ds → (k : ℕ) (x : Deadhead)
    → k < length ds
    → map.get (fold with_deadhead m ds) (pair_of (get_or ds k x)) ≡ option.Some (way_given (get_or ds k x))
own_way m [] once k x within = absurd (omega arith)
own_way m (d ∷ ds) once zero x within =
    let none =
    list_any_none (λ e. are_twins e d) ds
    (λ k e inside. are_twins-comm (get_or ds k e) d ∙ once 0 (suc k) e (omega arith) (omega arith)) in
    kept (with_deadhead m d) ds d none
    ∙ map.get-insert pair_cmp-total m (pair_of d) (way_given d) (pair_of d)
    ∙ ap (λ (b : Bool). cond b (option.Some (way_given d)) (map.get m (pair_of d)))
    (tied_same (pair_of d) (pair_of d) refl)
own_way m (d ∷ ds) once (suc k) x within =
    own_way (with_deadhead m d) ds (λ i j e less inside. once (suc i) (suc j) e (omega arith) (omega arith)) k x
    (omega arith)

-- no deadhead has a twin before it exactly where no two are twins
pub once_from : (ds : List Deadhead)
    → ((n : ℕ) (d : Deadhead) → n < length ds → has_twin_before ds n (get_or ds n d) ≡ false)
    → AllPairs (λ d e. are_twins d e ≡ false) ds
once_from ds none i j d less within =
    let inside : i < length (take j ds) = omega (arith, length-take j ds) in
    let here : get_or (take j ds) i d ≡ get_or ds i d = get_or-take j ds i d less in
    false_from_ne_true _ (λ twins. both_ways _ (none j d within)
    (list_any_at (λ e. are_twins e (get_or ds j d)) (take j ds) i d inside
    (ap (λ (e : Deadhead). are_twins e (get_or ds j d)) here ∙ twins)))

pub none_before : (ds : List Deadhead) → AllPairs (λ d e. are_twins d e ≡ false) ds → (n : ℕ) (d : Deadhead)
    → n < length ds
    → has_twin_before ds n (get_or ds n d) ≡ false
none_before ds once n d within =
    list_any_none (λ e. are_twins e (get_or ds n d)) (take n ds) (λ k e inside.
    let less : k < n = omega (arith, length-take n ds) in
    ap (λ (x : Deadhead). are_twins x (get_or ds n d)) (get_or-take n ds k e less)
    ∙ ap (λ (x : Deadhead). are_twins (get_or ds k e) x) (get_or_default ds n d e within)
    ∙ once k n e less within)
