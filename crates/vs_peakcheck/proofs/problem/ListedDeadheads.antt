-- Deadheads that are listed one after another, and the map that they make.
use Rattle.std.proofs.Common.{◌≡◌, ◌≢◌, ℕ, zero, suc, ◌+◌, ◌*◌, ◌<◌, Bool, true, false, cond, eqb, List, [], ◌∷◌, ◌++◌, get_or, refl, sym, ap, ◌∙◌, subst, arith, inl, inr, Option, Some, None}
use Rattle.std.specs.FinMap as map
use Rattle.std.specs.List.{All, fold}
use Rattle.std.specs.Ordering.{eq_by_cmp}
use Rattle.std.specs.Option.{option_to_list}
use Rattle.std.specs.Prelude.{Contains, option_map}
use Rattle.std.proofs.lemmas.Bool.{and_parts, cases_eq, cases_lt, eq-eqb, eqb-true, false_from_ne_true, ne_eqb}
use Rattle.std.proofs.lemmas.List.{append-nil, length_push}
use Rattle.std.proofs.lemmas.List.Elements.{All-head, All-nil, All-push, All-tail, All-weaker, Contains-append_left, Contains-push}
use Rattle.std.proofs.lemmas.List.Quantifiers.{all_pairs_push}
use Rattle.std.proofs.lemmas.Nat.{mul-add-lt, same_from_place}
use Rattle.std.proofs.lemmas.Option.{MatchOption-at_some, none-some, same_Some}
use Rattle.vs_instance.specs.declared.parts.Deadhead.{Deadhead}
use Rattle.vs_instance.specs.declared.way.Way.{Way}
use Rattle.vs_instance.specs.Instance.{IsDeadhead, IsInstance}
use Rattle.vs_instance.specs.Misfits.{are_twins, deadheads_of}
use Rattle.vs_instance.specs.Problem.{Problem, pair_cmp}
use Rattle.vs_instance.proofs.CallerLemmas.{pair_cmp-IsAntisymmetric, pair_cmp-total, same_pair, tied_same}
use Rattle.vs_peakcheck.specs.Listed.{AreAllDeadheads, AreDeadheadsBelow, IsGiven, deadhead, deadhead_given, place_of}

abbrev Map : Type 0
Map = map.FinMap pair_cmp Way

abbrev way_given : Deadhead → Way
way_given d = record { minutes = d.minutes; metres = d.metres }

abbrev pair_of : Deadhead → ℕ × ℕ
pair_of d = (d.from.0, d.to.0)

abbrev with_deadhead : Map → Deadhead → Map
with_deadhead m d = map.insert m (d.from.0, d.to.0) (record { minutes = d.minutes; metres = d.metres })

module _ (p : Problem) where
  -- deadheads at different places aren't twins
  apart : (d e : Deadhead) → place_of p d.from.0 d.to.0 < place_of p e.from.0 e.to.0 → are_twins d e ≡ false
  apart d e less = false_from_ne_true (are_twins d e)
      (λ twins.
      let both = and_parts (eqb d.from.0 e.from.0) (eqb d.to.0 e.to.0) twins in
      let from = ap (λ (k : ℕ). k * p.stops) (eqb-true d.from.0 e.from.0 both.0) in
      omega (arith, less, from, eqb-true d.to.0 e.to.0 both.1))

  pub none_listed : AreDeadheadsBelow p 0 []
  none_listed = record {
    few = omega arith;
    given = All-nil (IsGiven p);
    before = All-nil (λ (d : Deadhead). place_of p d.from.0 d.to.0 < 0);
    once = λ i j d less within. absurd (omega (arith, within));
    all = λ k s w of_k of_s below is other. absurd (omega (arith, below));
  }

  module _ (k s : ℕ) (of_k : k < p.stops) (of_s : s < p.stops) (ds : List Deadhead)
      (listed : AreDeadheadsBelow p (place_of p k s) ds) where
    abbrev Before : ℕ → Deadhead → Type 0
    Before n d = place_of p d.from.0 d.to.0 < n

    before_more : All (Before (place_of p k s + 1)) ds
    before_more = All-weaker (Before (place_of p k s)) (Before (place_of p k s + 1)) (λ d less. omega (arith, less)) ds
        listed.before

    -- between these stops nothing is given
    pub nothing_listed : ((w : Way) → map.get p.deadheads (k, s) ≡ Some w → k ≢ s → ⊥)
        → AreDeadheadsBelow p (place_of p k s + 1) ds
    nothing_listed none = record {
      few = omega (arith, listed.few);
      given = listed.given;
      before = before_more;
      once = listed.once;
      all = λ a b w of_a of_b below is other.
          elim (cases_lt (place_of p a b) (place_of p k s)) [
            | inl less ↦ listed.all a b w of_a of_b less is other
            | inr not_less ↦
                let same : place_of p a b ≡ place_of p k s = omega (arith, below, not_less) in
                let stops = same_from_place a b k s p.stops of_b of_s same in
                absurd (none w
                (subst (λ (x : ℕ). map.get p.deadheads (k, x) ≡ Some w) stops.1
                (subst (λ (x : ℕ). map.get p.deadheads (x, b) ≡ Some w) stops.0 is))
                (λ e. other (stops.0 ∙ e ∙ sym stops.1)))
          ];
    }

    -- between these stops this is given, and is listed
    pub one_listed : (w : Way) → map.get p.deadheads (k, s) ≡ Some w
        → AreDeadheadsBelow p (place_of p k s + 1) (ds ++ deadhead k s w ∷ [])
    one_listed w given = record {
      few = omega (arith, listed.few, length_push ds (deadhead k s w));
      given = All-push (IsGiven p) ds (deadhead k s w) listed.given
          (record { from = of_k; to = of_s; given = given });
      before = All-push (Before (place_of p k s + 1)) ds (deadhead k s w) before_more (omega arith);
      once = all_pairs_push (λ d e. are_twins d e ≡ false) ds (deadhead k s w) listed.once
          (λ n d within. apart (get_or ds n d) (deadhead k s w) (listed.before n d within));
      all = λ a b v of_a of_b below is other.
          elim (cases_lt (place_of p a b) (place_of p k s)) [
            | inl less ↦
                Contains-append_left ds (deadhead k s w ∷ []) (deadhead a b v)
                (listed.all a b v of_a of_b less is other)
            | inr not_less ↦
                let same : place_of p a b ≡ place_of p k s = omega (arith, below, not_less) in
                let stops = same_from_place a b k s p.stops of_b of_s same in
                let here : map.get p.deadheads (k, s) ≡ Some v =
                subst (λ (x : ℕ). map.get p.deadheads (k, x) ≡ Some v) stops.1
                (subst (λ (x : ℕ). map.get p.deadheads (x, b) ≡ Some v) stops.0 is) in
                let way : w ≡ v = same_Some w v (sym given ∙ here) in
                let whole : deadhead k s w ≡ deadhead a b v =
                λ i. deadhead (sym stops.0 i) (sym stops.1 i) (way i) in
                subst (Contains (ds ++ deadhead k s w ∷ [])) whole (Contains-push ds (deadhead k s w))
          ];
    }

  none_given : (k s : ℕ) → deadhead_given p k s ≡ None → (w : Way) → map.get p.deadheads (k, s) ≡ Some w → k ≢ s → ⊥
  none_given k s none w given other =
      let e : deadhead_given p k s ≡ Some (deadhead k s w) =
      ap (λ (b : Bool). cond b None (option_map (deadhead k s) (map.get p.deadheads (k, s)))) (ne_eqb k s other)
      ∙ ap (option_map (deadhead k s)) given in
      none-some (deadhead k s w) (sym none ∙ e)

  -- the way of a deadhead that is given
  way_of : (k s : ℕ) (o : Option Way) (d : Deadhead) → option_map (deadhead k s) o ≡ Some d
      → (w : Way) × (o ≡ Some w) × (deadhead k s w ≡ d)
  way_of k s None d is = absurd (cc)
  way_of k s (Some w) d is = (w, refl, same_Some (deadhead k s w) d is)

  one_given : (k s : ℕ) (d : Deadhead) → deadhead_given p k s ≡ Some d
      → (w : Way) × (map.get p.deadheads (k, s) ≡ Some w) × (deadhead k s w ≡ d)
  one_given k s d is =
      let own = map.get p.deadheads (k, s) in
      elim (cases_eq k s) [
        | inl same ↦
            absurd (none-some d
            (sym (ap (λ (b : Bool). cond b None (option_map (deadhead k s) own)) (eq-eqb k s same)) ∙ is))
        | inr other ↦
            way_of k s own d
            (sym (ap (λ (b : Bool). cond b None (option_map (deadhead k s) own)) (ne_eqb k s other)) ∙ is)
      ]

  -- one pair of stops more is looked at
  pub pair_listed : (place k s : ℕ) (ds new : List Deadhead) (given : Option Deadhead) → k < p.stops → s < p.stops
      → place_of p k s ≡ place → AreDeadheadsBelow p place ds → given ≡ deadhead_given p k s
      → new ≡ ds ++ option_to_list given → AreDeadheadsBelow p (place + 1) new
  pair_listed place k s ds new given of_k of_s at listed is added =
      subst (λ (n : ℕ). AreDeadheadsBelow p (n + 1) new) at
      (subst (AreDeadheadsBelow p (place_of p k s + 1)) (sym added) (by_given given is))
    where
      here : AreDeadheadsBelow p (place_of p k s) ds
      here = subst (λ (n : ℕ). AreDeadheadsBelow p n ds) (sym at) listed

      by_given : (o : Option Deadhead) → o ≡ deadhead_given p k s
          → AreDeadheadsBelow p (place_of p k s + 1) (ds ++ option_to_list o)
      by_given None none =
          subst (AreDeadheadsBelow p (place_of p k s + 1)) (sym (append-nil ds))
          (nothing_listed k s of_k of_s ds here (none_given k s (sym none)))
      by_given (Some d) some =
          let way = one_given k s d (sym some) in
          subst (λ (x : Deadhead). AreDeadheadsBelow p (place_of p k s + 1) (ds ++ x ∷ [])) way.2
          (one_listed k s of_k of_s ds here way.0 way.1)

  -- what the map of some deadheads has is given, where each of them is
  all_given : (m : Map) (ds : List Deadhead)
      → ((q : ℕ × ℕ) (w : Way) → map.get m q ≡ Some w → map.get p.deadheads q ≡ Some w)
      → All (IsGiven p) ds → (q : ℕ × ℕ) (w : Way)
      → map.get (fold with_deadhead m ds) q ≡ Some w → map.get p.deadheads q ≡ Some w
  all_given m [] before each q w is = before q w is
  all_given m (d ∷ ds) before each q w is =
      all_given (with_deadhead m d) ds
      (λ r v here. one_given m d before (All-head (IsGiven p) d ds each) r v (eq_by_cmp pair_cmp r (pair_of d)) refl
      (sym (map.get-insert pair_cmp-total m (pair_of d) (way_given d) r) ∙ here))
      (All-tail (IsGiven p) d ds each) q w is
    where
      one_given : (m : Map) (d : Deadhead)
          → ((q : ℕ × ℕ) (w : Way) → map.get m q ≡ Some w → map.get p.deadheads q ≡ Some w)
          → IsGiven p d → (r : ℕ × ℕ) (v : Way) (b : Bool) → eq_by_cmp pair_cmp r (pair_of d) ≡ b
          → cond b (Some (way_given d)) (map.get m r) ≡ Some v → map.get p.deadheads r ≡ Some v
      one_given m d before own r v true tied is =
          let same : r ≡ pair_of d = same_pair r (pair_of d) tied in
          ap (λ (x : ℕ × ℕ). map.get p.deadheads x) same ∙ own.given ∙ is
      one_given m d before own r v false tied is = before r v is

  -- the map has something for the pair
  abbrev Has : Map → ℕ × ℕ → Type 0
  Has m q = (w : Way) × (map.get m q ≡ Some w)

  has_more : (m : Map) (d : Deadhead) (q : ℕ × ℕ) → Has m q → Has (with_deadhead m d) q
  has_more m d q (w, is) =
      by_tie (eq_by_cmp pair_cmp q (pair_of d))
      (map.get-insert pair_cmp-total m (pair_of d) (way_given d) q)
    where
      by_tie : (b : Bool) → map.get (with_deadhead m d) q ≡ cond b (Some (way_given d)) (map.get m q)
          → Has (with_deadhead m d) q
      by_tie true inserted = (way_given d, inserted)
      by_tie false inserted = (w, inserted ∙ is)

  has_itself : (m : Map) (d : Deadhead) → Has (with_deadhead m d) (pair_of d)
  has_itself m d = (
    way_given d,
    map.get-insert pair_cmp-total m (pair_of d) (way_given d) (pair_of d)
        ∙ ap (λ (b : Bool). cond b (Some (way_given d)) (map.get m (pair_of d)))
        (tied_same (pair_of d) (pair_of d) refl),
  )

  has_kept : (m : Map) (ds : List Deadhead) (q : ℕ × ℕ) → Has m q → Has (fold with_deadhead m ds) q
  has_kept m [] q has = has
  has_kept m (d ∷ ds) q has = has_kept (with_deadhead m d) ds q (has_more m d q has)

  has_each : (m : Map) (ds : List Deadhead) (d : Deadhead) → Contains ds d
      → Has (fold with_deadhead m ds) (pair_of d)
  has_each m [] d among = absurd (omega (arith, among.1))
  has_each m (e ∷ ds) d (zero, within, is) =
      has_kept (with_deadhead m e) ds (pair_of d)
      (subst (λ (x : Deadhead). Has (with_deadhead m e) (pair_of x)) is (has_itself m e))
  has_each m (e ∷ ds) d (suc n, within, is) =
      has_each (with_deadhead m e) ds d (n, omega (arith, within), is)

  abbrev nothing : Map
  nothing = map.empty

  empty_given : (q : ℕ × ℕ) (w : Way) → map.get nothing q ≡ Some w → map.get p.deadheads q ≡ Some w
  empty_given q w is = absurd (none-some w (sym (map.get-empty pair_cmp q) ∙ is))

  -- all deadheads make the problem's map
  pub same_deadheads : (ds : List Deadhead) → IsInstance p → AreAllDeadheads p ds → deadheads_of ds ≡ p.deadheads
  same_deadheads ds instance listed =
      map.same_map pair_cmp-total pair_cmp-IsAntisymmetric (deadheads_of ds) p.deadheads
      (λ q. by_way q (map.get p.deadheads q) refl (map.get (deadheads_of ds) q) refl)
    where
      listed_one : (q : ℕ × ℕ) (w : Way) → map.get p.deadheads q ≡ Some w → Has (deadheads_of ds) q
      listed_one q w is =
          let own = MatchOption-at_some _ (IsDeadhead p q.0 q.1) w is (instance.deadheads q.0 q.1) in
          has_each nothing ds (deadhead q.0 q.1 w)
          (listed.all q.0 q.1 w own.from own.to
          (mul-add-lt q.0 p.stops q.1 p.stops own.from own.to) is own.apart)

      by_way : (q : ℕ × ℕ) (o : Option Way) → map.get p.deadheads q ≡ o → (r : Option Way)
          → map.get (deadheads_of ds) q ≡ r → map.get (deadheads_of ds) q ≡ map.get p.deadheads q
      by_way q None none None nothing = nothing ∙ sym none
      by_way q None none (Some w) found =
          let e : None ≡ Some w = sym none ∙ all_given nothing ds empty_given listed.given q w found in
          absurd (cc)
      by_way q (Some w) given r found =
          let has = listed_one q w given in
          has.1 ∙ sym (all_given nothing ds empty_given listed.given q has.0 has.1)
