-- Lists of tickets.
use Rattle.std.proofs.Common.{◌≡◌, ◌≢◌, ℕ, zero, suc, ◌+◌, ◌-◌, ◌<◌, ◌≤◌, ◌⊎◌, inl, inr, ⊎_elim, Bool, true, false, ◌||◌, eqb, List, [], ◌∷◌, ◌++◌, length, take, drop, refl, sym, ap, ◌∙◌, subst, arith, eq-eqb, ne_eqb}
use Rattle.std.proofs.Math.Seq.{drop-append_seam, take-append_seam}
use mathlib.Core.Logic.{dite}
use native.Mathlib.Decide.{ℕ_discrete}
use Rattle.vs_turn.specs.Calls.{has_ticket}
use Rattle.vs_turn.specs.Tickets.{tickets_from, all_tickets, without_highest, only_highest, lowest, RiseFrom}

-- a test answers yes or no
pub true_or_false : (b : Bool) → (b ≡ true) ⊎ (b ≡ false)
true_or_false true = inl refl
true_or_false false = inr refl

-- no test answers both
pub true_not_false : {b : Bool} → b ≡ true → b ≡ false → ⊥
true_not_false t f = let e : true ≡ false = sym t ∙ f in cc

-- one ticket more at the end
tickets_from-snoc : (k n : ℕ) → tickets_from k (n + 1) ≡ tickets_from k n ++ (k + n) ∷ []
tickets_from-snoc k zero = ap (λ (x : ℕ). x ∷ []) (omega arith)
tickets_from-snoc k (suc n) =
    let e : suc n + 1 ≡ suc (n + 1) = omega arith in
    let f : suc k + n ≡ k + suc n = omega arith in
    ap (tickets_from k) e ∙ ap (λ l. k ∷ l) (tickets_from-snoc (suc k) n
    ∙ ap (λ (x : ℕ). tickets_from (suc k) n ++ x ∷ []) f)

-- one seat more has one ticket more
pub all_tickets-snoc : (n : ℕ) → tickets_from 0 (n + 1) ≡ tickets_from 0 n ++ n ∷ []
all_tickets-snoc n = let e : 0 + n ≡ n = omega arith in tickets_from-snoc 0 n
    ∙ ap (λ (x : ℕ). tickets_from 0 n ++ x ∷ []) e

-- there are as many tickets as were asked for
pub length-tickets_from : (k n : ℕ) → length (tickets_from k n) ≡ n
length-tickets_from k zero = refl
length-tickets_from k (suc n) = ap suc (length-tickets_from (suc k) n)

-- of all tickets the others stay
pub without_highest-all : (n : ℕ) → without_highest (all_tickets (n + 1)) ≡ all_tickets n
without_highest-all n =
    let long = length-tickets_from 0 (n + 1) in
    let short = length-tickets_from 0 n in
    let l : length (all_tickets (n + 1)) - 1 ≡ length (all_tickets n) = omega arith in
    (λ i. take (l i) (all_tickets-snoc n i)) ∙ take-append_seam (all_tickets n) (n ∷ [])

-- and the highest is handed on
pub only_highest-all : (n : ℕ) → only_highest (all_tickets (n + 1)) ≡ n ∷ []
only_highest-all n =
    let long = length-tickets_from 0 (n + 1) in
    let short = length-tickets_from 0 n in
    let l : length (all_tickets (n + 1)) - 1 ≡ length (all_tickets n) = omega arith in
    (λ i. drop (l i) (all_tickets-snoc n i)) ∙ drop-append_seam (all_tickets n) (n ∷ [])

-- tickets that are handed out in order rise
pub tickets_from-rise : (k n : ℕ) → RiseFrom k (tickets_from k n)
tickets_from-rise k zero = tt
tickets_from-rise k (suc n) = (omega arith, tickets_from-rise (suc k) n)

-- a ticket of a list is its first or one of the others
has_cons : (u t : ℕ) (us : List ℕ) → has_ticket (u ∷ us) t ≡ true → (u ≡ t) ⊎ (has_ticket us t ≡ true)
has_cons u t us h = dite (ℕ_discrete u t) (λ e. inl e)
    (λ ne. inr (subst (λ (b : Bool). (b || has_ticket us t) ≡ true) (ne_eqb u t ne) h))

-- the first ticket of a list is one of it
pub has_first : (u t : ℕ) (us : List ℕ) → u ≡ t → has_ticket (u ∷ us) t ≡ true
has_first u t us e = subst (λ (b : Bool). (b || has_ticket us t) ≡ true) (sym (eq-eqb u t e)) refl

-- a later ticket of a list is one of it
pub has_later : (u t : ℕ) (us : List ℕ) → has_ticket us t ≡ true → has_ticket (u ∷ us) t ≡ true
has_later u t us h = ⊎_elim (λ y. subst (λ (b : Bool). (b || has_ticket us t) ≡ true) (sym y) refl)
    (λ n. subst (λ (b : Bool). (b || has_ticket us t) ≡ true) (sym n) h) (true_or_false (eqb u t))

-- the lowest ticket is one of the list
pub has_lowest : (ts : List ℕ) → 0 < length ts → has_ticket ts (lowest ts) ≡ true
has_lowest [] h = absurd (omega arith)
has_lowest (t ∷ ts) h = has_first t t ts refl

-- the tickets from k on are below k + n
pub tickets_from_below : (k n t : ℕ) → has_ticket (tickets_from k n) t ≡ true → t < k + n
tickets_from_below k zero t h = absurd (true_not_false h refl)
tickets_from_below k (suc n) t h = ⊎_elim (λ (e : k ≡ t). omega arith) (λ r. let b =
    tickets_from_below (suc k) n t r in omega arith)
    (has_cons k t (tickets_from (suc k) n) h)

-- no ticket of a rising list is below its least
pub risen : (k t : ℕ) (ts : List ℕ) → RiseFrom k ts → has_ticket ts t ≡ true → k ≤ t
risen k t [] r h = absurd (true_not_false h refl)
risen k t (u ∷ us) r h = let a : k ≤ u = r.0 in ⊎_elim (λ (e : u ≡ t). omega arith)
    (λ l. let b = risen (suc u) t us r.1 l in omega arith) (has_cons u t us h)

rise_lower : (k l : ℕ) (ts : List ℕ) → l ≤ k → RiseFrom k ts → RiseFrom l ts
rise_lower k l [] h r = tt
rise_lower k l (u ∷ us) h r = let a : k ≤ u = r.0 in (omega arith, r.1)

-- tickets of a part are tickets of the whole
pub has_take : (n t : ℕ) (ts : List ℕ) → has_ticket (take n ts) t ≡ true → has_ticket ts t ≡ true
has_take zero t ts h = absurd (true_not_false h refl)
has_take (suc n) t [] h = h
has_take (suc n) t (u ∷ us) h = ⊎_elim (λ e. has_first u t us e) (λ r. has_later u t us (has_take n t us r))
    (has_cons u t (take n us) h)

-- and so of what is left of it
pub has_drop : (n t : ℕ) (ts : List ℕ) → has_ticket (drop n ts) t ≡ true → has_ticket ts t ≡ true
has_drop zero t ts h = h
has_drop (suc n) t [] h = h
has_drop (suc n) t (u ∷ us) h = has_later u t us (has_drop n t us h)

-- no ticket of a rising list is in both parts
pub take_drop_apart : (n k t : ℕ) (ts : List ℕ) → RiseFrom k ts → has_ticket (take n ts) t ≡ true
    → has_ticket (drop n ts) t ≡ false
take_drop_apart n k t ts r h = ⊎_elim (λ b. absurd (both n k t ts r h b)) (λ f. f)
    (true_or_false (has_ticket (drop n ts) t))
  where
    both : (n k t : ℕ) (ts : List ℕ) → RiseFrom k ts → has_ticket (take n ts) t ≡ true
        → has_ticket (drop n ts) t ≡ true → ⊥
    both zero k t ts r h b = true_not_false h refl
    both (suc n) k t [] r h b = true_not_false h refl
    both (suc n) k t (u ∷ us) r h b = ⊎_elim
        (λ (e : u ≡ t). let l = risen (suc u) t us r.1 (has_drop n t us b) in absurd (omega arith))
        (λ x. both n (suc u) t us r.1 x b) (has_cons u t (take n us) h)

-- a first part of rising tickets rises
pub rise_take : (n k : ℕ) (ts : List ℕ) → RiseFrom k ts → RiseFrom k (take n ts)
rise_take zero k ts r = tt
rise_take (suc n) k [] r = tt
rise_take (suc n) k (u ∷ us) r = (r.0, rise_take n (suc u) us r.1)

-- and so does the rest
pub rise_drop : (n k : ℕ) (ts : List ℕ) → RiseFrom k ts → RiseFrom k (drop n ts)
rise_drop zero k ts r = r
rise_drop (suc n) k [] r = tt
rise_drop (suc n) k (u ∷ us) r = let a : k ≤ u = r.0 in
    rise_lower (suc u) k (drop n us) (omega arith) (rise_drop n (suc u) us r.1)

-- tickets that rise from k on and lie below m are at most m - k
pub few_tickets : (k m : ℕ) (ts : List ℕ) → RiseFrom k ts → k ≤ m → ((t : ℕ) → has_ticket ts t ≡ true → t < m)
    → length ts + k ≤ m
few_tickets k m [] r le h = omega arith
few_tickets k m (t ∷ ts) r le h =
    let a : k ≤ t = r.0 in let b : t < m = h t (has_first t t ts refl) in
    let c = few_tickets (suc t) m ts r.1 (omega arith) (λ x y. h x (has_later t x ts y)) in omega arith

-- as many tickets as there are numbers are all of them
pub full_tickets : (k n : ℕ) (ts : List ℕ) → RiseFrom k ts → length ts ≡ n
    → ((t : ℕ) → has_ticket ts t ≡ true → t < k + n)
    → (t : ℕ) → k ≤ t → t < k + n → has_ticket ts t ≡ true
full_tickets k zero ts r l h t a b = absurd (omega arith)
full_tickets k (suc n) [] r l h t a b = absurd (omega arith)
full_tickets k (suc n) (u ∷ us) r l h t a b =
    let low : k ≤ u = r.0 in
    let top : u < k + suc n = h u (has_first u u us refl) in
    let few = few_tickets (suc u) (k + suc n) us r.1 (omega arith) (λ x y. h x (has_later u x us y)) in
    let here : u ≡ k = omega arith in
    let same : (x : ℕ) → has_ticket us x ≡ true → x < suc k + n = λ x y. let z = h x (has_later u x us y) in
    omega arith in
    let rise : RiseFrom (suc k) us = rise_lower (suc u) (suc k) us (omega arith) r.1 in
    dite (ℕ_discrete u t) (λ e. has_first u t us e)
    (λ ne. has_later u t us (full_tickets (suc k) n us rise (omega arith) same t (other u t k here a ne)
    (omega arith)))
  where
    other : (u t k : ℕ) → u ≡ k → k ≤ t → u ≢ t → suc k ≤ t
    other u t k e a ne = omega arith
