-- The calls of two seats that have no ticket in common, in the order of their positions.
use Rattle.std.proofs.Common.{◌≡◌, ℕ, suc, ◌+◌, ◌<◌, ◌≤◌, ⊎_elim, Bool, true, false, ◌||◌, cond, List, [], ◌∷◌, length, refl, sym, ap, ◌∙◌, subst, arith}
use Rattle.std.specs.Prelude.{nat_lt}
use Rattle.std.proofs.lemmas.Bool.{lt-ltb, le-ltb}
use Rattle.vs_turn.specs.Calls.{maker, has_ticket, calls_from, NoCalls, insert_call, merged_calls}
use Rattle.vs_turn.specs.Tickets.{merged_tickets}
use Rattle.vs_turn.proofs.TicketLists.{true_or_false, true_not_false}
use Rattle.vs_turn.proofs.CallLists.{calls_from-yes, calls_from-no}
use Rattle.vs_turn.proofs.MergedTickets.{has-merged, merged_has}

abbrev Call : Type 0
Call = ℕ × List ℕ

-- no call stands before this position
abbrev FromOn : ℕ → List Call → Type 0
FromOn at [] = Unit {0}
FromOn at (c ∷ cs) = (at ≤ c.0) × FromOn at cs

later : (k l : ℕ) (cs : List Call) → l ≤ k → FromOn k cs → FromOn l cs
later k l [] h f = tt
later k l (c ∷ cs) h f = let a : k ≤ c.0 = f.0 in (omega arith, later k l cs h f.1)

calls_later : (k : ℕ) (ts : List ℕ) (es : List (List ℕ)) → FromOn k (calls_from k ts es)
calls_later k ts [] = tt
calls_later k ts (e ∷ es) =
    let r = later (suc k) k (calls_from (suc k) ts es) (omega arith) (calls_later (suc k) ts es) in
    ⊎_elim (λ y. subst (FromOn k) (sym (calls_from-yes k ts e es y)) (omega arith, r))
    (λ n. subst (FromOn k) (sym (calls_from-no k ts e es n)) r) (true_or_false (has_ticket ts (maker e)))

insert_early : (c d : Call) (ds : List Call) → c.0 < d.0 → insert_call c (d ∷ ds) ≡ c ∷ d ∷ ds
insert_early c d ds h = ap (λ (b : Bool). cond b (c ∷ d ∷ ds) (d ∷ insert_call c ds)) (lt-ltb c.0 d.0 h)

insert_late : (c d : Call) (ds : List Call) → d.0 ≤ c.0 → insert_call c (d ∷ ds) ≡ d ∷ insert_call c ds
insert_late c d ds h = ap (λ (b : Bool). cond b (c ∷ d ∷ ds) (d ∷ insert_call c ds)) (le-ltb c.0 d.0 h)

insert_first : (c : Call) (ds : List Call) → FromOn (suc c.0) ds → insert_call c ds ≡ c ∷ ds
insert_first c [] f = refl
insert_first c (d ∷ ds) f = insert_early c d ds f.0

insert_from : (k : ℕ) (c : Call) (ds : List Call) → k ≤ c.0 → FromOn k ds → FromOn k (insert_call c ds)
insert_from k c [] h f = (h, tt)
insert_from k c (d ∷ ds) h f = ⊎_elim
    (λ y. subst (FromOn k) (sym (ap (λ (b : Bool). cond b (c ∷ d ∷ ds) (d ∷ insert_call c ds)) y)) (h, f))
    (λ n. subst (FromOn k) (sym (ap (λ (b : Bool). cond b (c ∷ d ∷ ds) (d ∷ insert_call c ds)) n)) (
      f.0,
      insert_from k c ds h f.1,
    ))
    (true_or_false (nat_lt c.0 d.0))

merged_from : (k : ℕ) (cs ds : List Call) → FromOn k cs → FromOn k ds → FromOn k (merged_calls cs ds)
merged_from k [] ds f g = g
merged_from k (c ∷ cs) ds f g = insert_from k c (merged_calls cs ds) f.0 (merged_from k cs ds f.1 g)

-- a call of the second that stands before all of the first
merged_second : (d : Call) (cs ds : List Call) → FromOn (suc d.0) cs
    → merged_calls cs (d ∷ ds) ≡ d ∷ merged_calls cs ds
merged_second d [] ds f = refl
merged_second d (c ∷ cs) ds f = let a : suc d.0 ≤ c.0 = f.0 in
    ap (insert_call c) (merged_second d cs ds f.1) ∙ insert_late c d (merged_calls cs ds) (omega arith)

-- the calls of both seats together
pub calls_from-merged : (k : ℕ) (ts us : List ℕ) (es : List (List ℕ))
    → ((t : ℕ) → has_ticket ts t ≡ true → has_ticket us t ≡ false)
    → calls_from k (merged_tickets ts us) es ≡ merged_calls (calls_from k ts es) (calls_from k us es)
calls_from-merged k ts us [] apart = refl
calls_from-merged k ts us (e ∷ es) apart =
    let both = merged_tickets ts us in
    let rest = calls_from-merged (suc k) ts us es apart in
    let cs = calls_from (suc k) ts es in
    let ds = calls_from (suc k) us es in
    let m = maker e in
    ⊎_elim
    (λ y. let n = apart m y in
    let in_both : has_ticket both m ≡ true = has-merged ts us m ∙ ap (λ (b : Bool). b || has_ticket us m) y in
    calls_from-yes k both e es in_both
    ∙ (ap (λ l. (k, e) ∷ l) rest
    ∙ (sym (insert_first (k, e) (merged_calls cs ds) (merged_from (suc k) cs ds (calls_later (suc k) ts es)
    (calls_later (suc k) us es)))
    ∙ sym ((λ i. merged_calls (calls_from-yes k ts e es y i) (calls_from-no k us e es n i))))))
    (λ n. ⊎_elim
    (λ y. let in_both : has_ticket both m ≡ true = has-merged ts us m ∙ (λ i. n i || y i) in
    calls_from-yes k both e es in_both
    ∙ (ap (λ l. (k, e) ∷ l) rest
    ∙ (sym (merged_second (k, e) cs ds (calls_later (suc k) ts es))
    ∙ sym ((λ i. merged_calls (calls_from-no k ts e es n i) (calls_from-yes k us e es y i))))))
    (λ z. let in_none : has_ticket both m ≡ false = has-merged ts us m ∙ (λ i. n i || z i) in
    calls_from-no k both e es in_none
    ∙ (rest ∙ sym ((λ i. merged_calls (calls_from-no k ts e es n i) (calls_from-no k us e es z i)))))
    (true_or_false (has_ticket us m)))
    (true_or_false (has_ticket ts m))

-- what neither has made, both together haven't
pub NoCalls-merged : (ts us : List ℕ) (es : List (List ℕ)) → NoCalls ts es → NoCalls us es
    → NoCalls (merged_tickets ts us) es
NoCalls-merged ts us [] a b = tt
NoCalls-merged ts us (e ∷ es) a b = (
  ⊎_elim (λ y. absurd (⊎_elim (λ p. true_not_false p a.0) (λ p. true_not_false p b.0)
      (merged_has ts us (maker e) y))) (λ n. n)
      (true_or_false (has_ticket (merged_tickets ts us) (maker e))),
  NoCalls-merged ts us es a.1 b.1,
)

length-insert_call : (c : Call) (ds : List Call) → length (insert_call c ds) ≡ 1 + length ds
length-insert_call c [] = refl
length-insert_call c (d ∷ ds) = ⊎_elim
    (λ y. ap (λ (b : Bool). length (cond b (c ∷ d ∷ ds) (d ∷ insert_call c ds))) y ∙ omega arith)
    (λ n. ap (λ (b : Bool). length (cond b (c ∷ d ∷ ds) (d ∷ insert_call c ds))) n
    ∙ (let l = length-insert_call c ds in omega arith))
    (true_or_false (nat_lt c.0 d.0))

-- no call is lost or doubled
pub length-merged_calls : (cs ds : List Call) → length (merged_calls cs ds) ≡ length cs + length ds
length-merged_calls [] ds = omega arith
length-merged_calls (c ∷ cs) ds = length-insert_call c (merged_calls cs ds)
    ∙ (let l = length-merged_calls cs ds in omega arith)
