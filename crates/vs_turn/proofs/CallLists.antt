-- Entries, and the calls of a seat among them.
use Rattle.std.proofs.Common.{◌≡◌, ℕ, suc, ◌+◌, ◌<◌, ◌≤◌, ⊎_elim, Bool, true, false, cond, List, [], ◌∷◌, ◌++◌, length, drop, refl, sym, ap, ◌∙◌, arith, length-drop, append-nil}
use Rattle.std.proofs.lemmas.List.{drop-append-le}
use Rattle.std.proofs.Math.Seq.{drop-length}
use Rattle.vs_turn.specs.Calls.{maker, has_ticket, calls_from, calls_of, AreCalls, NoCalls, AreMadeBelow, numbered}
use Rattle.vs_turn.proofs.TicketLists.{true_or_false, true_not_false}

abbrev pub E : Type 0
E = List ℕ

-- the calls where the first entry is one
pub calls_from-yes : (at : ℕ) (ts : List ℕ) (e : E) (es : List E) → has_ticket ts (maker e) ≡ true
    → calls_from at ts (e ∷ es) ≡ (at, e) ∷ calls_from (suc at) ts es
calls_from-yes at ts e es h = ap (λ (b : Bool). cond b ((at, e) ∷ calls_from (suc at) ts es)
    (calls_from (suc at) ts es)) h

-- and where the first entry is none
pub calls_from-no : (at : ℕ) (ts : List ℕ) (e : E) (es : List E) → has_ticket ts (maker e) ≡ false
    → calls_from at ts (e ∷ es) ≡ calls_from (suc at) ts es
calls_from-no at ts e es h = ap (λ (b : Bool). cond b ((at, e) ∷ calls_from (suc at) ts es)
    (calls_from (suc at) ts es)) h

-- calls among entries that go on
calls_from-append : (at : ℕ) (ts : List ℕ) (xs ys : List E)
    → calls_from at ts (xs ++ ys) ≡ calls_from at ts xs ++ calls_from (at + length xs) ts ys
calls_from-append at ts [] ys = ap (λ (n : ℕ). calls_from n ts ys) (omega arith)
calls_from-append at ts (e ∷ es) ys =
    let i = calls_from-append (suc at) ts es ys in
    let n : suc at + length es ≡ at + suc (length es) = omega arith in
    let i' : calls_from (suc at) ts (es ++ ys) ≡ calls_from (suc at) ts es ++ calls_from (at + suc (length es))
    ts ys =
    i ∙ ap (λ (k : ℕ). calls_from (suc at) ts es ++ calls_from k ts ys) n in
    ⊎_elim
    (λ y. calls_from-yes at ts e (es ++ ys) y ∙ (ap (λ l. (at, e) ∷ l) i'
    ∙ sym (ap (λ l. l ++ calls_from (at + suc (length es)) ts ys) (calls_from-yes at ts e es y))))
    (λ n. calls_from-no at ts e (es ++ ys) n
    ∙ (i' ∙ sym (ap (λ l. l ++ calls_from (at + suc (length es)) ts ys) (calls_from-no at ts e es n))))
    (true_or_false (has_ticket ts (maker e)))

-- the calls of a seat in a history that goes on
pub calls_of-append : (ts : List ℕ) (since : ℕ) (xs ys : List E) → since ≤ length xs
    → calls_of ts since (xs ++ ys) ≡ calls_of ts since xs ++ calls_from (length xs) ts ys
calls_of-append ts since xs ys h =
    let n : since + length (drop since xs) ≡ length xs = omega (arith, length-drop since xs) in
    ap (calls_from since ts) (drop-append-le since xs ys h)
    ∙ (calls_from-append since ts (drop since xs) ys ∙ ap (λ (k : ℕ). calls_of ts since xs ++ calls_from k ts ys) n)

no_calls : (at : ℕ) (ts : List ℕ) (es : List E) → NoCalls ts es → calls_from at ts es ≡ []
no_calls at ts [] h = refl
no_calls at ts (e ∷ es) h = calls_from-no at ts e es h.0 ∙ no_calls (suc at) ts es h.1

-- where there is no call, none of the entries is one
pub no_calls_back : (at : ℕ) (ts : List ℕ) (es : List E) → calls_from at ts es ≡ [] → NoCalls ts es
no_calls_back at ts [] h = tt
no_calls_back at ts (e ∷ es) h = ⊎_elim
    (λ y. let bad : (at, e) ∷ calls_from (suc at) ts es ≡ [] = sym (calls_from-yes at ts e es y) ∙ h in
    absurd (let l : suc (length (calls_from (suc at) ts es)) ≡ 0 = ap length bad in omega arith))
    (λ n. (n, no_calls_back (suc at) ts es (sym (calls_from-no at ts e es n) ∙ h)))
    (true_or_false (has_ticket ts (maker e)))

-- where each entry is a call, the calls are all entries with their positions
pub all_calls : (at : ℕ) (ts : List ℕ) (es : List E) → AreCalls ts es → calls_from at ts es ≡ numbered at es
all_calls at ts [] h = refl
all_calls at ts (e ∷ es) h = calls_from-yes at ts e es h.0 ∙ ap (λ l. (at, e) ∷ l) (all_calls (suc at) ts es h.1)

-- where two lists have no call, the two together have none
pub NoCalls-append : (ts : List ℕ) (xs ys : List E) → NoCalls ts xs → NoCalls ts ys → NoCalls ts (xs ++ ys)
NoCalls-append ts [] ys a b = b
NoCalls-append ts (x ∷ xs) ys a b = (a.0, NoCalls-append ts xs ys a.1 b)

-- where a list has no call, its beginning has none
pub NoCalls-front : (ts : List ℕ) (xs ys : List E) → NoCalls ts (xs ++ ys) → NoCalls ts xs
NoCalls-front ts [] ys a = tt
NoCalls-front ts (x ∷ xs) ys a = (a.0, NoCalls-front ts xs ys a.1)

-- and its end has none
pub NoCalls-back : (ts : List ℕ) (xs ys : List E) → NoCalls ts (xs ++ ys) → NoCalls ts ys
NoCalls-back ts [] ys a = a
NoCalls-back ts (x ∷ xs) ys a = NoCalls-back ts xs ys a.1

-- calls of one seat are none of a seat with other tickets
pub calls_of_another : (ts us : List ℕ) (es : List E) → ((t : ℕ) → has_ticket ts t ≡ true → has_ticket us t ≡ false)
    → AreCalls ts es → NoCalls us es
calls_of_another ts us [] apart h = tt
calls_of_another ts us (e ∷ es) apart h = (apart (maker e) h.0, calls_of_another ts us es apart h.1)

-- fewer tickets have no more calls
pub fewer_calls : (ts us : List ℕ) (es : List E) → ((t : ℕ) → has_ticket us t ≡ true → has_ticket ts t ≡ true)
    → NoCalls ts es → NoCalls us es
fewer_calls ts us [] part h = tt
fewer_calls ts us (e ∷ es) part h = (
  ⊎_elim (λ y. absurd (true_not_false (part (maker e) y) h.0)) (λ n. n) (true_or_false (has_ticket us (maker e))),
  fewer_calls ts us es part h.1,
)

-- calls under tickets below n are made below n
pub made_below : (n : ℕ) (ts : List ℕ) (es : List E) → ((t : ℕ) → has_ticket ts t ≡ true → t < n) → AreCalls ts es
    → AreMadeBelow n es
made_below n ts [] b h = tt
made_below n ts (e ∷ es) b h = (b (maker e) h.0, made_below n ts es b h.1)

-- two lists made below n are so together
pub AreMadeBelow-append : (n : ℕ) (xs ys : List E) → AreMadeBelow n xs → AreMadeBelow n ys
    → AreMadeBelow n (xs ++ ys)
AreMadeBelow-append n [] ys a b = b
AreMadeBelow-append n (x ∷ xs) ys a b = (a.0, AreMadeBelow-append n xs ys a.1 b)

-- the end of a list made below n is so
pub AreMadeBelow-back : (n : ℕ) (xs ys : List E) → AreMadeBelow n (xs ++ ys) → AreMadeBelow n ys
AreMadeBelow-back n [] ys a = a
AreMadeBelow-back n (x ∷ xs) ys a = AreMadeBelow-back n xs ys a.1

-- where all makers are below n, a seat that has every ticket below n made all
pub none_left : (n : ℕ) (ts : List ℕ) (es : List E) → ((t : ℕ) → t < n → has_ticket ts t ≡ true) → AreMadeBelow n es
    → NoCalls ts es → es ≡ []
none_left n ts [] all made none = refl
none_left n ts (e ∷ es) all made none = absurd (true_not_false (all (maker e) made.0) none.0)

-- what a value brings along is nobody's call
pub calls_of-none : (ts : List ℕ) (es : List E) → calls_of ts (length es) es ≡ []
calls_of-none ts es = ap (calls_from (length es) ts) (drop-length es)

-- of no calls, fewer tickets have none
pub fewer_calls_of : (ts us : List ℕ) (since : ℕ) (es : List E)
    → ((t : ℕ) → has_ticket us t ≡ true → has_ticket ts t ≡ true)
    → calls_of ts since es ≡ [] → calls_of us since es ≡ []
fewer_calls_of ts us since es part h = no_calls since us (drop since es)
    (fewer_calls ts us (drop since es) part (no_calls_back since ts (drop since es) h))

-- entries that a seat didn't make leave its calls as they were
pub still_all_calls : (ts : List ℕ) (since : ℕ) (seen more : List E) → since ≤ length seen → NoCalls ts more
    → calls_of ts since (seen ++ more) ≡ calls_of ts since seen
still_all_calls ts since seen more begun none =
    calls_of-append ts since seen more begun
    ∙ (ap (λ l. calls_of ts since seen ++ l) (no_calls (length seen) ts more none)
    ∙ append-nil (calls_of ts since seen))
