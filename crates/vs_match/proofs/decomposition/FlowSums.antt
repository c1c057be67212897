-- Sums over the arcs of a node, and over all arcs, where one arc gets another number of units.
use Rattle.std.proofs.Common.{◌≡◌, ◌≢◌, ℕ, zero, suc, ◌+◌, ◌*◌, ◌<◌, ◌≤◌, Bool, true, false, cond, eqb, List, [], ◌∷◌, length, get_or, set, refl, sym, ap, ◌∙◌, inl, inr, arith}
use Rattle.std.specs.Prelude.{replicate}
use Rattle.std.specs.List.{range_with_len, filter, sum_by, count_by}
use Rattle.std.proofs.lemmas.Bool.{cases_eq, cases_Bool, eq-eqb, ne_eqb}
use Rattle.std.proofs.lemmas.List.{get_or-set_same, get_or-set_other}
use Rattle.std.proofs.lemmas.List.Sums.{sum_by-cons}
use Rattle.vs_match.specs.Underway.{weight_of_flow}

-- one for yes
abbrev pub as_one : Bool → ℕ
as_one b = cond b 1 0

-- how often a number stands in a list
abbrev pub times : ℕ → List ℕ → ℕ
times k js = count_by (λ j. eqb j k) js

pub times-cons : (k j : ℕ) (js : List ℕ) → times k (j ∷ js) ≡ cond (eqb j k) 1 0 + times k js
times-cons k j js = sum_by-cons (λ (x : ℕ). cond (eqb x k) 1 0) j js

times-own : (k : ℕ) (js : List ℕ) → times k (k ∷ js) ≡ 1 + times k js
times-own k js = times-cons k k js ∙ ap (λ (b : Bool). cond b 1 0 + times k js) (eq-eqb k k refl)

times-other : (k j : ℕ) (js : List ℕ) → j ≢ k → times k (j ∷ js) ≡ times k js
times-other k j js other =
    times-cons k j js ∙ ap (λ (b : Bool). cond b 1 0 + times k js) (ne_eqb j k other) ∙ omega arith

-- the units of a list of arcs, once arc k has other units
pub units-set : (units : List ℕ) (k n : ℕ) (js : List ℕ) → k < length units
    → sum_by (λ j. get_or (set units k n) j 0) js + times k js * get_or units k 0
    ≡ sum_by (λ j. get_or units j 0) js + times k js * n
units-set units k n [] within = omega arith
units-set units k n (j ∷ js) within =
    let new = set units k n in
    let old = get_or units k 0 in
    let rest = units-set units k n js within in
    let left = sum_by-cons (λ (i : ℕ). get_or new i 0) j js in
    let right = sum_by-cons (λ (i : ℕ). get_or units i 0) j js in
    elim (cases_eq j k) [
      | inl same ↦
          let written = ap (λ (i : ℕ). get_or new i 0) same ∙ get_or-set_same units k n 0 within in
          let read = ap (λ (i : ℕ). get_or units i 0) same in
          let count = ap (λ (i : ℕ). times k (i ∷ js)) same ∙ times-own k js in
          let before = ap (λ (t : ℕ). t * old) count in
          let after = ap (λ (t : ℕ). t * n) count in
          omega (arith, rest, left, right, written, read, before, after)
      | inr other ↦
          let written = get_or-set_other units k j n 0 other in
          let count = times-other k j js other in
          let before = ap (λ (t : ℕ). t * old) count in
          let after = ap (λ (t : ℕ). t * n) count in
          omega (arith, rest, left, right, written, before, after)
    ]

-- one unit more
pub units-more : (units : List ℕ) (k : ℕ) (js : List ℕ) → k < length units
    → sum_by (λ j. get_or (set units k (get_or units k 0 + 1)) j 0) js ≡ sum_by (λ j. get_or units j 0) js + times k js
units-more units k js within = omega (arith, units-set units k (get_or units k 0 + 1) js within)

-- of the numbers from a on that pass, one that is below a is none
times-below : (p : ℕ → Bool) (a n k : ℕ) → k < a → times k (filter p (range_with_len a n)) ≡ 0
times-below p a zero k below = refl
times-below p a (suc n) k below =
    elim (cases_Bool (p a)) [
      | inl passes ↦
          rw passes (times-other k a (filter p (range_with_len (a + 1) n)) (λ same. omega arith)
          ∙ times-below p (a + 1) n k (omega arith))
      | inr fails ↦ rw fails (times-below p (a + 1) n k (omega arith))
    ]

-- and each of them stands there once if it passes
times-in : (p : ℕ → Bool) (a n k : ℕ) → a ≤ k → k < a + n
    → times k (filter p (range_with_len a n)) ≡ cond (p k) 1 0
times-in p a zero k from below = absurd (omega arith)
times-in p a (suc n) k from below =
    elim (cases_eq a k) [
      | inl same ↦
          let rest = times-below p (a + 1) n k (omega arith) in
          elim (cases_Bool (p a)) [
            | inl passes ↦
                let own = ap (λ (i : ℕ). times k (i ∷ filter p (range_with_len (a + 1) n))) same
                ∙ times-own k (filter p (range_with_len (a + 1) n)) in
                let here : p k ≡ true = ap p (sym same) ∙ passes in
                rw (passes, here) (omega (arith, own, rest))
            | inr fails ↦ let here : p k ≡ false = ap p (sym same) ∙ fails in rw (fails, here) rest
          ]
      | inr other ↦
          let rest = times-in p (a + 1) n k (omega (arith, other)) (omega arith) in
          elim (cases_Bool (p a)) [
            | inl passes ↦ rw passes (times-other k a (filter p (range_with_len (a + 1) n)) other ∙ rest)
            | inr fails ↦ rw fails rest
          ]
    ]

pub times-first : (p : ℕ → Bool) (n k : ℕ) → k < n → times k (filter p (range_with_len 0 n)) ≡ cond (p k) 1 0
times-first p n k below = times-in p 0 n k (omega arith) (omega arith)

-- where each arc that passes carries no more, all together don't
sums-from : (p : ℕ → Bool) (f g : ℕ → ℕ) (a n : ℕ) → ((k : ℕ) → a ≤ k → k < a + n → p k ≡ true → f k ≤ g k)
    → sum_by f (filter p (range_with_len a n)) ≤ sum_by g (filter p (range_with_len a n))
sums-from p f g a zero each = omega arith
sums-from p f g a (suc n) each =
    let rest = sums-from p f g (a + 1) n (λ k from below here. each k (omega arith) (omega arith) here) in
    let tail = filter p (range_with_len (a + 1) n) in
    elim (cases_Bool (p a)) [
      | inl passes ↦
          rw passes (omega (
            arith,
            rest,
            sum_by-cons f a tail,
            sum_by-cons g a tail,
            each a (omega arith) (omega arith) passes,
          ))
      | inr fails ↦ rw fails rest
    ]

pub sums-le : (p : ℕ → Bool) (f g : ℕ → ℕ) (n : ℕ) → ((k : ℕ) → k < n → p k ≡ true → f k ≤ g k)
    → sum_by f (filter p (range_with_len 0 n)) ≤ sum_by g (filter p (range_with_len 0 n))
sums-le p f g n each = sums-from p f g 0 n (λ k from below passes. each k (omega arith) passes)

-- the weight of a flow, once arc k has other units
pub weight-set : (f : ℕ → ℕ) (units : List ℕ) (k n : ℕ) → k < length units
    → weight_of_flow f (set units k n) + f k * get_or units k 0 ≡ weight_of_flow f units + f k * n
weight-set f [] k n within = absurd (omega arith)
weight-set f (m ∷ units) zero n within = omega arith
weight-set f (m ∷ units) (suc k) n within =
    let rest = weight-set (λ (j : ℕ). f (suc j)) units k n (omega arith) in
    omega (arith, rest)

-- no units weigh nothing
pub weight-none : (f : ℕ → ℕ) (n : ℕ) → weight_of_flow f (replicate n 0) ≡ 0
weight-none f zero = refl
weight-none f (suc n) = omega (arith, weight-none (λ (j : ℕ). f (suc j)) n)

-- no units of a list of arcs
pub units-none : (n : ℕ) (js : List ℕ) → sum_by (λ j. get_or (replicate n 0) j 0) js ≡ 0
units-none n [] = refl
units-none n (j ∷ js) =
    omega (arith, sum_by-cons (λ (i : ℕ). get_or (replicate n 0) i 0) j js, units-none n js, none-at n j)
  where
    none-at : (n j : ℕ) → ◌≡◌ {A = ℕ} (get_or (replicate n 0) j 0) 0
    none-at zero j = refl
    none-at (suc n) zero = refl
    none-at (suc n) (suc j) = none-at n j

-- arcs that weigh the same make flows that do
weight-agree : (f g : ℕ → ℕ) (units : List ℕ) → ((k : ℕ) → f k ≡ g k) → weight_of_flow f units ≡ weight_of_flow g units
weight-agree f g [] same = refl
weight-agree f g (n ∷ units) same =
    let first = ap (λ (x : ℕ). x * n) (same 0) in
    omega (arith, first, weight-agree (λ (j : ℕ). f (suc j)) (λ (j : ℕ). g (suc j)) units (λ j. same (suc j)))

weight-nothing : (units : List ℕ) → weight_of_flow (λ j. 0) units ≡ 0
weight-nothing [] = refl
weight-nothing (n ∷ units) = omega (arith, weight-nothing units)

-- where one arc alone weighs one, a flow weighs its units
pub weight-one : (units : List ℕ) (k : ℕ) → k < length units
    → weight_of_flow (λ j. cond (eqb j k) 1 0) units ≡ get_or units k 0
weight-one [] k within = absurd (omega arith)
weight-one (n ∷ units) zero within =
    let first = ap (λ (b : Bool). cond b 1 0 * n) (eq-eqb 0 0 refl) in
    let rest =
    weight-agree (λ (j : ℕ). cond (eqb (suc j) 0) 1 0) (λ (j : ℕ). 0) units
    (λ j. ap as_one (ne_eqb (suc j) 0 (λ same. omega arith))) in
    omega (arith, first, rest, weight-nothing units)
weight-one (n ∷ units) (suc k) within =
    let first = ap (λ (b : Bool). cond b 1 0 * n) (ne_eqb 0 (suc k) (λ same. omega arith)) in
    let rest =
    weight-agree (λ (j : ℕ). cond (eqb (suc j) (suc k)) 1 0) (λ (j : ℕ). cond (eqb j k) 1 0) units
    (λ j. elim (cases_eq j k) [
      | inl same ↦
          ap as_one (eq-eqb (suc j) (suc k) (ap suc same) ∙ sym (eq-eqb j k same))
      | inr other ↦
          ap as_one
          (ne_eqb (suc j) (suc k) (λ same. other (omega (arith, same))) ∙ sym (ne_eqb j k other))
    ]) in
    omega (arith, first, rest, weight-one units k (omega arith))
