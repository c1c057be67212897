-- Parts of a list, by where each ends.
use Rattle.std.proofs.Common.{◌≡◌, ℕ, zero, suc, ◌<◌, ◌≤◌, List, [], ◌∷◌, ◌++◌, length, get_or, take, drop, refl, sym, ap, ◌∙◌, inl, inr, arith}
use Rattle.std.specs.Prelude.{All, slice_range}
use Rattle.std.specs.List.Sorted.{IsNonDecreasing}
use Rattle.std.proofs.lemmas.List.{take-append-le, get_or_push, get_or_append_left, length_push}
use Rattle.std.proofs.lemmas.Slice.{between_is, between_to_end}
use Rattle.std.proofs.lemmas.List.Elements.{All-head, All-tail}
use Rattle.std.proofs.lemmas.Bool.{cases_lt}
use Rattle.vs_reader.specs.RowEnds.{parts_from, end_of}

-- there are as many parts as ends
pub length-parts_from : {X : Type 0} (xs : List X) (start : ℕ) (ends : List ℕ)
    → length (parts_from xs start ends) ≡ length ends
length-parts_from xs start [] = refl
length-parts_from xs start (end ∷ ends) = ap suc (length-parts_from xs end ends)

-- part k is what stands between the end before it and its own
pub get_or-parts_from : {X : Type 0} (xs : List X) (start : ℕ) (ends : List ℕ) (k : ℕ) (d : List X) (e : ℕ)
    → k < length ends
    → get_or (parts_from xs start ends) k d ≡ slice_range xs (end_of start (take k ends)) (get_or ends k e)
get_or-parts_from xs start [] k d e within = absurd (omega arith)
get_or-parts_from xs start (end ∷ ends) zero d e within = refl
get_or-parts_from xs start (end ∷ ends) (suc k) d e within = get_or-parts_from xs end ends k d e (omega arith)

-- one part more
pub parts_from-push : {X : Type 0} (xs : List X) (start : ℕ) (ends : List ℕ) (end : ℕ)
    → parts_from xs start (ends ++ end ∷ []) ≡ parts_from xs start ends ++ slice_range xs (end_of start ends) end ∷ []
parts_from-push xs start [] end = refl
parts_from-push xs start (e ∷ ends) end = ap (λ parts. slice_range xs start e ∷ parts) (parts_from-push xs e ends end)

pub end_of-push : (start : ℕ) (ends : List ℕ) (end : ℕ) → end_of start (ends ++ end ∷ []) ≡ end
end_of-push start [] end = refl
end_of-push start (e ∷ ends) end = end_of-push e ends end

-- where the parts before part k + 1 end
pub end_of-take : (start : ℕ) (ends : List ℕ) (k d : ℕ) → k < length ends
    → end_of start (take (suc k) ends) ≡ get_or ends k d
end_of-take start [] k d within = absurd (omega arith)
end_of-take start (end ∷ ends) zero d within = refl
end_of-take start (end ∷ ends) (suc k) d within = end_of-take end ends k d (omega arith)

pub end_of-within : (start : ℕ) (ends : List ℕ) (n : ℕ) → start ≤ n → All (λ end. end ≤ n) ends → end_of start ends ≤ n
end_of-within start [] n low each = low
end_of-within start (end ∷ ends) n low each =
    end_of-within end ends n (All-head (λ e. e ≤ n) end ends each) (All-tail (λ e. e ≤ n) end ends each)

range-append : {X : Type 0} (xs ys : List X) (i j : ℕ) → j ≤ length xs → slice_range (xs ++ ys) i j ≡ slice_range xs i j
range-append xs ys i j within =
    between_is (xs ++ ys) i j ∙ ap (drop i) (take-append-le j xs ys within) ∙ sym (between_is xs i j)

-- what is added behind the last end changes no part
pub parts_from-append : {X : Type 0} (xs ys : List X) (start : ℕ) (ends : List ℕ) → All (λ end. end ≤ length xs) ends
    → parts_from (xs ++ ys) start ends ≡ parts_from xs start ends
parts_from-append xs ys start [] each = refl
parts_from-append xs ys start (end ∷ ends) each =
    let first = range-append xs ys start end (All-head (λ e. e ≤ length xs) end ends each) in
    let rest = parts_from-append xs ys end ends (All-tail (λ e. e ≤ length xs) end ends each) in
    cc

-- a part that goes to the end
pub range_to_end : {X : Type 0} (xs : List X) (i : ℕ) → slice_range xs i (length xs) ≡ drop i xs
range_to_end xs i = between_to_end xs i (length xs) (omega arith)

-- parts come in order
pub starts_before : (ends : List ℕ) (k d : ℕ) → IsNonDecreasing ends → k < length ends
    → end_of 0 (take k ends) ≤ get_or ends k d
starts_before ends zero d order within = omega arith
starts_before ends (suc k) d order within =
    omega (arith, end_of-take 0 ends k d (omega arith), order k (suc k) d (omega arith) within)

-- one end more, which is none of those before
pub in_order-push : (ends : List ℕ) (end : ℕ) → IsNonDecreasing ends → All (λ e. e ≤ end) ends
    → IsNonDecreasing (ends ++ end ∷ [])
in_order-push ends end order each i j d le within =
    let count = length_push ends end in
    elim (cases_lt j (length ends)) [
      | inl below ↦
          omega (
            arith,
            get_or_append_left ends (end ∷ []) d i (omega arith),
            get_or_append_left ends (end ∷ []) d j below,
            order i j d le below,
          )
      | inr last ↦
          elim (cases_lt i (length ends)) [
            | inl i_below ↦
                omega (
                  arith,
                  get_or_append_left ends (end ∷ []) d i i_below,
                  get_or_push ends end d j (omega arith),
                  each i d i_below,
                )
            | inr i_last ↦ omega (arith, get_or_push ends end d i (omega arith), get_or_push ends end d j (omega arith))
          ]
    ]
