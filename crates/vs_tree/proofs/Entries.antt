-- The numbers that a search is written out as tell which search it is.
use Rattle.std.proofs.Common.{◌≡◌, ℕ, List, [], ◌∷◌, ◌++◌, refl, sym, ap, ◌∙◌, arith, append_assoc, append-nil}
use base.Stored.{Gv, gnil, gnum, gcons}
use Rattle.vs_tree.specs.Codes.{coded_opening, coded_step}
use Rattle.vs_tree.specs.Entries.{EntriesDiffer, entry_of, numbers_of, opening_entry}
use Rattle.vs_tree.specs.History.{FullStep, Opening}

abbrev first_of : List ℕ → ℕ
first_of [] = 0
first_of (x ∷ xs) = x

abbrev rest_of : List ℕ → List ℕ
rest_of [] = []
rest_of (x ∷ xs) = xs

-- where two lists of numbers begin with stored values, these are the same, and so is what follows
numbers_apart : (a b : Gv) (xs ys : List ℕ) → numbers_of a ++ xs ≡ numbers_of b ++ ys → (a ≡ b) × (xs ≡ ys)
numbers_apart gnil gnil xs ys same = (refl, ap rest_of same)
numbers_apart gnil (gnum n) xs ys same = absurd (let e : 0 ≡ 1 = ap first_of same in omega arith)
numbers_apart gnil (gcons c d) xs ys same = absurd (let e : 0 ≡ 2 = ap first_of same in omega arith)
numbers_apart (gnum m) gnil xs ys same = absurd (let e : 1 ≡ 0 = ap first_of same in omega arith)
numbers_apart (gnum m) (gnum n) xs ys same =
    (ap gnum (ap (λ l. first_of (rest_of l)) same), ap (λ l. rest_of (rest_of l)) same)
numbers_apart (gnum m) (gcons c d) xs ys same = absurd (let e : 1 ≡ 2 = ap first_of same in omega arith)
numbers_apart (gcons a b) gnil xs ys same = absurd (let e : 2 ≡ 0 = ap first_of same in omega arith)
numbers_apart (gcons a b) (gnum n) xs ys same = absurd (let e : 2 ≡ 1 = ap first_of same in omega arith)
numbers_apart (gcons a b) (gcons c d) xs ys same =
    let inside : numbers_of a ++ (numbers_of b ++ xs) ≡ numbers_of c ++ (numbers_of d ++ ys) =
    sym (append_assoc (numbers_of a) (numbers_of b) xs)
    ∙ (ap rest_of same ∙ append_assoc (numbers_of c) (numbers_of d) ys) in
    let heads = numbers_apart a c (numbers_of b ++ xs) (numbers_of d ++ ys) inside in
    let tails = numbers_apart b d xs ys heads.1 in
    ((λ i. gcons (heads.0 i) (tails.0 i)), tails.1)

same_value : (a b : Gv) → numbers_of a ≡ numbers_of b → a ≡ b
same_value a b same =
    (numbers_apart a b [] [] (append-nil (numbers_of a) ∙ (same ∙ sym (append-nil (numbers_of b))))).0

pub same_opening : (a b : Opening) → opening_entry a ≡ opening_entry b → a ≡ b
same_opening a b same = coded_opening.inj a b (same_value (coded_opening.code a) (coded_opening.code b) same)

pub same_step : (a b : FullStep) → entry_of a ≡ entry_of b → a ≡ b
same_step a b same =
    coded_step.inj a b (same_value (coded_step.code a) (coded_step.code b) (ap rest_of same))

pub entries_differ : EntriesDiffer
entries_differ = (same_opening, same_step)
