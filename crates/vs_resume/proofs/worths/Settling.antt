-- Leaves settled one by one.
use Rattle.std.proofs.Common.{◌≡◌, ℕ, ◌+◌, ◌<◌, List, [], ◌∷◌, ◌++◌, length, get_or, set, take, drop, sym, ap, ◌∙◌, subst, arith}
use Rattle.std.proofs.lemmas.List.{drop-set-lt, get_or-drop, take_more, take_more_set}
use Rattle.std.proofs.lemmas.Grind.{drop_more_same}
use Rattle.vs_instance.specs.Problem.{Problem}
use Rattle.vs_prices.specs.declared.table.Table.{Table}
use Rattle.vs_resume.specs.Cases.{AreSettled, IsSettled}
use Rattle.vs_resume.specs.declared.cases.Case.{Case}
use Rattle.vs_resume.proofs.trees.Zips.{zip-append}

-- where the rest of two lists is the same, so is its first item
pub same_here : {A : Type 0} (xs ys : List A) (i : ℕ) (d : A) → drop i ys ≡ drop i xs → get_or ys i d ≡ get_or xs i d
same_here {A = A} xs ys i d same =
    let here : i + 0 ≡ i = omega arith in
    ap (λ (k : ℕ). get_or ys k d) (sym here) ∙ sym (get_or-drop i ys 0 d)
    ∙ ap (λ (zs : List A). get_or zs 0 d) same ∙ get_or-drop i xs 0 d ∙ ap (λ (k : ℕ). get_or xs k d) here

module _ (p : Problem) (old : Table) (number base : ℕ) (xs ys : List Case) (i : ℕ) (inside : i < length xs)
    (also : i < length ys) where
  -- one more leaf is settled
  pub settled_more : (x y : Case) → x ≡ get_or xs i x → AreSettled p old number base (take i xs) (take i ys)
      → IsSettled p old number base x y
      → AreSettled p old number base (take (i + 1) xs) (take (i + 1) (set ys i y))
  settled_more x y is before settled =
      let first : take i xs ++ x ∷ [] ≡ take (i + 1) xs =
      ap (λ (z : Case). take i xs ++ z ∷ []) is ∙ sym (take_more xs i x inside) in
      subst (λ (zs : List Case). AreSettled p old number base zs (take (i + 1) (set ys i y))) first
      (subst (AreSettled p old number base (take i xs ++ x ∷ [])) (sym (take_more_set ys i y also))
      (zip-append (IsSettled p old number base) (take i xs) (x ∷ []) (take i ys) (y ∷ []) before (settled, tt)))

  -- and the others stay
  pub others_stay : (y : Case) → drop i ys ≡ drop i xs → drop (i + 1) (set ys i y) ≡ drop (i + 1) xs
  others_stay y same =
      let behind : i < i + 1 = omega arith in
      drop-set-lt (i + 1) ys i y behind ∙ drop_more_same ys xs i same
