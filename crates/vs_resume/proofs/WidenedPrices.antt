-- Prices widened place by place.
use Rattle.std.proofs.Common.{◌≡◌, ◌≢◌, ℕ, ◌+◌, ◌*◌, ◌<◌, ◌≤◌, inl, inr, List, length, set, sym, ◌∙◌, subst, arith, ℤ, pos}
use Rattle.std.proofs.lemmas.Bool.{cases_eq, cases_lt}
use Rattle.std.proofs.lemmas.List.{get_or-set_other, get_or-set_same}
use Rattle.vs_types.proofs.CallerLemmas.{row_inside}
use Rattle.vs_types.specs.declared.layer_set.LayerSet.{LayerSet}
use Rattle.vs_instance.specs.HoldingTable.{price_of}
use Rattle.vs_instance.specs.Problem.{Problem}
use Rattle.vs_resume.specs.Widened.{IsLayerWidened, IsSettled, place_of}

-- trips of different layers have different places
apart : (n k l j i : ℕ) → k ≢ l → j < n → i < n → k * n + j ≢ l * n + i
apart n k l j i other below within =
    elim (cases_lt k l) [
      | inl lower ↦ λ same. omega (arith, row_inside n k l lower, same)
      | inr upper ↦ λ same. omega (arith, row_inside n l k (omega arith), same)
    ]

-- trip i of layer l gets a price
module _ (p : Problem) (sets : List LayerSet) (l i : ℕ) (price x : ℤ) (first now : List ℤ) where
  abbrev next : List ℤ
  next = set now (place_of p l i) x

  abbrev Settled : List ℤ → ℕ → Type 0
  Settled prices j = IsSettled p sets l j price (price_of first (place_of p l j)) (price_of prices (place_of p l j))

  pub more_settled : place_of p l i < length now → ((j : ℕ) → j < i → Settled now j)
      → IsSettled p sets l i price (price_of first (place_of p l i)) x → (j : ℕ) → j < i + 1 → Settled next j
  more_settled inside before here j below =
      elim (cases_eq j i) [
        | inl same ↦
            let is : price_of next (place_of p l i) ≡ x = get_or-set_same now (place_of p l i) x (pos 0) inside in
            subst (λ (k : ℕ). Settled next k) (sym same)
            (subst (λ (y : ℤ). IsSettled p sets l i price (price_of first (place_of p l i)) y) (sym is) here)
        | inr other ↦
            let stays : price_of next (place_of p l j) ≡ price_of now (place_of p l j) =
            get_or-set_other now (place_of p l i) (place_of p l j) x (pos 0) (λ same. other (omega (arith, same))) in
            subst (λ (y : ℤ). IsSettled p sets l j price (price_of first (place_of p l j)) y) (sym stays)
            (before j (omega arith))
      ]

  pub later_kept : ((j : ℕ) → i ≤ j → price_of now (place_of p l j) ≡ price_of first (place_of p l j))
      → (j : ℕ) → i + 1 ≤ j → price_of next (place_of p l j) ≡ price_of first (place_of p l j)
  later_kept after j later =
      get_or-set_other now (place_of p l i) (place_of p l j) x (pos 0) (λ same. omega (arith, same))
      ∙ after j (omega arith)

  pub others_kept : i < length p.trips
      → ((k j : ℕ) → k ≢ l → j < length p.trips → price_of now (place_of p k j) ≡ price_of first (place_of p k j))
      → (k j : ℕ) → k ≢ l → j < length p.trips → price_of next (place_of p k j) ≡ price_of first (place_of p k j)
  others_kept within others k j other below =
      get_or-set_other now (place_of p l i) (place_of p k j) x (pos 0)
      (apart (length p.trips) k l j i other below within)
      ∙ others k j other below

-- one more layer is widened
module _ (p : Problem) (sets : List LayerSet) (l : ℕ) (price : ℤ) (first now new : List ℤ)
    (widened : IsLayerWidened p sets l price now new) where
  abbrev SettledIn : List ℤ → ℕ → ℕ → Type 0
  SettledIn prices k i = IsSettled p sets k i price (price_of first (place_of p k i)) (price_of prices (place_of p k i))

  abbrev Kept : List ℤ → ℕ → ℕ → Type 0
  Kept prices k i = price_of prices (place_of p k i) ≡ price_of first (place_of p k i)

  pub more_layers : ((k i : ℕ) → k < l → i < length p.trips → SettledIn now k i)
      → ((k i : ℕ) → l ≤ k → i < length p.trips → Kept now k i)
      → (k i : ℕ) → k < l + 1 → i < length p.trips → SettledIn new k i
  more_layers before after k i below within =
      elim (cases_eq k l) [
        | inl same ↦
            let here = subst (λ (x : ℤ). IsSettled p sets l i price x (price_of new (place_of p l i)))
            (after l i (omega arith) within) (widened.layer i within) in
            subst (λ (j : ℕ). SettledIn new j i) (sym same) here
        | inr other ↦
            subst (λ (x : ℤ). IsSettled p sets k i price (price_of first (place_of p k i)) x)
            (sym (widened.others k i other within)) (before k i (omega arith) within)
      ]

  pub layers_kept : ((k i : ℕ) → l ≤ k → i < length p.trips → Kept now k i)
      → (k i : ℕ) → l + 1 ≤ k → i < length p.trips → Kept new k i
  layers_kept after k i later within =
      widened.others k i (λ same. omega (arith, same)) within ∙ after k i (omega arith) within
