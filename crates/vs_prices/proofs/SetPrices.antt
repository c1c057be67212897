-- What a trip pays in the layers of a set.
use Rattle.std.proofs.Common.{◌≡◌, ℕ, ◌+◌, ◌-◌, ◌<◌, ◌≤◌, Bool, false, eqb, List, [], ◌∷◌, ◌++◌, map, sym, ap, ◌∙◌, arith, ℤ}
use Rattle.std.specs.Int.{bit_at}
use Rattle.std.specs.List.{range_with_len, filter}
use Rattle.std.proofs.lemmas.Bool.{false_from_ne_true, eqb-true, eq-eqb}
use Rattle.vs_types.specs.LayerSet.{Has, members}
use Rattle.vs_types.specs.declared.layer_set.LayerSet.{LayerSet}
use Rattle.vs_types.proofs.CallerLemmas.{layer_numbers-range}
use Rattle.vs_instance.specs.Problem.{Problem}
use Rattle.vs_prices.specs.declared.table.Table.{Table}
use Rattle.vs_prices.specs.Worth.{trip_price}
use Rattle.vs_prices.proofs.RunningTotals.{prices_more_yes, prices_more_no, filter_range_past}

abbrev stands : LayerSet → ℕ → Bool
stands set k = eqb (bit_at set.0 k) 1

-- what trip i pays in each of the layers below n that stand in the set
abbrev pub prices_below : Problem → Table → ℕ → LayerSet → ℕ → List ℤ
prices_below p table i set n = map (trip_price p table i) (filter (λ k. eqb (bit_at set.0 k) 1) (range_with_len 0 n))

module _ (p : Problem) (table : Table) (i : ℕ) (set : LayerSet) where
  pub prices_below-yes : (n : ℕ) → Has set n
      → prices_below p table i set (n + 1) ≡ prices_below p table i set n ++ trip_price p table i n ∷ []
  prices_below-yes n has = prices_more_yes (trip_price p table i) (stands set) n (eq-eqb _ _ has)

  pub prices_below-no : (n : ℕ) → (Has set n → ⊥) → prices_below p table i set (n + 1) ≡ prices_below p table i set n
  prices_below-no n none =
      prices_more_no (trip_price p table i) (stands set) n
      (false_from_ne_true (stands set n) (λ e. none (eqb-true (bit_at set.0 n) 1 e)))

  -- where no layer from n on stands in the set, these are those of all its members
  pub prices_below-all : (n : ℕ) → n ≤ 16 → ((l : ℕ) → Has set l → l < n)
      → prices_below p table i set n ≡ map (trip_price p table i) (members set)
  prices_below-all n few inside =
      let all : 16 ≡ n + (16 - n) = omega arith in
      let past : (k : ℕ) → n ≤ k → stands set k ≡ false = λ k le.
      false_from_ne_true (stands set k) (λ h. let below =
      inside k (eqb-true (bit_at set.0 k) 1 h) in absurd (omega arith)) in
      ap (map (trip_price p table i))
      (sym (filter_range_past (stands set) n (16 - n) past)
      ∙ ap (λ (m : ℕ). filter (stands set) (range_with_len 0 m)) (sym all)
      ∙ ap (filter (stands set)) (sym layer_numbers-range))
