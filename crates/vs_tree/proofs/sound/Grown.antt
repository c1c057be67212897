-- What stands where once a leaf was split.
use Rattle.std.proofs.Common.{◌≡◌, ◌≢◌, ℕ, ◌+◌, ◌<◌, ◌≤◌, List, [], ◌∷◌, ◌++◌, length, sym, ap, ◌∙◌, arith, inl, inr, cond, Bool}
use Rattle.std.proofs.lemmas.Bool.{cases_eq, cases_lt}
use Rattle.vs_tree.specs.declared.spot.Spot.{Spot}
use Rattle.vs_tree.specs.History.{Place, count_spots, no_place, place_at, with_spot}
use Rattle.vs_tree.proofs.Spots.{count-grown, count-with_spot, grown-before, grown-left, grown-past, grown-right, length-grown, length-with_spot, with_spot-other, with_spot-same}

-- where a spot stands among n places and two new ones, one of which was split
pub data Where (n k j : ℕ) : Type 0 where
  split : j ≡ k → Where n k j
  other : j ≢ k → j < n → Where n k j
  lower : j ≡ n → Where n k j
  upper : j ≡ n + 1 → Where n k j
  nowhere : n + 2 ≤ j → Where n k j

pub where_is : (n k j : ℕ) → Where n k j
where_is n k j =
    elim (cases_eq j k) [
      | inl same ↦ split same
      | inr apart ↦
          elim (cases_lt j n) [
            | inl within ↦ other apart within
            | inr past ↦
                elim (cases_eq j n) [
                  | inl first ↦ lower first
                  | inr after ↦
                      elim (cases_eq j (n + 1)) [
                        | inl second ↦ upper second
                        | inr beyond ↦ nowhere (omega (arith, past, after, beyond))
                      ]
                ]
          ]
    ]

module _ (places : List Place) (k : ℕ) (spot : Spot) (left right : Place) (within : k < length places) where
  abbrev relabelled : List Place
  relabelled = with_spot places k spot

  abbrev grown : List Place
  grown = relabelled ++ left ∷ right ∷ []

  size : length relabelled ≡ length places
  size = length-with_spot places k spot

  pub length-split : length grown ≡ length places + 2
  length-split = length-grown relabelled left right ∙ ap (λ (m : ℕ). m + 2) size

  pub split-here : place_at grown k ≡ record { spot = spot; sets = (place_at places k).sets }
  split-here =
      grown-before relabelled left right k (omega (arith, size, within)) ∙ with_spot-same places k spot within

  pub split-other : (j : ℕ) → j ≢ k → j < length places → place_at grown j ≡ place_at places j
  split-other j apart inside =
      grown-before relabelled left right j (omega (arith, size, inside)) ∙ with_spot-other places k spot j apart

  pub split-lower : (j : ℕ) → j ≡ length places → place_at grown j ≡ left
  split-lower j is = ap (place_at grown) (is ∙ sym size) ∙ grown-left relabelled left right

  pub split-upper : (j : ℕ) → j ≡ length places + 1 → place_at grown j ≡ right
  split-upper j is =
      ap (place_at grown) (is ∙ ap (λ (m : ℕ). m + 1) (sym size)) ∙ grown-right relabelled left right

  pub split-nowhere : (j : ℕ) → length places + 2 ≤ j → place_at grown j ≡ no_place
  split-nowhere j past = grown-past relabelled left right j (omega (arith, size, past))

  -- how many there are of a kind
  pub count-split : (kind : Spot → Bool)
      → count_spots kind grown + cond (kind (place_at places k).spot) 1 0
      ≡ count_spots kind places + cond (kind spot) 1 0 + cond (kind left.spot) 1 0 + cond (kind right.spot) 1 0
  count-split kind =
      let one = count-with_spot places k spot kind within in
      let two = count-grown relabelled left right kind in
      omega (arith, one, two)
