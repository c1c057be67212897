-- What stands at a place once a spot was changed, or once two were added.
use Rattle.std.proofs.Common.{◌≡◌, ◌≢◌, ℕ, ◌+◌, ◌<◌, ◌≤◌, Bool, true, false, List, [], ◌∷◌, ◌++◌, length, append_assoc, sym, ap, ◌∙◌, arith, inl, inr, length-set, length-append, cond}
use Rattle.std.proofs.lemmas.Bool.{cases_eq, cases_lt}
use Rattle.std.proofs.lemmas.List.{get_or-set_same, get_or-set_other, get_or_append_left, get_or-append-add, get_or_past}
use Rattle.std.proofs.lemmas.List.Sums.{sum_by-append, sum_by-cons, sum_by-set}
use Rattle.vs_tree.specs.declared.spot.Spot.{Spot}
use Rattle.vs_types.specs.declared.layer_set.LayerSet.{LayerSet}
use Rattle.vs_types.specs.declared.numbers.TripNo.{TripNo}
use Rattle.vs_tree.specs.declared.spot.Spot.TheVariants.{Inner, Free}
use Rattle.vs_tree.specs.Cuts.{part_at, split_at, with_lower}
use Rattle.vs_prices.specs.Tree.{with_set}
use Rattle.vs_tree.specs.History.{Place, count_spots, is_inner, no_place, place_at, with_spot}

-- a leaf stands within the places
pub leaf_within : (places : List Place) (k : ℕ) → is_inner (place_at places k).spot ≡ false → k < length places
leaf_within places k leaf =
    elim (cases_lt k (length places)) [
      | inl within ↦ within
      | inr past ↦
          let out : place_at places k ≡ no_place = get_or_past places k no_place past in
          let inner : is_inner (place_at places k).spot ≡ true = ap (λ (q : Place). is_inner q.spot) out in
          absurd cc
    ]

module _ (places : List Place) (k : ℕ) (spot : Spot) where
  pub length-with_spot : length (with_spot places k spot) ≡ length places
  length-with_spot = length-set places k _

  -- the spot that was changed, which has its layers still
  pub with_spot-same : k < length places
      → place_at (with_spot places k spot) k ≡ record { spot = spot; sets = (place_at places k).sets }
  with_spot-same within = get_or-set_same places k _ no_place within

  -- and any other, which is as before
  pub with_spot-other : (j : ℕ) → j ≢ k → place_at (with_spot places k spot) j ≡ place_at places j
  with_spot-other j other = get_or-set_other places k j _ no_place other

  pub with_spot-sets : (j : ℕ) → (place_at (with_spot places k spot) j).sets ≡ (place_at places j).sets
  with_spot-sets j =
      elim (cases_eq j k) [
        | inl same ↦
            elim (cases_lt k (length places)) [
              | inl within ↦ rw same (ap (λ (q : Place). q.sets) (with_spot-same within))
              | inr past ↦
                  let new : place_at (with_spot places k spot) j ≡ no_place =
                  get_or_past (with_spot places k spot) j no_place (omega (arith, length-with_spot)) in
                  let old : place_at places j ≡ no_place = get_or_past places j no_place (omega arith) in
                  ap (λ (q : Place). q.sets) (new ∙ sym old)
            ]
        | inr other ↦ ap (λ (q : Place). q.sets) (with_spot-other j other)
      ]

  -- how many spots of a kind there are then
  pub count-with_spot : (kind : Spot → Bool) → k < length places
      → count_spots kind (with_spot places k spot) + cond (kind (place_at places k).spot) 1 0
      ≡ count_spots kind places + cond (kind spot) 1 0
  count-with_spot kind within = sum_by-set (λ (q : Place). cond (kind q.spot) 1 0) places k _ no_place within

module _ (places : List Place) (left right : Place) where
  abbrev grown : List Place
  grown = places ++ left ∷ right ∷ []

  pub length-grown : length grown ≡ length places + 2
  length-grown = length-append places (left ∷ right ∷ [])

  pub grown-before : (k : ℕ) → k < length places → place_at grown k ≡ place_at places k
  grown-before k within = get_or_append_left places (left ∷ right ∷ []) no_place k within

  pub grown-left : place_at grown (length places) ≡ left
  grown-left =
      let here : length places ≡ length places + 0 = omega arith in
      ap (place_at grown) here ∙ get_or-append-add places (left ∷ right ∷ []) 0 no_place

  pub grown-right : place_at grown (length places + 1) ≡ right
  grown-right = get_or-append-add places (left ∷ right ∷ []) 1 no_place

  pub grown-past : (k : ℕ) → length places + 2 ≤ k → place_at grown k ≡ no_place
  grown-past k past = get_or_past grown k no_place (omega (arith, length-grown))

  pub count-grown : (kind : Spot → Bool)
      → count_spots kind grown ≡ count_spots kind places + cond (kind left.spot) 1 0 + cond (kind right.spot) 1 0
  count-grown kind =
      let f : Place → ℕ = λ q. cond (kind q.spot) 1 0 in
      let both = sum_by-append f places (left ∷ right ∷ []) in
      let first = sum_by-cons f left (right ∷ []) in
      let second = sum_by-cons f right [] in
      omega (arith, both, first, second)

-- where a spot becomes an inner one, and first the lower and then the upper of its parts comes, it is split
pub split-steps : (places first second : List Place) (k : ℕ) (trip : TripNo) (left right : LayerSet) (table : ℕ)
    → k < length places → first ≡ with_lower places k trip left table
    → second ≡ first ++ part_at first k trip right table ∷ []
    → second ≡ split_at places k trip left right table
split-steps places first second k trip left right table within lower upper =
    let spot : Spot = Inner trip left (length places) (length places + 1) in
    let inner : List Place = with_spot places k spot in
    let on_left : Place = part_at places k trip left table in
    let on_right : Place = part_at places k trip right table in
    let same = length-with_spot places k spot in
    let sets_then : (place_at inner k).sets ≡ (place_at places k).sets = with_spot-sets places k spot k in
    let sets_next : (place_at first k).sets ≡ (place_at inner k).sets =
    ap (λ (x : List Place). (place_at x k).sets) lower
    ∙ ap (λ (q : Place). q.sets) (get_or_append_left inner (part_at inner k trip left table ∷ []) no_place k
    (omega (arith, same, within))) in
    let part : List LayerSet → LayerSet → Place = λ x layers. record
    { spot = Free table; sets = with_set x trip layers } in
    let is_left : part_at inner k trip left table ≡ on_left = ap (λ (x : List LayerSet). part x left) sets_then in
    let is_right : part_at first k trip right table ≡ on_right =
    ap (λ (x : List LayerSet). part x right) (sets_next ∙ sets_then) in
    upper ∙ ap (λ (q : Place). first ++ q ∷ []) is_right ∙ ap (λ (x : List Place). x ++ on_right ∷ []) lower
    ∙ append_assoc inner (part_at inner k trip left table ∷ []) (on_right ∷ [])
    ∙ ap (λ (q : Place). inner ++ q ∷ on_right ∷ []) is_left
