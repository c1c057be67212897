-- What a search reports is the least of what its leaves are worth and of the cheapest plan's cost.
use Rattle.std.proofs.Common.{◌≡◌, ◌⊎◌, ◌↔◌, ℕ, ◌+◌, ◌<◌, true, false, arith, List, [], ◌∷◌, ◌++◌, length, refl, sym, ap, ◌∙◌, subst, inl, inr, Option, ℤ}
use Rattle.std.specs.Prelude.{Contains}
use Rattle.std.proofs.lemmas.List.{length_push}
use Rattle.std.proofs.lemmas.List.Elements.{All-contains_itself, All-get_or, Contains-append_left, Contains-push, Contains-push_cases, at_from_Contains}
use Rattle.std.proofs.lemmas.List.Kept.{AllPairs-from_increasing}
use Rattle.std.proofs.lemmas.List.Quantifiers.{all_pairs_push}
use Rattle.vs_prices.specs.Bounds.{IsBelow, IsNoLess}
use Rattle.vs_prices.specs.declared.bound.Bound.{Bound}
use Rattle.vs_prices.proofs.CallerLemmas.{no_less-trans}
use Rattle.vs_tree.specs.History.{Opening, Place, State, IsLeafWorth, is_inner, known, place_at, prices_at, sets_at, spot_at, state_of}
use Rattle.vs_tree.specs.Report.{AreThose, HoldsOfSoMany, IsBelowAt, IsLeastOf, IsLesser, IsOpenCount, IsOpenLeaf, LeavesRoom, bound_of}
use Rattle.vs_tree.specs.Search.{IsSearch, Parts, worth_at}
use Rattle.std.proofs.lemmas.Bool.{cases_lt}
use Rattle.vs_types.specs.declared.layer_set.LayerSet.{LayerSet}
use Rattle.vs_types.specs.declared.numbers.TripNo.{TripNo}
use Rattle.vs_tree.specs.declared.spot.Spot.{Spot}
use Rattle.vs_tree.specs.declared.spot.Spot.TheVariants.{Inner, Free, Held, Closed}
use Rattle.vs_tree.proofs.LawfulPrices.{one_worth}
use Rattle.vs_tree.proofs.search.Facts.{leaf_is, spot-is}

pub least-is : (o : Opening) (a : Parts) (is : IsSearch o a) (cost : Option ℤ) (least : Bound)
    → cost ≡ known (state_of o a.log.steps)
    → IsLeastOf a.places.places a.worths cost (length a.places.places) least
    → IsLesser o.problem (state_of o a.log.steps) least
least-is o a is cost least knows of =
    let s : State = state_of o a.log.steps in
    record {
      leaves = λ k worth leaf is_worth.
          let below = leaf_is o a is k leaf in
          let same : worth_at a.worths k ≡ worth =
          one_worth o.problem (sets_at s k) (prices_at s k) (worth_at a.worths k) worth (is.parts.worths k leaf)
          is_worth in
          subst (λ (x : Bound). IsNoLess x least) same
          (of.leaves k below (ap is_inner (sym (spot-is o a is k)) ∙ leaf));
      cost = subst (λ (x : Option ℤ). IsNoLess (bound_of x) least) knows of.cost;
      reached = elim of.reached [
        | inl known_is ↦ inl (known_is ∙ ap bound_of knows)
        | inr found ↦
            let leaf : is_inner (spot_at s found.0) ≡ false = ap is_inner (spot-is o a is found.0) ∙ found.2 in
            inr (record {
              leaf = found.0;
              is_leaf = leaf;
              worth = subst (λ (x : Bound). IsLeafWorth o.problem s found.0 x) found.3 (is.parts.worths found.0 leaf);
            })
      ];
    }

pub not-inner : (spot : Spot) → ((trip : TripNo) (left : LayerSet) (lower upper : ℕ) → spot ≡ Inner trip left
    lower upper → ⊥)
    → is_inner spot ≡ false
not-inner (Inner trip left lower upper) none = absurd (none trip left lower upper refl)
not-inner (Free table) none = refl
not-inner (Held worker table) none = refl
not-inner (Closed table) none = refl

module _ (places : List Place) (worths : List Bound) (cost : Option ℤ) (k : ℕ) (least : Bound)
    (of : IsLeastOf places worths cost k least) where
  -- a spot that isn't a leaf changes nothing
  pub least-skip : is_inner (place_at places k).spot ≡ true → IsLeastOf places worths cost (k + 1) least
  least-skip inner = record {
    leaves = λ j below leaf. elim (cases_lt j k) [
      | inl before ↦ of.leaves j before leaf
      | inr past ↦
          let here : j ≡ k = omega arith in
          let at : is_inner (place_at places k).spot ≡ false =
          ap (λ (i : ℕ). is_inner (place_at places i).spot) (sym here) ∙ leaf in
          absurd cc
    ];
    cost = of.cost;
    reached = elim of.reached [
      | inl known_is ↦ inl known_is
      | inr found ↦ inr (found.0, omega (arith, found.1), found.2, found.3)
    ];
  }

  -- and of a leaf the lesser counts
  pub least-more : (worth lesser : Bound) → is_inner (place_at places k).spot ≡ false → worth_at worths k ≡ worth
      → (lesser ≡ least) ⊎ (lesser ≡ worth) → IsNoLess least lesser → IsNoLess worth lesser
      → IsLeastOf places worths cost (k + 1) lesser
  least-more worth lesser leaf is choice below_least below_worth = record {
    leaves = λ j below j_leaf. elim (cases_lt j k) [
      | inl before ↦ no_less-trans (worth_at worths j) least lesser (of.leaves j before j_leaf) below_least
      | inr past ↦
          let here : k ≡ j = omega arith in
          subst (λ (i : ℕ). IsNoLess (worth_at worths i) lesser) here
          (subst (λ (x : Bound). IsNoLess x lesser) (sym is) below_worth)
    ];
    cost = no_less-trans (bound_of cost) least lesser of.cost below_least;
    reached = elim choice [
      | inl old ↦
          elim of.reached [
            | inl known_is ↦ inl (old ∙ known_is)
            | inr found ↦ inr (found.0, omega (arith, found.1), found.2, found.3 ∙ sym old)
          ]
      | inr new ↦ inr (k, omega arith, leaf, is ∙ sym new)
    ];
  }

-- a fact that holds where another does holds of as many numbers
pub as_many : (P Q : ℕ → Type 0) (count : ℕ) → ((k : ℕ) → P k → Q k) → ((k : ℕ) → Q k → P k) → HoldsOfSoMany P count
    → HoldsOfSoMany Q count
as_many P Q count to from many = record {
  numbers = many.numbers;
  those = record {
    rising = many.those.rising;
    each = λ k among. to k (many.those.each k among);
    all = λ k holds. many.those.all k (from k holds);
  };
  counted = many.counted;
}

-- a fact that holds of no number
pub of_none : (P : ℕ → Type 0) → ((k : ℕ) → ¬ (P k)) → HoldsOfSoMany P 0
of_none P none = record {
  numbers = [];
  those = record {
    rising = AllPairs-from_increasing [] (λ k few. absurd (omega (arith, few)));
    each = λ k among. let at = at_from_Contains [] k among in let few = at.1 in absurd (omega (arith, few));
    all = λ k holds. absurd (none k holds);
  };
  counted = refl;
}

-- a fact that holds of one number more, which is above the others
pub of_one_more : (P Q : ℕ → Type 0) (top count : ℕ) → ((k : ℕ) → P k → k < top) → ((k : ℕ) → P k → Q k) → Q top
    → ((k : ℕ) → Q k → (P k) ⊎ (k ≡ top)) → HoldsOfSoMany P count → HoldsOfSoMany Q (count + 1)
of_one_more P Q top count under to here from many =
    let numbers = many.numbers in
    record {
      numbers = numbers ++ top ∷ [];
      those = record {
        rising = all_pairs_push (λ j k. j < k) numbers top many.those.rising
            (λ k d within. under _ (many.those.each _
            (All-get_or (Contains numbers) numbers k d within (All-contains_itself numbers))));
        each = λ k among. elim (Contains-push_cases numbers top k among) [
          | inl old ↦ to k (many.those.each k old)
          | inr is ↦ subst Q is here
        ];
        all = λ k holds. elim (from k holds) [
          | inl old ↦ Contains-append_left numbers (top ∷ []) k (many.those.all k old)
          | inr is ↦ subst (Contains (numbers ++ top ∷ [])) (sym is) (Contains-push numbers top)
        ];
      };
      counted = ap (λ (n : ℕ). n + 1) many.counted ∙ sym (length_push numbers top);
    }

-- no place is open among none
pub no_place_open : (places : List Place) (worths : List Bound) (cost : Option ℤ) → IsOpenCount places worths cost 0 0
no_place_open places worths cost = record {
  few = omega arith;
  some = λ some. absurd (omega (arith, some));
  none = λ none among. let before = among.before in omega (arith, before);
  counted = of_none (IsBelowAt places worths cost 0) (λ k at. let before = at.before in omega (arith, before));
}

-- a place that is one of the first so many, or of one more
pub one_place_more : (places : List Place) (worths : List Bound) (cost : Option ℤ) (k j : ℕ)
    → IsBelowAt places worths cost k j → IsBelowAt places worths cost (k + 1) j
one_place_more places worths cost k j at =
    let before = at.before in
    record { before = omega (arith, before); is_leaf = at.is_leaf; below = at.below }

pub one_place_fewer : (places : List Place) (worths : List Bound) (cost : Option ℤ) (k j : ℕ)
    → IsBelowAt places worths cost (k + 1) j → (IsBelowAt places worths cost k j) ⊎ (j ≡ k)
one_place_fewer places worths cost k j at = elim (cases_lt j k) [
  | inl before ↦ inl (record { before = before; is_leaf = at.is_leaf; below = at.below })
  | inr past ↦ let last = at.before in inr (omega (arith, past, last))
]

module _ (places : List Place) (worths : List Bound) (cost : Option ℤ) (k found : ℕ)
    (of : IsOpenCount places worths cost k found) where
  -- one more leaf that is open
  pub one_open : is_inner (place_at places k).spot ≡ false → IsBelow (worth_at worths k) cost
      → IsOpenCount places worths cost (k + 1) (found + 1)
  one_open leaf below = record {
    few = let few = of.few in omega (arith, few);
    some = λ some. record { place = k; before = omega arith; is_leaf = leaf; below = below };
    none = λ none. absurd (omega (arith, none));
    counted = of_one_more (IsBelowAt places worths cost k) (IsBelowAt places worths cost (k + 1)) k found
        (λ j at. at.before) (one_place_more places worths cost k)
        (record { before = omega arith; is_leaf = leaf; below = below }) (one_place_fewer places worths cost k)
        of.counted;
  }

  -- one more place that isn't
  pub one_shut : (is_inner (place_at places k).spot ≡ false → ¬ (IsBelow (worth_at worths k) cost))
      → IsOpenCount places worths cost (k + 1) found
  one_shut shut = record {
    few = let few = of.few in omega (arith, few);
    some = λ some.
        let among = of.some some in
        let before = among.before in
        record { place = among.place; before = omega (arith, before); is_leaf = among.is_leaf; below = among.below };
    none = λ none among. elim (cases_lt among.place k) [
      | inl before ↦
          of.none none (record {
            place = among.place;
            before = before;
            is_leaf = among.is_leaf;
            below = among.below;
          })
      | inr past ↦
          let last = among.before in
          let here : among.place ≡ k = omega (arith, past, last) in
          shut (ap (λ (i : ℕ). is_inner (place_at places i).spot) (sym here) ∙ among.is_leaf)
          (subst (λ (i : ℕ). IsBelow (worth_at worths i) cost) here among.below)
    ];
    counted = as_many (IsBelowAt places worths cost k) (IsBelowAt places worths cost (k + 1)) found
        (one_place_more places worths cost k)
        (λ j at. elim (one_place_fewer places worths cost k j at) [
          | inl before ↦ before
          | inr here ↦
              absurd (shut (ap (λ (i : ℕ). is_inner (place_at places i).spot) (sym here) ∙ at.is_leaf)
              (subst (λ (i : ℕ). IsBelow (worth_at worths i) cost) here at.below))
        ]) of.counted;
  }

module _ (o : Opening) (a : Parts) (is : IsSearch o a) (cost : Option ℤ) (found : ℕ)
    (knows : cost ≡ known (state_of o a.log.steps))
    (of : IsOpenCount a.places.places a.worths cost (length a.places.places) found) where
  abbrev now : State
  now = state_of o a.log.steps

  -- where some are counted, a leaf is open
  pub some_leaf : 0 < found → IsOpenLeaf o.problem now
  some_leaf some =
      let among = of.some some in
      let same = ap is_inner (spot-is o a is among.place) in
      let leaf : is_inner (spot_at now among.place) ≡ false = same ∙ among.is_leaf in
      record {
        leaf = among.place;
        worth = worth_at a.worths among.place;
        is_leaf = leaf;
        is_worth = is.parts.worths among.place leaf;
        below = subst (IsBelow (worth_at a.worths among.place)) knows among.below;
      }

  -- and none where there are none
  pub no_leaf : found ≡ 0 → ¬ (IsOpenLeaf o.problem now)
  no_leaf none open_leaf =
      let k = open_leaf.leaf in
      let same : worth_at a.worths k ≡ open_leaf.worth =
      one_worth o.problem (sets_at now k) (prices_at now k) (worth_at a.worths k) open_leaf.worth
      (is.parts.worths k open_leaf.is_leaf) open_leaf.is_worth in
      of.none none (record {
        place = k;
        before = leaf_is o a is k open_leaf.is_leaf;
        is_leaf = ap is_inner (sym (spot-is o a is k)) ∙ open_leaf.is_leaf;
        below = subst (IsBelow (worth_at a.worths k)) (sym knows)
            (subst (λ (x : Bound). IsBelow x (known now)) (sym same) open_leaf.below);
      })

  -- as many as are counted leave room
  pub rooms : HoldsOfSoMany (LeavesRoom o.problem now) found
  rooms = as_many (IsBelowAt a.places.places a.worths cost (length a.places.places)) (LeavesRoom o.problem now) found
      (λ k at.
      let leaf : is_inner (spot_at now k) ≡ false = ap is_inner (spot-is o a is k) ∙ at.is_leaf in
      record {
        worth = worth_at a.worths k;
        is_leaf = leaf;
        is_worth = is.parts.worths k leaf;
        below = subst (IsBelow (worth_at a.worths k)) knows at.below;
      })
      (λ k room.
      let same : worth_at a.worths k ≡ room.worth =
      one_worth o.problem (sets_at now k) (prices_at now k) (worth_at a.worths k) room.worth
      (is.parts.worths k room.is_leaf) room.is_worth in
      record {
        before = leaf_is o a is k room.is_leaf;
        is_leaf = ap is_inner (sym (spot-is o a is k)) ∙ room.is_leaf;
        below = subst (IsBelow (worth_at a.worths k)) (sym knows)
            (subst (λ (x : Bound). IsBelow x (known now)) (sym same) room.below);
      }) of.counted
