-- What stays the same where one leaf of a state becomes another kind of leaf.
use Rattle.std.proofs.Common.{◌≡◌, ◌≢◌, ℕ, ◌+◌, ◌<◌, Bool, true, false, List, ◌++◌, length, get_or, sym, ap, ◌∙◌, subst, arith, inl, inr, cond, length-append}
use Rattle.std.proofs.lemmas.Bool.{cases_eq}
use Rattle.std.proofs.lemmas.List.{get_or_append_left}
use Rattle.vs_types.specs.declared.layer_set.LayerSet.{LayerSet}
use Rattle.vs_instance.specs.Plan.{LayerBlock}
use Rattle.vs_instance.specs.Problem.{Problem}
use Rattle.vs_instance.specs.Restriction.{IsRestriction, IsWithin}
use Rattle.vs_prices.specs.declared.bound.Bound.{Bound}
use Rattle.vs_tree.specs.declared.spot.Spot.{Spot}
use Rattle.vs_tree.specs.declared.spot.Spot.TheVariants.{Held}
use Rattle.vs_tree.specs.Prices.{AreWorth, Prices, no_prices}
use Rattle.vs_tree.specs.History.{Place, State, IsHeldBy, IsLeaf, IsLeafWorth, count_spots, is_held, is_inner, place_at, prices_at, sets_at, spot_at, table_of, with_spot}
use Rattle.vs_tree.specs.Sound.{AreNotNegative, IsInOneLeaf}
use Rattle.vs_tree.proofs.Spots.{count-with_spot, length-with_spot, with_spot-other, with_spot-same, with_spot-sets}

-- a leaf of the same prices and layers is worth the same
pub same-worth : (p : Problem) (s n : State) (j : ℕ) (worth : Bound) → sets_at n j ≡ sets_at s j
    → prices_at n j ≡ prices_at s j → IsLeafWorth p n j worth → IsLeafWorth p s j worth
same-worth p s n j worth sets prices is =
    let first : AreWorth p (sets_at s j) (prices_at n j) worth =
    subst (λ (x : List LayerSet). AreWorth p x (prices_at n j) worth) sets is in
    subst (λ (x : Prices). AreWorth p (sets_at s j) x worth) prices first

-- a table that there is is still there once others came
pub prices-kept : (s n : State) (j : ℕ) (more : List Prices) → n.tables ≡ s.tables ++ more
    → table_of (spot_at s j) < length s.tables → spot_at n j ≡ spot_at s j → prices_at n j ≡ prices_at s j
prices-kept s n j more tables inside same =
    ap (λ (x : Spot). get_or n.tables (table_of x) no_prices) same
    ∙ ap (λ (ts : List Prices). get_or ts (table_of (spot_at s j)) no_prices) tables
    ∙ get_or_append_left s.tables more no_prices (table_of (spot_at s j)) inside

-- where two states have the same leaves with the same layers, blocks lie in the same leaf of both
pub shared-along : (s n : State) (blocks : List LayerBlock)
    → ((j : ℕ) → is_inner (spot_at n j) ≡ is_inner (spot_at s j)) → ((j : ℕ) → sets_at n j ≡ sets_at s j)
    → IsInOneLeaf s blocks → IsInOneLeaf n blocks
shared-along s n blocks leaves sets one =
    let W : List LayerSet → Type 0 = λ x. IsWithin x blocks in
    record {
      leaf = one.leaf;
      is_in = record {
        leaf = leaves one.leaf ∙ one.is_in.leaf;
        within = subst W (sym (sets one.leaf)) one.is_in.within;
      };
      only = λ j is. one.only j (record { leaf = sym (leaves j) ∙ is.leaf; within = subst W (sets j) is.within });
    }

module _ (s n : State) (k : ℕ) (spot : Spot) (within : k < length s.places)
    (same : n.places ≡ with_spot s.places k spot) where
  pub spot-here : spot_at n k ≡ spot
  spot-here =
      ap (λ (ps : List Place). (place_at ps k).spot) same
      ∙ ap (λ (q : Place). q.spot) (with_spot-same s.places k spot within)

  pub spot-there : (j : ℕ) → j ≢ k → spot_at n j ≡ spot_at s j
  spot-there j other =
      ap (λ (ps : List Place). (place_at ps j).spot) same
      ∙ ap (λ (q : Place). q.spot) (with_spot-other s.places k spot j other)

  pub sets-kept : (j : ℕ) → sets_at n j ≡ sets_at s j
  sets-kept j = ap (λ (ps : List Place). (place_at ps j).sets) same ∙ with_spot-sets s.places k spot j

  pub size-kept : length n.places ≡ length s.places
  size-kept = ap (λ (ps : List Place). length ps) same ∙ length-with_spot s.places k spot

  pub count-kept : (kind : Spot → Bool) → count_spots kind n.places + cond (kind (spot_at s k)) 1 0
      ≡ count_spots kind s.places + cond (kind spot) 1 0
  count-kept kind =
      ap (λ (ps : List Place). count_spots kind ps + cond (kind (spot_at s k)) 1 0) same
      ∙ count-with_spot s.places k spot kind within

  -- how many there are of a kind that the spot was and is, that it became, and that it no longer is
  pub count-same : (kind : Spot → Bool) → kind (spot_at s k) ≡ kind spot
      → count_spots kind n.places ≡ count_spots kind s.places
  count-same kind alike =
      let count = count-kept kind in
      let one = ap {B = ℕ} (λ (b : Bool). cond b 1 0) alike in
      omega (arith, count, one)

  pub count-more : (kind : Spot → Bool) → kind (spot_at s k) ≡ false → kind spot ≡ true
      → count_spots kind n.places ≡ count_spots kind s.places + 1
  count-more kind before after =
      let count = count-kept kind in
      let none = ap {B = ℕ} (λ (b : Bool). cond b 1 0) before in
      let one = ap {B = ℕ} (λ (b : Bool). cond b 1 0) after in
      omega (arith, count, none, one)

  pub count-less : (kind : Spot → Bool) → kind (spot_at s k) ≡ true → kind spot ≡ false
      → count_spots kind n.places + 1 ≡ count_spots kind s.places
  count-less kind before after =
      let count = count-kept kind in
      let one = ap {B = ℕ} (λ (b : Bool). cond b 1 0) before in
      let none = ap {B = ℕ} (λ (b : Bool). cond b 1 0) after in
      omega (arith, count, none, one)

  pub restrictions-kept : (p : Problem) → ((j : ℕ) → j < length s.places → IsRestriction p (sets_at s j))
      → (j : ℕ) → j < length n.places → IsRestriction p (sets_at n j)
  restrictions-kept p each j inside =
      subst (λ (x : List LayerSet). IsRestriction p x) (sym (sets-kept j)) (each j (omega (arith, size-kept)))

  -- what a worker holds then, where the new spot isn't held, it held before
  pub held-before : is_held spot ≡ false → (worker j : ℕ) → IsHeldBy n worker j → IsHeldBy s worker j
  held-before not_held worker j (table, is) =
      elim (cases_eq j k) [
        | inl here ↦
            let at : spot_at n k ≡ Held worker table = ap (spot_at n) (sym here) ∙ is in
            let held : is_held spot ≡ true = ap is_held (sym spot-here ∙ at) in
            absurd cc
        | inr other ↦ (table, sym (spot-there j other) ∙ is)
      ]

  module _ (was : is_inner (spot_at s k) ≡ false) (is : is_inner spot ≡ false) where
    pub leaves-kept : (j : ℕ) → is_inner (spot_at n j) ≡ is_inner (spot_at s j)
    leaves-kept j =
        elim (cases_eq j k) [
          | inl here ↦ rw here (ap is_inner spot-here ∙ is ∙ sym was)
          | inr other ↦ ap is_inner (spot-there j other)
        ]

    pub shared-kept : (blocks : List LayerBlock) → IsInOneLeaf s blocks → IsInOneLeaf n blocks
    shared-kept blocks one = shared-along s n blocks leaves-kept sets-kept one

    -- no leaf is worth less than 0 where the leaf has the same table
    pub worths-kept : (p : Problem) → n.tables ≡ s.tables → table_of spot ≡ table_of (spot_at s k) → AreNotNegative p s
        → AreNotNegative p n
    worths-kept p tables table each j worth leaf is_worth =
        let same : table_of (spot_at n j) ≡ table_of (spot_at s j) =
        elim (cases_eq j k) [
          | inl here ↦
              ap (λ (i : ℕ). table_of (spot_at n i)) here ∙ ap table_of spot-here ∙ table
              ∙ ap (λ (i : ℕ). table_of (spot_at s i)) (sym here)
          | inr other ↦ ap table_of (spot-there j other)
        ] in
        each j worth (sym (leaves-kept j) ∙ leaf)
        (same-worth p s n j worth (sets-kept j)
        (ap (λ (ts : List Prices). get_or ts (table_of (spot_at n j)) no_prices) tables
        ∙ ap (λ (t : ℕ). get_or s.tables t no_prices) same) is_worth)

    pub numbers-kept : (more : List Prices) → n.tables ≡ s.tables ++ more → table_of spot < length n.tables
        → ((j : ℕ) → IsLeaf s j → table_of (spot_at s j) < length s.tables)
        → (j : ℕ) → IsLeaf n j → table_of (spot_at n j) < length n.tables
    numbers-kept more tables number each j leaf =
        elim (cases_eq j k) [
          | inl here ↦
              let at : table_of (spot_at n j) ≡ table_of spot =
              ap (λ (i : ℕ). table_of (spot_at n i)) here ∙ ap table_of spot-here in
              omega (arith, at, number)
          | inr other ↦
              let at : table_of (spot_at n j) ≡ table_of (spot_at s j) = ap table_of (spot-there j other) in
              let old = each j (sym (leaves-kept j) ∙ leaf) in
              let size = ap (λ (ts : List Prices). length ts) tables in
              let sum = length-append s.tables more in
              omega (arith, at, old, size, sum)
        ]
