-- The tree of a state where a leaf is split.
use Rattle.std.proofs.Common.{◌≡◌, ◌≢◌, ℕ, ◌+◌, ◌<◌, Bool, cond, true, false, List, [], ◌∷◌, ◌++◌, length, refl, sym, ap, ◌∙◌, subst, arith, inl, inr}
use Rattle.std.proofs.lemmas.Bool.{cases_eq, eq-eqb, ne_eqb}
use Rattle.vs_types.specs.declared.layer_set.LayerSet.{LayerSet}
use Rattle.vs_types.specs.declared.numbers.TripNo.{TripNo}
use Rattle.vs_instance.specs.Restriction.{set_of}
use Rattle.vs_tree.specs.declared.spot.Spot.{Spot}
use Rattle.vs_tree.specs.declared.spot.Spot.TheVariants.{Inner, Free}
use Rattle.vs_tree.specs.History.{Place, is_inner, place_at, table_of, with_spot}
use Rattle.vs_tree.specs.StateTree.{IsTreeAt, times}
use Rattle.vs_prices.specs.Tree.{Tree, Leaf, Split, IsGoodTree, right_of, splits, with_set}
use Rattle.vs_types.specs.Parts.{IsProperPart}
use Rattle.vs_tree.proofs.Spots.{leaf_within}
use Rattle.vs_tree.proofs.sound.Grown.{length-split, split-here, split-lower, split-other, split-upper}
use Rattle.vs_tree.proofs.trees.Parts.{parted, parted-append, parts-other, parts-split, times-append, times-cons}
use Rattle.vs_tree.proofs.trees.Relabelled.{TreeFrom}

module _ (places : List Place) (k : ℕ) (within : k < length places) (was : is_inner (place_at places k).spot ≡ false)
    (trip : TripNo) (left : LayerSet) (table : ℕ) where
  abbrev sets : List LayerSet
  sets = (place_at places k).sets

  abbrev n : ℕ
  n = length places

  abbrev spot : Spot
  spot = Inner trip left n (n + 1)

  abbrev lower_part : Place
  lower_part = record { spot = Free table; sets = with_set sets trip left }

  abbrev upper_part : Place
  upper_part = record { spot = Free table; sets = with_set sets trip (right_of sets trip left) }

  abbrev pub new : List Place
  new = with_spot places k spot ++ lower_part ∷ upper_part ∷ []

  here : place_at new k ≡ record { spot = spot; sets = sets }
  here = split-here places k spot lower_part upper_part within

  there : (j : ℕ) → j ≢ k → j < n → place_at new j ≡ place_at places j
  there j other inside = split-other places k spot lower_part upper_part within j other inside

  size : length new ≡ n + 2
  size = length-split places k spot lower_part upper_part within

  lower-is : place_at new n ≡ lower_part
  lower-is = split-lower places k spot lower_part upper_part within n refl

  upper-is : place_at new (n + 1) ≡ upper_part
  upper-is = split-upper places k spot lower_part upper_part within (n + 1) refl

  -- a spot that was split is another one, and is as it was
  inner-still : (j : ℕ) → is_inner (place_at places j).spot ≡ true → j < n → place_at new j ≡ place_at places j
  inner-still j inner inside =
      there j
      (λ same. let not : is_inner (place_at places j).spot ≡ false =
      ap (λ (i : ℕ). is_inner (place_at places i).spot) same ∙ was in
      cc)
      inside

  module _ (inside : trip.0 < length sets) (part : IsProperPart left (set_of sets trip.0)) where
    -- the leaf is split
    at_leaf : TreeFrom new k sets 1 (n ∷ (n + 1) ∷ [])
    at_leaf = record {
      tree = Split trip left (Leaf table) (Leaf table);
      is_tree = record {
        lower = n;
        upper = n + 1;
        first = n ∷ [];
        second = (n + 1) ∷ [];
        within = omega (arith, within, size);
        inner = ap (λ (q : Place). q.spot) here;
        is_lower = record {
          leaf = ap (λ (q : Place). is_inner q.spot) lower-is;
          table_is = sym (ap (λ (q : Place). table_of q.spot) lower-is);
          sets_are = sym (ap (λ (q : Place). q.sets) lower-is);
          spots_are = refl;
        };
        is_upper = record {
          leaf = ap (λ (q : Place). is_inner q.spot) upper-is;
          table_is = sym (ap (λ (q : Place). table_of q.spot) upper-is);
          sets_are = sym (ap (λ (q : Place). q.sets) upper-is);
          spots_are = refl;
        };
        spots_are = refl;
      };
      good = (inside, part, tt, tt);
      splits_are = refl;
    }

    -- the tree is the same but for the leaf, in whose place its two parts stand
    pub grown : (t : Tree) (j : ℕ) (of : List LayerSet) (spots : List ℕ) → IsTreeAt places j of t spots
        → IsGoodTree of t → TreeFrom new j of (splits t + times k spots) (parted k n spots)
    grown (Leaf number) j of spots is good =
        let named = times-cons k j [] in
        let times-are = ap (λ (some : List ℕ). times k some) is.spots_are in
        let parts-are = ap (λ (some : List ℕ). parted k n some) is.spots_are in
        elim (cases_eq j k) [
          | inl same ↦
              let sets-are : of ≡ sets = is.sets_are ∙ ap (λ (i : ℕ). (place_at places i).sets) same in
              let parts : parted k n spots ≡ n ∷ (n + 1) ∷ [] =
              parts-are ∙ ap (λ (ys : List ℕ). ys ++ []) (parts-split k n j same) in
              let one = ap {B = ℕ} (λ (b : Bool). cond b 1 0) (eq-eqb j k same) in
              let count : splits (Leaf number) + times k spots ≡ 1 = omega (arith, named, times-are, one) in
              subst (λ (ys : List ℕ). TreeFrom new j of (splits (Leaf number) + times k spots) ys) (sym parts)
              (subst (λ (c : ℕ). TreeFrom new j of c (n ∷ (n + 1) ∷ [])) (sym count)
              (subst (λ (these : List LayerSet). TreeFrom new j these 1 (n ∷ (n + 1) ∷ [])) (sym sets-are)
              (subst (λ (i : ℕ). TreeFrom new i sets 1 (n ∷ (n + 1) ∷ [])) (sym same) at_leaf)))
          | inr other ↦
              let still = there j other (leaf_within places j is.leaf) in
              let none = ap {B = ℕ} (λ (b : Bool). cond b 1 0) (ne_eqb j k other) in
              record {
                tree = Leaf number;
                is_tree = record {
                  leaf = ap (λ (q : Place). is_inner q.spot) still ∙ is.leaf;
                  table_is = is.table_is ∙ sym (ap (λ (q : Place). table_of q.spot) still);
                  sets_are = is.sets_are ∙ sym (ap (λ (q : Place). q.sets) still);
                  spots_are = parts-are ∙ ap (λ (ys : List ℕ). ys ++ []) (parts-other k n j other);
                };
                good = tt;
                splits_are = omega (arith, named, times-are, none);
              }
        ]
    grown (Split name some lower upper) j of spots is good =
        let l = grown lower is.lower (with_set of name some) is.first is.is_lower good.2 in
        let u = grown upper is.upper (with_set of name (right_of of name some)) is.second is.is_upper good.3 in
        let inner = ap is_inner is.inner in
        let times-are = ap (λ (ys : List ℕ). times k ys) is.spots_are in
        let both = times-append k is.first is.second in
        record {
          tree = Split name some l.tree u.tree;
          is_tree = record {
            lower = is.lower;
            upper = is.upper;
            first = parted k n is.first;
            second = parted k n is.second;
            within = omega (arith, is.within, size);
            inner = ap (λ (q : Place). q.spot) (inner-still j inner is.within) ∙ is.inner;
            is_lower = l.is_tree;
            is_upper = u.is_tree;
            spots_are = ap (λ (ys : List ℕ). parted k n ys) is.spots_are ∙ parted-append k n is.first is.second;
          };
          good = (good.0, good.1, l.good, u.good);
          splits_are = omega (arith, l.splits_are, u.splits_are, times-are, both);
        }
