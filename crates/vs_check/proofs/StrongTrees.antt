-- A tree has no flaw exactly where its splits share out their trips' sets and its leaves reach the printed bound.
use Rattle.std.proofs.Common.{◌≡◌, ℕ, ◌+◌, ◌<◌, Bool, true, false, cond, List, [], ◌∷◌, ◌++◌, length, refl, sym, ap, ◌∙◌, subst, arith, inl, inr, Option, Some, None as nothing, ℤ}
use Rattle.std.specs.List.{All, slice_get}
use Rattle.std.proofs.lemmas.List.Elements.{All-append, All-cons, All-head, All-nil, All-tail}
use Rattle.std.proofs.lemmas.Option.{none-some, slice_get_cases}
use Rattle.vs_types.specs.declared.layer_set.LayerSet.{LayerSet}
use Rattle.vs_types.specs.declared.numbers.TripNo.{TripNo}
use Rattle.vs_instance.specs.Instance.{IsInstance}
use Rattle.vs_instance.specs.Problem.{Problem}
use Rattle.vs_instance.specs.Restriction.{IsRestriction, set_of}
use Rattle.vs_instance.proofs.CallerLemmas.{None, both_none, none-append}
use Rattle.vs_prices.specs.Worth.{Reaches, worth_of}
use Rattle.vs_prices.specs.declared.bound.Bound.{Bound}
use Rattle.vs_prices.specs.declared.table.Table.{Table}
use Rattle.vs_prices.proofs.CallerLemmas.{worth_is, worth_of-IsWorth, left-restricts, restriction-layers, right-restricts}
use Rattle.vs_prices.specs.Tree.{Tree, Leaf, Split, LeafPlace, leaves, right_of, with_set}
use Rattle.vs_rows.specs.Shapes.{IsShapeOf, preorder}
use Rattle.vs_rows.specs.declared.document.Shape.{Shape}
use Rattle.vs_rows.specs.declared.document.Shape.TheVariants as shape
use Rattle.vs_rows.proofs.CallerLemmas.{All-both}
use Rattle.vs_check.specs.Flaws.{named_flaws, tree_flaws}
use Rattle.vs_types.specs.Parts.{is_proper_part}
use Rattle.vs_check.specs.HoldingDocument.{IsStrongLeaf, IsStrongTree}
use Rattle.vs_check.specs.declared.flaw.Flaw.{Flaw}
use Rattle.vs_check.specs.declared.flaw.Flaw.TheVariants.{BadSplit}
use Rattle.vs_check.proofs.LeafFlaws.{none_from_reaches, reaches_from_none}
use Rattle.vs_types.proofs.CallerLemmas.{proper_from_test, test_from_proper}

module _ (p : Problem) (tables : List Table) (bound : Option ℤ) where
  abbrev IsStrong : LeafPlace → Type 0
  IsStrong place = IsStrongLeaf p tables bound place

  leaf_from_none : (position : ℕ) (sets : List LayerSet) (table : ℕ) → table < length tables
      → None (named_flaws p bound position sets (slice_get tables table))
      → IsStrong (record { sets = sets; table = table })
  leaf_from_none position sets number inside none = by_table (slice_get tables number) refl
    where
      by_table : (o : Option Table) → slice_get tables number ≡ o → IsStrong (record { sets = sets; table = number })
      by_table nothing is = elim (slice_get_cases tables number).1 [
        | inl found ↦ absurd (none-some found.0 (sym is ∙ found.2))
        | inr past ↦ absurd (omega (arith, inside, past.0))
      ]
      by_table (Some table) is = record {
        table = table;
        table_is = is;
        reaches = (
          worth_of p sets table,
          worth_of-IsWorth p sets table,
          reaches_from_none position (worth_of p sets table) bound
              (sym (ap (named_flaws p bound position sets) is) ∙ none),
        );
      }

  none_from_leaf : (position : ℕ) (sets : List LayerSet) (table : ℕ) → IsStrong (record { sets = sets; table = table })
      → None (named_flaws p bound position sets (slice_get tables table))
  none_from_leaf position sets table leaf =
      let reaches = leaf.reaches in
      ap (named_flaws p bound position sets) leaf.table_is
      ∙ none_from_reaches position (worth_of p sets leaf.table) bound
      (subst (λ (b : Bound). Reaches b bound) (worth_is p sets leaf.table reaches.0 reaches.1) reaches.2)

  module _ (instance : IsInstance p) where
    abbrev Named : Shape → Type 0
    Named row = IsShapeOf p (length tables) row

    -- the flaws of a split by its test
    abbrev split_flaws : ℕ → List LayerSet → TripNo → LayerSet → Tree → Tree → Bool → List Flaw
    split_flaws position sets trip left lower upper good =
        cond good (tree_flaws p tables bound (position + 1) (with_set sets trip left) lower
        ++ tree_flaws p tables bound (position + 1 + length (preorder lower))
        (with_set sets trip (right_of sets trip left)) upper) (BadSplit position ∷ [])

    -- a split is strong where its parts are
    split_strong : (position : ℕ) (sets : List LayerSet) (trip : TripNo) (left : LayerSet) (lower upper : Tree)
        → IsRestriction p sets → All Named (preorder (Split trip left lower upper))
        → (IsRestriction p (with_set sets trip left) → All Named (preorder lower)
        → None (tree_flaws p tables bound (position + 1) (with_set sets trip left) lower)
        → IsStrongTree p tables bound (with_set sets trip left) lower)
        → (IsRestriction p (with_set sets trip (right_of sets trip left)) → All Named (preorder upper)
        → None (tree_flaws p tables bound (position + 1 + length (preorder lower))
        (with_set sets trip (right_of sets trip left)) upper)
        → IsStrongTree p tables bound (with_set sets trip (right_of sets trip left)) upper)
        → (b : Bool) → is_proper_part left (set_of sets trip.0) ≡ b
        → None (split_flaws position sets trip left lower upper b)
        → IsStrongTree p tables bound sets (Split trip left lower upper)
    split_strong position sets trip left lower upper restriction named on_left on_right false test none = cc
    split_strong position sets trip left lower upper restriction named on_left on_right true test none =
        let of_instance = All-head Named (shape.Split trip left) (preorder lower ++ preorder upper) named in
        let inside : trip.0 < length sets = omega (arith, of_instance.0, restriction.each_trip) in
        let proper = proper_from_test left (set_of sets trip.0)
        (λ l has. omega (arith, of_instance.2 l has, instance.few_layers)) test in
        let rows = All-both Named (preorder lower) (preorder upper)
        (All-tail Named (shape.Split trip left) (preorder lower ++ preorder upper) named) in
        let parts = both_none _ _ none in
        let below = on_left (left-restricts p sets trip left inside proper restriction) rows.0 parts.0 in
        let above = on_right (right-restricts p sets trip left inside proper restriction) rows.1 parts.1 in
        record {
          splits = (inside, proper, below.splits, above.splits);
          leaves = All-append IsStrong (leaves (with_set sets trip left) lower)
              (leaves (with_set sets trip (right_of sets trip left)) upper) below.leaves above.leaves;
        }

    pub strong_from_none : (position : ℕ) (sets : List LayerSet) (tree : Tree) → IsRestriction p sets
        → All Named (preorder tree) → None (tree_flaws p tables bound position sets tree)
        → IsStrongTree p tables bound sets tree
    strong_from_none position sets (Leaf table) restriction named none = record {
      splits = tt;
      leaves = All-cons IsStrong (record { sets = sets; table = table }) []
          (leaf_from_none position sets table (All-head Named (shape.Leaf table) [] named) none) (All-nil IsStrong);
    }
    strong_from_none position sets (Split trip left lower upper) restriction named none =
        split_strong position sets trip left lower upper restriction named
        (strong_from_none (position + 1) (with_set sets trip left) lower)
        (strong_from_none (position + 1 + length (preorder lower)) (with_set sets trip (right_of sets trip left)) upper)
        (is_proper_part left (set_of sets trip.0)) refl none

    pub none_from_strong : (position : ℕ) (sets : List LayerSet) (tree : Tree) → IsRestriction p sets
        → IsStrongTree p tables bound sets tree → None (tree_flaws p tables bound position sets tree)
    none_from_strong position sets (Leaf table) restriction strong =
        none_from_leaf position sets table (All-head IsStrong (record { sets = sets; table = table }) [] strong.leaves)
    none_from_strong position sets (Split trip left lower upper) restriction strong =
        let good = strong.splits in
        let inside = good.0 in
        let proper = good.1 in
        let both = All-both IsStrong (leaves (with_set sets trip left) lower)
        (leaves (with_set sets trip (right_of sets trip left)) upper) strong.leaves in
        let test = test_from_proper left (set_of sets trip.0)
        (λ l has. restriction-layers p sets instance restriction trip.0 l inside (proper.within l has)) proper in
        ap (split_flaws position sets trip left lower upper) test
        ∙ none-append _ _
        (none_from_strong (position + 1) (with_set sets trip left) lower
        (left-restricts p sets trip left inside proper restriction) (record { splits = good.2; leaves = both.0 }))
        (none_from_strong (position + 1 + length (preorder lower)) (with_set sets trip (right_of sets trip left)) upper
        (right-restricts p sets trip left inside proper restriction) (record { splits = good.3; leaves = both.1 }))
