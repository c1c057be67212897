-- The leaves of a tree leave no trip a layer that its root doesn't, and a table is worth no less there.
use Rattle.std.proofs.Common.{ℕ, ◌<◌, List, [], length, sym, subst, inl, inr}
use Rattle.std.specs.List.{All}
use Rattle.std.proofs.lemmas.Bool.{cases_eq}
use Rattle.std.proofs.lemmas.List.Elements.{All-append, All-cons, All-nil, All-weaker}
use Rattle.vs_types.specs.LayerSet.{Has}
use Rattle.vs_types.specs.declared.layer_set.LayerSet.{LayerSet}
use Rattle.vs_types.specs.declared.numbers.TripNo.{TripNo}
use Rattle.vs_types.proofs.CallerLemmas.{rest-within}
use Rattle.vs_instance.specs.Restriction.{set_of}
use Rattle.vs_prices.specs.Tree.{IsGoodTree, Leaf, LeafPlace, Split, Tree, leaves, right_of, with_set}
use Rattle.vs_prices.proofs.CallerLemmas.{set_of-other, set_of-same}

-- these sets have no layer that those haven't
abbrev pub AreNarrower : List LayerSet → List LayerSet → Type 0
AreNarrower wide narrow = (i l : ℕ) → Has (set_of narrow i) l → Has (set_of wide i) l

with_set-narrower : (sets : List LayerSet) (trip : TripNo) (layers : LayerSet) → trip.0 < length sets
    → ((l : ℕ) → Has layers l → Has (set_of sets trip.0) l) → AreNarrower sets (with_set sets trip layers)
with_set-narrower sets trip layers inside part i l has =
    elim (cases_eq i trip.0) [
      | inl same ↦
          let here : Has (set_of (with_set sets trip layers) trip.0) l =
          subst (λ (j : ℕ). Has (set_of (with_set sets trip layers) j) l) same has in
          subst (λ (j : ℕ). Has (set_of sets j) l) (sym same)
          (part l (subst (λ (s : LayerSet). Has s l) (set_of-same sets trip layers inside) here))
      | inr other ↦ subst (λ (s : LayerSet). Has s l) (set_of-other sets trip layers i other) has
    ]

pub leaves-narrower : (sets : List LayerSet) (tree : Tree) → IsGoodTree sets tree
    → All (λ leaf. AreNarrower sets leaf.sets) (leaves sets tree)
leaves-narrower sets (Leaf table) good =
    All-cons (λ (leaf : LeafPlace). AreNarrower sets leaf.sets) (record { sets = sets; table = table }) []
    (λ i l has. has)
    (All-nil (λ (leaf : LeafPlace). AreNarrower sets leaf.sets))
leaves-narrower sets (Split trip left lower upper) good =
    let on_left = with_set sets trip left in
    let on_right = with_set sets trip (right_of sets trip left) in
    let left_in = with_set-narrower sets trip left good.0 good.1.within in
    let right_in = with_set-narrower sets trip (right_of sets trip left) good.0
    (rest-within (set_of sets trip.0) left) in
    All-append (λ (leaf : LeafPlace). AreNarrower sets leaf.sets) (leaves on_left lower) (leaves on_right upper)
    (All-weaker (λ (leaf : LeafPlace). AreNarrower on_left leaf.sets)
    (λ (leaf : LeafPlace). AreNarrower sets leaf.sets)
    (λ leaf in_left i l has. left_in i l (in_left i l has)) (leaves on_left lower)
    (leaves-narrower on_left lower good.2))
    (All-weaker (λ (leaf : LeafPlace). AreNarrower on_right leaf.sets)
    (λ (leaf : LeafPlace). AreNarrower sets leaf.sets)
    (λ leaf in_right i l has. right_in i l (in_right i l has)) (leaves on_right upper)
    (leaves-narrower on_right upper good.3))
