-- Prices moved node by node, in the order in which the nodes were settled.
use Rattle.std.proofs.Common.{◌≡◌, ◌≢◌, ℕ, ◌+◌, ◌<◌, ◌≤◌, ◌∙◌, List, length, set, get_or, refl, sym, ap, subst, arith, inl, inr, Option, Some, None, ℤ, pos, ◌-ℤ◌, length-set}
use Rattle.std.proofs.lemmas.Bool.{cases_eq, cases_lt}
use Rattle.std.proofs.lemmas.List.{get_or-set_same, get_or-set_other, get_or_past}
use Rattle.vs_path.proofs.labelling.Lowering.{some_within}
use Rattle.vs_queue.specs.declared.node_table.Settled.{Settled}
use Rattle.vs_path.specs.Residual.{price_at}
use Rattle.vs_path.specs.Labels.{Lists, AreListed, settled_at}
use Rattle.vs_path.specs.Search.{AreMoved, moved}

-- the price of a node once those before this place are moved
abbrev pub moved_before : ℕ → Option Settled → ℤ → ℤ → ℤ → Type 0
moved_before count None farthest price now = now ≡ price
moved_before count (Some a) farthest price now =
    (a.place < count → now ≡ price -ℤ (farthest -ℤ a.distance)) × (count ≤ a.place → now ≡ price)

pub record AreMovedUpTo (l : Lists) (farthest : ℤ) (count : ℕ) (old now : List ℤ) : Type 0 where
  pub size : length now ≡ length old
  pub each : (v : ℕ) → moved_before count (settled_at l v) farthest (price_at old v) (price_at now v)

pub moved-all : (nodes : ℕ) (l : Lists) (farthest : ℤ) (old now : List ℤ) (count : ℕ) → AreListed nodes l
    → length l.order ≤ count → AreMovedUpTo l farthest count old now → AreMoved l farthest old now
moved-all nodes l farthest old now count listed all upto v = go (settled_at l v) refl (upto.each v)
  where
    go : (s : Option Settled) → settled_at l v ≡ s → moved_before count s farthest (price_at old v) (price_at now v)
        → price_at now v ≡ moved s farthest (price_at old v)
    go None e is = is
    go (Some a) e is = let at = (listed.placed v a e).0 in is.0 (omega arith)

place-of : (nodes : ℕ) (l : Lists) (count : ℕ) (a : Settled) → AreListed nodes l → count < length l.order
    → settled_at l (get_or l.order count 0) ≡ Some a → a.place ≡ count
place-of nodes l count a listed within is =
    let at = listed.listed count within in
    let e : Some a ≡ Some at.0 = sym is ∙ at.1 in
    let same : a ≡ at.0 = cc in
    ap (λ (b : Settled). b.place) same ∙ at.2

-- the price of the node at this place isn't moved yet
pub moved-kept : (nodes : ℕ) (l : Lists) (farthest : ℤ) (old now : List ℤ) (count : ℕ) (a : Settled)
    → AreListed nodes l
    → count < length l.order → settled_at l (get_or l.order count 0) ≡ Some a → AreMovedUpTo l farthest count old now
    → price_at now (get_or l.order count 0) ≡ price_at old (get_or l.order count 0)
moved-kept nodes l farthest old now count a listed within is upto =
    let u = get_or l.order count 0 in
    let R : Option Settled → Type 0 = λ s. moved_before count s farthest (price_at old u) (price_at now u) in
    let before : moved_before count (Some a) farthest (price_at old u) (price_at now u) = subst R is (upto.each u) in
    before.1 (omega (arith, place-of nodes l count a listed within is))

module _ (nodes : ℕ) (l : Lists) (farthest : ℤ) (old now : List ℤ) (count : ℕ) (a : Settled) (price : ℤ)
    (listed : AreListed nodes l) (sized : length now ≡ nodes) (within : count < length l.order)
    (is : settled_at l (get_or l.order count 0) ≡ Some a)
    (price_is : price ≡ price_at now (get_or l.order count 0) -ℤ (farthest -ℤ a.distance))
    (upto : AreMovedUpTo l farthest count old now) where
  abbrev u : ℕ
  u = get_or l.order count 0

  abbrev after : List ℤ
  after = set now u price

  place-is : a.place ≡ count
  place-is = place-of nodes l count a listed within is

  inside : u < length now
  inside = elim (cases_lt u (length l.settled)) [
    | inl below ↦ omega (arith, listed.settled)
    | inr past ↦ let e : None ≡ Some a = sym (get_or_past l.settled u None past) ∙ is in absurd (cc)
  ]

  own : moved_before (count + 1) (Some a) farthest (price_at old u) (price_at after u)
  own =
      let kept = moved-kept nodes l farthest old now count a listed within is upto in (
        λ below. get_or-set_same now u price (pos 0) inside ∙ price_is
            ∙ ap (λ (z : ℤ). z -ℤ (farthest -ℤ a.distance)) kept,
        λ above. absurd (omega (arith, place-is)),
      )

  other : (v : ℕ) (s : Option Settled) → v ≢ u → settled_at l v ≡ s
      → moved_before count s farthest (price_at old v) (price_at now v)
      → moved_before (count + 1) s farthest (price_at old v) (price_at after v)
  other v None ne e before = get_or-set_other now u v price (pos 0) (λ same. ne same) ∙ before
  other v (Some b) ne e before =
      let apart : b.place ≢ count =
      λ same. ne (sym (listed.placed v b e).1 ∙ ap (λ (i : ℕ). get_or l.order i 0) same) in (
        λ below. get_or-set_other now u v price (pos 0) (λ same. ne same) ∙ before.0 (omega arith),
        λ above. get_or-set_other now u v price (pos 0) (λ same. ne same) ∙ before.1 (omega arith),
      )

  -- one more node is moved
  pub moved-more : AreMovedUpTo l farthest (count + 1) old after
  moved-more = record {
    size = length-set now u price ∙ upto.size;
    each = λ v.
        elim (cases_eq v u) [
          | inl same ↦
              let Q : Option Settled → Type 0 =
              λ s. moved_before (count + 1) s farthest (price_at old u) (price_at after u) in
              let R : ℕ → Type 0 =
              λ w. moved_before (count + 1) (settled_at l w) farthest (price_at old w) (price_at after w) in
              subst R (sym same) (subst Q (sym is) own)
          | inr ne ↦ other v (settled_at l v) ne refl (upto.each v)
        ];
  }

-- a node in the order is one of those that there are
pub listed-within : (nodes : ℕ) (l : Lists) (i : ℕ) → AreListed nodes l → i < length l.order
    → get_or l.order i 0 < nodes
listed-within nodes l i listed inside =
    let at = listed.listed i inside in
    omega (arith, listed.settled, some_within l.settled (get_or l.order i 0) at.0 at.1)

-- a node that isn't settled doesn't stand in the order
pub moved-skip : (nodes : ℕ) (l : Lists) (i : ℕ) → AreListed nodes l → i < length l.order
    → settled_at l (get_or l.order i 0) ≡ None → ⊥
moved-skip nodes l i listed inside none =
    let at = listed.listed i inside in
    let e : None ≡ Some at.0 = sym none ∙ at.1 in cc

-- a settled node is one of those that there are
pub node-< : (nodes : ℕ) (l : Lists) (v : ℕ) (a : Settled) → AreListed nodes l → settled_at l v ≡ Some a → v < nodes
node-< nodes l v a listed is = omega (arith, listed.settled, some_within l.settled v a is)
