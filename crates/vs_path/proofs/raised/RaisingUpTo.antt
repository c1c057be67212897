-- Prices raised node by node.
use Rattle.std.proofs.Common.{◌≡◌, ◌⊎◌, ℕ, ◌+◌, ◌<◌, ◌≤◌, ◌∙◌, List, length, set, refl, sym, ap, subst, arith, inl, inr, Option, Some, None, ℤ, pos, ◌+ℤ◌, ◌≤ℤ◌, length-set}
use Rattle.std.proofs.lemmas.Bool.{cases_eq, cases_lt}
use Rattle.std.proofs.lemmas.Int.{ints}
use Rattle.std.proofs.lemmas.List.{get_or-set_same, get_or-set_other, get_or_past}
use Rattle.vs_queue.specs.declared.node_table.Settled.{Settled}
use Rattle.vs_path.specs.Residual.{price_at}
use Rattle.vs_path.specs.Labels.{Lists, settled_at}
use Rattle.vs_path.specs.Raising.{IsGreater, IsGreatest, rise_of}

-- the prices of the first so many nodes are raised
pub record AreRaisedUpTo (l : Lists) (rise : ℤ) (count : ℕ) (old now : List ℤ) : Type 0 where
  pub size : length now ≡ length old
  pub raised : (v : ℕ) → v < count → price_at now v ≡ price_at old v +ℤ rise_of (settled_at l v) rise
  pub kept : (v : ℕ) → count ≤ v → price_at now v ≡ price_at old v

-- one price more
pub raised-more : (l : Lists) (rise : ℤ) (count : ℕ) (old now : List ℤ) (price : ℤ)
    → AreRaisedUpTo l rise count old now
    → count < length now → price ≡ price_at now count +ℤ rise_of (settled_at l count) rise
    → AreRaisedUpTo l rise (count + 1) old (set now count price)
raised-more l rise count old now price upto within is = record {
  size = length-set now count price ∙ upto.size;
  raised = λ v below.
      elim (cases_eq v count) [
        | inl same ↦
            let own : price_at (set now count price) count ≡ price_at old count +ℤ rise_of (settled_at l count) rise =
            get_or-set_same now count price (pos 0) within ∙ is
            ∙ ap (λ (z : ℤ). z +ℤ rise_of (settled_at l count) rise) (upto.kept count (omega arith)) in
            let P : ℕ → Type 0 =
            λ w. price_at (set now count price) w ≡ price_at old w +ℤ rise_of (settled_at l w) rise in
            subst P (sym same) own
        | inr ne ↦ get_or-set_other now count v price (pos 0) (λ e. ne e) ∙ upto.raised v (omega arith)
      ];
  kept = λ v past.
      get_or-set_other now count v price (pos 0) (λ e. absurd (omega arith)) ∙ upto.kept v (omega arith);
}

-- the greatest distance of the first so many nodes
pub record IsGreatestUpTo (l : Lists) (count : ℕ) (least greatest : ℤ) : Type 0 where
  pub no_less : least ≤ℤ greatest
  pub farthest : (v : ℕ) (a : Settled) → v < count → settled_at l v ≡ Some a → a.distance ≤ℤ greatest
  pub one : (greatest ≡ least) ⊎ ((v : ℕ) × (a : Settled) × (settled_at l v ≡ Some a) × (greatest ≡ a.distance))

pub greatest-all : (l : Lists) (count : ℕ) (least greatest : ℤ) → IsGreatestUpTo l count least greatest
    → length l.settled ≤ count → IsGreatest l least greatest
greatest-all l count least greatest upto all = record {
  no_less = upto.no_less;
  farthest = λ v a is.
      elim (cases_lt v count) [
        | inl below ↦ upto.farthest v a below is
        | inr past ↦ let e : None ≡ Some a = sym (get_or_past l.settled v None (omega arith)) ∙ is in absurd (cc)
      ];
  one = upto.one;
}

-- one node more
pub greatest-more : (l : Lists) (count : ℕ) (least greatest next : ℤ) (o : Option Settled)
    → IsGreatestUpTo l count least greatest → settled_at l count ≡ o → IsGreater greatest o next
    → IsGreatestUpTo l (count + 1) least next
greatest-more l count least greatest next None upto is same = record {
  no_less = omega (arith, ints, upto.no_less, same);
  farthest = λ v a below at.
      elim (cases_eq v count) [
        | inl e ↦ let wrong : None ≡ Some a = sym is ∙ ap (settled_at l) (sym e) ∙ at in absurd (cc)
        | inr ne ↦ omega (arith, ints, upto.farthest v a (omega arith) at, same)
      ];
  one = subst (λ (z : ℤ). (z ≡ least) ⊎ ((v : ℕ) × (a : Settled) × (settled_at l v ≡ Some a) × (z ≡ a.distance)))
      (sym same) upto.one;
}
greatest-more l count least greatest next (Some b) upto is greater = record {
  no_less = let less = greater.0 in omega (arith, ints, upto.no_less, less);
  farthest = λ v a below at.
      elim (cases_eq v count) [
        | inl e ↦
            let both : Some b ≡ Some a = sym is ∙ ap (settled_at l) (sym e) ∙ at in
            let same : b ≡ a = cc in
            subst (λ (s : Settled). s.distance ≤ℤ next) same greater.1
        | inr ne ↦ let less = greater.0 in omega (arith, ints, upto.farthest v a (omega arith) at, less)
      ];
  one = elim greater.2 [
    | inl same ↦
        subst (λ (z : ℤ). (z ≡ least) ⊎ ((v : ℕ) × (a : Settled) × (settled_at l v ≡ Some a) × (z ≡ a.distance)))
        (sym same) upto.one
    | inr own ↦ inr (count, b, is, own)
  ];
}

pub greatest-none : (l : Lists) (least : ℤ) → IsGreatestUpTo l 0 least least
greatest-none l least =
    record { no_less = omega (arith, ints); farthest = λ v a below at. absurd (omega arith); one = inl refl }
