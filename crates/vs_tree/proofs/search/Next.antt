-- Which leaf is to be taken next, as the free leaves tell.
use Rattle.std.proofs.Common.{◌≡◌, ℕ, ◌≤◌, List, length, refl, sym, ap, ◌∙◌, subst, arith, inl, inr, Option, None, Some, ℤ, option_map}
use Rattle.std.specs.List.{last_or}
use Rattle.std.proofs.lemmas.Bool.{cases_lt}
use Rattle.std.proofs.lemmas.Int.{ints}
use Rattle.std.proofs.lemmas.List.{get_or_past}
use Rattle.vs_plan.specs.CheckedPlan.{Checked}
use Rattle.vs_prices.specs.Bounds.{IsBelow, IsNoLess}
use Rattle.vs_prices.specs.declared.bound.Bound.{Bound}
use Rattle.vs_prices.specs.declared.bound.Bound.TheVariants.{AtLeast, NoPlan}
use Rattle.vs_tree.specs.declared.entry.Entry.{Entry}
use Rattle.vs_tree.specs.declared.spot.Spot.{Spot}
use Rattle.vs_tree.specs.declared.spot.Spot.TheVariants.{Inner, Free, Held, Closed}
use Rattle.vs_tree.specs.Free.{IsEmpty, IsFirst, entry_at}
use Rattle.vs_tree.specs.History.{Opening, State, IsFree, IsLeafWorth, IsNextLeaf, is_inner, known, prices_at, sets_at, spot_at, state_of}
use Rattle.vs_tree.specs.Search.{IsSearch, Parts, free_entry, worth_at}
use Rattle.vs_tree.specs.Takes.{IsWorkLeft}
use Rattle.vs_tree.proofs.LawfulPrices.{one_worth}
use Rattle.vs_tree.proofs.search.Facts.{leaf_is, places_within}

-- what leaves room for a cheaper plan, and is no less than another, says the same of that one
below-lower : (a b : Bound) (cost : Option ℤ) → IsNoLess a b → IsBelow a cost → IsBelow b cost
below-lower NoPlan b cost no_less below = absurd below
below-lower (AtLeast n) NoPlan cost no_less below = absurd no_less
below-lower (AtLeast n) (AtLeast m) None no_less below = tt
below-lower (AtLeast n) (AtLeast m) (Some cost) no_less below = omega (arith, ints, no_less, below)

-- where a spot has an entry, it is free
record IsEntryOf (spot : Spot) (worth : Bound) (k : ℕ) (entry : Entry) : Type 0 where
  pub table : ℕ
  pub free : spot ≡ Free table
  pub is_worth : entry.worth ≡ worth
  pub leaf : entry.leaf ≡ k

entry-is : (spot : Spot) (worth : Bound) (k : ℕ) (entry : Entry) → free_entry spot worth k ≡ Some entry
    → IsEntryOf spot worth k entry
entry-is (Inner trip left lower upper) worth k entry is = absurd cc
entry-is (Free table) worth k entry is = record {
  table = table;
  free = refl;
  is_worth = ap (λ (x : Option Entry). worth_in x) (sym is);
  leaf = ap (λ (x : Option Entry). leaf_in x) (sym is);
}
  where
    worth_in : Option Entry → Bound
    worth_in None = NoPlan
    worth_in (Some e) = e.worth

    leaf_in : Option Entry → ℕ
    leaf_in None = 0
    leaf_in (Some e) = e.leaf
entry-is (Held worker table) worth k entry is = absurd cc
entry-is (Closed table) worth k entry is = absurd cc

module _ (o : Opening) (a : Parts) (is : IsSearch o a) where
  abbrev s : State
  s = state_of o a.log.steps

  pub known-is : option_map (λ plan. plan.cost) (last_or None a.log.plans) ≡ known s
  known-is = ap (λ (x : List Checked). option_map (λ plan. plan.cost) (last_or None x)) (sym is.parts.plans)

  -- a free leaf has its entry
  free-entry : (j : ℕ) → IsFree s j → entry_at a.free j ≡ Some (record { worth = worth_at a.worths j; leaf = j })
  free-entry j free =
      let inside = leaf_is o a is j (ap is_inner free.1) in
      let few = places_within o a is in
      is.parts.free j (omega (arith, inside, few, is.parts.free_size))
      ∙ ap (λ (x : Spot). free_entry x (worth_at a.worths j) j) free.1

  -- and what is among the free leaves is the entry of one
  entry-free : (v : ℕ) (entry : Entry) → entry_at a.free v ≡ Some entry
      → IsEntryOf (spot_at s v) (worth_at a.worths v) v entry
  entry-free v entry stands =
      elim (cases_lt v (length a.free)) [
        | inl inside ↦
            entry-is (spot_at s v) (worth_at a.worths v) v entry (sym (is.parts.free v inside) ∙ stands)
        | inr past ↦
            let none : entry_at a.free v ≡ None = get_or_past a.free v None past in
            absurd cc
      ]

  -- of a leaf that is free: no other is taken before the first entry
  not-before : (entry : Entry) → IsFirst a.free entry → (j : ℕ) (other : Bound) → IsFree s j
      → IsLeafWorth o.problem s j other
      → IsNoLess other entry.worth × (IsNoLess entry.worth other → entry.leaf ≤ j)
  not-before entry first j other free worth =
      let after = first.least j (record { worth = worth_at a.worths j; leaf = j }) (free-entry j free) in
      let same : worth_at a.worths j ≡ other =
      one_worth o.problem (sets_at s j) (prices_at s j) (worth_at a.worths j) other
      (is.parts.worths j (ap is_inner free.1)) worth in
      subst (λ (x : Bound). IsNoLess x entry.worth × (IsNoLess entry.worth x → entry.leaf ≤ j)) same
      (after.0, after.1)

  pub next_leaf : (entry : Entry) → IsFirst a.free entry → IsBelow entry.worth (known s)
      → IsNextLeaf o.problem s entry.leaf
  next_leaf entry first below =
      let found = entry-free first.spot entry first.stands in
      let free : IsFree s entry.leaf =
      (found.table, ap (λ (k : ℕ). spot_at s k) found.leaf ∙ found.free) in
      let at : IsLeafWorth o.problem s first.spot (worth_at a.worths first.spot) =
      is.parts.worths first.spot (ap is_inner found.free) in
      let here : IsLeafWorth o.problem s first.spot entry.worth =
      subst (λ (x : Bound). IsLeafWorth o.problem s first.spot x) (sym found.is_worth) at in
      record {
        free = free;
        worth = entry.worth;
        is_worth = subst (λ (k : ℕ). IsLeafWorth o.problem s k entry.worth) (sym found.leaf) here;
        below = below;
        least = λ j other j_free worth. (not-before entry first j other j_free worth).0;
        first = λ j other j_free worth. (not-before entry first j other j_free worth).1;
      }

  pub next_is_left : (leaf : ℕ) → IsNextLeaf o.problem s leaf → IsWorkLeft o.problem s
  next_is_left leaf next = record {
    leaf = leaf;
    worth = next.worth;
    free = next.free;
    is_worth = next.is_worth;
    below = next.below;
  }

  -- nothing is left where no leaf is free, or the first leaves no room for a cheaper plan
  pub none_is_left : IsEmpty a.free → ¬ (IsWorkLeft o.problem s)
  none_is_left empty left =
      let has = free-entry left.leaf left.free in
      let none = empty left.leaf in
      absurd cc

  pub nothing_below : (entry : Entry) → IsFirst a.free entry → ¬ (IsBelow entry.worth (known s))
      → ¬ (IsWorkLeft o.problem s)
  nothing_below entry first above left =
      above (below-lower left.worth entry.worth (known s)
      (not-before entry first left.leaf left.worth left.free left.is_worth).0 left.below)
