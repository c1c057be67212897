-- Arcs in a row that come back to where they began, as a circulation: each arc carries a unit for each time that it is
-- taken.
use Rattle.std.proofs.Common.{◌≡◌, ℕ, zero, suc, ◌+◌, ◌<◌, ◌≤◌, Bool, true, false, cond, eqb, sum_by, filter, List, [], ◌∷◌, length, map, refl, sym, ap, ◌∙◌, arith, inl, inr, ℤ, pos, ◌+ℤ◌, ◌*ℤ◌}
use Rattle.std.specs.List.{range_with_len}
use Rattle.std.specs.Prelude.{slice_index}
use Rattle.std.proofs.lemmas.Bool.{cases_eq, cases_lt}
use Rattle.std.proofs.lemmas.Int.{ints}
use Rattle.std.proofs.lemmas.List.{get_or_past}
use Rattle.std.proofs.lemmas.List.FromFn.{length-map-range_with_len, get_or-map-range_with_len}
use Rattle.std.proofs.lemmas.List.Sums.{sum_by-cons}
use Rattle.vs_types.proofs.CallerLemmas.{no-matter, times_none, times_one, times_sum}
use Rattle.vs_layer.specs.declared.arc.Arc.{Arc}
use Rattle.vs_layer.specs.declared.arc.End.{End}
use Rattle.vs_layer.specs.declared.arc.End.TheVariants.{From, To}
use Rattle.vs_layer.specs.Ends.{end_of, arc_at, arcs_at}
use Rattle.vs_layer.specs.Graph.{Graph, arc_of, leaving, reaching}
use Rattle.vs_layer.specs.Walks.{Leads, path_cost}
use Rattle.vs_layer.specs.Circulation.{units_in, units_out, cost_of_units, flow_cost}
use Rattle.vs_match.proofs.composition.Takings.{taken, one, one-same, one-apart, taken-cons, taken-past, touching, touching-cons, balance}

-- a sum of sums
sum_by-add : (f g h : ℕ → ℕ) (xs : List ℕ) → ((k : ℕ) → f k ≡ g k + h k) → sum_by f xs ≡ sum_by g xs + sum_by h xs
sum_by-add f g h [] is = refl
sum_by-add f g h (x ∷ xs) is =
    omega (arith, sum_by-cons f x xs, sum_by-cons g x xs, sum_by-cons h x xs, is x, sum_by-add f g h xs is)

-- the same sum
sum_by-same : (f g : ℕ → ℕ) (xs : List ℕ) → ((k : ℕ) → f k ≡ g k) → sum_by f xs ≡ sum_by g xs
sum_by-same f g [] is = refl
sum_by-same f g (x ∷ xs) is = omega (arith, sum_by-cons f x xs, sum_by-cons g x xs, is x, sum_by-same f g xs is)

-- a sum of nothing
sum_by-none : (f : ℕ → ℕ) (xs : List ℕ) → ((k : ℕ) → f k ≡ 0) → sum_by f xs ≡ 0
sum_by-none f [] is = refl
sum_by-none f (x ∷ xs) is = omega (arith, sum_by-cons f x xs, is x, sum_by-none f xs is)

-- a sum over what passes a test
sum_by-kept : (f : ℕ → ℕ) (x : ℕ) (xs : List ℕ) (passes : Bool)
    → sum_by f (cond passes (x ∷ xs) xs) ≡ cond passes (f x) 0 + sum_by f xs
sum_by-kept f x xs true = sum_by-cons f x xs
sum_by-kept f x xs false = omega arith

module _ (test : ℕ → Bool) (j : ℕ) where
  -- how often j is among n numbers from a on that pass
  abbrev found : ℕ → ℕ → ℕ
  found a n = sum_by (one j) (filter test (range_with_len a n))

  -- the first number, and those behind it
  found-more : (a n : ℕ) → found a (suc n) ≡ cond (test a) (one j a) 0 + found (a + 1) n
  found-more a n = sum_by-kept (one j) a (filter test (range_with_len (a + 1) n)) (test a)

  -- a number below all is none of them
  found-none : (a n : ℕ) → j < a → found a n ≡ 0
  found-none a zero below = refl
  found-none a (suc n) below =
      let apart = one-apart j a (λ same. omega (arith, same)) in
      let here = ap (λ (x : ℕ). cond (test a) x 0) apart in
      omega (arith, found-more a n, here, no-matter (test a), found-none (a + 1) n (omega arith))

  -- a number among them is found once, if it passes
  found-once : (a n : ℕ) → a ≤ j → j < a + n → found a n ≡ cond (test j) 1 0
  found-once a zero from within = absurd (omega arith)
  found-once a (suc n) from within =
      elim (cases_eq j a) [
        | inl same ↦
            let here = ap (λ (x : ℕ). cond (test a) x 0) (one-same j a same) in
            let own : ◌≡◌ {A = ℕ} (cond (test j) 1 0) (cond (test a) 1 0) =
            ap {B = ℕ} (λ (x : ℕ). cond (test x) 1 0) same in
            omega (arith, found-more a n, here, own, found-none (a + 1) n (omega (arith, same)))
        | inr apart ↦
            let here = ap (λ (x : ℕ). cond (test a) x 0) (one-apart j a apart) in
            omega (arith, found-more a n, here, no-matter (test a), found-once (a + 1) n (omega arith) (omega arith))
      ]

-- what units cost that are given by the numbers of the arcs, which count from a on
abbrev costs : List Arc → ℕ → (ℕ → ℕ) → ℤ
costs arcs a f = cost_of_units arcs (map f (range_with_len a (length arcs)))

-- units put to units
costs-add : (arcs : List Arc) (a : ℕ) (f g h : ℕ → ℕ) → ((k : ℕ) → f k ≡ g k + h k)
    → costs arcs a f ≡ costs arcs a g +ℤ costs arcs a h
costs-add [] a f g h is = omega (arith, ints)
costs-add (x ∷ arcs) a f g h is =
    let here = ap (λ (m : ℕ). x.cost *ℤ pos m) (is a) ∙ times_sum x.cost (g a) (h a) in
    omega (arith, ints, here, costs-add arcs (a + 1) f g h is)

-- no units
costs-none : (arcs : List Arc) (a : ℕ) (f : ℕ → ℕ) → ((k : ℕ) → a ≤ k → f k ≡ 0) → costs arcs a f ≡ pos 0
costs-none [] a f none = refl
costs-none (x ∷ arcs) a f none =
    let here = ap (λ (m : ℕ). x.cost *ℤ pos m) (none a (omega arith)) ∙ times_none x.cost in
    omega (arith, ints, here, costs-none arcs (a + 1) f (λ k from. none k (omega arith)))

-- one unit on arc i
costs-one : (arcs : List Arc) (a j i : ℕ) → j ≡ a + i → i < length arcs → costs arcs a (one j) ≡ (arc_at arcs i).cost
costs-one [] a j i is within = absurd (omega arith)
costs-one (x ∷ arcs) a j zero is within =
    let here = ap (λ (m : ℕ). x.cost *ℤ pos m) (one-same j a (omega arith)) ∙ times_one x.cost in
    let rest = costs-none arcs (a + 1) (one j) (λ k from. one-apart j k (λ same. omega arith)) in
    omega (arith, ints, here, rest)
costs-one (x ∷ arcs) a j (suc i) is within =
    let here = ap (λ (m : ℕ). x.cost *ℤ pos m) (one-apart j a (λ same. omega arith)) ∙ times_none x.cost in
    omega (arith, ints, here, costs-one arcs (a + 1) j i (omega arith) (omega arith))

-- the units of arcs in a row
abbrev pub units_of : Graph → List ℕ → List ℕ
units_of g ks = map (taken ks) (range_with_len 0 (length g.arcs))

module _ (g : Graph) (May : ℕ → Type 0) where
  -- each arc has its units
  pub length-units_of : (ks : List ℕ) → length (units_of g ks) ≡ length g.arcs
  length-units_of ks = length-map-range_with_len (taken ks) 0 (length g.arcs)

  -- an arc carries as many as it is taken
  pub units_of-at : (ks : List ℕ) (u w k : ℕ) → Leads g May u ks w → slice_index (units_of g ks) k ≡ taken ks k
  units_of-at ks u w k walk =
      elim (cases_lt k (length g.arcs)) [
        | inl within ↦ get_or-map-range_with_len (taken ks) 0 (length g.arcs) k k 0 within (omega arith)
        | inr past ↦
            get_or_past (units_of g ks) k 0 (omega (arith, length-units_of ks, past))
            ∙ sym (taken-past g May ks u w k walk past)
      ]

  -- the units of the arcs at a node are as often as it is touched
  units_at : (end : End) (ks : List ℕ) (u w v : ℕ) → Leads g May u ks w
      → sum_by (taken ks) (arcs_at end g.arcs v) ≡ touching g end ks v
  units_at end [] u w v walk = sum_by-none (taken []) (arcs_at end g.arcs v) (λ k. refl)
  units_at end (j ∷ ks) u w v walk =
      let sums =
      sum_by-add (taken (j ∷ ks)) (one j) (taken ks) (arcs_at end g.arcs v) (λ k. taken-cons j k ks) in
      let here =
      found-once (λ (k : ℕ). eqb (end_of end (arc_at g.arcs k)) v) j 0 (length g.arcs) (omega arith)
      (omega (arith, walk.0)) in
      omega (
        arith,
        sums,
        here,
        touching-cons g end j ks v,
        units_at end ks (arc_of g j).to w v walk.3,
      )

  -- as many units reach a node as leave it
  pub units_conserved : (ks : List ℕ) (u v : ℕ) → Leads g May u ks u
      → units_in g (units_of g ks) v ≡ units_out g (units_of g ks) v
  units_conserved ks u v walk =
      let each = λ (k : ℕ). units_of-at ks u u k walk in
      sum_by-same (λ (k : ℕ). slice_index (units_of g ks) k) (taken ks) (reaching g v) each
      ∙ units_at To ks u u v walk
      ∙ omega (arith, balance g May ks u u v walk)
      ∙ sym (units_at From ks u u v walk)
      ∙ sym (sum_by-same (λ (k : ℕ). slice_index (units_of g ks) k) (taken ks) (leaving g v) each)

  -- the units cost what the arcs cost one after another
  pub units_cost : (ks : List ℕ) (u w : ℕ) → Leads g May u ks w → flow_cost g (units_of g ks) ≡ path_cost g ks
  units_cost [] u w walk = costs-none g.arcs 0 (taken []) (λ k from. refl)
  units_cost (j ∷ ks) u w walk =
      let sums = costs-add g.arcs 0 (taken (j ∷ ks)) (one j) (taken ks) (λ k. taken-cons j k ks) in
      let here = costs-one g.arcs 0 j j (omega arith) walk.0 in
      omega (arith, ints, sums, here, units_cost ks (arc_of g j).to w walk.3)
