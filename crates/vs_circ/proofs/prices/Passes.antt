-- Leeways stay allowed when that of one node is raised as far as its arcs allow.
use Rattle.std.proofs.Common.{◌≡◌, ◌≢◌, ℕ, ◌+◌, ◌-◌, ◌<◌, ◌≤◌, ◌∙◌, ◌↔◌, Bool, List, length, set, replicate, get_or, refl, sym, ap, subst, inl, inr, arith, ℤ, pos, ◌+ℤ◌, ◌≤ℤ◌, min, below_more, length-set, get_or-set_same, get_or-set_other}
use Rattle.std.specs.Prelude.{slice_index}
use Rattle.std.proofs.lemmas.Bool.{cases_eq, cases_lt}
use Rattle.std.proofs.lemmas.Int.{ints}
use Rattle.std.proofs.lemmas.List.{length-replicate, get_or-replicate, get_or_past}
use Rattle.vs_layer.specs.Graph.{arc_of}
use Rattle.vs_match.specs.declared.arc_kind.ArcKind.{ArcKind}
use Rattle.vs_match.specs.declared.arc_kind.ArcKind.TheVariants.{Trip, Waiting, Deadhead, PullOut, PullIn, RestIn, RestWait, RestOut, Return}
use Rattle.vs_match.specs.LayerGraph.{LayerGraph, kind_of}
use Rattle.vs_circ.specs.declared.leeways.Side.{Side}
use Rattle.vs_circ.specs.declared.leeways.TheConstants.{MAX_LEEWAY}
use Rattle.vs_circ.specs.node_prices.NodePrices.{IsEmptyMove, AreMovePrices}
use Rattle.vs_circ.specs.node_prices.Leeways.{Allows, ArcAllows, IsAllowed, AreLeeways, limits_of, passing, spare}
use Rattle.vs_circ.proofs.prices.NodeLimits.{limits-arc, limits-all}

-- what is allowed by one arc more
pub allowed-more : (MayBe : ℕ → ℕ → Type 0) (most i leeway limit least : ℕ)
    → ((y : ℕ) → y ≤ leeway ↔ ((y ≤ most) × ((j : ℕ) → j < i → MayBe j y)))
    → ((y : ℕ) → y ≤ most → (y ≤ limit ↔ MayBe i y)) → least ≡ min leeway limit
    → (y : ℕ) → y ≤ least ↔ ((y ≤ most) × ((j : ℕ) → j < i + 1 → MayBe j y))
allowed-more MayBe most i leeway limit least before here is = λ y. (
  λ less.
      let so_far = (before y).0 (omega arith) in
      (so_far.0, below_more (λ j. MayBe j y) i so_far.1 ((here y so_far.0).0 (omega arith))),
  λ all.
      let below = (before y).1 (all.0, λ j less. all.1 j (omega arith)) in
      let this = (here y all.0).1 (all.1 i (omega arith)) in
      omega arith,
)

-- what all the arcs of a node allow
pub allowed-all : (n : LayerGraph) (ray : Bool) (side : Side) (prices : List ℤ) (leeways : List ℕ) (v i y : ℕ)
    (ks : List ℕ) → ks ≡ limits_of side n.graph v → length ks ≤ i
    → (y ≤ MAX_LEEWAY) × ((j : ℕ) → j < i → ArcAllows n ray side prices leeways (get_or ks j 0) y)
    → IsAllowed n ray side prices leeways v y
allowed-all n ray side prices leeways v i y ks are past all = record {
  most = all.0;
  each_arc = λ k within own.
      let at = limits-all side n.graph v ks are k within own in
      let MayBe : ℕ → Type 0 = λ m. ArcAllows n ray side prices leeways m y in
      subst MayBe at.2 (all.1 at.0 (omega (arith, at.1)));
}

-- and the other way round
pub allowed-each : (n : LayerGraph) (ray : Bool) (side : Side) (prices : List ℤ) (leeways : List ℕ) (v i y : ℕ)
    (ks : List ℕ) → ks ≡ limits_of side n.graph v → i ≤ length ks → IsAllowed n ray side prices leeways v y
    → (y ≤ MAX_LEEWAY) × ((j : ℕ) → j < i → ArcAllows n ray side prices leeways (get_or ks j 0) y)
allowed-each n ray side prices leeways v i y ks are within allowed = (
  allowed.most,
  λ j below.
      let at = limits-arc side n.graph v ks are j (omega arith) in
      allowed.each_arc (get_or ks j 0) at.0 at.1,
)

-- what an arc allows, it allows where it may allow more
allows-≤ : (kind : ArcKind) (most more : ℤ) (y : ℕ) → most ≤ℤ more → Allows kind most y → Allows kind more y
allows-≤ (Trip i) most more y less is = is
allows-≤ Waiting most more y less is = omega (arith, ints)
allows-≤ Deadhead most more y less is = omega (arith, ints)
allows-≤ PullOut most more y less is = omega (arith, ints)
allows-≤ PullIn most more y less is = omega (arith, ints)
allows-≤ RestIn most more y less is = omega (arith, ints)
allows-≤ RestWait most more y less is = omega (arith, ints)
allows-≤ RestOut most more y less is = omega (arith, ints)
allows-≤ Return most more y less is = tt

-- no leeway is always allowed
allows-none : (kind : ArcKind) (most : ℤ) → (IsEmptyMove kind → pos 0 ≤ℤ most) → Allows kind most 0
allows-none (Trip i) most least = refl
allows-none Waiting most least = least tt
allows-none Deadhead most least = least tt
allows-none PullOut most least = least tt
allows-none PullIn most least = least tt
allows-none RestIn most least = least tt
allows-none RestWait most least = least tt
allows-none RestOut most least = least tt
allows-none Return most least = tt

module _ (n : LayerGraph) (ray : Bool) (side : Side) (prices : List ℤ) where
  -- none at any node
  pub none_at : (count w : ℕ) → slice_index (replicate count 0) w ≡ 0
  none_at count w =
      elim (cases_lt w count) [
        | inl within ↦ get_or-replicate count w 0 0 within
        | inr past ↦ get_or_past (replicate count 0) w 0 (omega (arith, length-replicate {A = ℕ} count 0))
      ]

  -- no leeway anywhere
  pub no-leeways : (count : ℕ) → count ≡ n.graph.nodes → AreMovePrices n ray prices
      → AreLeeways n ray side prices (replicate count 0)
  no-leeways count size moves = record {
    size = length-replicate {A = ℕ} count 0 ∙ size;
    allowed = λ v within. record {
      most = omega (arith, none_at count v);
      each_arc = λ k of_net own.
          let most = pos (slice_index (replicate count 0) (passing side (arc_of n.graph k)))
          +ℤ spare ray prices (arc_of n.graph k) in
          let MayBe : ℕ → Type 0 = λ y. Allows (kind_of n k) most y in
          subst MayBe (sym (none_at count v))
          (allows-none (kind_of n k) most
          (λ is.
          let worth = moves k of_net is in
          omega (arith, ints, worth, none_at count (passing side (arc_of n.graph k)))));
    };
    first = none_at count 0;
    last = none_at count (n.graph.nodes - 1);
  }

  module _ (leeways : List ℕ) (are : AreLeeways n ray side prices leeways) (v x : ℕ) (some : 0 < v)
      (more : v < n.graph.nodes - 1)
      (most : (y : ℕ) → y ≤ x ↔ IsAllowed n ray side prices leeways v y) where
    abbrev new : List ℕ
    new = set leeways v x

    here : slice_index new v ≡ x
    here = get_or-set_same leeways v x 0 (omega (arith, are.size))

    other : (w : ℕ) → w ≢ v → slice_index new w ≡ slice_index leeways w
    other w ne = get_or-set_other leeways v w x 0 ne

    rises : (w : ℕ) → slice_index leeways w ≤ slice_index new w
    rises w =
        elim (cases_eq w v) [
          | inl same ↦
              let own = (most (slice_index leeways v)).1 (are.allowed v (omega arith)) in
              let to_old = ap (λ (u : ℕ). slice_index leeways u) same in
              let to_new = ap (λ (u : ℕ). slice_index new u) same in
              omega (arith, own, here, to_old, to_new)
          | inr ne ↦ omega (arith, other w ne)
        ]

    kept : (w y : ℕ) → IsAllowed n ray side prices leeways w y → IsAllowed n ray side prices new w y
    kept w y allowed = record {
      most = allowed.most;
      each_arc = λ k of_net own.
          let a = arc_of n.graph k in
          let up = rises (passing side a) in
          allows-≤ (kind_of n k) (pos (slice_index leeways (passing side a)) +ℤ spare ray prices a)
          (pos (slice_index new (passing side a)) +ℤ spare ray prices a) y (omega (arith, ints, up))
          (allowed.each_arc k of_net own);
    }

    still_allowed : (w : ℕ) → w < n.graph.nodes → IsAllowed n ray side prices new w (slice_index new w)
    still_allowed w within =
        elim (cases_eq w v) [
          | inl same ↦
              let MayBe : ℕ → Type 0 = λ u. IsAllowed n ray side prices new u (slice_index new u) in
              let OfNode : ℕ → Type 0 = λ y. IsAllowed n ray side prices new v y in
              subst MayBe (sym same) (subst OfNode (sym here) (kept v x ((most x).0 (omega arith))))
          | inr ne ↦
              let OfNode : ℕ → Type 0 = λ y. IsAllowed n ray side prices new w y in
              subst OfNode (sym (other w ne)) (kept w (slice_index leeways w) (are.allowed w within))
        ]

    -- the leeway of one node is raised
    pub leeways-set : AreLeeways n ray side prices (set leeways v x)
    leeways-set = record {
      size = length-set leeways v x ∙ are.size;
      allowed = still_allowed;
      first = other 0 (omega arith) ∙ are.first;
      last = other (n.graph.nodes - 1) (omega arith) ∙ are.last;
    }
