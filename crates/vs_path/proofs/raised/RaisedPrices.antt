-- Prices raised by the distances from a node keep the sign rule.
use Rattle.std.proofs.Common.{◌≡◌, ◌⊎◌, ℕ, suc, ◌<◌, ◌∙◌, List, length, refl, sym, ap, subst, arith, inl, inr, Option, Some, None, ℤ, pos, ◌+ℤ◌, ◌-ℤ◌, ◌≤ℤ◌, FitsSigned, w64}
use Rattle.std.proofs.lemmas.Bool.{cases_lt}
use Rattle.std.proofs.lemmas.Int.{ints}
use Rattle.std.proofs.lemmas.List.{get_or_past}
use Rattle.vs_queue.specs.declared.step.Step.{Step}
use Rattle.vs_queue.specs.declared.step.Step.TheVariants.{Forward, Back}
use Rattle.vs_queue.specs.declared.node_table.Settled.{Settled}
use Rattle.vs_path.specs.declared.search.TheConstants.{MAX_SPAN, MOST_RAISED}
use Rattle.vs_path.specs.Residual.{ResidualNet, HasSignRule, IsOpen, IsResidual, from_of, to_of, price_at, reduced}
use Rattle.vs_path.specs.Labels.{Lists, AreLabels, IsNear, IsOver, IsSmall, settled_at, source_of}
use Rattle.vs_path.specs.LeastPaths.{cost_to}
use Rattle.vs_path.specs.Raising.{AreRaised, CanRaise, HasSpan, IsGreatest, IsRaised, IsRaisedAt, one_path, rise_of}
use Rattle.vs_path.proofs.labelling.Settling.{order-≤}
use Rattle.vs_path.proofs.labelling.StepCosts.{near-path, steps-few, steps-≤}
use Rattle.vs_path.proofs.found.Finding.{over-covers}
use Rattle.vs_path.proofs.found.Moving.{node-<}
use Rattle.vs_path.proofs.found.NotNegative.{not-negative}
use Rattle.vs_path.proofs.found.LeastCosts.{settled-label, least-cost}

-- both ends of a residual step are nodes
pub ends-< : (r : ResidualNet) (s : Step) → IsResidual r → IsOpen r s
    → (from_of r s < r.graph.nodes) × (to_of r s < r.graph.nodes)
ends-< r (Forward k) residual is_open =
    let arc = residual.net.each_arc k (omega (arith, is_open.arc, residual.arcs)) in (arc.from, arc.to)
ends-< r (Back k) residual is_open =
    let arc = residual.net.each_arc k (omega (arith, is_open.arc, residual.arcs)) in (arc.to, arc.from)

module _ (r : ResidualNet) (prices : List ℤ) (l : Lists) (beyond rise : ℤ) (small : IsSmall r prices)
    (span : HasSpan MAX_SPAN prices) (labels : AreLabels r prices l) (greatest : IsGreatest l beyond rise) where
  -- a distance is no more than a path costs, and by how much the source's price is above that of the node
  near-most : (v : ℕ) (a : Settled) → settled_at l v ≡ Some a
      → a.distance ≤ℤ (one_path r +ℤ (price_at prices (source_of l) -ℤ price_at prices v))
  near-most v a is =
      let near = labels.near v a is in
      let high = near.high in
      let place = (labels.are_listed.placed v a is).0 in
      let few = order-≤ r.graph.nodes l labels.are_listed in
      let more = steps-≤ r.graph.nodes a.place r.graph.nodes (omega arith) in
      omega (arith, ints, high, more)

  pub not-far : (rise ≡ beyond)
      ⊎ ((u : ℕ) × (u < r.graph.nodes) × (rise ≤ℤ
      (one_path r +ℤ (price_at prices (source_of l) -ℤ price_at prices u))))
  not-far = elim greatest.one [
    | inl same ↦ inl same
    | inr at ↦
        let near = near-most at.0 at.1 at.2 in
        let P : ℤ → Type 0 =
        λ z. z ≤ℤ (one_path r +ℤ (price_at prices (source_of l) -ℤ price_at prices at.0)) in
        inr (at.0, node-< r.graph.nodes l at.0 at.1 labels.are_listed at.2, subst P (sym at.3) near)
  ]

  -- no price rises by more than can be
  pub at-most : beyond ≤ℤ MOST_RAISED → rise ≤ℤ MOST_RAISED
  at-most few = elim not-far [
    | inl same ↦ omega (arith, ints, same)
    | inr at ↦
        let source = node-< r.graph.nodes l (source_of l) labels.source_is.0 labels.are_listed labels.source_is.1 in
        let sized = small.each_node in
        let apart = span (source_of l) at.0 (omega arith) (omega (arith, at.1)) in
        let most = at.2 in
        let path = steps-few r.graph.nodes r.graph.nodes (omega arith) in
        omega (arith, ints, apart, most, path)
  ]

  pub can-raise : pos 0 ≤ℤ beyond → beyond ≤ℤ MOST_RAISED → HasSignRule r prices → CanRaise l rise prices
  can-raise some few sign v within = go (settled_at l v) refl
    where
      go : (s : Option Settled) → settled_at l v ≡ s → FitsSigned w64 (price_at prices v +ℤ rise_of s rise)
      go None e =
          let p = small.each_price v in
          let most = at-most few in
          let least = greatest.no_less in
          omega (arith, ints, p.low, p.high, most, least)
      go (Some a) e =
          let p = small.each_price v in
          let q = small.each_price (source_of l) in
          let place = (labels.are_listed.placed v a e).0 in
          let order = order-≤ r.graph.nodes l labels.are_listed in
          let near =
          near-path r.graph.nodes prices (source_of l) a.place v a.distance (omega arith) (labels.near v a e) in
          omega (arith, ints, p.low, p.high, q.low, q.high, near.low, near.high)

module _ (r : ResidualNet) (prices surplus : List ℤ) (source : ℕ) (l : Lists) (over : IsOver r prices surplus source l)
    (sign : HasSignRule r prices) (residual : IsResidual r) (beyond rise : ℤ) (greatest : IsGreatest l beyond rise)
    (new : List ℤ) (sized : length prices ≡ r.graph.nodes) (sized_too : length new ≡ r.graph.nodes)
    (raised : AreRaised l rise prices new) where
  at-none : (v : ℕ) → v < r.graph.nodes → settled_at l v ≡ None → price_at new v ≡ price_at prices v +ℤ rise
  at-none v within e =
      raised v (omega (arith, sized)) ∙ ap (λ s. price_at prices v +ℤ rise_of s rise) e

  at-some : (v : ℕ) (a : Settled) → settled_at l v ≡ Some a → price_at new v ≡ price_at prices v +ℤ a.distance
  at-some v a e =
      let within = node-< r.graph.nodes l v a over.under_way.labels.are_listed e in
      raised v (omega (arith, sized)) ∙ ap (λ s. price_at prices v +ℤ rise_of s rise) e

  -- a step between nodes of which each is settled or not
  sign-at : (s : Step) → IsOpen r s → (a b : Option Settled) → settled_at l (from_of r s) ≡ a
      → settled_at l (to_of r s) ≡ b
      → pos 0 ≤ℤ reduced r new s
  sign-at s is_open None None from to =
      let ends = ends-< r s residual is_open in
      omega (arith, ints, sign s is_open, at-none (from_of r s) ends.0 from, at-none (to_of r s) ends.1 to)
  sign-at s is_open None (Some b) from to =
      let ends = ends-< r s residual is_open in
      let less = greatest.farthest (to_of r s) b to in
      omega (arith, ints, sign s is_open, at-none (from_of r s) ends.0 from, at-some (to_of r s) b to, less)
  sign-at s is_open (Some a) b from to =
      let covers =
      over-covers r prices surplus source l over (to_of r s) (a.distance +ℤ reduced r prices s)
      (over.under_way.relaxed (from_of r s) a s from is_open refl) in
      let at =
      settled-label r prices surplus source l over (to_of r s) covers.label covers.has (settled_at l (to_of r s))
      refl in
      let less = covers.no_more in
      let d = at.2 in
      omega (arith, ints, at-some (from_of r s) a from, at-some (to_of r s) at.0 at.1, less, d)

  pub raised-sign : HasSignRule r new
  raised-sign s is_open = sign-at s is_open (settled_at l (from_of r s)) (settled_at l (to_of r s)) refl refl

  pub raised-source : price_at new source ≡ price_at prices source
  raised-source =
      let from = over.under_way.labels.source_is in
      let d = from.2 in
      let P : ℕ → Type 0 = λ v. price_at new v ≡ price_at prices v in
      let own : price_at new (source_of l) ≡ price_at prices (source_of l) =
      omega (arith, ints, at-some (source_of l) from.0 from.1, d) in
      subst P over.under_way.from own

  -- a price rises, and by no more than the rise
  within : (v : ℕ) → (price_at prices v ≤ℤ price_at new v) × (price_at new v ≤ℤ (price_at prices v +ℤ rise))
  within v = elim (cases_lt v r.graph.nodes) [
    | inl inside ↦ go inside (settled_at l v) refl
    | inr past ↦
        let old = get_or_past prices v (pos 0) (omega (arith, sized)) in
        let now = get_or_past new v (pos 0) (omega (arith, sized_too)) in
        (omega (arith, ints, old, now), omega (arith, ints, old, now, least))
  ]
    where
      least : pos 0 ≤ℤ rise
      least =
          let from = over.under_way.labels.source_is in
          let d = from.2 in
          let more = greatest.farthest (source_of l) from.0 from.1 in
          omega (arith, ints, d, more)

      go : v < r.graph.nodes → (s : Option Settled) → settled_at l v ≡ s
          → (price_at prices v ≤ℤ price_at new v) × (price_at new v ≤ℤ (price_at prices v +ℤ rise))
      go inside None e = (
        omega (arith, ints, at-none v inside e, least),
        omega (arith, ints, at-none v inside e),
      )
      go inside (Some a) e =
          let more = not-negative r prices l over.under_way.labels sign (suc a.place) v a e (omega arith) in
          let less = greatest.farthest v a e in (
            omega (arith, ints, at-some v a e, more),
            omega (arith, ints, at-some v a e, less),
          )

  -- a price is raised to what a least path costs, or by the rise
  each : (v : ℕ) → v < r.graph.nodes → (s : Option Settled) → settled_at l v ≡ s
      → IsRaisedAt r source rise prices new v
  each v inside None e = record {
    cost = None;
    least = least-cost r prices surplus source l over v None e;
    few = tt;
    price = at-none v inside e;
  }
  each v inside (Some a) e =
      let labels = over.under_way.labels in
      let near : IsNear r.graph.nodes prices source a.place v a.distance =
      subst (λ (u : ℕ). IsNear r.graph.nodes prices u a.place v a.distance) over.under_way.from (labels.near v a e) in
      let place = (labels.are_listed.placed v a e).0 in
      let order = order-≤ r.graph.nodes l labels.are_listed in
      let more = steps-≤ r.graph.nodes a.place r.graph.nodes (omega arith) in
      record {
        cost = cost_to (Some a) (price_at prices source) (price_at prices v);
        least = least-cost r prices surplus source l over v (Some a) e;
        few = record { low = omega (arith, ints, near.low, more); high = omega (arith, ints, near.high, more) };
        price = omega (arith, ints, at-some v a e);
      }

  pub is-raised : IsSmall r prices → HasSpan MAX_SPAN prices → beyond ≤ℤ MOST_RAISED
      → IsRaised r source beyond prices new
  is-raised small span few =
      let labels = over.under_way.labels in
      let P : ℕ → Type 0 = λ s. (rise ≡ beyond)
      ⊎ ((u : ℕ) × (u < r.graph.nodes) × (rise ≤ℤ (one_path r +ℤ (price_at prices s -ℤ price_at prices u)))) in
      record {
        rise = rise;
        each = λ v inside. each v inside (settled_at l v) refl;
        rose = λ v. (within v).0;
        no_further = λ v. (within v).1;
        as_asked = greatest.no_less;
        not_far = subst P over.under_way.from (not-far r prices l beyond rise small span labels greatest);
        at_most = at-most r prices l beyond rise small span labels greatest few;
      }
