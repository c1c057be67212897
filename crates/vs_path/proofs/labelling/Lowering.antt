-- What is known of the nodes stays known where a step gives a node a lesser label.
use Rattle.std.proofs.Common.{◌≡◌, ◌≢◌, ℕ, ◌+◌, ◌*◌, ◌<◌, ◌≤◌, ◌∙◌, List, length, get_or, refl, sym, ap, subst, arith, inl, inr, Option, Some, None, ℤ, pos, ◌+ℤ◌, ◌≤ℤ◌, ◌<ℤ◌, length-set, FitsSigned, w64}
use Rattle.std.proofs.lemmas.Bool.{cases_eq, cases_lt}
use Rattle.std.proofs.lemmas.Int.{ints, by_lt_z}
use Rattle.std.proofs.lemmas.List.{get_or-set_same, get_or-set_other, get_or_default, get_or_past}
use Rattle.vs_queue.specs.declared.step.Step.{Step}
use Rattle.vs_queue.specs.declared.step.Step.TheVariants.{Forward, Back}
use Rattle.vs_path.specs.declared.labels.TheConstants.{NO_BOUND}
use Rattle.vs_path.specs.declared.residual.Way.TheVariants as way
use Rattle.vs_queue.specs.declared.node_table.Settled.{Settled}
use Rattle.vs_queue.specs.Keys.{IsBelow}
use Rattle.vs_path.specs.Residual.{ResidualNet, IsOpen, IsWithin, AllWithin, HasSignRule, from_of, to_of, cost_of, price_at, reduced}
use Rattle.vs_path.specs.declared.residual.TheConstants.{MAX_STEP_COST}
use Rattle.vs_path.specs.StepCosts.{most_step}
use Rattle.vs_path.proofs.labelling.Settling.{order-≤}
use Rattle.vs_path.proofs.labelling.StepCosts.{near-path, step-within, steps-≤}
use Rattle.vs_queue.specs.NodeLists.{label_of}
use Rattle.vs_path.specs.Labels.{Lists, AreLabels, IsArrival, Covers, IsBetter, IsBound, IsFarthest, IsLowered, IsNear, IsRelaxed, IsRelaxedAlong, IsRelaxedFrom, IsSettledAt, IsSmall, Relaxes, label_at, lowered, settled_at, source_of, step_at, waiting_at}

-- where a number isn't less than one that may be there, that one is there, and no greater
pub not-less : (known : Option ℤ) (label : ℤ) → (((key : ℤ) → known ≡ Some key → label <ℤ key) → ⊥)
    → (key : ℤ) × (known ≡ Some key) × (key ≤ℤ label)
not-less None label worse = absurd (worse (λ key has. absurd (cc)))
not-less (Some key) label worse =
    by_lt_z label key
    (λ less. absurd (worse (λ other has. let same : key ≡ other = cc in subst (λ (k : ℤ). label <ℤ k) same less)))
    (λ no_less. (key, refl, no_less))

-- a step costs no more than an arc can
pub cost-within : (r : ResidualNet) (most : ℤ) (s : Step) → AllWithin most r.cost → IsWithin most (cost_of r s)
cost-within r most (Forward k) costs = costs k
cost-within r most (Back k) costs =
    let c = costs k in record { low = omega (arith, ints, c.low, c.high); high = omega (arith, ints, c.low, c.high) }

-- a step more adds no more than that
pub near-step : (r : ResidualNet) (prices : List ℤ) (source place count : ℕ) (s : Step) (distance : ℤ)
    → AllWithin (pos (most_step r.graph.nodes)) r.cost → place < count
    → IsNear r.graph.nodes prices source place (from_of r s) distance
    → IsNear r.graph.nodes prices source count (to_of r s) (distance +ℤ reduced r prices s)
near-step r prices source place count s distance costs less near =
    let most : ℕ = most_step r.graph.nodes in
    let c = cost-within r (pos most) s costs in
    let further : (place + 1) * most ≤ count * most = steps-≤ r.graph.nodes (place + 1) count (omega arith) in
    record {
      low = omega (arith, ints, c.low, c.high, near.low, near.high, further);
      high = omega (arith, ints, c.low, c.high, near.low, near.high, further);
    }

-- a label fits 64 bits
pub near-fits : (r : ResidualNet) (prices : List ℤ) (source count v : ℕ) (label : ℤ) → IsSmall r prices
    → count ≤ r.graph.nodes → IsNear r.graph.nodes prices source count v label → FitsSigned w64 label
near-fits r prices source count v label small few is_near =
    let near = near-path r.graph.nodes prices source count v label few is_near in
    let p = small.each_price v in
    let q = small.each_price source in
    omega (arith, ints, p.low, p.high, q.low, q.high, near.low, near.high)

-- so does the distance along a step, and its two parts
pub along-fits : (r : ResidualNet) (prices : List ℤ) (l : Lists) (s : Step) (distance : ℤ) → IsSmall r prices
    → AreLabels r prices l → IsSettledAt l (from_of r s) distance
    → FitsSigned w64 distance × FitsSigned w64 (distance +ℤ reduced r prices s)
along-fits r prices l s distance small labels from =
    let near : IsNear r.graph.nodes prices (source_of l) from.0.place (from_of r s) distance =
    subst (λ (d : ℤ). IsNear r.graph.nodes prices (source_of l) from.0.place (from_of r s) d) from.2
    (labels.near (from_of r s) from.0 from.1) in
    let less : from.0.place < length l.order = (labels.are_listed.placed (from_of r s) from.0 from.1).0 in
    let few = order-≤ r.graph.nodes l labels.are_listed in (
      near-fits r prices (source_of l) from.0.place (from_of r s) distance small (omega arith) near,
      near-fits r prices (source_of l) (length l.order) (to_of r s) (distance +ℤ reduced r prices s) small few
          (near-step r prices (source_of l) from.0.place (length l.order) s distance small.cost less near),
    )

-- and the distance along a step is less than no bound
pub along-few : (r : ResidualNet) (prices : List ℤ) (l : Lists) (s : Step) (distance : ℤ) → IsSmall r prices
    → AreLabels r prices l → IsSettledAt l (from_of r s) distance → (distance +ℤ reduced r prices s) <ℤ NO_BOUND
along-few r prices l s distance small labels from =
    let near : IsNear r.graph.nodes prices (source_of l) from.0.place (from_of r s) distance =
    subst (λ (d : ℤ). IsNear r.graph.nodes prices (source_of l) from.0.place (from_of r s) d) from.2
    (labels.near (from_of r s) from.0 from.1) in
    let less : from.0.place < length l.order = (labels.are_listed.placed (from_of r s) from.0 from.1).0 in
    let few = order-≤ r.graph.nodes l labels.are_listed in
    let then = near-path r.graph.nodes prices (source_of l) (length l.order) (to_of r s)
    (distance +ℤ reduced r prices s)
    few (near-step r prices (source_of l) from.0.place (length l.order) s distance small.cost less near) in
    let p = small.each_price (to_of r s) in
    let q = small.each_price (source_of l) in
    omega (arith, ints, p.low, p.high, q.low, q.high, then.low, then.high)

-- so do the distance with the price of its node, and both with what the step costs
pub parts-fit : (r : ResidualNet) (prices : List ℤ) (l : Lists) (s : Step) (distance : ℤ) → IsSmall r prices
    → AreLabels r prices l → IsSettledAt l (from_of r s) distance
    → FitsSigned w64 (distance +ℤ price_at prices (from_of r s))
    × FitsSigned w64 ((distance +ℤ price_at prices (from_of r s)) +ℤ cost_of r s)
parts-fit r prices l s distance small labels from =
    let near : IsNear r.graph.nodes prices (source_of l) from.0.place (from_of r s) distance =
    subst (λ (d : ℤ). IsNear r.graph.nodes prices (source_of l) from.0.place (from_of r s) d) from.2
    (labels.near (from_of r s) from.0 from.1) in
    let less : from.0.place < length l.order = (labels.are_listed.placed (from_of r s) from.0 from.1).0 in
    let few = order-≤ r.graph.nodes l labels.are_listed in
    let source = small.each_price (source_of l) in
    let path = near-path r.graph.nodes prices (source_of l) from.0.place (from_of r s) distance (omega arith) near in
    let c = cost-within r MAX_STEP_COST s (step-within r.graph.nodes r.cost small.cost) in (
      omega (arith, ints, source.low, source.high, path.low, path.high),
      omega (arith, ints, source.low, source.high, path.low, path.high, c.low, c.high),
    )

module _ (r : ResidualNet) (prices surplus : List ℤ) (l : Lists) (labels : AreLabels r prices l)
    (sign : HasSignRule r prices) (step : Step) (distance label : ℤ) (from : IsSettledAt l (from_of r step) distance)
    (farthest : IsFarthest l distance) (is_open : IsOpen r step)
    (sum : label ≡ distance +ℤ reduced r prices step) where
  abbrev v : ℕ
  v = to_of r step

  -- a label that is there already is no greater
  pub relaxed_already : (key : ℤ) → label_at l v ≡ Some key → key ≤ℤ label
      → IsRelaxed r prices surplus l (from_of r step) distance step
  relaxed_already key has less is_open' from' = record {
    node = v;
    which = inl refl;
    covers = record { label = key; has = has; no_more = subst (λ (b : ℤ). key ≤ℤ b) sum less };
  }

  -- one that is no less than that of a node that lacks a unit is of no use
  pub relaxed_past : (bound : ℤ) → IsBound surplus l bound → bound ≤ℤ label → label <ℤ NO_BOUND
      → IsRelaxed r prices surplus l (from_of r step) distance step
  relaxed_past bound is past few is_open' from' =
      let at = is (omega (arith, ints, past, few)) in
      record {
        node = at.0;
        which = inr at.1;
        covers = record {
          label = at.2.label;
          has = at.2.has;
          no_more = omega (arith, ints, at.2.no_more, past, sum);
        };
      }

  -- one that isn't less than what is there changes nothing
  pub relaxed_worse : (IsBelow label (label_at l v) → ⊥)
      → IsRelaxed r prices surplus l (from_of r step) distance step
  relaxed_worse worse = let known = not-less (label_at l v) label worse in relaxed_already known.0 known.1 known.2

  -- the distance along the step is no less than those of the settled nodes
  above : (w : ℕ) (a : Settled) → settled_at l w ≡ Some a → a.distance ≤ℤ label
  above w a is = omega (arith, ints, sum, sign step is_open, farthest w a is)

  -- where the node is farther it isn't settled
  pub farther-unsettled : IsBelow label (label_at l v) → settled_at l v ≡ None
  farther-unsettled below = go (settled_at l v) refl
    where
      go : (known : Option Settled) → settled_at l v ≡ known → settled_at l v ≡ None
      go None is = is
      go (Some a) is =
          let less = below a.distance (ap (λ s. label_of s (waiting_at l v)) is) in
          absurd (omega (arith, ints, less, above v a is))

  -- and waits by a greater key, if it waits
  pub farther-better : IsBelow label (label_at l v) → IsBetter l v label
  farther-better below key has =
      below key (ap (λ s. label_of s (waiting_at l v)) (farther-unsettled below) ∙ has)

  module _ (small : IsSmall r prices) (inside : v < r.graph.nodes) (unsettled : settled_at l v ≡ None)
      (better : IsBetter l v label) where
    abbrev new : Lists
    new = lowered l v label step

    here : waiting_at new v ≡ Some label
    here = get_or-set_same l.waiting v (Some label) None (omega (arith, labels.are_listed.waiting))

    other : (w : ℕ) → w ≢ v → waiting_at new w ≡ waiting_at l w
    other w ne = get_or-set_other l.waiting v w (Some label) None (λ e. ne e)

    step_here : step_at new v ≡ Some step
    step_here = get_or-set_same l.steps v (Some step) None (omega (arith, labels.are_listed.steps))

    step_other : (w : ℕ) → w ≢ v → step_at new w ≡ step_at l w
    step_other w ne = get_or-set_other l.steps v w (Some step) None (λ e. ne e)

    arrival_other : (place w : ℕ) (d : ℤ) → w ≢ v → IsArrival r prices l place w d → IsArrival r prices new place w d
    arrival_other place w d ne a = record {
      step = a.step;
      is = step_other w ne ∙ a.is;
      is_open = a.is_open;
      to = a.to;
      from = a.from;
      from_is = a.from_is;
      before = a.before;
      sum = a.sum;
    }

    place-< : from.0.place < length l.order
    place-< = (labels.are_listed.placed (from_of r step) from.0 from.1).0

    arrival_here : IsArrival r prices new (length l.order) v label
    arrival_here = record {
      step = step;
      is = step_here;
      is_open = is_open;
      to = refl;
      from = from.0;
      from_is = from.1;
      before = place-<;
      sum = sum ∙ ap (λ (d : ℤ). d +ℤ reduced r prices step) (sym from.2);
    }

    near_here : IsNear r.graph.nodes prices (source_of l) (length l.order) v label
    near_here =
        let near : IsNear r.graph.nodes prices (source_of l) from.0.place (from_of r step) distance =
        subst (λ (d : ℤ). IsNear r.graph.nodes prices (source_of l) from.0.place (from_of r step) d) from.2
        (labels.near (from_of r step) from.0 from.1) in
        subst (λ (d : ℤ). IsNear r.graph.nodes prices (source_of l) (length l.order) v d) (sym sum)
        (near-step r prices (source_of l) from.0.place (length l.order) step distance small.cost place-< near)

    -- what a waiting node has, at the node of the step and at any other
    at : (P : ℕ → ℤ → Type 0) → P v label
        → ((w : ℕ) (key : ℤ) → w ≢ v → waiting_at l w ≡ Some key → P w key)
        → (w : ℕ) (key : ℤ) → waiting_at new w ≡ Some key → P w key
    at P at_v at_w w key has =
        elim (cases_eq w v) [
          | inl same ↦
              let e : Some label ≡ Some key = sym here ∙ ap (waiting_at new) (sym same) ∙ has in
              let k : label ≡ key = cc in
              let Q : ℤ → Type 0 = P w in
              let R : ℕ → Type 0 = λ u. P u label in
              subst Q k (subst R (sym same) at_v)
          | inr ne ↦ at_w w key ne (sym (other w ne) ∙ has)
        ]

    pub lowered_labels : AreLabels r prices new
    lowered_labels = record {
      are_listed = record {
        settled = labels.are_listed.settled;
        waiting = length-set l.waiting v (Some label) ∙ labels.are_listed.waiting;
        steps = length-set l.steps v (Some step) ∙ labels.are_listed.steps;
        count = labels.are_listed.count;
        listed = labels.are_listed.listed;
        placed = labels.are_listed.placed;
      };
      some = labels.some;
      source_is = labels.source_is;
      arrived = λ w a is away.
          arrival_other a.place w a.distance (λ same. settled_apart w a is same) (labels.arrived w a is away);
      near = labels.near;
      unsettled = at (λ w key. settled_at l w ≡ None) unsettled (λ w key ne has. labels.unsettled w key has);
      arrives = at (λ w key. IsArrival r prices new (length l.order) w key) arrival_here
          (λ w key ne has. arrival_other (length l.order) w key ne (labels.arrives w key has));
      near_too = at (λ w key. IsNear r.graph.nodes prices (source_of l) (length l.order) w key) near_here
          (λ w key ne has. labels.near_too w key has);
      ordered = λ u w a key is has.
          at (λ w key. a.distance ≤ℤ key) (above u a is) (λ w key ne has. labels.ordered u w a key is has) w key has;
    }
      where
        settled_apart : (w : ℕ) (a : Settled) → settled_at l w ≡ Some a → w ≡ v → ⊥
        settled_apart w a is same =
            let e : settled_at l w ≡ None = ap (settled_at l) same ∙ unsettled in cc

    label_here : label_at new v ≡ Some label
    label_here = ap (λ s. label_of s (waiting_at new v)) unsettled ∙ here

    pub is_lowered : IsLowered l new
    is_lowered = record {
      settled = refl;
      order = refl;
      covers = λ w bound covers.
          elim (cases_eq w v) [
            | inl same ↦
                let old : waiting_at l v ≡ Some covers.label =
                ap (λ s. label_of s (waiting_at l v)) (sym unsettled) ∙ ap (label_at l) (sym same) ∙ covers.has in
                record {
                  label = label;
                  has = ap (label_at new) same ∙ label_here;
                  no_more = omega (arith, ints, better covers.label old, covers.no_more);
                }
            | inr ne ↦ record {
              label = covers.label;
              has = ap (λ k. label_of (settled_at l w) k) (other w ne) ∙ covers.has;
              no_more = covers.no_more;
            }
          ];
    }

    pub lowered_relaxed : IsRelaxed r prices surplus new (from_of r step) distance step
    lowered_relaxed is_open' from' = record {
      node = v;
      which = inl refl;
      covers = record { label = label; has = label_here; no_more = omega (arith, ints, sum) };
    }

    pub covers_here : Covers new v label
    covers_here = record { label = label; has = label_here; no_more = omega (arith, ints) }

    pub relaxes_lowered : Relaxes r prices surplus step distance l new
    relaxes_lowered = record { labels = lowered_labels; lowered = is_lowered; relaxed = lowered_relaxed }

pub lowered-same : (l : Lists) → IsLowered l l
lowered-same l = record { settled = refl; order = refl; covers = λ v bound covers. covers }

pub lowered-on : (a b c : Lists) → IsLowered a b → IsLowered b c → IsLowered a c
lowered-on a b c ab bc = record {
  settled = bc.settled ∙ ab.settled;
  order = bc.order ∙ ab.order;
  covers = λ v bound covers. bc.covers v bound (ab.covers v bound covers);
}

-- what is settled stays so
pub lowered-settled : (old after : Lists) (v : ℕ) (distance : ℤ) → IsLowered old after → IsSettledAt old v distance
    → IsSettledAt after v distance
lowered-settled old after v distance low is =
    (is.0, ap (λ (settled : List (Option Settled)). get_or settled v None) low.settled ∙ is.1, is.2)

-- a step that is relaxed stays so
pub lowered-relaxed : (r : ResidualNet) (prices surplus : List ℤ) (old after : Lists) (u : ℕ) (distance : ℤ) (s : Step)
    → IsLowered old after → IsRelaxed r prices surplus old u distance s → IsRelaxed r prices surplus after u distance s
lowered-relaxed r prices surplus old after u distance s low relaxed is_open from =
    let before = relaxed is_open from in
    record {
      node = before.node;
      which = before.which;
      covers = low.covers before.node (distance +ℤ reduced r prices s) before.covers;
    }

-- the steps that go either way are all
pub both_ways : (r : ResidualNet) (prices surplus : List ℤ) (half new : Lists) (u : ℕ) (distance : ℤ)
    → IsRelaxedAlong r prices surplus half u distance way.Forward → IsLowered half new
    → IsRelaxedAlong r prices surplus new u distance way.Back → IsRelaxedFrom r prices surplus new u distance
both_ways r prices surplus half new u distance forward lowered back = record { each = each }
  where
    each : (s : Step) → IsRelaxed r prices surplus new u distance s
    each (Forward k) = lowered-relaxed r prices surplus half new u distance (Forward k) lowered (forward.each k)
    each (Back k) = back.each k

-- a read of what may be there
pub read_at : {X : Type 0} (xs : List (Option X)) (i : ℕ) (o : Option X) → i < length xs → o ≡ get_or xs i o
    → get_or xs i None ≡ o
read_at xs i o within is = get_or_default xs i None o within ∙ sym is

-- what is there stands within the list
pub some_within : {X : Type 0} (xs : List (Option X)) (i : ℕ) (x : X) → get_or xs i None ≡ Some x → i < length xs
some_within xs i x is =
    elim (cases_lt i (length xs)) [
      | inl within ↦ within
      | inr past ↦ let e : None ≡ Some x = sym (get_or_past xs i None past) ∙ is in absurd (cc)
    ]
