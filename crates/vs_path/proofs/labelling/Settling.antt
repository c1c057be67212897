-- What is known of the nodes stays known where the one that waits with the least key is settled.
use Rattle.std.proofs.Common.{◌≡◌, ◌≢◌, ℕ, zero, suc, ◌+◌, ◌<◌, ◌≤◌, ◌∙◌, List, [], ◌∷◌, length, set, get_or, refl, sym, ap, subst, arith, inl, inr, Option, Some, None, ℤ, ◌+ℤ◌, pos, ◌≤ℤ◌, length-set, length-append}
use Rattle.std.proofs.Math.ListN.{get_or-append}
use Rattle.std.proofs.lemmas.Bool.{cases_eq, cases_lt}
use Rattle.std.proofs.lemmas.Int.{ints}
use Rattle.std.proofs.lemmas.List.{get_or-set_same, get_or-set_other, get_or_push}
use Rattle.vs_queue.specs.declared.step.Step.{Step}
use Rattle.vs_queue.specs.declared.node_table.Settled.{Settled}
use Rattle.vs_queue.specs.Keys.{IsLeast}
use Rattle.vs_path.specs.Residual.{ResidualNet, from_of, reduced}
use Rattle.vs_queue.specs.NodeLists.{label_of}
use Rattle.vs_path.specs.Labels.{Lists, AreLabels, AreListed, Covers, IsArrival, IsBound, IsFarthest, IsNear, IsRelaxed, count_settled, label_at, settle_in, settled_at, source_of, waiting_at}
use Rattle.vs_path.proofs.labelling.StepCosts.{steps-≤}

-- one more is settled
pub count_settled-set : (settled : List (Option Settled)) (v : ℕ) (a : Settled) → v < length settled
    → get_or settled v None ≡ None → count_settled (set settled v (Some a)) ≡ count_settled settled + 1
count_settled-set [] v a within none = absurd (omega arith)
count_settled-set (None ∷ settled) zero a within none = refl
count_settled-set (Some b ∷ settled) zero a within none = absurd (cc)
count_settled-set (None ∷ settled) (suc v) a within none = count_settled-set settled v a (omega arith) none
count_settled-set (Some b ∷ settled) (suc v) a within none =
    ap (λ n. n + 1) (count_settled-set settled v a (omega arith) none)

module _ (r : ResidualNet) (prices : List ℤ) (l : Lists) (labels : AreLabels r prices l) (v : ℕ) (key : ℤ)
    (least : IsLeast l.waiting v key) (within : v < r.graph.nodes) where
  abbrev own : Settled
  own = record { distance = key; place = length l.order }

  abbrev new : Lists
  new = settle_in l v key

  unsettled : settled_at l v ≡ None
  unsettled = labels.unsettled v key least.has

  pub settled_here : settled_at new v ≡ Some own
  settled_here = get_or-set_same l.settled v (Some own) None (omega (arith, labels.are_listed.settled))

  pub settled_other : (w : ℕ) → w ≢ v → settled_at new w ≡ settled_at l w
  settled_other w ne = get_or-set_other l.settled v w (Some own) None (λ e. ne e)

  waiting_here : waiting_at new v ≡ None
  waiting_here = get_or-set_same l.waiting v None None (omega (arith, labels.are_listed.waiting))

  waiting_other : (w : ℕ) → w ≢ v → waiting_at new w ≡ waiting_at l w
  waiting_other w ne = get_or-set_other l.waiting v w None None (λ e. ne e)

  apart : (w : ℕ) (a : Settled) → settled_at l w ≡ Some a → w ≢ v
  apart w a is same = let e : settled_at l w ≡ None = ap (settled_at l) same ∙ unsettled in absurd (cc)

  still : (w : ℕ) (a : Settled) → settled_at l w ≡ Some a → settled_at new w ≡ Some a
  still w a is = settled_other w (apart w a is) ∙ is

  pub source_same : source_of new ≡ source_of l
  source_same = get_or-append l.order (v ∷ []) 0 0 labels.some

  arrival_kept : (place w : ℕ) (d : ℤ) → IsArrival r prices l place w d → IsArrival r prices new place w d
  arrival_kept place w d a = record {
    step = a.step;
    is = a.is;
    is_open = a.is_open;
    to = a.to;
    from = a.from;
    from_is = still (from_of r a.step) a.from a.from_is;
    before = a.before;
    sum = a.sum;
  }

  arrival_later : (place later w : ℕ) (d : ℤ) → place ≤ later → IsArrival r prices l place w d
      → IsArrival r prices new later w d
  arrival_later place later w d le a = record {
    step = a.step;
    is = a.is;
    is_open = a.is_open;
    to = a.to;
    from = a.from;
    from_is = still (from_of r a.step) a.from a.from_is;
    before = let before = a.before in omega arith;
    sum = a.sum;
  }

  near_later : (place later w : ℕ) (d : ℤ) → place ≤ later → IsNear r.graph.nodes prices (source_of l) place w d
      → IsNear r.graph.nodes prices (source_of new) later w d
  near_later place later w d le near =
      let more = steps-≤ r.graph.nodes place later le in
      subst (λ (s : ℕ). IsNear r.graph.nodes prices s later w d) (sym source_same)
      (record { low = omega (arith, ints, near.low, more); high = omega (arith, ints, near.high, more) })

  -- what a settled node has, at the new one and at any other
  at_settled : (P : ℕ → Settled → Type 0) → P v own
      → ((w : ℕ) (a : Settled) → settled_at l w ≡ Some a → P w a)
      → (w : ℕ) (a : Settled) → settled_at new w ≡ Some a → P w a
  at_settled P at_v at_w w a is =
      elim (cases_eq w v) [
        | inl same ↦
            let e : Some own ≡ Some a = sym settled_here ∙ ap (settled_at new) (sym same) ∙ is in
            let k : own ≡ a = cc in
            let Q : Settled → Type 0 = P w in
            let R : ℕ → Type 0 = λ u. P u own in
            subst Q k (subst R (sym same) at_v)
        | inr ne ↦ at_w w a (sym (settled_other w ne) ∙ is)
      ]

  -- what still waits waited before, and is another node
  waited : (w : ℕ) (k : ℤ) → waiting_at new w ≡ Some k → (w ≢ v) × (waiting_at l w ≡ Some k)
  waited w k is =
      elim (cases_eq w v) [
        | inl same ↦
            let e : None ≡ Some k = sym waiting_here ∙ ap (waiting_at new) (sym same) ∙ is in absurd (cc)
        | inr ne ↦ (ne, sym (waiting_other w ne) ∙ is)
      ]

  grown : length new.order ≡ length l.order + 1
  grown = length-append l.order (v ∷ [])

  pub settled_labels : AreLabels r prices new
  settled_labels = record {
    are_listed = record {
      settled = length-set l.settled v (Some own) ∙ labels.are_listed.settled;
      waiting = length-set l.waiting v None ∙ labels.are_listed.waiting;
      steps = labels.are_listed.steps;
      count = grown ∙ ap (λ n. n + 1) labels.are_listed.count
          ∙ sym (count_settled-set l.settled v own (omega (arith, labels.are_listed.settled)) unsettled);
      listed = listed;
      placed = at_settled (λ w a. (a.place < length new.order) × (get_or new.order a.place 0 ≡ w))
          (omega (arith, grown), get_or_push l.order v 0 (length l.order) refl)
          (λ w a is.
          let p = labels.are_listed.placed w a is in
          (omega (arith, grown, p.0), get_or-append l.order (v ∷ []) 0 a.place p.0 ∙ p.1));
    };
    some = omega (arith, grown);
    source_is = (
      labels.source_is.0,
      ap (settled_at new) source_same ∙ still (source_of l) labels.source_is.0 labels.source_is.1,
      labels.source_is.2,
    );
    arrived = at_settled (λ w a. w ≢ source_of new → IsArrival r prices new a.place w a.distance)
        (λ away. arrival_kept (length l.order) v key (labels.arrives v key least.has))
        (λ w a is away. arrival_kept a.place w a.distance (labels.arrived w a is (λ e. away (e ∙ sym source_same))));
    near = at_settled (λ w a. IsNear r.graph.nodes prices (source_of new) a.place w a.distance)
        (near_later (length l.order) (length l.order) v key (omega arith) (labels.near_too v key least.has))
        (λ w a is. near_later a.place a.place w a.distance (omega arith) (labels.near w a is));
    unsettled = λ w k is. let old = waited w k is in settled_other w old.0 ∙ labels.unsettled w k old.1;
    arrives = λ w k is.
        let old = waited w k is in
        arrival_later (length l.order) (length new.order) w k (omega (arith, grown)) (labels.arrives w k old.1);
    near_too = λ w k is.
        let old = waited w k is in
        near_later (length l.order) (length new.order) w k (omega (arith, grown)) (labels.near_too w k old.1);
    ordered = λ u w a k is has.
        let old = waited w k has in
        at_settled (λ u a. a.distance ≤ℤ k) (least.least w k old.1) (λ u a is'. labels.ordered u w a k is' old.1) u a
        is;
  }
    where
      listed : (i : ℕ) → i < length new.order
          → (a : Settled) × (settled_at new (get_or new.order i 0) ≡ Some a) × (a.place ≡ i)
      listed i inside =
          elim (cases_lt i (length l.order)) [
            | inl old ↦
                let is = labels.are_listed.listed i old in (
                  is.0,
                  ap (settled_at new) (get_or-append l.order (v ∷ []) 0 i old)
                      ∙ still (get_or l.order i 0) is.0 is.1,
                  is.2,
                )
            | inr last ↦
                let e : length l.order ≡ i = omega (arith, grown, inside) in
                (own, ap (settled_at new) (get_or_push l.order v 0 i e) ∙ settled_here, e)
          ]

  -- no label changes
  pub label_same : (w : ℕ) → label_at new w ≡ label_at l w
  label_same w =
      elim (cases_eq w v) [
        | inl same ↦
            let here : label_at new v ≡ Some key = ap (λ a. label_of a (waiting_at new v)) settled_here in
            let there : label_at l v ≡ Some key =
            ap (λ a. label_of a (waiting_at l v)) unsettled ∙ least.has in
            ap (label_at new) same ∙ here ∙ sym there ∙ ap (label_at l) (sym same)
        | inr ne ↦
            ap (λ a. label_of a (waiting_at new w)) (settled_other w ne)
            ∙ ap (λ k. label_of (settled_at l w) k) (waiting_other w ne)
      ]

  -- the node is the farthest
  pub settled_farthest : IsFarthest new key
  settled_farthest =
      at_settled (λ w a. a.distance ≤ℤ key) (omega (arith, ints)) (λ w a is. labels.ordered w v a key is least.has)

  settled_covers : (w : ℕ) (bound : ℤ) → Covers l w bound → Covers new w bound
  settled_covers w bound covers = record {
    label = covers.label;
    has = label_same w ∙ covers.has;
    no_more = covers.no_more;
  }

  -- what was relaxed is
  pub settled_relaxed : (surplus : List ℤ) → ((u : ℕ) (a : Settled) (s : Step) → settled_at l u ≡ Some a
      → IsRelaxed r prices surplus l u a.distance s)
      → (u : ℕ) (a : Settled) (s : Step) → settled_at new u ≡ Some a → u ≢ v
      → IsRelaxed r prices surplus new u a.distance s
  settled_relaxed surplus relaxed u a s is ne is_open from =
      let before = relaxed u a s (sym (settled_other u ne) ∙ is) is_open from in
      record {
        node = before.node;
        which = before.which;
        covers = settled_covers before.node (a.distance +ℤ reduced r prices s) before.covers;
      }

  -- a bound stays one
  pub settled_bound : (surplus : List ℤ) (bound : ℤ) → IsBound surplus l bound → IsBound surplus new bound
  settled_bound surplus bound is less = let at = is less in (at.0, at.1, settled_covers at.0 bound at.2)

count_settled-≤ : (settled : List (Option Settled)) → count_settled settled ≤ length settled
count_settled-≤ [] = omega arith
count_settled-≤ (None ∷ settled) = omega (arith, count_settled-≤ settled)
count_settled-≤ (Some a ∷ settled) = omega (arith, count_settled-≤ settled)

-- where a node isn't settled, fewer are than there are
pub room-left : (nodes : ℕ) (l : Lists) → AreListed nodes l → (v : ℕ) → settled_at l v ≡ None → v < nodes
    → length l.order < nodes
room-left nodes l listed v empty within =
    let a : Settled = record { distance = pos 0; place = 0 } in
    let more = count_settled-set l.settled v a (omega (arith, listed.settled)) empty in
    let all = count_settled-≤ (set l.settled v (Some a)) in
    omega (arith, more, all, listed.count, listed.settled, length-set l.settled v (Some a))

-- no more nodes stand in the order than there are
pub order-≤ : (nodes : ℕ) (l : Lists) → AreListed nodes l → length l.order ≤ nodes
order-≤ nodes l listed = omega (arith, count_settled-≤ l.settled, listed.count, listed.settled)
