-- A search from its beginning on.
use Rattle.std.proofs.Common.{◌≡◌, ◌≢◌, ℕ, zero, suc, ◌<◌, ◌∙◌, List, [], ◌∷◌, ◌++◌, length, set, get_or, replicate, refl, sym, ap, subst, arith, inl, inr, Option, Some, None, ℤ, pos, ◌≤ℤ◌, length-set}
use Rattle.std.proofs.lemmas.Bool.{cases_eq}
use Rattle.std.proofs.lemmas.Int.{ints}
use Rattle.std.proofs.lemmas.List.{get_or-set_same, get_or-set_other, length-replicate}
use Rattle.vs_queue.specs.declared.step.Step.{Step}
use Rattle.vs_queue.specs.declared.node_table.Settled.{Settled}
use Rattle.vs_queue.specs.Keys.{Keys, IsLeast}
use Rattle.vs_path.specs.Residual.{ResidualNet}
use Rattle.vs_path.specs.Labels.{Lists, AreLabels, AreListed, AreFresh, AreRelaxedBut, IsBound, IsFarthest, IsLowered, IsNear, IsReached, IsRelaxed, IsSettledAt, IsUnderWay, Lacks, count_settled, settle_in, settled_at, source_of, waiting_at}
use Rattle.vs_path.proofs.labelling.Lowering.{lowered-relaxed, lowered-settled}
use Rattle.vs_path.proofs.labelling.Settling.{count_settled-set, settled_labels, settled_bound, settled_relaxed, settled_farthest, settled_here, settled_other, source_same}

pub get_or-none : {X : Type 0} (n i : ℕ) → get_or (replicate {A = Option X} n None) i None ≡ None
get_or-none zero i = refl
get_or-none (suc n) zero = refl
get_or-none (suc n) (suc i) = get_or-none n i

count_settled-none : (n : ℕ) → count_settled (replicate n None) ≡ 0
count_settled-none zero = refl
count_settled-none (suc n) = count_settled-none n

pub lists-same : (a b : Lists) → a.settled ≡ b.settled → a.waiting ≡ b.waiting → a.steps ≡ b.steps
    → a.order ≡ b.order → a ≡ b
lists-same a b settled waiting steps order =
    ap (λ s. record { settled = s; waiting = a.waiting; steps = a.steps; order = a.order }) settled
    ∙ ap (λ (k : Keys). record { settled = b.settled; waiting = k; steps = a.steps; order = a.order }) waiting
    ∙ ap (λ s. record { settled = b.settled; waiting = b.waiting; steps = s; order = a.order }) steps
    ∙ ap (λ (o : List ℕ). record { settled = b.settled; waiting = b.waiting; steps = b.steps; order = o }) order

-- of so many nodes the source alone is settled
abbrev pub begun_at : ℕ → ℕ → List (Option Step) → Lists
begun_at nodes source steps = record {
  settled = set (replicate nodes None) source (Some (record { distance = pos 0; place = 0 }));
  waiting = replicate nodes None;
  steps = steps;
  order = source ∷ [];
}

pub is_begun : (nodes source : ℕ) (old after : Lists) → AreFresh nodes old
    → after.settled ≡ set old.settled source (Some (record { distance = pos 0; place = length old.order }))
    → after.waiting ≡ old.waiting → after.steps ≡ old.steps → after.order ≡ old.order ++ source ∷ []
    → after ≡ begun_at nodes source old.steps
is_begun nodes source old after fresh settled waiting steps order =
    lists-same after (begun_at nodes source old.steps)
    (settled ∙ ap (λ s. set s source (Some (record { distance = pos 0; place = length old.order }))) fresh.settled
    ∙ ap (λ (o : List ℕ). set (replicate nodes None) source (Some (record { distance = pos 0; place = length o })))
    fresh.order)
    (waiting ∙ fresh.waiting) steps (order ∙ ap (λ (o : List ℕ). o ++ source ∷ []) fresh.order)

module _ (r : ResidualNet) (prices : List ℤ) (source : ℕ) (steps : List (Option Step))
    (within : source < r.graph.nodes) (sized : length steps ≡ r.graph.nodes) where
  abbrev n : ℕ
  n = r.graph.nodes

  abbrev own : Settled
  own = record { distance = pos 0; place = 0 }

  abbrev begun : Lists
  begun = begun_at n source steps

  size : length (replicate {A = Option Settled} n None) ≡ n
  size = length-replicate n None

  begun_here : settled_at begun source ≡ Some own
  begun_here = get_or-set_same (replicate n None) source (Some own) None (omega (arith, size))

  begun_only : (v : ℕ) (a : Settled) → settled_at begun v ≡ Some a → (v ≡ source) × (own ≡ a)
  begun_only v a is =
      elim (cases_eq v source) [
        | inl same ↦
            let e : Some own ≡ Some a = sym begun_here ∙ ap (settled_at begun) (sym same) ∙ is in
            let k : own ≡ a = cc in
            (same, k)
        | inr ne ↦
            let e : None ≡ Some a =
            sym (get_or-none n v) ∙ sym (get_or-set_other (replicate n None) source v (Some own) None (λ e. ne e))
            ∙ is in
            absurd (cc)
      ]

  none_waits : (v : ℕ) (key : ℤ) → waiting_at begun v ≡ Some key → ⊥
  none_waits v key is = let e : None ≡ Some key = sym (get_or-none n v) ∙ is in cc

  pub begun_labels : AreLabels r prices begun
  begun_labels = record {
    are_listed = record {
      settled = length-set (replicate n None) source (Some own) ∙ size;
      waiting = length-replicate n None;
      steps = sized;
      count =
          let one = count_settled-set (replicate n None) source own (omega (arith, size)) (get_or-none n source) in
          omega (arith, one, count_settled-none n);
      listed = λ i inside. let first : i ≡ 0 = omega arith in
          (own, ap (λ (j : ℕ). settled_at begun (get_or (source ∷ []) j 0)) first ∙ begun_here, sym first);
      placed = λ v a is.
          let only = begun_only v a is in
          let P : Settled → Type 0 = λ b. (b.place < 1) × (get_or (source ∷ []) b.place 0 ≡ v) in
          subst P only.1 (omega arith, sym only.0);
    };
    some = omega arith;
    source_is = (own, begun_here, refl);
    arrived = λ v a is away. absurd (away (begun_only v a is).0);
    near = λ v a is.
        let only = begun_only v a is in
        let P : Settled → Type 0 = λ b. IsNear r.graph.nodes prices source b.place v b.distance in
        let Q : ℕ → Type 0 = λ w. IsNear r.graph.nodes prices source 0 w (pos 0) in
        subst P only.1
        (subst Q (sym only.0) (record { low = omega (arith, ints); high = omega (arith, ints) }));
    unsettled = λ v key is. absurd (none_waits v key is);
    arrives = λ v key is. absurd (none_waits v key is);
    near_too = λ v key is. absurd (none_waits v key is);
    ordered = λ v w a key is waits. absurd (none_waits w key waits);
  }

  pub begun_farthest : IsFarthest begun (pos 0)
  begun_farthest v a is =
      let P : Settled → Type 0 = λ b. b.distance ≤ℤ pos 0 in subst P (begun_only v a is).1 (omega (arith, ints))

  pub begun_settled : IsSettledAt begun source (pos 0)
  begun_settled = (own, begun_here, refl)

  pub begun_relaxed : (surplus : List ℤ) → AreRelaxedBut r prices surplus begun source
  begun_relaxed surplus u a s is ne = absurd (ne (begun_only u a is).0)

  pub begun_lack : (surplus : List ℤ) → (v : ℕ) (a : Settled) → settled_at begun v ≡ Some a → v ≢ source
      → Lacks surplus v → ⊥
  begun_lack surplus v a is ne = absurd (ne (begun_only v a is).0)

-- once the steps from the last node are relaxed too, the search is under way again
pub expanded : (r : ResidualNet) (prices surplus : List ℤ) (source : ℕ) (l after : Lists) (node : ℕ) (distance : ℤ)
    → AreRelaxedBut r prices surplus l node → source_of l ≡ source
    → ((v : ℕ) (a : Settled) → settled_at l v ≡ Some a → v ≢ node → Lacks surplus v → ⊥) → (Lacks surplus node → ⊥)
    → IsSettledAt l node distance → IsLowered l after → AreLabels r prices after
    → ((s : Step) → IsRelaxed r prices surplus after node distance s)
    → IsUnderWay r prices surplus source after
expanded r prices surplus source l after node distance but from no_lack enough is low labels relaxed = record {
  labels = labels;
  relaxed = λ u a s at.
      elim (cases_eq u node) [
        | inl same ↦
            let still = lowered-settled l after node distance low is in
            let e : Some still.0 ≡ Some a = sym still.1 ∙ ap (settled_at after) (sym same) ∙ at in
            let k : still.0 ≡ a = cc in
            let d : distance ≡ a.distance = sym still.2 ∙ ap (λ (b : Settled). b.distance) k in
            let P : ℕ → Type 0 = λ v. IsRelaxed r prices surplus after v a.distance s in
            let Q : ℤ → Type 0 = λ x. IsRelaxed r prices surplus after node x s in
            subst P (sym same) (subst Q d (relaxed s))
        | inr ne ↦ lowered-relaxed r prices surplus l after u a.distance s low (but u a s (old u a at) ne)
      ];
  from = ap (λ (order : List ℕ). get_or order 0 0) low.order ∙ from;
  no_lack = λ v a at lacks.
      elim (cases_eq v node) [
        | inl same ↦ enough (subst (λ (w : ℕ). Lacks surplus w) same lacks)
        | inr ne ↦ no_lack v a (old v a at) ne lacks
      ];
}
  where
    old : (v : ℕ) (a : Settled) → settled_at after v ≡ Some a → settled_at l v ≡ Some a
    old v a at = ap (λ (settled : List (Option Settled)). get_or settled v None) (sym low.settled) ∙ at

module _ (r : ResidualNet) (prices surplus : List ℤ) (source : ℕ) (l : Lists)
    (way : IsUnderWay r prices surplus source l) (v : ℕ) (key : ℤ) (least : IsLeast l.waiting v key)
    (within : v < r.graph.nodes) where
  -- the nearest node is settled
  pub next_labels : AreLabels r prices (settle_in l v key)
  next_labels = settled_labels r prices l way.labels v key least within

  pub next_relaxed : AreRelaxedBut r prices surplus (settle_in l v key) v
  next_relaxed = settled_relaxed r prices l way.labels v key least within surplus way.relaxed

  pub next_bound : (bound : ℤ) → IsBound surplus l bound → IsBound surplus (settle_in l v key) bound
  next_bound = settled_bound r prices l way.labels v key least within surplus

  pub next_settled : IsSettledAt (settle_in l v key) v key
  next_settled =
      (record { distance = key; place = length l.order }, settled_here r prices l way.labels v key least within, refl)

  pub next_farthest : IsFarthest (settle_in l v key) key
  next_farthest = settled_farthest r prices l way.labels v key least within

  pub next_from : source_of (settle_in l v key) ≡ source
  next_from = source_same r prices l way.labels v key least within ∙ way.from

  pub next_lack : (w : ℕ) (a : Settled) → settled_at (settle_in l v key) w ≡ Some a → w ≢ v → Lacks surplus w → ⊥
  next_lack w a is ne = way.no_lack w a (sym (settled_other r prices l way.labels v key least within w ne) ∙ is)

  pub next_reached : Lacks surplus v → IsReached r prices surplus source (settle_in l v key) v
  next_reached lacks = record {
    labels = next_labels;
    relaxed = next_relaxed;
    from = next_from;
    lacks = lacks;
    no_lack = next_lack;
    goal_is = record { distance = key; place = length l.order };
    settled = settled_here r prices l way.labels v key least within;
    farthest = next_farthest;
  }

pub fresh_size : (nodes : ℕ) (l : Lists) → AreFresh nodes l → length l.settled ≡ nodes
fresh_size nodes l fresh = ap length fresh.settled ∙ length-replicate nodes None

-- where nothing is settled, nothing stands in the order
pub fresh_listed : (nodes : ℕ) (l : Lists) → AreFresh nodes l → AreListed (length l.settled) l
fresh_listed nodes l fresh = record {
  settled = refl;
  waiting = ap length fresh.waiting ∙ length-replicate nodes None ∙ sym (fresh_size nodes l fresh);
  steps = fresh.steps ∙ sym (fresh_size nodes l fresh);
  count = ap length fresh.order ∙ sym (count_settled-none nodes) ∙ ap count_settled (sym fresh.settled);
  listed = λ i inside. let e = ap length fresh.order in absurd (omega (arith, e));
  placed = λ v a is.
      let e : None ≡ Some a =
      sym (get_or-none nodes v) ∙ ap (λ (s : List (Option Settled)). get_or s v None) (sym fresh.settled) ∙ is in
      absurd (cc);
}
