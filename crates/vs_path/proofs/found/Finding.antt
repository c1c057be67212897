-- What the prices do once the nearest node that lacks a unit is found.
use Rattle.std.proofs.Common.{◌≡◌, ◌≢◌, ◌⊎◌, ℕ, suc, ◌∙◌, List, refl, sym, ap, subst, arith, inl, inr, Option, Some, None, ℤ, pos, ◌+ℤ◌, ◌-ℤ◌, ◌≤ℤ◌}
use Rattle.std.proofs.lemmas.Bool.{cases_eq}
use Rattle.std.proofs.lemmas.Int.{ints}
use Rattle.vs_queue.specs.declared.step.Step.{Step}
use Rattle.vs_queue.specs.declared.node_table.Settled.{Settled}
use Rattle.vs_path.specs.Residual.{ResidualNet, IsOpen, IsPath, HasSignRule, from_of, to_of, price_at, reduced, step_in}
use Rattle.vs_queue.specs.NodeLists.{label_of}
use Rattle.vs_path.specs.Labels.{Lists, AreLabels, Covers, Serves, IsOver, IsReached, IsSmall, Lacks, label_at, settled_at, source_of, waiting_at}
use Rattle.vs_path.specs.Search.{AreMoved, AreTreeSteps, CanMove, IsCut, IsGoal, IsIn, moved, two_paths}
use Rattle.vs_path.proofs.labelling.Settling.{order-≤}
use Rattle.vs_path.proofs.labelling.StepCosts.{near-path, steps-≤}
use Rattle.vs_path.proofs.found.NotNegative.{not-negative}

module _ (r : ResidualNet) (prices surplus : List ℤ) (source : ℕ) (l : Lists) (over : IsOver r prices surplus source l)
  where
    settled_in : (v : ℕ) → IsIn l.order v → (a : Settled) × (settled_at l v ≡ Some a)
    settled_in v at =
        let is = over.under_way.labels.are_listed.listed at.0 at.1 in
        (is.0, ap (settled_at l) (sym at.2) ∙ is.1)

    in_order : (v : ℕ) (label : ℤ) → label_at l v ≡ Some label → (s : Option Settled) → settled_at l v ≡ s
        → IsIn l.order v
    in_order v label has None e =
        let waits : waiting_at l v ≡ Some label = ap (λ s. label_of s (waiting_at l v)) (sym e) ∙ has in
        let none : waiting_at l v ≡ None = over.none_waits v in
        absurd (cc)
    in_order v label has (Some a) e =
        let at = over.under_way.labels.are_listed.placed v a e in (a.place, at.0, at.1)

    -- no node that lacks a unit was reached
    pub over-covers : (v : ℕ) (bound : ℤ) → Serves surplus l v bound → Covers l v bound
    over-covers v bound serves =
        elim serves.which [
          | inl same ↦ subst (λ (w : ℕ). Covers l w bound) same serves.covers
          | inr lacks ↦
              let at = settled_in serves.node
              (in_order serves.node serves.covers.label serves.covers.has (settled_at l serves.node) refl) in
              absurd (over.under_way.no_lack serves.node at.0 at.1 lacks)
        ]

    -- what was reached is a cut
    pub is-cut : IsCut r surplus source l.order
    is-cut = record {
      has_source = (0, over.under_way.labels.some, over.under_way.from);
      closed = λ s is_open at.
          let a = settled_in (from_of r s) at in
          let covers =
          over-covers (to_of r s) (a.0.distance +ℤ reduced r prices s)
          (over.under_way.relaxed (from_of r s) a.0 s a.1 is_open refl) in
          in_order (to_of r s) covers.label covers.has (settled_at l (to_of r s)) refl;
      no_lack = λ v at. let a = settled_in v at in over.under_way.no_lack v a.0 a.1;
    }

-- what is settled can be lowered
pub can-move : (r : ResidualNet) (prices : List ℤ) (l : Lists) (goal : ℕ) (g : Settled) → IsSmall r prices
    → HasSignRule r prices → AreLabels r prices l → settled_at l goal ≡ Some g → CanMove l g.distance prices
can-move r prices l goal g small sign labels goal_is v a is =
    let few = order-≤ r.graph.nodes l labels.are_listed in
    let some_g = not-negative r prices l labels sign (suc g.place) goal g goal_is (omega arith) in
    let some_v = not-negative r prices l labels sign (suc a.place) v a is (omega arith) in
    let place_g = (labels.are_listed.placed goal g goal_is).0 in
    let place_v = (labels.are_listed.placed v a is).0 in
    let to_goal = near-path r.graph.nodes prices (source_of l) g.place goal g.distance (omega arith)
    (labels.near goal g goal_is) in
    let to_v = near-path r.graph.nodes prices (source_of l) a.place v a.distance (omega arith) (labels.near v a is) in
    let p_g = small.each_price goal in
    let p_v = small.each_price v in
    let p_s = small.each_price (source_of l) in (
      omega (
        arith,
        ints,
        to_goal.high,
        to_v.high,
        some_g,
        some_v,
        p_g.low,
        p_v.low,
        p_s.high,
      ),
      omega (
        arith,
        ints,
        to_goal.high,
        to_v.low,
        to_v.high,
        some_g,
        p_g.low,
        p_v.low,
        p_v.high,
        p_s.high,
      ),
    )

module _ (r : ResidualNet) (prices surplus : List ℤ) (source : ℕ) (l : Lists) (goal : ℕ) (new : List ℤ)
    (sign : HasSignRule r prices) (reached : IsReached r prices surplus source l goal)
    (are_moved : AreMoved l reached.goal_is.distance prices new) where
  abbrev far : ℤ
  far = reached.goal_is.distance

  same-goal : (a : Settled) → settled_at l goal ≡ Some a → reached.goal_is ≡ a
  same-goal a is = let e : Some reached.goal_is ≡ Some a = sym reached.settled ∙ is in cc

  -- the new price of a node that isn't settled, and of one that is
  at-none : (v : ℕ) → settled_at l v ≡ None → price_at new v ≡ price_at prices v
  at-none v e = are_moved v ∙ ap (λ s. moved s far (price_at prices v)) e

  at-some : (v : ℕ) (a : Settled) → settled_at l v ≡ Some a
      → price_at new v ≡ price_at prices v -ℤ (far -ℤ a.distance)
  at-some v a e = are_moved v ∙ ap (λ s. moved s far (price_at prices v)) e

  pub fell : (v : ℕ) → price_at new v ≤ℤ price_at prices v
  fell v = go (settled_at l v) refl
    where
      go : (s : Option Settled) → settled_at l v ≡ s → price_at new v ≤ℤ price_at prices v
      go None e = omega (arith, ints, at-none v e)
      go (Some a) e = omega (arith, ints, at-some v a e, reached.farthest v a e)

  pub kept : (v : ℕ) → Lacks surplus v → price_at new v ≡ price_at prices v
  kept v lacks = go (settled_at l v) refl
    where
      go : (s : Option Settled) → settled_at l v ≡ s → price_at new v ≡ price_at prices v
      go None e = at-none v e
      go (Some a) e =
          elim (cases_eq v goal) [
            | inl same ↦
                let g = same-goal a (ap (settled_at l) (sym same) ∙ e) in
                let d = ap (λ (b : Settled). b.distance) g in
                omega (arith, ints, at-some v a e, d)
            | inr ne ↦ absurd (reached.no_lack v a e ne lacks)
          ]

  -- a step between nodes of which the first keeps its price
  sign-from : (s : Step) → IsOpen r s → price_at new (from_of r s) ≡ price_at prices (from_of r s)
      → pos 0 ≤ℤ reduced r new s
  sign-from s is_open same = omega (arith, ints, sign s is_open, fell (to_of r s), same)

  -- a node that lacks a unit is no nearer than the goal
  lacks-far : (v : ℕ) (label : ℤ) → Lacks surplus v → label_at l v ≡ Some label → (t : Option Settled)
      → settled_at l v ≡ t → far ≤ℤ label
  lacks-far v label lacks has None e =
      let waits : waiting_at l v ≡ Some label = ap (λ t. label_of t (waiting_at l v)) (sym e) ∙ has in
      reached.labels.ordered goal v reached.goal_is label reached.settled waits
  lacks-far v label lacks has (Some a) e =
      elim (cases_eq v goal) [
        | inl same ↦
            let g = same-goal a (ap (settled_at l) (sym same) ∙ e) in
            let d = ap (λ (b : Settled). b.distance) g in
            let f : Some a.distance ≡ Some label = ap (λ t. label_of t (waiting_at l v)) (sym e) ∙ has in
            let k : a.distance ≡ label = cc in
            omega (arith, ints, d, k)
        | inr ne ↦ absurd (reached.no_lack v a e ne lacks)
      ]

  -- what a step reaches has a label that is no greater, or is no nearer than the goal
  serves-far : (v : ℕ) (bound : ℤ) → Serves surplus l v bound → (Covers l v bound) ⊎ (far ≤ℤ bound)
  serves-far v bound serves =
      elim serves.which [
        | inl same ↦ inl (subst (λ (w : ℕ). Covers l w bound) same serves.covers)
        | inr lacks ↦
            let more = serves.covers.no_more in
            let less =
            lacks-far serves.node serves.covers.label lacks serves.covers.has (settled_at l serves.node) refl in
            inr (omega (arith, ints, more, less))
      ]

  -- a step from a node that is nearer than the goal
  sign-near : (s : Step) → IsOpen r s → (a : Settled) → settled_at l (from_of r s) ≡ Some a → from_of r s ≢ goal
      → (t : Option Settled) → settled_at l (to_of r s) ≡ t → pos 0 ≤ℤ reduced r new s
  sign-near s is_open a from ne None to =
      elim (serves-far (to_of r s) (a.distance +ℤ reduced r prices s)
      (reached.relaxed (from_of r s) a s from ne is_open refl)) [
        | inl covers ↦
            let waits : waiting_at l (to_of r s) ≡ Some covers.label =
            ap (λ t. label_of t (waiting_at l (to_of r s))) (sym to) ∙ covers.has in
            let later = reached.labels.ordered goal (to_of r s) reached.goal_is covers.label reached.settled waits in
            let less = covers.no_more in
            omega (arith, ints, at-some (from_of r s) a from, at-none (to_of r s) to, later, less)
        | inr beyond ↦ omega (arith, ints, at-some (from_of r s) a from, at-none (to_of r s) to, beyond)
      ]
  sign-near s is_open a from ne (Some b) to =
      elim (serves-far (to_of r s) (a.distance +ℤ reduced r prices s)
      (reached.relaxed (from_of r s) a s from ne is_open refl)) [
        | inl covers ↦
            let e : Some b.distance ≡ Some covers.label =
            ap (λ t. label_of t (waiting_at l (to_of r s))) (sym to) ∙ covers.has in
            let label : b.distance ≡ covers.label = cc in
            let less = covers.no_more in
            omega (arith, ints, at-some (from_of r s) a from, at-some (to_of r s) b to, label, less)
        | inr beyond ↦
            let nearer = reached.farthest (to_of r s) b to in
            omega (arith, ints, at-some (from_of r s) a from, at-some (to_of r s) b to, beyond, nearer)
      ]

  pub sign_rule : HasSignRule r new
  sign_rule s is_open = go (settled_at l (from_of r s)) refl
    where
      go : (t : Option Settled) → settled_at l (from_of r s) ≡ t → pos 0 ≤ℤ reduced r new s
      go None e = sign-from s is_open (at-none (from_of r s) e)
      go (Some a) e =
          elim (cases_eq (from_of r s) goal) [
            | inl same ↦ sign-from s is_open
                (ap (price_at new) same ∙ kept goal reached.lacks ∙ ap (price_at prices) (sym same))
            | inr ne ↦ sign-near s is_open a e ne (settled_at l (to_of r s)) refl
          ]

  -- the prices of settled nodes are within two paths of the goal's
  pub not-far : (v : ℕ)
      → (price_at new v ≡ price_at prices v) ⊎ (price_at prices goal ≤ℤ (price_at new v +ℤ two_paths r))
  not-far v = go (settled_at l v) refl
    where
      go : (s : Option Settled) → settled_at l v ≡ s
          → (price_at new v ≡ price_at prices v) ⊎ (price_at prices goal ≤ℤ (price_at new v +ℤ two_paths r))
      go None e = inl (at-none v e)
      go (Some a) e =
          let labels = reached.labels in
          let few = order-≤ r.graph.nodes l labels.are_listed in
          let to_goal = labels.near goal reached.goal_is reached.settled in
          let to_v = labels.near v a e in
          let place_g = (labels.are_listed.placed goal reached.goal_is reached.settled).0 in
          let place_v = (labels.are_listed.placed v a e).0 in
          let more_g = steps-≤ r.graph.nodes reached.goal_is.place r.graph.nodes (omega arith) in
          let more_v = steps-≤ r.graph.nodes a.place r.graph.nodes (omega arith) in
          inr (omega (
            arith,
            ints,
            at-some v a e,
            to_goal.low,
            to_goal.high,
            to_v.low,
            to_v.high,
            more_g,
            more_v,
          ))

  -- the goal is found
  pub is-goal : (path : List Step) → IsPath r (source_of l) path goal → AreTreeSteps r prices l path
      → IsGoal r surplus source prices new path goal
  is-goal path is_path tree = record {
    lacks = reached.lacks;
    is_path = subst (λ (u : ℕ). IsPath r u path goal) reached.from is_path;
    sign_rule = sign_rule;
    tight = λ i inside.
        let s = tree i inside in
        let sum = s.sum in
        omega (
          arith,
          ints,
          sum,
          at-some (from_of r (step_in path i)) s.from s.from_is,
          at-some (to_of r (step_in path i)) s.to s.to_is,
        );
    fell = fell;
    kept = kept;
    not_far = not-far;
  }
