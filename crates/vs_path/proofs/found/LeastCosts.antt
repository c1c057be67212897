-- Where nothing waits any more, the distances are those of least paths.
use Rattle.std.proofs.Common.{◌≡◌, ◌≢◌, ◌⊎◌, ℕ, zero, suc, ◌<◌, ◌∙◌, List, [], ◌∷◌, length, set, get_or, replicate, MatchOption, refl, sym, ap, subst, arith, inl, inr, Option, Some, None, ℤ, pos, ◌+ℤ◌, ◌-ℤ◌, ◌≤ℤ◌}
use Rattle.std.proofs.lemmas.Bool.{cases_eq}
use Rattle.std.proofs.lemmas.Int.{ints}
use Rattle.std.proofs.lemmas.List.{get_or-set_same, get_or-set_other}
use Rattle.vs_queue.specs.declared.step.Step.{Step}
use Rattle.vs_queue.specs.declared.node_table.Settled.{Settled}
use Rattle.vs_path.specs.Residual.{ResidualNet, Leads, cost_along, from_of, to_of, price_at, reduced}
use Rattle.vs_queue.specs.NodeLists.{label_of}
use Rattle.vs_path.specs.Labels.{Lists, AreLabels, IsOver, IsReached, IsSmall, label_at, settled_at, source_of, step_at, waiting_at}
use Rattle.vs_path.proofs.found.Finding.{over-covers}
use Rattle.vs_path.proofs.labelling.Settling.{order-≤}
use Rattle.vs_path.proofs.labelling.StepCosts.{near-path}
use Rattle.vs_path.specs.LeastPaths.{LeastPaths, AreCosts, AreLeastPaths, AreSettledSteps, CanCost, CanCostTo, ComesBack, FollowsBack, IsLeastCost, IsSized, cost_to, distance_at, if_settled, last_step}

-- steps that are followed back lead on
pub follows-leads : (r : ResidualNet) (steps : List (Option Step)) (u v : ℕ) (ss : List Step)
    → FollowsBack r steps u ss v
    → Leads r u ss v
follows-leads r steps u v [] follows = follows
follows-leads r steps u v (s ∷ ss) follows =
    (follows.1, follows.2, follows-leads r steps u (from_of r s) ss follows.3)

module _ (r : ResidualNet) (prices surplus : List ℤ) (source : ℕ) (l : Lists) (over : IsOver r prices surplus source l)
  where
    -- a node that has a label is settled
    pub settled-label : (v : ℕ) (label : ℤ) → label_at l v ≡ Some label → (s : Option Settled) → settled_at l v ≡ s
        → (a : Settled) × (settled_at l v ≡ Some a) × (a.distance ≡ label)
    settled-label v label has None e =
        let waits : waiting_at l v ≡ Some label = ap (λ s. label_of s (waiting_at l v)) (sym e) ∙ has in
        let none : waiting_at l v ≡ None = over.none_waits v in
        absurd (cc)
    settled-label v label has (Some a) e =
        let same : Some a.distance ≡ Some label = ap (λ s. label_of s (waiting_at l v)) (sym e) ∙ has in
        let d : a.distance ≡ label = cc in
        (a, e, d)

    -- what a path leads to is settled, no further than the path
    pub no-farther : (ss : List Step) (v : ℕ) → Leads r source ss v
        → (a : Settled) × (settled_at l v ≡ Some a)
        × (a.distance ≤ℤ ((cost_along r ss +ℤ price_at prices source) -ℤ price_at prices v))
    no-farther [] v leads =
        let from = over.under_way.labels.source_is in
        let at : source_of l ≡ v = over.under_way.from ∙ leads in
        let same : price_at prices source ≡ price_at prices v = ap (price_at prices) leads in
        let d = from.2 in
        (from.0, ap (settled_at l) (sym at) ∙ from.1, omega (arith, ints, same, d))
    no-farther (s ∷ ss) v leads =
        let before = no-farther ss (from_of r s) leads.2 in
        let covers =
        over-covers r prices surplus source l over (to_of r s) (before.0.distance +ℤ reduced r prices s)
        (over.under_way.relaxed (from_of r s) before.0 s before.1 leads.0 refl) in
        let at = settled-label (to_of r s) covers.label covers.has (settled_at l (to_of r s)) refl in
        let same : price_at prices (to_of r s) ≡ price_at prices v = ap (price_at prices) leads.1 in
        let less = before.2 in
        let more = covers.no_more in
        let d = at.2 in
        (at.0, ap (settled_at l) (sym leads.1) ∙ at.1, omega (arith, ints, same, less, more, d))

    module _ (steps : List (Option Step))
        (same_step : (v : ℕ) (a : Settled) → settled_at l v ≡ Some a → v ≢ source
        → get_or steps v None ≡ step_at l v) where
      -- the steps followed back from a settled node lead from the source, at its distance
      pub comes-back : (n v : ℕ) (a : Settled) → settled_at l v ≡ Some a → a.place < n
          → (ss : List Step) × FollowsBack r steps source ss v
          × (cost_along r ss ≡ a.distance +ℤ (price_at prices v -ℤ price_at prices source))
      comes-back zero v a is below = absurd (omega arith)
      comes-back (suc n) v a is below =
          elim (cases_eq v (source_of l)) [
            | inl same ↦
                let from = over.under_way.labels.source_is in
                let e : Some from.0 ≡ Some a = sym from.1 ∙ ap (settled_at l) (sym same) ∙ is in
                let k : from.0 ≡ a = cc in
                let d : a.distance ≡ pos 0 = ap (λ (b : Settled). b.distance) (sym k) ∙ from.2 in
                let at : source ≡ v = sym over.under_way.from ∙ sym same in
                let p : price_at prices source ≡ price_at prices v = ap (price_at prices) at in
                ([], at, omega (arith, ints, d, p))
            | inr away ↦
                let arrival = over.under_way.labels.arrived v a is away in
                let before = arrival.before in
                let rest = comes-back n (from_of r arrival.step) arrival.from arrival.from_is (omega arith) in
                let sum = arrival.sum in
                let cost = rest.2 in
                let p : price_at prices (to_of r arrival.step) ≡ price_at prices v = ap (price_at prices) arrival.to in
                let step = same_step v a is (λ e. away (e ∙ sym over.under_way.from)) in (
                  arrival.step ∷ rest.0,
                  (step ∙ arrival.is, arrival.is_open, arrival.to, rest.1),
                  omega (arith, ints, sum, cost, p),
                )
          ]

    -- the costs are those of least paths
    pub least-cost : (v : ℕ) (s : Option Settled) → settled_at l v ≡ s
        → IsLeastCost r source v (cost_to s (price_at prices source) (price_at prices v))
    least-cost v None e = λ ss leads.
        let at = no-farther ss v leads in
        let wrong : None ≡ Some at.0 = sym e ∙ at.1 in cc
    least-cost v (Some a) e =
        let back = comes-back l.steps (λ w b is ne. refl) (suc a.place) v a e (omega arith) in (
          (back.0, follows-leads r l.steps source v back.0 back.1, back.2),
          λ ss leads.
              let at = no-farther ss v leads in
              let one : Some a ≡ Some at.0 = sym e ∙ at.1 in
              let same : a ≡ at.0 = cc in
              let d = ap (λ (b : Settled). b.distance) same in
              let less = at.2 in
              omega (arith, ints, d, less),
        )

    module _ (p : LeastPaths) (size : IsSized r.graph.nodes p) (costs : AreCosts l prices source p.distances)
        (given : List (Option Step)) (given_is : AreSettledSteps l given) (long : length given ≡ r.graph.nodes)
        (steps : p.steps ≡ set given source None) (within : source < r.graph.nodes) where
      step-source : last_step p source ≡ None
      step-source = ap (λ (ks : List (Option Step)). get_or ks source None) steps
          ∙ get_or-set_same given source None None (omega (arith, long))

      step-other : (v : ℕ) → v ≢ source → last_step p v ≡ if_settled (settled_at l v) (step_at l v)
      step-other v ne = ap (λ (ks : List (Option Step)). get_or ks v None) steps
          ∙ get_or-set_other given source v None None (λ e. ne e) ∙ given_is v

      same-step : (v : ℕ) (a : Settled) → settled_at l v ≡ Some a → v ≢ source → last_step p v ≡ step_at l v
      same-step v a is ne = step-other v ne ∙ ap (λ s. if_settled s (step_at l v)) is

      back : (v : ℕ) (s : Option Settled) → settled_at l v ≡ s
          → ComesBack r p.steps source v (cost_to s (price_at prices source) (price_at prices v))
      back v None e = tt
      back v (Some a) e = comes-back p.steps same-step (suc a.place) v a e (omega arith)

      -- there is no last step to the source, and to a node that isn't reached
      no-step : (v : ℕ) → (v ≡ source) ⊎ (distance_at p v ≡ None) → (s : Option Settled) → settled_at l v ≡ s
          → last_step p v ≡ None
      no-step v (inl same) s e = ap (last_step p) same ∙ step-source
      no-step v (inr none) None e = elim (cases_eq v source) [
        | inl same ↦ ap (last_step p) same ∙ step-source
        | inr ne ↦ step-other v ne ∙ ap (λ s. if_settled s (step_at l v)) e
      ]
      no-step v (inr none) (Some a) e =
          let wrong : None ≡ Some (a.distance +ℤ (price_at prices v -ℤ price_at prices source)) =
          sym none ∙ costs v ∙ ap (λ s. cost_to s (price_at prices source) (price_at prices v)) e in absurd (cc)

      only-there : (v : ℕ) → last_step p v ≡ None → (s : Option Settled) → settled_at l v ≡ s
          → (v ≡ source) ⊎ (distance_at p v ≡ None)
      only-there v none None e = inr (costs v ∙ ap (λ s. cost_to s (price_at prices source) (price_at prices v)) e)
      only-there v none (Some a) e = elim (cases_eq v source) [
        | inl same ↦ inl same
        | inr ne ↦
            let arrival = over.under_way.labels.arrived v a e (λ same. ne (same ∙ over.under_way.from)) in
            let wrong : None ≡ Some arrival.step = sym none ∙ same-step v a e ne ∙ arrival.is in absurd (cc)
      ]

      pub are-least : AreLeastPaths r source p
      are-least = record {
        size = size;
        least = λ v inside.
            let P : Option ℤ → Type 0 = IsLeastCost r source v in
            subst P (sym (costs v)) (least-cost v (settled_at l v) refl);
        back = λ v inside.
            let P : Option ℤ → Type 0 = λ c. ComesBack r p.steps source v c in
            subst P (sym (costs v)) (back v (settled_at l v) refl);
        no_step = λ v inside. (
          λ none. only-there v none (settled_at l v) refl,
          λ at. no-step v at (settled_at l v) refl,
        );
      }

-- the costs fit
pub can-cost : (r : ResidualNet) (prices : List ℤ) (l : Lists) → IsSmall r prices → AreLabels r prices l
    → CanCost l (source_of l) prices
can-cost r prices l small labels v = go (settled_at l v) refl
  where
    go : (s : Option Settled) → settled_at l v ≡ s → CanCostTo s (price_at prices (source_of l)) (price_at prices v)
    go None e = tt
    go (Some a) e =
        let few = order-≤ r.graph.nodes l labels.are_listed in
        let place = (labels.are_listed.placed v a e).0 in
        let near =
        near-path r.graph.nodes prices (source_of l) a.place v a.distance (omega arith) (labels.near v a e) in
        let p = small.each_price v in
        let q = small.each_price (source_of l) in (
          omega (arith, ints, p.low, p.high, q.low, q.high),
          omega (arith, ints, near.low, near.high),
        )

get_or-zero : (n i : ℕ) → get_or (replicate n (pos 0)) i (pos 0) ≡ pos 0
get_or-zero zero i = refl
get_or-zero (suc n) zero = refl
get_or-zero (suc n) (suc i) = get_or-zero n i

-- where no node lacks a unit, a search goes on to the end
pub always-over : (r : ResidualNet) (prices surplus : List ℤ) (source : ℕ) (l : Lists) (n : ℕ) (result : Option ℕ)
    → surplus ≡ replicate n (pos 0)
    → MatchOption result (IsOver r prices surplus source l) (IsReached r prices surplus source l)
    → IsOver r prices surplus source l
always-over r prices surplus source l n None zeros over = over
always-over r prices surplus source l n (Some goal) zeros reached =
    let lacks = reached.lacks in
    let zero_there : get_or surplus goal (pos 0) ≡ pos 0 =
    ap (λ (zs : List ℤ). get_or zs goal (pos 0)) zeros ∙ get_or-zero n goal in
    absurd (omega (arith, ints, lacks, zero_there))
