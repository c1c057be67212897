-- A path that is followed back from its goal.
use Rattle.std.proofs.Common.{◌≡◌, ◌≢◌, ℕ, ◌+◌, ◌<◌, ◌∙◌, List, [], ◌∷◌, ◌++◌, length, refl, sym, ap, subst, arith, inl, inr, Option, Some, None, ℤ, length-append}
use Rattle.std.proofs.Math.ListN.{get_or-append}
use Rattle.std.proofs.lemmas.Bool.{cases_lt}
use Rattle.std.proofs.lemmas.List.{get_or_push}
use Rattle.vs_queue.specs.declared.step.Step.{Step}
use Rattle.vs_queue.specs.declared.step.Step.TheVariants.{Forward}
use Rattle.vs_queue.specs.declared.node_table.Settled.{Settled}
use Rattle.vs_path.specs.Residual.{ResidualNet, IsOpen, IsPath, Leads, from_of, to_of, step_in}
use Rattle.vs_path.specs.Labels.{Lists, AreLabels, settled_at, source_of, step_at}
use Rattle.vs_path.specs.Search.{IsTreeStep, AreTreeSteps}

abbrev pub place_of : Option Settled → ℕ
place_of None = 0
place_of (Some a) = a.place

-- the steps lead from the node to the goal, in the tree, and reach only nodes that were settled after the node
pub record IsTraced (r : ResidualNet) (prices : List ℤ) (l : Lists) (goal node : ℕ) (path : List Step) : Type 0 where
  pub at : Settled
  pub at_is : settled_at l node ≡ Some at
  pub count : length path + at.place < length l.order
  pub leads : Leads r node path goal
  pub later : (i : ℕ) → i < length path
      → (b : Settled) × (settled_at l (to_of r (step_in path i)) ≡ Some b) × (at.place < b.place)
  pub apart : (i j : ℕ) → i < j → j < length path → to_of r (step_in path i) ≢ to_of r (step_in path j)
  pub tree : AreTreeSteps r prices l path

-- no step yet
pub traced-none : (r : ResidualNet) (prices : List ℤ) (l : Lists) (goal : ℕ) (a : Settled) → AreLabels r prices l
    → settled_at l goal ≡ Some a → IsTraced r prices l goal goal []
traced-none r prices l goal a labels is = record {
  at = a;
  at_is = is;
  count = let place = labels.are_listed.placed goal a is in omega (arith, place.0);
  leads = refl;
  later = λ i below. absurd (omega arith);
  apart = λ i j below inside. absurd (omega arith);
  tree = λ i below. absurd (omega arith);
}

-- the steps lead on from further back
leads-back : (r : ResidualNet) (w v : ℕ) (ss : List Step) (s : Step) → Leads r w ss v → IsOpen r s → to_of r s ≡ w
    → Leads r (from_of r s) (ss ++ s ∷ []) v
leads-back r w v [] s leads is_open to = (is_open, to ∙ leads, refl)
leads-back r w v (t ∷ ss) s leads is_open to =
    (leads.0, leads.1, leads-back r w (from_of r t) ss s leads.2 is_open to)

module _ (r : ResidualNet) (prices : List ℤ) (l : Lists) (goal node : ℕ) (path : List Step)
    (labels : AreLabels r prices l) (traced : IsTraced r prices l goal node path) where
  -- at the source it is a path
  pub traced-path : node ≡ source_of l → IsPath r (source_of l) path goal
  traced-path same = record {
    leads = subst (λ (u : ℕ). Leads r u path goal) same traced.leads;
    apart = traced.apart;
    away = λ i inside at.
        let later = traced.later i inside in
        let e : Some later.0 ≡ Some traced.at =
        sym later.1 ∙ ap (settled_at l) (at ∙ sym same) ∙ traced.at_is in
        let k : later.0 ≡ traced.at = cc in
        let place = ap (λ (b : Settled). b.place) k in
        let more = later.2 in
        omega (arith, place, more);
  }

  module _ (away : node ≢ source_of l) (step : Step) (is : step_at l node ≡ Some step) where
    abbrev after : List Step
    after = path ++ step ∷ []

    arrival-step : (labels.arrived node traced.at traced.at_is away).step ≡ step
    arrival-step =
        let arrival = labels.arrived node traced.at traced.at_is away in
        let e : Some arrival.step ≡ Some step = sym arrival.is ∙ is in cc

    -- the step is residual, reaches the node, and leaves one that was settled before
    pub step-open : IsOpen r step
    step-open =
        let arrival = labels.arrived node traced.at traced.at_is away in
        subst (λ (s : Step). IsOpen r s) arrival-step arrival.is_open

    step-to : to_of r step ≡ node
    step-to =
        let arrival = labels.arrived node traced.at traced.at_is away in
        subst (λ (s : Step). to_of r s ≡ node) arrival-step arrival.to

    pub step-from : (b : Settled) × (settled_at l (from_of r step) ≡ Some b) × (b.place < traced.at.place)
    step-from =
        let arrival = labels.arrived node traced.at traced.at_is away in
        let P : Step → Type 0 =
        λ s. (b : Settled) × (settled_at l (from_of r s) ≡ Some b) × (b.place < traced.at.place) in
        subst P arrival-step (arrival.from, arrival.from_is, arrival.before)

    step-tree : IsTreeStep r prices l step
    step-tree =
        let arrival = labels.arrived node traced.at traced.at_is away in
        let own : IsTreeStep r prices l arrival.step = record {
          from = arrival.from;
          from_is = arrival.from_is;
          to = traced.at;
          to_is = ap (settled_at l) arrival.to ∙ traced.at_is;
          sum = arrival.sum;
        } in
        subst (λ (s : Step). IsTreeStep r prices l s) arrival-step own

    old-step : (i : ℕ) → i < length path → step_in after i ≡ step_in path i
    old-step i inside = get_or-append path (step ∷ []) (Forward 0) i inside

    new-step : (i : ℕ) → length path ≡ i → step_in after i ≡ step
    new-step i last = get_or_push path step (Forward 0) i last

    grown : length after ≡ length path + 1
    grown = length-append path (step ∷ [])

    -- what holds of each step so far and of the new one holds of all
    each : (P : Step → Type 0) → ((i : ℕ) → i < length path → P (step_in path i)) → P step
        → (i : ℕ) → i < length after → P (step_in after i)
    each P old new i inside =
        elim (cases_lt i (length path)) [
          | inl before ↦ subst P (sym (old-step i before)) (old i before)
          | inr last ↦ subst P (sym (new-step i (omega (arith, grown, inside)))) new
        ]

    apart-new : (i : ℕ) → i < length path → to_of r (step_in path i) ≢ to_of r step
    apart-new i inside same =
        let later = traced.later i inside in
        let e : Some later.0 ≡ Some traced.at =
        sym later.1 ∙ ap (settled_at l) (same ∙ step-to) ∙ traced.at_is in
        let k : later.0 ≡ traced.at = cc in
        let place = ap (λ (b : Settled). b.place) k in
        let more = later.2 in
        omega (arith, place, more)

    -- one step more
    pub traced-more : IsTraced r prices l goal (from_of r step) after
    traced-more =
        let from = step-from in
        let less = from.2 in
        let count = traced.count in
        record {
          at = from.0;
          at_is = from.1;
          count = omega (arith, grown, less, count);
          leads = leads-back r node goal path step traced.leads step-open step-to;
          later = each (λ s. (b : Settled) × (settled_at l (to_of r s) ≡ Some b) × (from.0.place < b.place))
              (λ i inside. let later = traced.later i inside in let more = later.2 in (later.0, later.1, omega arith))
              (traced.at, ap (settled_at l) step-to ∙ traced.at_is, less);
          apart = λ i j below inside.
              elim (cases_lt j (length path)) [
                | inl before ↦ λ same.
                    traced.apart i j below before
                    (ap (to_of r) (sym (old-step i (omega arith))) ∙ same ∙ ap (to_of r) (old-step j before))
                | inr last ↦ λ same.
                    apart-new i (omega (arith, grown, inside))
                    (ap (to_of r) (sym (old-step i (omega (arith, grown, inside)))) ∙ same
                    ∙ ap (to_of r) (new-step j (omega (arith, grown, inside))))
              ];
          tree = each (λ s. IsTreeStep r prices l s) traced.tree step-tree;
        }
