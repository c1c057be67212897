-- A state stays sound where a worker offers a plan.
use Rattle.std.proofs.Common.{◌≡◌, ℕ, List, [], ◌∷◌, ◌++◌, sym, ap, subst, inl, inr, append-nil, Option, Some, None, ℤ, option_map}
use Rattle.std.proofs.lemmas.List.Elements.{All-append, All-cons, All-nil}
use Rattle.vs_plan.specs.CheckedPlan.{Checked}
use Rattle.vs_prices.specs.Bounds.{IsBelow}
use Rattle.vs_tree.specs.History.{Opening, State, IsCheaper, MayOffer, Offered, after, known, plans_of}
use Rattle.vs_tree.specs.Sound.{IsPlanOf, IsSound}
use Rattle.vs_tree.proofs.Accepted.{below-before, cheaper-more, cheaper_or_not, last-more}

module _ (o : Opening) (s : State) (offers : List ℕ) (sound : IsSound o s) where
  abbrev with_plans : List Checked → State
  with_plans plans = record s { accepted = plans; offered = offers }

  -- nothing else changes where a plan comes that is cheaper, or none
  same_plans : IsSound o (with_plans (s.accepted ++ []))
  same_plans =
      let T : List Checked → Type 0 = λ plans. IsSound o (with_plans plans) in
      subst T (sym (append-nil s.accepted)) (record {
        shared_out = λ blocks plan.
            let one = sound.shared_out blocks plan in
            record {
              leaf = one.leaf;
              is_in = record { leaf = one.is_in.leaf; within = one.is_in.within };
              only = λ k is. one.only k (record { leaf = is.leaf; within = is.within });
            };
        tables = sound.tables;
        restrictions = sound.restrictions;
        numbers = sound.numbers;
        worths = sound.worths;
        plans = sound.plans;
        cheaper = sound.cheaper;
        closed = sound.closed;
        finished = sound.finished;
        count_tables = sound.count_tables;
        budget = sound.budget;
        one_leaf = sound.one_leaf;
        gone = sound.gone;
      })

  more_plans : (plan : Checked) → IsPlanOf o.problem plan → IsCheaper plan.cost (known s)
      → IsSound o (with_plans (s.accepted ++ plan ∷ []))
  more_plans plan is_plan less =
      let n : State = with_plans (s.accepted ++ plan ∷ []) in
      let costs : known n ≡ Some plan.cost =
      ap (λ (q : Option Checked). option_map (λ c. c.cost) q) (last-more None s.accepted plan) in
      record {
        shared_out = λ blocks p.
            let one = sound.shared_out blocks p in
            record {
              leaf = one.leaf;
              is_in = record { leaf = one.is_in.leaf; within = one.is_in.within };
              only = λ k is. one.only k (record { leaf = is.leaf; within = is.within });
            };
        tables = sound.tables;
        restrictions = sound.restrictions;
        numbers = sound.numbers;
        worths = sound.worths;
        plans = All-append (IsPlanOf o.problem) s.accepted (plan ∷ []) sound.plans
            (All-cons (IsPlanOf o.problem) plan [] is_plan (All-nil (IsPlanOf o.problem)));
        cheaper = cheaper-more s.accepted plan sound.cheaper less;
        closed = λ k worth closed is below.
            sound.closed k worth closed is
            (below-before worth plan.cost (known s) less (subst (λ (q : Option ℤ). IsBelow worth q) costs below));
        finished = sound.finished;
        count_tables = sound.count_tables;
        budget = sound.budget;
        one_leaf = sound.one_leaf;
        gone = sound.gone;
      }

module _ (o : Opening) (s : State) (worker : ℕ) (cost : ℤ) (number : Option ℕ) (added : Option Checked)
    (may : MayOffer o s worker cost number added) (sound : IsSound o s) where
  abbrev T : Option Checked → Type 0
  T x = IsSound o (record s { accepted = s.accepted ++ plans_of x; offered = worker ∷ s.offered })

  pub offered_sound : IsSound o (after s (Offered worker cost number added))
  offered_sound =
      elim (cheaper_or_not cost (known s)) [
        | inl less ↦
            let one = may.accepted less in
            let cheaper : IsCheaper one.plan.cost (known s) =
            subst (λ (x : ℤ). IsCheaper x (known s)) (sym one.costs) less in
            subst T (sym one.adds)
            (more_plans o s (worker ∷ s.offered) sound one.plan (one.checked, one.of_instance) cheaper)
        | inr dear ↦ subst T (sym (may.refused dear).1) (same_plans o s (worker ∷ s.offered) sound)
      ]
