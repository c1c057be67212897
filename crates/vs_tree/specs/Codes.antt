-- How histories are stored, so that a proof can tell them apart.
use Rattle.std.specs.Prelude.{◌≡◌, ◌⊎◌, ℕ, List, Bool, Option, ℤ, refl}
use Rattle.std.proofs.Common.{inl, inr}
use Rattle.std.specs.Coded.{Coded, code_by, coded×, coded⊎, coded_ℕ, coded_ℤ, coded_bool, coded_list, coded_option}
use Rattle.vs_instance.specs.Codes.{coded_problem}
use Rattle.vs_instance.specs.Problem.{Problem}
use Rattle.vs_plan.specs.CheckedPlan.{Checked, coded_checked}
use Rattle.vs_tree.specs.Prices.{Prices}
use Rattle.vs_tree.specs.History.{FullStep, Opening, Took, Split, Closed, Offered, GaveBack}
use Rattle.vs_tree.specs.Log.{Log}
use Rattle.vs_tree.specs.Search.{Search}

abbrev pub coded_prices : Coded Prices
coded_prices =
    code_by (List ℤ × (List ℤ × (List ℤ × Bool)))
    (coded× (coded_list coded_ℤ) (coded× (coded_list coded_ℤ) (coded× (coded_list coded_ℤ) coded_bool)))
    (λ x. (x.into, (x.from, (x.fleet, x.ray))))
    (λ c. record { into = c.0; from = c.1.0; fleet = c.1.1.0; ray = c.1.1.1 }) (λ _. refl)

-- a step by its kind, and then what it has
abbrev pub GivenStep : Type 0
GivenStep = ℕ × (ℕ × (ℕ × (ℕ × (ℕ × Prices))))

abbrev pub ClosedStep : Type 0
ClosedStep = ℕ × (ℕ × (ℕ × Prices))

abbrev pub OfferedStep : Type 0
OfferedStep = ℕ × (ℤ × (Option ℕ × Option Checked))

abbrev pub StoredStep : Type 0
StoredStep = (ℕ × ℕ) ⊎ (GivenStep ⊎ (ClosedStep ⊎ (OfferedStep ⊎ (ℕ × ℕ))))

abbrev pub stored : FullStep → StoredStep
stored (Took worker leaf) = inl (worker, leaf)
stored (Split worker leaf table trip left prices) =
    inr (inl (worker, (leaf, (table, (trip.0, (left.0, prices))))))
stored (Closed worker leaf table prices) = inr (inr (inl (worker, (leaf, (table, prices)))))
stored (Offered worker cost number added) = inr (inr (inr (inl (worker, (cost, (number, added))))))
stored (GaveBack worker leaf) = inr (inr (inr (inr (worker, leaf))))

abbrev pub restored : StoredStep → FullStep
restored (inl a) = Took a.0 a.1
restored (inr (inl a)) =
    Split a.0 a.1.0 a.1.1.0 (record { 0 = a.1.1.1.0 }) (record { 0 = a.1.1.1.1.0 }) a.1.1.1.1.1
restored (inr (inr (inl a))) = Closed a.0 a.1.0 a.1.1.0 a.1.1.1
restored (inr (inr (inr (inl a)))) = Offered a.0 a.1.0 a.1.1.0 a.1.1.1
restored (inr (inr (inr (inr a)))) = GaveBack a.0 a.1

abbrev pub restores : (step : FullStep) → restored (stored step) ≡ step
restores (Took worker leaf) = refl
restores (Split worker leaf table trip left prices) = refl
restores (Closed worker leaf table prices) = refl
restores (Offered worker cost number added) = refl
restores (GaveBack worker leaf) = refl

abbrev pub coded_step : Coded FullStep
coded_step =
    code_by StoredStep
    (coded⊎ (coded× coded_ℕ coded_ℕ)
    (coded⊎ (coded× coded_ℕ (coded× coded_ℕ (coded× coded_ℕ (coded× coded_ℕ (coded× coded_ℕ coded_prices)))))
    (coded⊎ (coded× coded_ℕ (coded× coded_ℕ (coded× coded_ℕ coded_prices)))
    (coded⊎ (coded× coded_ℕ (coded× coded_ℤ (coded× (coded_option coded_ℕ) (coded_option coded_checked))))
    (coded× coded_ℕ coded_ℕ)))))
    stored restored restores

abbrev pub coded_log : Coded Log
coded_log =
    code_by (List FullStep × (List Prices × (List Checked × (ℕ × (ℕ × ℕ)))))
    (coded× (coded_list coded_step) (coded× (coded_list coded_prices) (coded× (coded_list coded_checked)
    (coded× coded_ℕ (coded× coded_ℕ coded_ℕ)))))
    (λ l. (l.steps, (l.tables, (l.plans, (l.step_room, (l.table_room, l.plan_room))))))
    (λ c. record {
      steps = c.0;
      tables = c.1.0;
      plans = c.1.1.0;
      step_room = c.1.1.1.0;
      table_room = c.1.1.1.1.0;
      plan_room = c.1.1.1.1.1;
    }) (λ _. refl)

abbrev pub coded_opening : Coded Opening
coded_opening =
    code_by (Problem × (ℕ × (ℕ × Option Checked)))
    (coded× coded_problem (coded× coded_ℕ (coded× coded_ℕ (coded_option coded_checked))))
    (λ o. (o.problem, (o.budget, (o.workers, o.first))))
    (λ c. record { problem = c.0; budget = c.1.0; workers = c.1.1.0; first = c.1.1.1 }) (λ _. refl)

abbrev pub coded_search : Coded Search
coded_search =
    code_by (Opening × List FullStep) (coded× coded_opening (coded_list coded_step)) (λ t. (t.opening, t.steps))
    (λ c. record { opening = c.0; steps = c.1 }) (λ _. refl)
