-- Rounds that lead from multipliers to multipliers, and the best of their tables.
use Rattle.std.proofs.Common.{◌≡◌, ℕ, ◌+◌, List, [], ◌∷◌, length, refl, sym, ap, ◌∙◌, subst, add-one, ℤ}
use Rattle.vs_types.specs.declared.layer_set.LayerSet.{LayerSet}
use Rattle.vs_instance.specs.Problem.{Problem}
use Rattle.vs_match.specs.LayerGraph.{LayerGraph}
use Rattle.vs_prices.specs.declared.bound.Bound.{Bound}
use Rattle.vs_prices.specs.declared.table.Table.{Table}
use Rattle.vs_prices.specs.Worth.{IsWorth}
use Rattle.vs_multi.specs.declared.steps.Steps.{Steps}
use Rattle.vs_multi.specs.Rounds.{IsBestOf, IsBestOfRounds, IsBetter, IsRound, LeadTo}
use Rattle.vs_multi.specs.Steps.{AreMoved, IsGreatestStep, rounds_in, step_in}
use Rattle.vs_multi.proofs.Better.{best_alone, best_more}

module _ (p : Problem) (nets : List LayerGraph) (sets : List LayerSet) (steps : Steps) (most : ℕ) (first : List ℤ) where
  -- n rounds have led to these multipliers, with this best table, and the counts are those of the last of them
  pub record HaveLed (n : ℕ) (best : Table) (counts : List ℕ) (last : List ℤ) : Type 0 where
    pub earlier : List Table
    pub one_less : length earlier + 1 ≡ n
    pub multipliers : List ℤ
    pub led : LeadTo p nets sets steps most first multipliers earlier
    pub table : Table
    pub round : IsRound p nets sets multipliers table counts
    pub moved : AreMoved (step_in steps most (length earlier)) counts multipliers last
    pub is_best : IsBestOf p sets (table ∷ earlier) best

  -- after the first round
  pub first_led : (table : Table) (worth : Bound) (counts : List ℕ) (last : List ℤ) → IsWorth p sets table worth
      → IsRound p nets sets first table counts → AreMoved (step_in steps most 0) counts first last
      → HaveLed 1 table counts last
  first_led table worth counts last is_worth round moved = record {
    earlier = [];
    one_less = refl;
    multipliers = first;
    led = refl;
    table = table;
    round = round;
    moved = moved;
    is_best = best_alone p sets table worth is_worth;
  }

  module _ (n : ℕ) (best table new_best new_table : Table) (greatest worth new_greatest : Bound)
      (is_greatest : IsWorth p sets best greatest) (is_worth : IsWorth p sets table worth)
      (better : IsBetter best greatest table worth new_best new_greatest new_table) where
    -- and after one more
    pub more_led : (counts now : List ℕ) (middle last : List ℤ) → HaveLed n best counts middle
        → IsRound p nets sets middle table now → AreMoved (step_in steps most n) now middle last
        → HaveLed (n + 1) new_best now last
    more_led counts now middle last have round moved = record {
      earlier = have.table ∷ have.earlier;
      one_less = ap (λ (m : ℕ). m + 1) (sym (add-one (length have.earlier)) ∙ have.one_less);
      multipliers = middle;
      led = (have.multipliers, counts, have.led, have.round, have.moved);
      table = table;
      round = round;
      moved = subst (λ (m : ℕ). AreMoved (step_in steps most m) now middle last)
          (sym (sym (add-one (length have.earlier)) ∙ have.one_less)) moved;
      is_best = best_more p sets best table new_best new_table greatest worth new_greatest is_greatest is_worth better
          (have.table ∷ have.earlier) have.is_best;
    }

  -- once all have run, the last one is known, and the best of them
  pub all_led : (best : Table) (counts : List ℕ) (last : List ℤ) → IsGreatestStep p most
      → HaveLed (rounds_in steps) best counts last → IsBestOfRounds p nets sets steps first best counts
  all_led best counts last greatest have = record {
    most = most;
    greatest = greatest;
    earlier = have.earlier;
    all = have.one_less;
    multipliers = have.multipliers;
    led = have.led;
    last = have.table;
    round = have.round;
    is_best = have.is_best;
  }
