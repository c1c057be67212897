-- The better of two tables.
use Rattle.std.proofs.Common.{All, List, [], ◌∷◌, suc, refl, sym, subst, arith, inl, inr, ℤ}
use Rattle.std.proofs.lemmas.List.Elements.{All-cons, All-nil}
use Rattle.vs_types.specs.declared.layer_set.LayerSet.{LayerSet}
use Rattle.vs_instance.specs.Problem.{Problem}
use Rattle.vs_prices.specs.declared.bound.Bound.{Bound}
use Rattle.vs_prices.specs.declared.table.Table.{Table}
use Rattle.vs_prices.specs.Bounds.{IsNoLess, IsWorthNoLess, ReachesLagrangian}
use Rattle.vs_prices.specs.Table.{Fits, HoldingTable}
use Rattle.vs_prices.proofs.CallerLemmas.{else_no_less, no_less-refl, worth_once}
use Rattle.vs_prices.specs.Worth.{IsWorth}
use Rattle.vs_multi.specs.Raising.{IsCostTable}
use Rattle.vs_multi.specs.Rounds.{IsBestOf, IsBetter}
use Rattle.vs_multi.proofs.BoundOrder.{lagrangian_more, outdone}

module _ (p : Problem) (sets : List LayerSet) (multipliers : List ℤ) where
  -- a table with its worth, which reaches the Lagrangian value
  pub record IsGood (table : Table) (worth : Bound) : Type 0 where
    pub lawful : IsCostTable p table
    pub worth_is : IsWorth p sets table worth
    pub lagrangian : ReachesLagrangian p sets multipliers table

  module _ (best table new_best new_table : Table) (greatest worth new_greatest : Bound)
      (is_worth : IsWorth p sets table worth) where
    -- the better one is as good
    pub better_good : IsGood best greatest → IsCostTable p table
        → IsBetter best greatest table worth new_best new_greatest new_table → IsGood new_best new_greatest
    better_good good other (inl (no_less, worth_is, best_is, table_is)) =
        subst (λ (t : Table). IsGood t new_greatest) (sym best_is)
        (subst (λ (b : Bound). IsGood best b) (sym worth_is) good)
    better_good good other (inr (less, worth_is, best_is, table_is)) =
        let now : IsGood table worth = record {
          lawful = other;
          worth_is = is_worth;
          lagrangian = lagrangian_more p sets multipliers table best worth greatest is_worth good.worth_is
              (else_no_less greatest worth less) good.lagrangian;
        } in
        subst (λ (t : Table). IsGood t new_greatest) (sym best_is)
        (subst (λ (b : Bound). IsGood table b) (sym worth_is) now)

    -- the other one is lawful
    pub better_other : IsCostTable p best → IsCostTable p table
        → IsBetter best greatest table worth new_best new_greatest new_table → IsCostTable p new_table
    better_other good other (inl (no_less, worth_is, best_is, table_is)) = subst (IsCostTable p) (sym table_is) other
    better_other good other (inr (less, worth_is, best_is, table_is)) = subst (IsCostTable p) (sym table_is) good

-- a table with its worth, which fits and holds
pub record IsLawful (p : Problem) (sets : List LayerSet) (table : Table) (worth : Bound) : Type 0 where
  pub fits : Fits p table
  pub holds : HoldingTable p table
  pub is_worth : IsWorth p sets table worth

-- and which is worth no less than two others
pub record IsBetterOf (p : Problem) (sets : List LayerSet) (one other table : Table) (worth : Bound) : Type 0 where
  pub lawful : IsLawful p sets table worth
  pub no_less : IsWorthNoLess p sets table one
  pub no_less_other : IsWorthNoLess p sets table other

module _ (p : Problem) (sets : List LayerSet) where
  no_less-by : (one other : Table) (a b : Bound) → IsWorth p sets one a → IsWorth p sets other b → IsNoLess a b
      → IsWorthNoLess p sets one other
  no_less-by one other a b is_a is_b more worth least is_worth is_least =
      subst (λ (c : Bound). IsNoLess c least) (worth_once p sets one a worth is_a is_worth)
      (subst (λ (c : Bound). IsNoLess a c) (worth_once p sets other b least is_b is_least) more)

  -- a table is the best of itself alone
  pub best_alone : (table : Table) (worth : Bound) → IsWorth p sets table worth → IsBestOf p sets (table ∷ []) table
  best_alone table worth is_worth = record {
    one = (0, omega arith, refl);
    no_less = All-cons (IsWorthNoLess p sets table) table []
        (no_less-by table table worth worth is_worth is_worth (no_less-refl worth))
        (All-nil (IsWorthNoLess p sets table));
  }

  -- the better of the best and of one more is the best of all
  pub best_more : (best table new_best new_table : Table) (greatest worth new_greatest : Bound)
      → IsWorth p sets best greatest → IsWorth p sets table worth
      → IsBetter best greatest table worth new_best new_greatest new_table
      → (tables : List Table) → IsBestOf p sets tables best → IsBestOf p sets (table ∷ tables) new_best
  best_more best table new_best new_table greatest worth new_greatest is_greatest is_worth (inl (more, _, best_is, _))
      tables of_all =
      let now : IsBestOf p sets (table ∷ tables) best = record {
        one = (suc of_all.one.0, omega (arith, of_all.one.1), of_all.one.2);
        no_less = All-cons (IsWorthNoLess p sets best) table tables
            (no_less-by best table greatest worth is_greatest is_worth more) of_all.no_less;
      } in
      subst (IsBestOf p sets (table ∷ tables)) (sym best_is) now
  best_more best table new_best new_table greatest worth new_greatest is_greatest is_worth (inr (less, _, best_is, _))
      tables of_all =
      let beats : All (IsWorthNoLess p sets table) tables =
      λ k d below one other is_one is_other.
      subst (λ (b : Bound). IsNoLess b other) (worth_once p sets table worth one is_worth is_one)
      (outdone greatest worth other less (of_all.no_less k d below greatest other is_greatest is_other)) in
      let now : IsBestOf p sets (table ∷ tables) table = record {
        one = (0, omega arith, refl);
        no_less = All-cons (IsWorthNoLess p sets table) table tables
            (no_less-by table table worth worth is_worth is_worth (no_less-refl worth)) beats;
      } in
      subst (IsBestOf p sets (table ∷ tables)) (sym best_is) now

  -- the better of two lawful tables is the better of both
  pub better_of : (best table new_best new_table : Table) (greatest worth new_greatest : Bound)
      → IsLawful p sets best greatest → IsLawful p sets table worth
      → IsBetter best greatest table worth new_best new_greatest new_table
      → IsBetterOf p sets best table new_best new_greatest
  better_of best table new_best new_table greatest worth new_greatest of_best of_table
      (inl (more, worth_is, best_is, _)) =
      let now : IsBetterOf p sets best table best greatest = record {
        lawful = of_best;
        no_less = no_less-by best best greatest greatest of_best.is_worth of_best.is_worth (no_less-refl greatest);
        no_less_other = no_less-by best table greatest worth of_best.is_worth of_table.is_worth more;
      } in
      subst (λ (t : Table). IsBetterOf p sets best table t new_greatest) (sym best_is)
      (subst (λ (b : Bound). IsBetterOf p sets best table best b) (sym worth_is) now)
  better_of best table new_best new_table greatest worth new_greatest of_best of_table
      (inr (less, worth_is, best_is, _)) =
      let now : IsBetterOf p sets best table table worth = record {
        lawful = of_table;
        no_less = no_less-by table best worth greatest of_table.is_worth of_best.is_worth
            (else_no_less greatest worth less);
        no_less_other = no_less-by table table worth worth of_table.is_worth of_table.is_worth (no_less-refl worth);
      } in
      subst (λ (t : Table). IsBetterOf p sets best table t new_greatest) (sym best_is)
      (subst (λ (b : Bound). IsBetterOf p sets best table table b) (sym worth_is) now)
