-- The better of a leaf's own table and a found one.
use Rattle.std.proofs.Common.{Bool, List, length, refl, sym, ap, ◌∙◌, subst, inl, inr, ℤ}
use Rattle.std.specs.List.{All}
use Rattle.vs_types.specs.declared.layer_set.LayerSet.{LayerSet}
use Rattle.vs_instance.specs.Problem.{Problem}
use Rattle.vs_instance.specs.HoldingTable.{HoldsInLayer, price_of}
use Rattle.vs_prices.specs.declared.bound.Bound.{Bound}
use Rattle.vs_prices.specs.declared.table.Table.{Table}
use Rattle.vs_prices.specs.Bounds.{IsNoLess}
use Rattle.vs_prices.specs.Table.{IsPrice, prices_in}
use Rattle.vs_multi.proofs.CallerLemmas.{IsBetterOf, IsLawful, better_of, worth_along}
use Rattle.vs_node.specs.SameTables.{AreSame}

module _ (p : Problem) (sets : List LayerSet) (table copy : Table) (same : AreSame table copy) where
  -- a copy is as lawful as the table
  pub same-lawful : (worth : Bound) → IsLawful p sets table worth → IsLawful p sets copy worth
  same-lawful worth lawful = record {
    fits = record {
      into_size = ap length same.into ∙ lawful.fits.into_size;
      from_size = ap length same.from ∙ lawful.fits.from_size;
      fleet_size = ap length same.fleet ∙ lawful.fits.fleet_size;
      into = subst (λ (xs : List ℤ). All IsPrice xs) (sym same.into) lawful.fits.into;
      from = subst (λ (xs : List ℤ). All IsPrice xs) (sym same.from) lawful.fits.from;
      fleet = subst (λ (xs : List ℤ). All IsPrice xs) (sym same.fleet) lawful.fits.fleet;
    };
    holds = λ l inside.
        subst (λ (z : Bool × List ℤ × List ℤ × List ℤ).
        HoldsInLayer p l z.0 (prices_in p l z.1) (prices_in p l z.2) (price_of z.3 l))
        (λ i. (sym same.ray i, sym same.into i, sym same.from i, sym same.fleet i)) (lawful.holds l inside);
    is_worth = worth_along p sets table copy same.into same.from same.fleet same.ray worth lawful.is_worth;
  }

module _ (p : Problem) (sets : List LayerSet) (own found : Table) (own_worth found_worth : Bound)
    (of_own : IsLawful p sets own own_worth) (of_found : IsLawful p sets found found_worth) where
  -- the found table is the better one where it is worth no less
  pub found_better : IsNoLess found_worth own_worth → IsBetterOf p sets found own found found_worth
  found_better more =
      better_of p sets found own found own found_worth own_worth found_worth of_found of_own
      (inl (more, refl, refl, refl))

  -- and else a copy of the own one
  pub copy_better : (copy : Table) → AreSame own copy → ¬ (IsNoLess found_worth own_worth)
      → IsBetterOf p sets found own copy own_worth
  copy_better copy same less =
      let of_copy = same-lawful p sets own copy same own_worth of_own in
      let is = better_of p sets found copy copy found found_worth own_worth own_worth of_found of_copy
      (inr (less, refl, refl, refl)) in
      record {
        lawful = is.lawful;
        no_less = is.no_less;
        no_less_other = λ worth least is_worth is_least.
            is.no_less_other worth least is_worth
            (worth_along p sets own copy same.into same.from same.fleet same.ray least is_least);
      }
