-- Tables that agree hold both or neither, and are worth the same.
use Rattle.std.proofs.Common.{◌≡◌, ℕ, ◌+◌, ◌<◌, ◌≤◌, Bool, List, length, refl, sym, ◌∙◌, subst, Option, ℤ, pos, ◌+ℤ◌, ◌≤ℤ◌, ◌<ℤ◌, MatchBool}
use Rattle.std.specs.Prelude.{IfSome}
use Rattle.vs_types.specs.declared.layer_set.LayerSet.{LayerSet}
use Rattle.vs_instance.specs.HoldingTable.{HoldsInLayer, price_of, scaled}
use Rattle.vs_instance.specs.Instance.{IsInstance}
use Rattle.vs_instance.specs.Pieces.{in_piece, link_piece, out_piece}
use Rattle.vs_instance.specs.Problem.{Problem}
use Rattle.vs_instance.specs.Restriction.{IsRestriction}
use Rattle.vs_prices.specs.Table.{HoldingTable, from_price, into_price, prices_in, vehicle_price}
use Rattle.vs_prices.specs.Worth.{IsRoundedUp, IsWorth, table_value}
use Rattle.vs_prices.specs.declared.bound.Bound.{Bound}
use Rattle.vs_prices.specs.declared.bound.Bound.TheVariants.{AtLeast, NoPlan}
use Rattle.vs_prices.specs.declared.table.Table.{Table}
use Rattle.vs_rows.specs.DocumentText.{Agree}
use Rattle.vs_tree.specs.Prices.{AreLawful, AreWorth, Prices, prices_of}
use Rattle.vs_tree.proofs.CallerLemmas.{worth_of_table}
use Rattle.vs_replay.specs.Alike.{AreAlike}
use Rattle.vs_check.proofs.CallerLemmas.{same_value, same_vehicle}

-- a move that a price allows is allowed by an equal one
out_allowed : (piece : Option ℕ) (x y f g : ℤ) (r s : Bool) → x ≡ y → f ≡ g → r ≡ s
    → IfSome piece (λ c. x ≤ℤ (scaled r c +ℤ f)) → IfSome piece (λ c. y ≤ℤ (scaled s c +ℤ g))
out_allowed piece x y f g r s price fleet ray may =
    subst (λ (b : Bool). IfSome piece (λ c. y ≤ℤ (scaled b c +ℤ g))) ray
    (subst (λ (z : ℤ). IfSome piece (λ c. y ≤ℤ (scaled r c +ℤ z))) fleet
    (subst (λ (z : ℤ). IfSome piece (λ c. z ≤ℤ (scaled r c +ℤ f))) price may))

link_allowed : (piece : Option ℕ) (x y f g : ℤ) (r s : Bool) → x ≡ y → f ≡ g → r ≡ s
    → IfSome piece (λ c. x ≤ℤ (f +ℤ scaled r c)) → IfSome piece (λ c. y ≤ℤ (g +ℤ scaled s c))
link_allowed piece x y f g r s price from ray may =
    subst (λ (b : Bool). IfSome piece (λ c. y ≤ℤ (g +ℤ scaled b c))) ray
    (subst (λ (z : ℤ). IfSome piece (λ c. y ≤ℤ (z +ℤ scaled r c))) from
    (subst (λ (z : ℤ). IfSome piece (λ c. z ≤ℤ (f +ℤ scaled r c))) price may))

module _ (p : Problem) (t u : Table) (agree : Agree p t u) where
  pub also_holds : HoldingTable p t → HoldingTable p u
  also_holds holds = λ l layer.
      let there = holds l layer in
      record {
        vehicle = subst (λ (x : ℤ). pos 0 ≤ℤ x) (same_vehicle p t u agree l) there.vehicle;
        outs = λ i inside may. out_allowed (out_piece p l i) (into_price p t l i) (into_price p u l i)
            (vehicle_price t l) (vehicle_price u l) t.ray u.ray (agree.into l i layer inside may)
            (same_vehicle p t u agree l) agree.ray (there.outs i inside may);
        links = λ i j from to may_leave may_enter. link_allowed (link_piece p l i j) (into_price p t l j)
            (into_price p u l j) (from_price p t l i) (from_price p u l i) t.ray u.ray
            (agree.into l j layer to may_enter) (agree.from l i layer from may_leave) agree.ray
            (there.links i j from to may_leave may_enter);
        ins = λ i inside may. link_allowed (in_piece p l i) (pos 0) (pos 0) (from_price p t l i) (from_price p u l i)
            t.ray u.ray refl (agree.from l i layer inside may) agree.ray (there.ins i inside may);
      }

  module _ (instance : IsInstance p) (sets : List LayerSet) (restriction : IsRestriction p sets) where
    pub also_worth : (bound : Bound) → IsWorth p sets t bound → IsWorth p sets u bound
    also_worth (AtLeast n) worth =
        subst (λ (x : ℤ). MatchBool u.ray ((x ≤ℤ pos 0) × (n ≡ pos 0)) (IsRoundedUp x n))
        (same_value p t u agree instance sets restriction)
        (subst (λ (b : Bool). MatchBool b ((table_value p sets t ≤ℤ pos 0) × (n ≡ pos 0))
        (IsRoundedUp (table_value p sets t) n)) agree.ray worth)
    also_worth NoPlan worth = (
      sym agree.ray ∙ worth.0,
      subst (λ (x : ℤ). pos 0 <ℤ x) (same_value p t u agree instance sets restriction) worth.1,
    )

-- tables of the same prices hold both
holds_along : (p : Problem) (t u : Table) → prices_of t ≡ prices_of u → HoldingTable p t → HoldingTable p u
holds_along p t u same holds =
    let P : Prices → Type 0 = λ x. (l : ℕ) → l < length p.layers
    → HoldsInLayer p l x.ray (prices_in p l x.into) (prices_in p l x.from) (price_of x.fleet l) in
    subst P same holds

module _ (p : Problem) (a b : Prices) where
  -- the other way round
  pub turned : AreAlike p a b → AreAlike p b a
  turned alike = record {
    one = alike.other;
    other = alike.one;
    one_is = alike.other_is;
    other_is = alike.one_is;
    one_fits = alike.other_fits;
    other_fits = alike.one_fits;
    agree = record {
      ray = sym alike.agree.ray;
      fleet = sym alike.agree.fleet;
      into = λ l i layer inside may. sym (alike.agree.into l i layer inside may);
      from = λ l i layer inside may. sym (alike.agree.from l i layer inside may);
    };
  }

  -- prices that say the same are lawful both, and worth the same
  pub also_lawful : AreAlike p a b → AreLawful p a → AreLawful p b
  also_lawful alike lawful = record {
    table = alike.other;
    listed = alike.other_is;
    fits = alike.other_fits;
    holds = also_holds p alike.one alike.other alike.agree
        (holds_along p lawful.table alike.one (lawful.listed ∙ sym alike.one_is) lawful.holds);
  }

  pub worth_alike : IsInstance p → (sets : List LayerSet) → IsRestriction p sets → AreAlike p a b → (bound : Bound)
      → AreWorth p sets a bound → AreWorth p sets b bound
  worth_alike instance sets restriction alike bound worth = record {
    table = alike.other;
    listed = alike.other_is;
    worth = also_worth p alike.one alike.other alike.agree instance sets restriction bound
        (worth_of_table p sets a bound alike.one alike.one_is worth);
  }

-- lawful prices say what they say
pub alike_self : (p : Problem) (a : Prices) → AreLawful p a → AreAlike p a a
alike_self p a lawful = record {
  one = lawful.table;
  other = lawful.table;
  one_is = lawful.listed;
  other_is = lawful.listed;
  one_fits = lawful.fits;
  other_fits = lawful.fits;
  agree = record {
    ray = refl;
    fleet = refl;
    into = λ l i layer inside may. refl;
    from = λ l i layer inside may. refl;
  };
}
