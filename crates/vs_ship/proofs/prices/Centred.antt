-- From prices that settle a flow to those in the middle of all such prices.
use Rattle.std.proofs.Common.{◌≡◌, ℕ, ◌<◌, ◌∙◌, List, length, sym, ap, subst, inl, inr, arith, ℤ, pos, ◌≤ℤ◌}
use Rattle.std.proofs.lemmas.Bool.{cases_lt}
use Rattle.std.proofs.lemmas.Int.{ints}
use Rattle.std.proofs.lemmas.List.{get_or_past}
use Rattle.vs_path.specs.declared.residual.TheConstants.{MAX_SEARCH_PRICE}
use Rattle.vs_path.specs.Labels.{IsSmall}
use Rattle.vs_path.specs.Residual.{ResidualNet, IsResidual, HasSignRule, AllWithin, IsWithin, price_at}
use Rattle.vs_ship.specs.declared.centring.TheConstants.{MAX_RAISED_PRICE}
use Rattle.vs_ship.specs.declared.gaps.TheConstants.{MAX_NODE_PRICE}
use Rattle.vs_ship.specs.Centring.{AreMeans, AreRaisedPrices, AreSettled}
use Rattle.vs_ship.specs.Gaps.{AreNear}
use Rattle.vs_ship.specs.Mirror.{AreTurned, IsMirrorOf, across}
use Rattle.vs_ship.proofs.prices.Mirrored.{sign-turned, sign-back, turned-back}
use Rattle.vs_ship.proofs.prices.SignRules.{sign-near, sign-mean}

-- prices within a bound lie within a greater one
pub within-≤ : (bound more : ℤ) (prices : List ℤ) → bound ≤ℤ more → AllWithin bound prices → AllWithin more prices
within-≤ bound more prices less within i =
    let is = within i in record { low = omega (arith, ints, less, is.low); high = omega (arith, ints, less, is.high) }

-- turned round, prices lie no further out
pub turned-within : (bound : ℤ) (old new : List ℤ) → pos 0 ≤ℤ bound → AreTurned old new → AllWithin bound old
    → AllWithin bound new
turned-within bound old new some are within i =
    elim (cases_lt i (length old)) [
      | inl inside ↦
          let is = within (across (length old) i) in
          let here = are.each i inside in
          record { low = omega (arith, ints, is.high, here); high = omega (arith, ints, is.low, here) }
      | inr past ↦
          let Is : ℤ → Type 0 = λ z. IsWithin bound z in
          subst Is (sym (get_or_past new i (pos 0) (omega (arith, past, are.size))))
          (record { low = omega (arith, ints); high = omega (arith, ints) })
    ]

module _ (r : ResidualNet) (is : IsResidual r) (prices near : List ℤ) (small : IsSmall r prices)
    (near_is : AreNear prices near) where
  -- near prices are small
  pub near-small : IsSmall r near
  near-small = record {
    nodes = small.nodes;
    cost = small.cost;
    each_node = near_is.size ∙ small.each_node;
    each_price = within-≤ MAX_NODE_PRICE MAX_SEARCH_PRICE near (omega (arith, ints)) near_is.within;
  }

  -- they keep the sign rule
  pub near-rule : HasSignRule r prices → HasSignRule r near
  near-rule = sign-near r prices near is small.cost small.each_node near_is

  -- near prices settle the flow
  pub near-settled : HasSignRule r prices → AreSettled r near
  near-settled rule = record {
    each_node = near_is.size ∙ small.each_node;
    within = near_is.within;
    span = near_is.span;
    first = near_is.first;
    sign_rule = near-rule rule;
  }

  module _ (m : ResidualNet) (mirror : IsMirrorOf r m) (turned : List ℤ) (turned_is : AreTurned near turned) where
    -- turned round, they keep the sign rule
    pub turned-rule : HasSignRule r prices → HasSignRule m turned
    turned-rule rule = sign-turned r m is mirror near turned near-small.each_node turned_is (near-rule rule)

    module _ (risen low high : List ℤ) (risen_is : AreRaisedPrices m turned risen) (low_is : AreTurned risen low)
        (high_is : AreRaisedPrices r near high) where
      low-size : length low ≡ r.graph.nodes
      low-size = low_is.size ∙ risen_is.each_node ∙ mirror.graph.nodes

      low-rule : HasSignRule r low
      low-rule = sign-back r m is mirror low risen low-size (turned-back risen low low_is) risen_is.sign_rule

      -- the least prices lie no further out
      low-within : AllWithin MAX_RAISED_PRICE low
      low-within = turned-within MAX_RAISED_PRICE risen low (omega (arith, ints)) low_is risen_is.within

      -- and are no greater than the greatest
      pub low-below : (v : ℕ) → v < length low → price_at low v ≤ℤ price_at high v
      low-below v within =
          let there = across (length risen) v in
          let here = low_is.each v (omega (arith, within, low_is.size)) in
          let rose = risen_is.rose there in
          let old = turned_is.each there (omega (arith, within, low-size, near-small.each_node)) in
          let back : across (length near) there ≡ v =
          omega (arith, within, low-size, low_is.size, near-small.each_node) in
          let price = ap (λ (u : ℕ). price_at near u) back in
          omega (arith, ints, here, rose, old, price, high_is.rose v)

      module _ (means : List ℤ) (means_are : AreMeans low high means) where
        -- their means lie no further out than prices may
        pub means-within : AllWithin MAX_SEARCH_PRICE means
        means-within v =
            elim (cases_lt v (length low)) [
              | inl inside ↦
                  let mean = means_are.each v inside in
                  let a = low-within v in
                  let b = high_is.within v in
                  record {
                    low = omega (arith, ints, mean.no_less, a.low, b.low);
                    high = omega (arith, ints, mean.no_more, a.high, b.high);
                  }
              | inr past ↦
                  let Is : ℤ → Type 0 = λ z. IsWithin MAX_SEARCH_PRICE z in
                  subst Is (sym (get_or_past means v (pos 0) (omega (arith, past, means_are.size))))
                  (record { low = omega (arith, ints); high = omega (arith, ints) })
            ]

        -- they are small
        pub means-small : IsSmall r means
        means-small = record {
          nodes = small.nodes;
          cost = small.cost;
          each_node = means_are.size ∙ low-size;
          each_price = means-within;
        }

        -- and keep the sign rule
        pub means-rule : HasSignRule r means
        means-rule = sign-mean r low high means is low-size means_are low-rule high_is.sign_rule
