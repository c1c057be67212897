-- Prices of layers that are put behind one another.
use Rattle.std.proofs.Common.{◌≡◌, ℕ, ◌+◌, ◌-◌, ◌*◌, ◌<◌, ◌≤◌, Bool, List, [], ◌∷◌, ◌++◌, length, take, drop, sym, ap, ◌∙◌, subst, arith, ℤ, pos}
use Rattle.std.specs.List.{All}
use Rattle.std.proofs.lemmas.Nat.{mul-le}
use Rattle.std.proofs.lemmas.List.{drop_at, drop-append-le, get_or_append_left, get_or_push, length-append, length-drop, length_push, take_all, take-append-le}
use Rattle.std.proofs.lemmas.List.Elements.{All-append, All-nil, All-push}
use Rattle.vs_instance.specs.Problem.{Problem}
use Rattle.vs_instance.specs.HoldingTable.{HoldsInLayer, price_of}
use Rattle.vs_prices.specs.declared.table.Table.{Table}
use Rattle.vs_prices.specs.Table.{IsPrice, prices_in, vehicle_price}
use Rattle.vs_circ.specs.declared.circ.LayerPrices.{LayerPrices}
use Rattle.vs_node.specs.LayersDone.{AreSized, HoldsAt, IsOfFirst, StandAt, StandBehind}

module _ (p : Problem) where
  -- the prices of the last layer
  prices_in-last : (n : ℕ) (xs ys : List ℤ) → length xs ≡ n * length p.trips → length ys ≡ length p.trips
      → prices_in p n (xs ++ ys) ≡ ys
  prices_in-last n xs ys before long =
      let a = n * length p.trips in
      ap (take (a + length p.trips - a)) (drop_at xs ys a before)
      ∙ take_all (a + length p.trips - a) ys (omega arith)

  -- the prices of the layers before it stay
  prices_in-before : (k n : ℕ) (xs ys : List ℤ) → k < n → length xs ≡ n * length p.trips
      → prices_in p k (xs ++ ys) ≡ prices_in p k xs
  prices_in-before k n xs ys below long =
      let a = k * length p.trips in
      let product = mul-le (k + 1) (length p.trips) n (length p.trips) (omega arith) (omega arith) in
      let inside : a + length p.trips ≤ length xs = omega (arith, product, long) in
      ap (take (a + length p.trips - a)) (drop-append-le a xs ys (omega (arith, inside)))
      ∙ take-append-le (a + length p.trips - a) (drop a xs) ys (omega (arith, inside, length-drop a xs))

  -- the table has the same prices in layer k as the other
  pub record AreSameAt (old new : Table) (k : ℕ) : Type 0 where
    pub ray : new.ray ≡ old.ray
    pub into : prices_in p k new.into.items ≡ prices_in p k old.into.items
    pub from : prices_in p k new.from.items ≡ prices_in p k old.from.items
    pub fleet : vehicle_price new k ≡ vehicle_price old k

  module _ (n : ℕ) (old new : Table) (prices : LayerPrices) (first : IsOfFirst p n old)
      (behind : StandBehind old prices new) where
    pub same_before : (k : ℕ) → k < n → AreSameAt old new k
    same_before k below = record {
      ray = behind.ray;
      into = ap (prices_in p k) behind.into
          ∙ prices_in-before k n old.into.items prices.into.items below first.into_size;
      from = ap (prices_in p k) behind.from
          ∙ prices_in-before k n old.from.items prices.from.items below first.from_size;
      fleet = ap (λ (xs : List ℤ). price_of xs k) behind.fleet
          ∙ get_or_append_left old.fleet.items (prices.fleet ∷ []) (pos 0) k (omega (arith, first.fleet_size));
    }

    module _ (sized : AreSized p prices) where
      pub stand_last : StandAt p new n prices
      stand_last = record {
        into = ap (prices_in p n) behind.into
            ∙ prices_in-last n old.into.items prices.into.items first.into_size sized.into_size;
        from = ap (prices_in p n) behind.from
            ∙ prices_in-last n old.from.items prices.from.items first.from_size sized.from_size;
        fleet = ap (λ (xs : List ℤ). price_of xs n) behind.fleet
            ∙ get_or_push old.fleet.items prices.fleet (pos 0) n first.fleet_size;
      }

      pub of_first-more : IsOfFirst p (n + 1) new
      of_first-more = record {
        into_size = ap length behind.into ∙ length-append old.into.items prices.into.items
            ∙ omega (arith, first.into_size, sized.into_size);
        from_size = ap length behind.from ∙ length-append old.from.items prices.from.items
            ∙ omega (arith, first.from_size, sized.from_size);
        fleet_size = ap length behind.fleet ∙ length_push old.fleet.items prices.fleet
            ∙ ap (λ (m : ℕ). m + 1) first.fleet_size;
        into = subst (All IsPrice) (sym behind.into)
            (All-append IsPrice old.into.items prices.into.items first.into sized.into);
        from = subst (All IsPrice) (sym behind.from)
            (All-append IsPrice old.from.items prices.from.items first.from sized.from);
        fleet = subst (All IsPrice) (sym behind.fleet)
            (All-push IsPrice old.fleet.items prices.fleet first.fleet sized.fleet);
      }

  -- a table without prices is one of no layers
  pub of_first-none : (table : Table) → table.into.items ≡ [] → table.from.items ≡ [] → table.fleet.items ≡ []
      → IsOfFirst p 0 table
  of_first-none table into from fleet = record {
    into_size = ap length into ∙ omega arith;
    from_size = ap length from ∙ omega arith;
    fleet_size = ap length fleet;
    into = subst (All IsPrice) (sym into) (All-nil IsPrice);
    from = subst (All IsPrice) (sym from) (All-nil IsPrice);
    fleet = subst (All IsPrice) (sym fleet) (All-nil IsPrice);
  }

  -- prices hold wherever they stand
  pub holds_by : (l : ℕ) (ray ray' : Bool) (into into' from from' : List ℤ) (fleet fleet' : ℤ)
      → ray' ≡ ray → into' ≡ into → from' ≡ from → fleet' ≡ fleet
      → HoldsInLayer p l ray into from fleet → HoldsInLayer p l ray' into' from' fleet'
  holds_by l ray ray' into into' from from' fleet fleet' a b c d holds =
      subst (λ (x : Bool). HoldsInLayer p l x into' from' fleet') (sym a)
      (subst (λ (x : List ℤ). HoldsInLayer p l ray x from' fleet') (sym b)
      (subst (λ (x : List ℤ). HoldsInLayer p l ray into x fleet') (sym c)
      (subst (λ (x : ℤ). HoldsInLayer p l ray into from x) (sym d) holds)))

  pub holds-same : (old new : Table) (k : ℕ) → AreSameAt old new k → HoldsAt p old k → HoldsAt p new k
  holds-same old new k same holds =
      holds_by k old.ray new.ray (prices_in p k old.into.items) (prices_in p k new.into.items)
      (prices_in p k old.from.items) (prices_in p k new.from.items) (vehicle_price old k) (vehicle_price new k)
      same.ray same.into same.from same.fleet holds

  pub holds-stand : (table : Table) (l : ℕ) (ray : Bool) (prices : LayerPrices) → table.ray ≡ ray
      → StandAt p table l prices → HoldsInLayer p l ray prices.into.items prices.from.items prices.fleet
      → HoldsAt p table l
  holds-stand table l ray prices is stand holds =
      holds_by l ray table.ray prices.into.items (prices_in p l table.into.items)
      prices.from.items (prices_in p l table.from.items) prices.fleet (vehicle_price table l)
      is stand.into stand.from stand.fleet holds
