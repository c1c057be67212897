-- What a layer is offered: the trips whose sets have it, each for its multiplier.
use Rattle.std.specs.Prelude.{◌≡◌, ◌≢◌, ℕ, ◌<◌, ◌↔◌, List, [], ◌∷◌, length, map, Option, Some, None, ℤ}
use Rattle.vs_types.specs.declared.layer_set.LayerSet.{LayerSet}
use Rattle.vs_types.specs.declared.numbers.LayerNo.{LayerNo}
use Rattle.vs_types.specs.LayerSet.{Has, members}
use Rattle.vs_instance.specs.Problem.{Problem}
use Rattle.vs_instance.specs.Lagrangian.{multiplier_of}
use Rattle.vs_instance.specs.Restriction.{set_of}
use Rattle.vs_match.specs.LayerGraph.{LayerGraph}
use Rattle.vs_circ.specs.declared.circ.Circ.{Circ}
use Rattle.vs_circ.specs.Circulations.{IsLeastCirculation}
use Rattle.vs_circ.specs.Offers.{offer_of}
use Rattle.vs_prices.specs.declared.table.Table.{Table}
use Rattle.vs_prices.specs.Worth.{least, trip_price}
use Rattle.vs_multi.specs.Multipliers.{limited, greatest_paid}

-- a trip is offered for its multiplier where its set has layer l, and not offered elsewhere
pub record IsOfferFor (set : LayerSet) (multiplier : ℤ) (l : ℕ) (offer : Option ℤ) : Type 0 where
  pub offered : Has set l → offer ≡ Some multiplier
  pub left_out : ¬ (Has set l) → offer ≡ None

-- so for each trip
pub record AreOffersTo (p : Problem) (sets : List LayerSet) (multipliers : List ℤ) (l : ℕ)
    (offers : List (Option ℤ)) : Type 0 where
  pub each_trip : length offers ≡ length p.trips
  pub each : (i : ℕ) → i < length p.trips → IsOfferFor (set_of sets i) (multiplier_of multipliers i) l
      (offer_of offers i)

-- a least circulation of layer l's net, where these are its offers
abbrev pub IsLeastAt : Problem → LayerGraph → List LayerSet → List ℤ → LayerNo → Circ → Type 0
IsLeastAt p net sets multipliers l c =
    (offers : List (Option ℤ)) × AreOffersTo p sets multipliers l.0 offers × IsLeastCirculation p l net offers c

-- the rest has the layers of the set but for layer l
abbrev pub IsWithout : ℕ → LayerSet → LayerSet → Type 0
IsWithout l set rest = (k : ℕ) → Has rest k ↔ (Has set k × (k ≢ l))

-- the least that trip i pays in these layers, within the limits of multipliers; the greatest multiplier where there
-- are none
abbrev pub least_among : Problem → Table → ℕ → List ℕ → ℤ
least_among p table i [] = greatest_paid p
least_among p table i (l ∷ layers) = limited (greatest_paid p) (least (map (trip_price p table i) (l ∷ layers)))

-- what a trip pays at least in the layers of its set but for layer l
abbrev pub IsLeastElsewhere : Problem → LayerSet → Table → ℕ → ℕ → ℤ → Type 0
IsLeastElsewhere p set table l i price =
    (rest : LayerSet) × IsWithout l set rest × (price ≡ least_among p table i (members rest))

-- so for each trip
abbrev pub AreLeastElsewhere : Problem → List LayerSet → Table → ℕ → List ℤ → Type 0
AreLeastElsewhere p sets table l multipliers =
    (i : ℕ) → i < length p.trips → IsLeastElsewhere p (set_of sets i) table l i (multiplier_of multipliers i)
