-- Rounds, one after the other: in each a least circulation in every layer at the multipliers as they are, which then
-- move.
use Rattle.std.specs.Prelude.{◌≡◌, ℕ, zero, suc, ◌+◌, ◌<◌, ◌⊎◌, All, Contains, List, [], ◌∷◌, length, false, IfSome, IsSomeAnd, slice_get, slice_index, ℤ}
use Rattle.vs_types.specs.declared.layer_set.LayerSet.{LayerSet}
use Rattle.vs_types.specs.declared.numbers.LayerNo.{LayerNo}
use Rattle.vs_instance.specs.Problem.{Problem}
use Rattle.vs_instance.specs.Restriction.{IsRestriction}
use Rattle.vs_match.specs.LayerGraph.{LayerGraph}
use Rattle.vs_match.specs.LayerNets.{AreLayerNets, net_at}
use Rattle.vs_circ.specs.declared.circ.Circ.{Circ}
use Rattle.vs_circ.specs.Circulations.{RunTrip}
use Rattle.vs_prices.specs.declared.bound.Bound.{Bound}
use Rattle.vs_prices.specs.declared.table.Table.{Table}
use Rattle.vs_prices.specs.Bounds.{IsNoLess, IsWorthNoLess}
use Rattle.vs_prices.specs.Table.{Fits, HoldingTable}
use Rattle.vs_multi.specs.declared.round.Round.{Round}
use Rattle.vs_multi.specs.Exchanges.{AgreeBut, HasPrices}
use Rattle.vs_multi.specs.declared.steps.Steps.{Steps}
use Rattle.vs_multi.specs.Offers.{IsLeastAt}
use Rattle.vs_multi.specs.Steps.{AreMoved, IsGreatestStep, rounds_in, step_in}

-- a case: a net for each layer of the instance, and layers in which each trip may be run
pub record IsCase (p : Problem) (graphs : List LayerGraph) (sets : List LayerSet) : Type 0 where
  pub nets : AreLayerNets p graphs
  pub restriction : IsRestriction p sets

-- for each layer, in order, a least circulation of the trips whose sets have it
pub record AreOfRound (p : Problem) (nets : List LayerGraph) (sets : List LayerSet) (multipliers : List ℤ)
    (circs : List Circ) : Type 0 where
  pub each_layer : length circs ≡ length p.layers
  pub least : (l : LayerNo) → IfSome (slice_get circs l.0) (IsLeastAt p (net_at nets l.0) sets multipliers l)

-- layer l runs trip i
abbrev pub RunsTrip : List LayerGraph → List Circ → ℕ → ℕ → Type 0
RunsTrip nets circs i l = IsSomeAnd (slice_get circs l) (λ c. RunTrip (net_at nets l) c.flow.units.items i)

-- so many of the numbers below m are such
abbrev pub IsCountBelow : (ℕ → Type 0) → ℕ → ℕ → Type 0
IsCountBelow Such zero n = n ≡ 0
IsCountBelow Such (suc m) n =
    (¬ (Such m) × IsCountBelow Such m n) ⊎ (Such m × ((k : ℕ) × (n ≡ k + 1) × IsCountBelow Such m k))

-- for each trip, how many of the layers below m run it
pub record AreCovers (p : Problem) (nets : List LayerGraph) (circs : List Circ) (m : ℕ) (covers : List ℕ) : Type 0 where
  pub each_trip : length covers ≡ length p.trips
  pub count : (i : ℕ) → i < length p.trips → IsCountBelow (RunsTrip nets circs i) m (slice_index covers i)

-- in each layer the table has the prices of the circulation there
abbrev pub HasPricesOf : Problem → List Circ → Table → Type 0
HasPricesOf p circs table = (l : LayerNo) → IfSome (slice_get circs l.0) (λ c. HasPrices p table l.0 c.prices)

-- a round at these multipliers: least circulations, a table of their prices, and for each trip how many layers run it
pub record IsRound (p : Problem) (nets : List LayerGraph) (sets : List LayerSet) (multipliers : List ℤ) (table : Table)
    (counts : List ℕ) : Type 0 where
  pub circs : List Circ
  pub round : AreOfRound p nets sets multipliers circs
  pub prices : HasPricesOf p circs table
  pub covers : AreCovers p nets circs (length p.layers) counts

-- rounds of these tables, that of the last round first, lead from the first multipliers to the last: after each round,
-- counted from 0, every multiplier moves by the step of that round, up once, and down once for each layer that runs its
-- trip
abbrev pub LeadTo : Problem → List LayerGraph → List LayerSet → Steps → ℕ → List ℤ → List ℤ → List Table → Type 0
LeadTo p nets sets steps most first last [] = last ≡ first
LeadTo p nets sets steps most first last (table ∷ earlier) =
    (before : List ℤ) × (counts : List ℕ) × LeadTo p nets sets steps most first before earlier
    × IsRound p nets sets before table counts × AreMoved (step_in steps most (length earlier)) counts before last

-- one of the tables, and within the sets worth no less than each of them
pub record IsBestOf (p : Problem) (sets : List LayerSet) (tables : List Table) (best : Table) : Type 0 where
  pub one : Contains tables best
  pub no_less : All (IsWorthNoLess p sets best) tables

-- the best table of the rounds that begin with these multipliers, and the counts of the last of them: for each trip,
-- how many layers run it
pub record IsBestOfRounds (p : Problem) (nets : List LayerGraph) (sets : List LayerSet) (steps : Steps) (first : List ℤ)
    (best : Table) (counts : List ℕ) : Type 0 where
  pub most : ℕ
  pub greatest : IsGreatestStep p most
  pub earlier : List Table
  pub all : length earlier + 1 ≡ rounds_in steps
  pub multipliers : List ℤ
  pub led : LeadTo p nets sets steps most first multipliers earlier
  pub last : Table
  pub round : IsRound p nets sets multipliers last counts
  pub is_best : IsBestOf p sets (last ∷ earlier) best

-- a trip's count is one more exactly where it is run
abbrev pub IsCounted : LayerGraph → List ℕ → ℕ → ℕ → ℕ → Type 0
IsCounted net units i old new =
    (¬ (RunTrip net units i) × (new ≡ old)) ⊎ (RunTrip net units i × (new ≡ old + 1))

-- so for each trip
pub record AreCounted (net : LayerGraph) (units : List ℕ) (old new : List ℕ) : Type 0 where
  pub each_trip : length new ≡ length old
  pub count : (i : ℕ) → i < length old → IsCounted net units i (slice_index old i) (slice_index new i)

-- a round after layer l has run with this circulation
pub record IsRunIn (p : Problem) (net : LayerGraph) (sets : List LayerSet) (multipliers : List ℤ) (l : LayerNo)
    (old new : Round) (c : Circ) : Type 0 where
  pub least : IsLeastAt p net sets multipliers l c
  pub prices : HasPrices p new.table l.0 c.prices
  pub others : AgreeBut p l.0 old.table new.table
  pub counted : AreCounted net c.flow.units.items old.covers.items new.covers.items

-- of two tables of these worths the better one first, the first one where both are worth as much
abbrev pub IsBetter : Table → Bound → Table → Bound → Table → Bound → Table → Type 0
IsBetter best greatest table worth new_best new_greatest new_table =
    (IsNoLess greatest worth × (new_greatest ≡ greatest) × (new_best ≡ best) × (new_table ≡ table))
    ⊎ (¬ (IsNoLess greatest worth) × (new_greatest ≡ worth) × (new_best ≡ table) × (new_table ≡ best))

-- what a round is made in: a table that holds, and an entry for each trip
pub record IsRoundFor (p : Problem) (round : Round) : Type 0 where
  pub offers : length round.offers.items ≡ length p.trips
  pub covers : length round.covers.items ≡ length p.trips
  pub fits : Fits p round.table
  pub holds : HoldingTable p round.table
  pub costs : round.table.ray ≡ false
