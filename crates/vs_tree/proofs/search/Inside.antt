-- The fields of a tree as its opening and its parts, and what may come next as it is seen of these.
use Rattle.std.proofs.Common.{◌≡◌, ℕ, length, subst, sym}
use Rattle.vs_types.specs.declared.layer_set.LayerSet.{LayerSet}
use Rattle.vs_types.specs.declared.numbers.TripNo.{TripNo}
use Rattle.vs_tree.specs.declared.finishing.Parting.{Parting}
use Rattle.vs_tree.specs.declared.tree.Tree.TheInside.{Inside}
use Rattle.vs_tree.specs.Finishes.{IsParting}
use Rattle.vs_tree.specs.History.{MayClose, MaySplit, Opening, State, sets_at, state_of}
use Rattle.vs_tree.specs.Prices.{Prices}
use Rattle.vs_tree.specs.Search.{Parts, Search, state}

abbrev pub opening_of : Inside → Opening
opening_of i = record {
  problem = i.instance;
  budget = i.budget;
  workers = length i.hands.items;
  first = i.first;
}

abbrev pub parts_of : Inside → Parts
parts_of i = record {
  places = i.places;
  log = i.log;
  hands = i.hands.items;
  free = i.free;
  worths = i.worths.items;
  finished = i.finished;
  sets = i.sets.items;
}

module _ (i : Inside) (t : Search) (seen : record { opening = opening_of i; steps = i.log.steps } ≡ t)
    (worker leaf : ℕ) (prices : Prices) where
  abbrev s : State
  s = state_of (opening_of i) i.log.steps

  -- a leaf that may be closed, where this is known of the search as it is seen
  pub may_close : MayClose t.opening (state t) worker leaf (length (state t).tables) prices
      → MayClose (opening_of i) s worker leaf (length s.tables) prices
  may_close may =
      subst (λ (t : Search). MayClose t.opening (state t) worker leaf (length (state t).tables) prices) (sym seen) may

  -- the same of a leaf that may be split
  pub may_split : (trip : TripNo) (left : LayerSet)
      → MaySplit t.opening (state t) worker leaf (length (state t).tables) trip left prices
      → MaySplit (opening_of i) s worker leaf (length s.tables) trip left prices
  may_split trip left may =
      subst (λ (t : Search). MaySplit t.opening (state t) worker leaf (length (state t).tables) trip left prices)
      (sym seen) may

-- what a leaf is parted into, where this is known of the search as it is seen
pub parting_inside : (i : Inside) (t : Search) → record { opening = opening_of i; steps = i.log.steps } ≡ t
    → (leaf : ℕ) (prices : Prices) (parting : Parting)
    → IsParting t.opening.problem (sets_at (state t) leaf) prices parting
    → IsParting i.instance (sets_at (state_of (opening_of i) i.log.steps) leaf) prices parting
parting_inside i t seen leaf prices parting is =
    subst (λ (t : Search). IsParting t.opening.problem (sets_at (state t) leaf) prices parting) (sym seen) is
