-- The rule by which a first plan is made.
use Rattle.std.specs.Prelude.{◌≡◌, ℕ, ◌+◌, ◌-◌, ◌<◌, List, [], ◌∷◌, ◌++◌, length, set, AllPairs, Contains, ◌⊎◌, ◌↔◌, slice_index, slice_index_or, slice_set}
use Rattle.vs_types.specs.declared.numbers.LayerNo.{LayerNo}
use Rattle.vs_types.specs.declared.numbers.TripNo.{TripNo}
use Rattle.vs_instance.specs.Problem.{Problem}
use Rattle.vs_instance.specs.Ways.{trip_of, layer_of, Permitted, Connects, HasPullOut, HasPullIn}
use Rattle.vs_instance.specs.Blocks.{last_of}
use Rattle.vs_instance.specs.Plan.{LayerBlock, vehicles_used}

-- trip i is taken before trip j: it starts earlier, or at the same minute and has the lower number
abbrev pub TakenBefore : Problem → TripNo → TripNo → Type 0
TakenBefore p i j =
    ((trip_of p i.0).start < (trip_of p j.0).start) ⊎ (((trip_of p i.0).start ≡ (trip_of p j.0).start) × (i.0 < j.0))

-- all trips of the instance, in the order in which they are taken
pub record IsOrder (p : Problem) (order : List TripNo) : Type 0 where
  pub all : (i : TripNo) → Contains order i ↔ (i.0 < length p.trips)
  pub in_order : AllPairs (TakenBefore p) order

-- trip i can go to the end of a block: the layer permits it, the block's last trip connects to it, and there is a
-- pull-in after it
pub record CanJoin (p : Problem) (i : ℕ) (b : LayerBlock) : Type 0 where
  pub permitted : Permitted p b.0.0 i
  pub connected : Connects p (last_of b.1) i
  pub pull_in : HasPullIn p b.0.0 i

-- a vehicle of layer l can be taken for trip i: the layer permits it and has a vehicle left, and there are a pull-out
-- and a pull-in
pub record CanOpen (p : Problem) (blocks : List LayerBlock) (i l : ℕ) : Type 0 where
  pub layer : l < length p.layers
  pub permitted : Permitted p l i
  pub left : vehicles_used blocks l < (layer_of p l).fleet
  pub pull_out : HasPullOut p l i
  pub pull_in : HasPullIn p l i

abbrev pub block_at : List LayerBlock → ℕ → LayerBlock
block_at blocks k = slice_index_or blocks k (record { 0 = 0 }, [])

-- a block with one more trip, the blocks where block k has one more, and the blocks with one more of layer l
abbrev pub longer : LayerBlock → TripNo → LayerBlock
longer b i = (b.0, b.1 ++ i ∷ [])

abbrev pub joined : List LayerBlock → ℕ → TripNo → List LayerBlock
joined blocks k i = set blocks k (longer (block_at blocks k) i)

abbrev pub opened : List LayerBlock → LayerNo → TripNo → List LayerBlock
opened blocks l i = blocks ++ (l, i ∷ []) ∷ []

-- block k is the first that trip i can join
abbrev pub IsFirstToJoin : Problem → List LayerBlock → ℕ → ℕ → Type 0
IsFirstToJoin p blocks i k =
    (k < length blocks) × CanJoin p i (block_at blocks k) × ((m : ℕ) → m < k → ¬ (CanJoin p i (block_at blocks m)))

-- trip i joins block k, the first that it can join
pub record Joins (p : Problem) (old : List LayerBlock) (i : TripNo) (new : List LayerBlock) : Type 0 where
  pub k : ℕ
  pub opened : k < length old
  pub can : CanJoin p i.0 (block_at old k)
  pub first : (m : ℕ) → m < k → ¬ (CanJoin p i.0 (block_at old m))
  pub new_is : new ≡ joined old k i

-- trip i can join none
abbrev pub JoinsNone : Problem → List LayerBlock → ℕ → Type 0
JoinsNone p blocks i = (m : ℕ) → m < length blocks → ¬ (CanJoin p i (block_at blocks m))

-- trip i can open none
abbrev pub OpensNone : Problem → List LayerBlock → ℕ → Type 0
OpensNone p blocks i = (l : ℕ) → ¬ (CanOpen p blocks i l)

-- layer l is the lowest in which trip i can open a block
abbrev pub IsLowestToOpen : Problem → List LayerBlock → ℕ → ℕ → Type 0
IsLowestToOpen p blocks i l = CanOpen p blocks i l × ((m : ℕ) → m < l → ¬ (CanOpen p blocks i m))

-- trip i opens a block in layer l, the lowest in which it can
pub record Opens (p : Problem) (old : List LayerBlock) (i : TripNo) (new : List LayerBlock) : Type 0 where
  pub l : LayerNo
  pub none : JoinsNone p old i.0
  pub can : CanOpen p old i.0 l.0
  pub lowest : (m : ℕ) → m < l.0 → ¬ (CanOpen p old i.0 m)
  pub new_is : new ≡ opened old l i

-- trip i can neither join a block nor open one
pub record IsStuck (p : Problem) (blocks : List LayerBlock) (i : ℕ) : Type 0 where
  pub none : JoinsNone p blocks i
  pub no_layer : OpensNone p blocks i

-- trip i joins a block or opens one
abbrev pub IsPlaced : Problem → List LayerBlock → TripNo → List LayerBlock → Type 0
IsPlaced p old i new = Joins p old i new ⊎ Opens p old i new

-- the trips are placed one after another
abbrev pub Places : Problem → List LayerBlock → List TripNo → List LayerBlock → Type 0
Places p old [] new = new ≡ old
Places p old (i ∷ trips) new = (next : List LayerBlock) × IsPlaced p old i next × Places p next trips new

-- how many vehicles each layer has left, beside those of its blocks
pub record AreLeft (p : Problem) (blocks : List LayerBlock) (left : List ℕ) : Type 0 where
  pub each_layer : length left ≡ length p.layers
  pub counted : (l : ℕ) → l < length p.layers → slice_index left l + vehicles_used blocks l ≡ (layer_of p l).fleet

-- one vehicle fewer is left of layer l
abbrev pub one_fewer : List ℕ → ℕ → List ℕ
one_fewer left l = slice_set left l (slice_index left l - 1)

-- what the rule gives: the blocks when every trip is placed
pub record GreedyGives (p : Problem) (blocks : List LayerBlock) : Type 0 where
  pub order : List TripNo
  pub is_order : IsOrder p order
  pub placed : Places p [] order blocks

-- the rule reaches a trip that can neither join nor open a block
pub record GreedyGetsStuck (p : Problem) : Type 0 where
  pub earlier : List TripNo
  pub trip : TripNo
  pub later : List TripNo
  pub blocks : List LayerBlock
  pub is_order : IsOrder p (earlier ++ trip ∷ later)
  pub placed : Places p [] earlier blocks
  pub stuck : IsStuck p blocks trip.0
