-- Layers that are run, in turn or side by side, each with what is kept for it.
use Rattle.std.specs.Prelude.{◌≡◌, ℕ, ◌<◌, List, length, Option, Vec, slice_index_or, ℤ}
use Rattle.std.specs.Global.{Global}
use Rattle.vs_types.specs.declared.numbers.LayerNo.{LayerNo}
use Rattle.vs_instance.specs.Problem.{Problem}
use Rattle.vs_instance.specs.Instance.{IsInstance}
use Rattle.vs_match.specs.LawfulNets.{IsLawful}
use Rattle.vs_match.specs.LayerGraph.{LayerGraph}
use Rattle.vs_match.specs.LayerNets.{net_at}
use Rattle.vs_circ.specs.Offers.{AreOffers}
use Rattle.vs_circ.specs.shipping.Ready.{CanRun}
use Rattle.vs_circ.specs.shipping.Settled.{IsSettled}
use Rattle.vs_ship.specs.declared.work.Kept.{Kept}
use Rattle.vs_bundle.specs.declared.order.Order.{Order}

-- what layers are offered, layer by layer
abbrev pub Offers : Type 0
Offers = List (Vec (Option ℤ) Global)

-- a net is that of some layer, to which such offers may be made
abbrev pub MayRun : LayerGraph → List (Option ℤ) → Type 0
MayRun net offers = (p : Problem) × (l : LayerNo) × IsInstance p × IsLawful p l.0 net × AreOffers p l.0 offers

-- so is each of these nets, whose offers stand at its place
pub record MayRunAll (nets : List LayerGraph) (offers : Offers) : Type 0 where
  pub each_net : length offers ≡ length nets
  pub lawful : (k : ℕ) (d : Vec (Option ℤ) Global) → k < length nets
      → MayRun (net_at nets k) (slice_index_or offers k d).items

-- the layer at this place of an order
abbrev pub layer_at : List ℕ → ℕ → ℕ
layer_at places k = slice_index_or places k 0

-- there are nets of all layers of an order
abbrev pub AreLayers : List LayerGraph → List ℕ → Type 0
AreLayers nets places = (k : ℕ) → k < length places → layer_at places k < length nets

-- what is kept in the order of these layers may be used for their nets
abbrev pub CanRunIn : List LayerGraph → List ℕ → List Kept → Type 0
CanRunIn nets places kept =
    (k : ℕ) (d : Kept) → k < length kept → CanRun (net_at nets (layer_at places k)) (slice_index_or kept k d)

-- what is kept for a net may be used again, and is a least circulation of the offers at this place
pub record HasRun (net : LayerGraph) (offers : Offers) (k : ℕ) (kept : Kept) : Type 0 where
  pub ready : CanRun net kept
  pub settled : (d : Vec (Option ℤ) Global) → IsSettled net (slice_index_or offers k d).items kept.shipment

-- so it is for each in the order of these layers
abbrev pub HaveRunIn : List LayerGraph → Offers → List ℕ → List Kept → Type 0
HaveRunIn nets offers places kept = (k : ℕ) (d : Kept) → k < length kept
    → HasRun (net_at nets (layer_at places k)) offers (layer_at places k) (slice_index_or kept k d)

-- so it is for the nets before this one
abbrev pub HaveRun : List LayerGraph → Offers → List Kept → ℕ → Type 0
HaveRun nets offers kept end =
    (k : ℕ) (d : Kept) → k < end → HasRun (net_at nets k) offers k (slice_index_or kept k d)

-- an order of so many layers has a place for each, and threads that are no more
pub record IsOrderOf (layers : ℕ) (order : Order) : Type 0 where
  pub places : length order.places.items ≡ layers
  pub loads : length order.loads.items ≡ layers
  pub counts : length order.counts.items ≡ layers
