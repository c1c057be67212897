-- The arcs of each kind, as they are put together.
use Rattle.std.specs.Prelude.{◌≡◌, ℕ, List}
use Rattle.vs_instance.specs.Problem.{Problem}
use Rattle.vs_types.specs.declared.numbers.TripNo.{TripNo}
use Rattle.vs_match.specs.declared.event.Point.{Point}
use Rattle.vs_match.specs.declared.arc_kind.ArcKind.TheVariants.{Trip, Waiting, Deadhead, PullOut, PullIn, RestIn, RestWait, RestOut, Return}
use Rattle.vs_match.specs.declared.arc_kind.LayerArc.{LayerArc}
use Rattle.vs_match.specs.declared.matching.Matching.{Matching}
use Rattle.vs_match.specs.NetArcs.{IsTripArc, IsWaitingArc, IsDeadheadArc, IsPullOutArc, IsPullInArc, IsRestInArc, IsRestWaitArc, IsRestOutArc, IsReturnArc}
use Rattle.vs_match.specs.Adds.{arc_in}

abbrev pub IsTrip : Problem → ℕ → List Point → LayerArc → Type 0
IsTrip p l points x = (i : TripNo) × (x.kind ≡ Trip i) × IsTripArc p l points i.0 (arc_in x)

abbrev pub IsWaiting : Problem → ℕ → List Point → LayerArc → Type 0
IsWaiting p l points x = (x.kind ≡ Waiting) × IsWaitingArc p l points (arc_in x)

abbrev pub IsDeadhead : Problem → ℕ → Matching → List Point → LayerArc → Type 0
IsDeadhead p l matching points x = (x.kind ≡ Deadhead) × IsDeadheadArc p l matching points (arc_in x)

-- the deadheads from stop k, and of these the ones to stop s
pub record IsDeadheadFrom (p : Problem) (l : ℕ) (matching : Matching) (points : List Point) (k : ℕ)
    (x : LayerArc) : Type 0 where
  pub kind : x.kind ≡ Deadhead
  pub arc : IsDeadheadArc p l matching points (arc_in x)
  pub leaves : arc.since.stop.0 ≡ k

pub record IsDeadheadTo (p : Problem) (l : ℕ) (matching : Matching) (points : List Point) (k s : ℕ)
    (x : LayerArc) : Type 0 where
  pub kind : x.kind ≡ Deadhead
  pub arc : IsDeadheadArc p l matching points (arc_in x)
  pub leaves : arc.since.stop.0 ≡ k
  pub reaches : arc.until.stop.0 ≡ s

abbrev pub IsPullOut : Problem → ℕ → List Point → LayerArc → Type 0
IsPullOut p l points x = (x.kind ≡ PullOut) × IsPullOutArc p l points (arc_in x)

abbrev pub IsPullIn : Problem → ℕ → List Point → LayerArc → Type 0
IsPullIn p l points x = (x.kind ≡ PullIn) × IsPullInArc p l points (arc_in x)

abbrev pub IsRestIn : Problem → ℕ → List Point → LayerArc → Type 0
IsRestIn p l points x = (x.kind ≡ RestIn) × IsRestInArc p l points (arc_in x)

abbrev pub IsRestWait : Problem → ℕ → List Point → LayerArc → Type 0
IsRestWait p l points x = (x.kind ≡ RestWait) × IsRestWaitArc p l points (arc_in x)

abbrev pub IsRestOut : Problem → ℕ → List Point → LayerArc → Type 0
IsRestOut p l points x = (x.kind ≡ RestOut) × IsRestOutArc p l points (arc_in x)

abbrev pub IsReturn : Problem → ℕ → List Point → LayerArc → Type 0
IsReturn p l points x = (x.kind ≡ Return) × IsReturnArc p l points (arc_in x)
