-- What is asked of a call that runs layers, and of one that has walkers take their turns.
use Rattle.std.specs.Prelude.{◌≡◌, ℕ, List, length}
use denote.Ref.{Bor, MutBor}
use denote.Param.Members.{Shared}
use Rattle.vs_match.specs.LayerGraph.{LayerGraph}
use Rattle.vs_ship.specs.declared.work.Kept.{Kept}
use Rattle.vs_multi.specs.declared.round.Case.{Case}
use Rattle.vs_bundle.specs.Runs.{AreLayers, CanRunIn, HaveRunIn, MayRunAll, Offers}
use Rattle.vs_penalty.specs.declared.walkers.Turn.{Turn}
use Rattle.vs_penalty.specs.declared.walkers.Walk.{Walk}
use Rattle.vs_penalty.specs.Seekers.{AreWalks, IsTurnIn}

module _ {L : Type 0}
    (g : Shared L (Bor (List LayerGraph) × (Bor Offers × (Bor (List ℕ) × (MutBor (List Kept) × Unit {0}))))
    (Unit {0} × (MutBor (List Kept) × Unit {0}))) (run : L) where
  -- it may be called wherever layers may be run, and runs them
  pub record RunsLayers : Type 0 where
    pub accepts : (nets : Bor (List LayerGraph)) (offers : Bor Offers) (places : Bor (List ℕ))
        (kept : MutBor (List Kept))
        → length places.now ≡ length kept.now → AreLayers nets.now places.now → MayRunAll nets.now offers.now
        → CanRunIn nets.now places.now kept.now
        → g.pre run (nets, (offers, (places, (kept, tt))))
    pub each : (nets : Bor (List LayerGraph)) (offers : Bor Offers) (places : Bor (List ℕ))
        (kept after : MutBor (List Kept))
        → length places.now ≡ length kept.now → AreLayers nets.now places.now → MayRunAll nets.now offers.now
        → CanRunIn nets.now places.now kept.now
        → g.post run (nets, (offers, (places, (kept, tt)))) (tt, (after, tt)) → length after.now ≡ length kept.now
    pub runs : (nets : Bor (List LayerGraph)) (offers : Bor Offers) (places : Bor (List ℕ))
        (kept after : MutBor (List Kept))
        → length places.now ≡ length kept.now → AreLayers nets.now places.now → MayRunAll nets.now offers.now
        → CanRunIn nets.now places.now kept.now
        → g.post run (nets, (offers, (places, (kept, tt)))) (tt, (after, tt))
        → HaveRunIn nets.now offers.now places.now after.now

module _ {K : Type 0} (g : Shared K (MutBor (List Walk) × (Bor Case × (Bor Turn × Unit {0})))
    (Unit {0} × (MutBor (List Walk) × Unit {0}))) (walk : K) where
  -- it may be called wherever walkers may take a turn, and leaves walks of the instance
  pub record TakesTurns : Type 0 where
    pub accepts : (walks : MutBor (List Walk)) (case : Bor Case) (turn : Bor Turn)
        → IsTurnIn case.now.instance.now case.now.nets.now case.now.sets.now turn.now
        → AreWalks case.now.instance.now walks.now → g.pre walk (walks, (case, (turn, tt)))
    pub walks : (walks after : MutBor (List Walk)) (case : Bor Case) (turn : Bor Turn)
        → IsTurnIn case.now.instance.now case.now.nets.now case.now.sets.now turn.now
        → AreWalks case.now.instance.now walks.now → g.post walk (walks, (case, (turn, tt))) (tt, (after, tt))
        → AreWalks case.now.instance.now after.now
