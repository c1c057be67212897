use Rattle.vs_crew.proofs.hands.RootHandsHands.walk_all.Goals as goal

pub returns : goal.returns
returns g c = c.requires.works.1.walks _ _ _ _ c.requires.turn c.requires.walkers c.walk.ensures
