use Rattle.vs_crew.proofs.hands.RootHandsLanes.run_layers.Goals as goal

pub returns-clause-each : goal.returns-clause-each
returns-clause-each g c =
    c.requires.works.0.each _ _ _ _ _ c.requires.each c.requires.layers c.requires.offers c.requires.ready c.run.ensures

pub returns-clause-run : goal.returns-clause-run
returns-clause-run g c =
    c.requires.works.0.runs _ _ _ _ _ c.requires.each c.requires.layers c.requires.offers c.requires.ready c.run.ensures
