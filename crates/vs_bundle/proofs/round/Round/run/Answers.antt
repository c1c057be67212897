use Rattle.vs_bundle.proofs.Parts.{all-ready, all-run, still-ready}
use Rattle.vs_bundle.proofs.round.Round.run.Goals as goal

pub run_all-requires-clause-ready : goal.run_all-requires-clause-ready
run_all-requires-clause-ready g c =
    all-ready c.args.self.now.nets.now c.args.work.now c.deref_mut-kept.result.now c.args.places.now
    c.deref_mut-kept.ensures.value c.requires.each c.requires.numbered c.requires.ready

pub returns-clause-ready : goal.returns-clause-ready
returns-clause-ready g c =
    still-ready c.args.self.now.nets.now c.args.work.now c.deref_mut-kept.result.now c.run_all.new.kept
    c.args.places.now c.deref_mut-kept.ensures.value c.deref_mut-kept.ensures.len c.requires.each c.requires.numbered
    c.requires.ready c.run_all.ensures.each c.run_all.ensures.ready

pub returns-clause-run : goal.returns-clause-run
returns-clause-run g c done =
    all-run c.args.self.now.nets.now c.args.work.now c.deref_mut-kept.result.now c.run_all.new.kept
    c.args.places.now c.deref_mut-kept.ensures.value c.deref_mut-kept.ensures.len c.requires.each c.requires.numbered
    c.requires.ready c.run_all.ensures.each c.args.self.now.offers.now (c.run_all.ensures.run done)
