use Rattle.std.proofs.Common.{◌≡◌}
use Rattle.vs_bundle.specs.Climbs.{IsTrialFor}
use Rattle.vs_bundle.proofs.valuing.Trial.read_all.Given as goal

-- what was offered stays
abbrev pub invariant-loop-l : goal.invariant-loop-l
invariant-loop-l l = record {
  trial : IsTrialFor l.case.instance.now l.self;
  offers : l.self.offers ≡ l.initial.self.offers;
}
