use Rattle.vs_ship.proofs.centring.lower.Goals as goal

pub returns-clause-lowered : goal.returns-clause-lowered
returns-clause-lowered c = record {
  risen = c.raise.new.prices;
  raised = c.raise.ensures.raised;
  back = c.turn_prices.ensures;
}
