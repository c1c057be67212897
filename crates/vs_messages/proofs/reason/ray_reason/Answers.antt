use Rattle.std.proofs.Common.{List, sym, subst}
use Rattle.vs_types.specs.declared.numbers.TripNo.{TripNo}
use Rattle.vs_messages.specs.Reasons.{IsShortAt}
use Rattle.vs_messages.proofs.reason.ray_reason.Goals as goal

pub returns-in-None-clause-reason : goal.returns-in-None-clause-reason
returns-in-None-clause-reason c = (
  c.in_ok-trips.ensures.counted,
  λ minute within short. c.in-None.ensures minute within
      (subst (λ (trips : List TripNo). IsShortAt c.args.instance.now trips minute) (sym c.as_slice-named.ensures.value)
      short),
)
