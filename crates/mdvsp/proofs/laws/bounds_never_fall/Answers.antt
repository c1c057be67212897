use Rattle.std.proofs.Common.{subst, sym, Option, ℤ}
use Rattle.vs_check.proofs.CallerLemmas.{prove_their_claims}
use Rattle.mdvsp.proofs.carried.StrongDocuments.{bound_no_lower, printed_strong, proven_cost_reaches, written_reaches}
use Rattle.mdvsp.proofs.carried.StrongTurns.{NoHigher, turns_no_higher, turns_strong}
use Rattle.mdvsp.proofs.laws.bounds_never_fall.Goals as goal

pub returns : goal.returns
returns c effort bytes answer rows owed =
    let p = owed.problem in
    let d = owed.before in
    let e = owed.document in
    let on = owed.answers.carried_on in
    let last = turns_strong p d.bound owed.budget on.first on.turns on.last on.are_turns
    (printed_strong p d on.first owed.held on.printed) in
    let reach = written_reaches p d.bound on.last e owed.answers.worths owed.answers.holds on.written
    owed.answers.are_worths last in
    let proves = prove_their_claims p d owed.text.instance.text.makes.instance owed.held in
    record {
      bound = bound_no_lower d.bound e.bound e.cost owed.answers.worths (proven_cost_reaches p d e proves owed.proves)
          reach owed.answers.bound;
      cost = subst (λ (now : Option ℤ). NoHigher d.cost now) (sym on.written.cost)
          (subst (λ (was : Option ℤ). NoHigher was on.last.cost) on.printed.cost
          (turns_no_higher p owed.budget on.first on.turns on.last on.are_turns));
    }
