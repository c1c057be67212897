use Rattle.std.proofs.Common.{refl}
use Rattle.vs_rows.specs.DocumentRows.{ClaimRow}
use Rattle.vs_document.specs.DocumentRefusals.{documents}
use Rattle.vs_document.specs.Places.{AtClaim, AtCost}
use Rattle.vs_document.specs.Reading.{IsRefusedAt}
use Rattle.vs_rows.proofs.CallerLemmas.{err_passes, reads_one}
use Rattle.vs_document.proofs.reading.head.read_claim.Goals as goal
use Rattle.vs_document.proofs.reading.head.read_claim.Goals.{in-Claim, in_default}

pub returns-in_err-said-clause-refused : goal.returns-in_err-said-clause-refused
returns-in_err-said-clause-refused c =
    err_passes _ (IsRefusedAt c.args.input.now 0 AtClaim) c.from_residual.ensures.1
    (c.in_err-said.ensures.refused AtClaim (λ e. cc))

pub returns-clause-found : goal.returns-clause-found
returns-clause-found c = elim c.match-said.branch [
  | in-Claim w ↦
      let says = rw w.in-Claim.is at c.in_ok-said.ensures.says in
      rw w.result-is
      (reads_one documents c.args.input.now 0 c.in_ok-said.ensures.within AtClaim (ClaimRow w.in-Claim.claim) says
      AtCost (record { suits = tt; order = refl; right = (tt, tt) }))
  | in_default w ↦ rw w.result-is tt
]
