-- How a run ends: the exit status that goes with each end, and the end that goes with a claim.
use Rattle.std.specs.Prelude.{ℕ}
use Rattle.vs_prices.specs.declared.claim.Claim.{Claim}
use Rattle.vs_prices.specs.declared.claim.Claim.TheVariants.{Optimal, Infeasible, StillOpen}
use Rattle.vs_reply.specs.declared.status.Status.{Status}
use Rattle.vs_reply.specs.declared.status.Status.TheVariants as status

abbrev pub code_of : Status → ℕ
code_of status.Done = 0
code_of status.SaysNo = 1
code_of status.BadWords = 2
code_of status.BadInput = 3
code_of status.ReadFault = 4
code_of status.WriteFault = 5
code_of status.NoMemory = 6
code_of status.TooLong = 7
code_of status.Infeasible = 10
code_of status.StillOpen = 11

-- of a search whose document has this claim
abbrev pub status_of : Claim → Status
status_of Optimal = status.Done
status_of Infeasible = status.Infeasible
status_of StillOpen = status.StillOpen
