use Rattle.std.proofs.Common.{[], ◌∷◌}
use Rattle.vs_rows.specs.DocumentRows.{ClaimRow, CostRow, BoundRow, NodesRow}
use Rattle.vs_document.specs.DocumentRefusals.{documents}
use Rattle.vs_document.specs.Places.{AtClaim, AtCost, AtBound, AtNodes, AtBlocks}
use Rattle.vs_document.specs.Reading.{IsRefusedAt}
use Rattle.vs_rows.proofs.CallerLemmas.{err_passes, read_on}
use Rattle.vs_document.proofs.rows.ReadThrough.{passes}
use Rattle.vs_document.proofs.reading.head.read_head.Goals as goal

pub returns-in_err-cost-clause-refused : goal.returns-in_err-cost-clause-refused
returns-in_err-cost-clause-refused c =
    err_passes _ (IsRefusedAt c.args.input.now 0 AtClaim) c.from_residual-in_err-cost.ensures.1
    (passes c.args.input.now _ c.in_ok-claim.ensures.found.lead c.in_err-cost.ensures.refused)

pub returns-in_err-bound-clause-refused : goal.returns-in_err-bound-clause-refused
returns-in_err-bound-clause-refused c =
    err_passes _ (IsRefusedAt c.args.input.now 0 AtClaim)
    c.from_residual-in_err-bound.ensures.1
    (passes c.args.input.now _ c.in_ok-claim.ensures.found.lead
    (passes c.args.input.now _ c.in_ok-cost.ensures.found.lead c.in_err-bound.ensures.refused))

pub returns-in_err-nodes-clause-refused : goal.returns-in_err-nodes-clause-refused
returns-in_err-nodes-clause-refused c =
    err_passes _ (IsRefusedAt c.args.input.now 0 AtClaim)
    c.from_residual-in_err-nodes.ensures.1
    (passes c.args.input.now _ c.in_ok-claim.ensures.found.lead
    (passes c.args.input.now _ c.in_ok-cost.ensures.found.lead
    (passes c.args.input.now _ c.in_ok-bound.ensures.found.lead (c.in_err-nodes.ensures.refused c.in_ok-cost.cost))))

pub returns-clause-found : goal.returns-clause-found
returns-clause-found c =
    let input = c.args.input.now in
    let cost = c.in_ok-cost.cost in
    let one = c.in_ok-claim.ensures.found in
    let two = c.in_ok-cost.ensures.found in
    let three = c.in_ok-bound.ensures.found in
    let four = c.in_ok-nodes.ensures.found cost in
    record {
      cost = c.in_ok-cost.ensures.range;
      bound = c.in_ok-bound.ensures.range;
      no_cost = c.in_ok-bound.ensures.no_cost;
      nodes = c.in_ok-nodes.ensures.range;
      reads = read_on documents input 0 1 4 AtClaim AtCost (AtBlocks cost) (ClaimRow c.in_ok-claim.claim ∷ [])
          (CostRow cost ∷ BoundRow c.in_ok-bound.bound ∷ NodesRow c.in_ok-nodes.nodes ∷ []) one
          (read_on documents input 1 2 4 AtCost (AtBound cost) (AtBlocks cost) (CostRow cost ∷ [])
          (BoundRow c.in_ok-bound.bound ∷ NodesRow c.in_ok-nodes.nodes ∷ []) two
          (read_on documents input 2 3 4 (AtBound cost) (AtNodes cost) (AtBlocks cost)
          (BoundRow c.in_ok-bound.bound ∷ []) (NodesRow c.in_ok-nodes.nodes ∷ []) three four));
    }
