use Rattle.std.proofs.Common.{◌≡◌, List, length, sym, ◌∙◌, subst, arith}
use Rattle.vs_prices.specs.declared.bound.Bound.{Bound}
use Rattle.vs_tree.specs.History.{known, state_of}
use Rattle.vs_tree.specs.Report.{IsLeastOf, IsLesser, IsReport}
use Rattle.vs_tree.specs.declared.calls.Report.{Report}
use Rattle.vs_tree.specs.Search.{Search, state}
use Rattle.vs_tree.proofs.search.Facts.{places_within}
use Rattle.vs_tree.proofs.search.Inside.{opening_of, parts_of}
use Rattle.vs_tree.proofs.search.Next.{known-is}
use Rattle.vs_tree.proofs.search.Reporting.{least-is}
use Rattle.vs_tree.proofs.tree.Tree.report.Goals as goal

pub least_bound-requires-clause-sized : goal.least_bound-requires-clause-sized
least_bound-requires-clause-sized c =
    let i = c.self.inside in
    let few = places_within (opening_of i) (parts_of i) c.self.invariant in
    omega (arith, few, c.self.invariant.parts.worths_size, c.deref.ensures.len, i.worths.ok.0)

pub least_bound-requires-clause-few : goal.least_bound-requires-clause-few
least_bound-requires-clause-few c =
    let i = c.self.inside in
    let few = places_within (opening_of i) (parts_of i) c.self.invariant in
    omega (arith, few, c.self.invariant.few_leaves)

pub returns : goal.returns
returns c =
    let i = c.self.inside in
    let o = opening_of i in
    let a = parts_of i in
    let is = c.self.invariant in
    let knows : c.known-cost.result ≡ known (state_of o a.log.steps) = c.known-cost.ensures ∙ known-is o a is in
    let of : IsLeastOf i.places.places i.worths.items c.known-cost.result (length i.places.places)
    c.least_bound.result =
    subst (λ (x : List Bound). IsLeastOf i.places.places x c.known-cost.result (length i.places.places)
    c.least_bound.result) c.deref.ensures.value c.least_bound.ensures in
    let lesser : IsLesser o.problem (state_of o a.log.steps) c.least_bound.result =
    least-is o a is c.known-cost.result c.least_bound.result knows of in
    let found : Report = record {
      claim = c.claim_found.result;
      cost = c.known-cost.result;
      bound = c.number_of-bound.result;
      finished = i.finished;
    } in
    subst (λ (t : Search). IsReport t.opening.problem (state t) found) c.self.view_is (record {
      cost = knows;
      bound = subst (λ (x : Bound). IsLesser o.problem (state_of o a.log.steps) x)
          (sym c.number_of-bound.ensures) lesser;
      claim = c.claim_found.ensures;
      finished = sym is.parts.finished;
    })
