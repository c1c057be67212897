use Rattle.std.proofs.Common.{◌≡◌, List, length, ap, sym, ◌∙◌, subst, arith}
use Rattle.vs_prices.specs.declared.bound.Bound.{Bound}
use Rattle.vs_tree.specs.History.{known, state_of}
use Rattle.vs_tree.specs.Report.{HoldsOfSoMany, IsOpenCount, IsOpenLeaf, LeavesRoom}
use Rattle.vs_tree.specs.Search.{Search, state}
use Rattle.vs_tree.proofs.search.Facts.{places_within}
use Rattle.vs_tree.proofs.search.Inside.{opening_of, parts_of}
use Rattle.vs_tree.proofs.search.Reporting.{no_leaf, rooms, some_leaf}
use Rattle.vs_tree.proofs.tree.Tree.stand.Goals as goal

pub open_leaves-requires : goal.open_leaves-requires
open_leaves-requires c =
    let i = c.self.inside in
    let few = places_within (opening_of i) (parts_of i) c.self.invariant in
    record {
      sized = omega (arith, few, c.self.invariant.parts.worths_size, c.deref.ensures.len, i.worths.ok.0);
      few = omega (arith, few, c.self.invariant.few_leaves);
    }

pub returns : goal.returns
returns c =
    let i = c.self.inside in
    let o = opening_of i in
    let a = parts_of i in
    let is = c.self.invariant in
    let reported = c.report-report.ensures in
    let knows : c.report-report.result.cost ≡ known (state_of o a.log.steps) =
    reported.cost ∙ ap (λ (t : Search). known (state t)) (sym c.self.view_is) in
    let of : IsOpenCount i.places.places i.worths.items c.report-report.result.cost (length i.places.places)
    c.open_leaves.result =
    subst (λ (x : List Bound). IsOpenCount i.places.places x c.report-report.result.cost (length i.places.places)
    c.open_leaves.result) c.deref.ensures.value c.open_leaves.ensures in
    record {
      finished = reported.finished;
      cost = reported.cost;
      bound = reported.bound;
      some_open = λ some. subst (λ (t : Search). IsOpenLeaf t.opening.problem (state t)) c.self.view_is
          (some_leaf o a is c.report-report.result.cost c.open_leaves.result knows of some);
      none_open = λ none. subst (λ (t : Search). ¬ (IsOpenLeaf t.opening.problem (state t))) c.self.view_is
          (no_leaf o a is c.report-report.result.cost c.open_leaves.result knows of none);
      counted = subst (λ (t : Search). HoldsOfSoMany (LeavesRoom t.opening.problem (state t)) c.open_leaves.result)
          c.self.view_is (rooms o a is c.report-report.result.cost c.open_leaves.result knows of);
    }
