use Rattle.std.proofs.Common.{ℕ, List, ◌∙◌, sym, subst}
use Rattle.std.proofs.lemmas.List.{with_items_is}
use Rattle.vs_multi.specs.Rounds.{AreCounted}
use Rattle.vs_multi.proofs.round.Round.run_layer.Goals as goal

pub returns-clause-ran : goal.returns-clause-ran
returns-clause-ran c =
    let net = c.args.net.now in
    let old = c.args.self.now.covers in
    let new = c.count_runs.new.covers in
    let units = c.in_ok-circ.circ.flow.units.items in
    let by_slices = c.count_runs.ensures in
    let by_units = subst (λ (xs : List ℕ). AreCounted net xs c.as_mut_slice-covers.result.now new) c.deref.ensures.value
    by_slices in
    let counted = subst (λ (xs : List ℕ). AreCounted net units xs new) c.as_mut_slice-covers.ensures.value by_units in
    let kept = with_items_is old new (counted.each_trip ∙ sym old.ok.0) in (
      c.in_ok-circ.circ,
      record {
        least = c.in_ok-circ.ensures;
        prices = c.exchange.ensures.after;
        others = c.exchange.ensures.others;
        counted = subst (AreCounted net units old.items) (sym kept) counted;
      },
    )
