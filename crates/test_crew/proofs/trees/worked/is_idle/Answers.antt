use Rattle.std.proofs.Common.{◌≡◌, sym, ap, ◌∙◌, arith, inl, inr}
use Rattle.std.proofs.lemmas.Bool.{cases_eq}
use Rattle.std.proofs.lemmas.Bool.Decides.{nat_tests}
use Rattle.std.specs.Prelude.{IsTrue}
use Rattle.vs_tree.specs.History.{is_inner, spot_at}
use Rattle.vs_tree.specs.Search.{state}
use Rattle.vs_tree.proofs.CallerLemmas.{leaf_within}
use Rattle.test_crew.proofs.trees.worked.is_idle.Goals as goal

pub loop-k-preserved : goal.loop-k-preserved
loop-k-preserved c = λ k below held.
    elim (cases_eq k c.loop-k.k) [
      | inl same ↦
          let is : IsTrue c.is_held_by.result =
          c.is_held_by.ensures.1 (held.0, c.spot.ensures ∙ ap (spot_at (state c.args.tree.now)) (sym same) ∙ held.1) in
          let no = c.if-is_held_by.false in
          absurd cc
      | inr apart ↦ c.loop-k.invariant k (omega (arith, below, apart)) held
    ]

pub returns : goal.returns
returns c = λ _ k held.
    let within = leaf_within (state c.args.tree.now).places k (ap is_inner held.1) in
    let spots = c.spots-k-end.ensures in
    let done : c.spots-k-end.result ≡ c.loop-k.k = grind (arith, nat_tests) in
    c.loop-k.invariant k (omega (arith, within, done, spots)) held
