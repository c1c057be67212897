use Rattle.std.proofs.Common.{◌∙◌, ℕ, sym, ap, arith}
use Rattle.std.proofs.lemmas.Bool.{eq-eqb, eqb-true, false≢true}
use Rattle.vs_tree.specs.History.{is_inner}
use Rattle.vs_tree.specs.Search.{state}
use Rattle.vs_tree.specs.declared.spot.Spot.TheVariants.{Held}
use Rattle.vs_tree.proofs.CallerLemmas.{leaf_within}
use Rattle.vs_trace.proofs.CallerLemmas.{same_holder}
use Rattle.vs_replay.proofs.hands.holds.Goals as goal

pub returns-then-leaf-spots : goal.returns-then-leaf-spots
returns-then-leaf-spots c = (
  λ t. absurd (false≢true t),
  λ held.
      let within = leaf_within (state c.args.tree.now).places c.args.leaf (ap is_inner held.1) in
      absurd (omega (arith, within, c.if-leaf-spots.true, c.spots.ensures)),
)

pub returns-in-Held : goal.returns-in-Held
returns-in-Held c = (
  λ t. (
    c.in-Held.table,
    sym c.spot.ensures ∙ c.in-Held.is ∙ ap (λ (x : ℕ). Held x c.in-Held.table) (eqb-true c.in-Held.worker c.args.w t),
  ),
  λ held.
      eq-eqb c.in-Held.worker c.args.w
      (same_holder c.in-Held.worker c.args.w c.in-Held.table held.0 (sym c.in-Held.is ∙ c.spot.ensures ∙ held.1)),
)

pub returns-in_default : goal.returns-in_default
returns-in_default c = (
  λ t. absurd (false≢true t),
  λ held. absurd (c.in_default.not-Held c.args.w held.0 (c.spot.ensures ∙ held.1)),
)
