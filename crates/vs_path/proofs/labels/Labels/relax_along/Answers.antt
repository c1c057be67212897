use Rattle.std.proofs.Common.{◌≡◌, ◌<◌, ℕ, ◌∙◌, ap, sym, subst, arith, inl, inr, get_or, length}
use Rattle.std.proofs.lemmas.Bool.{cases_lt}
use Rattle.vs_queue.specs.declared.step.Step.{Step}
use Rattle.vs_path.specs.Labels.{IsRelaxed, IsSettledAt, lists_of}
use Rattle.vs_path.specs.Residual.{arc_no, from_of, price_at, step_along}
use Rattle.vs_path.proofs.labelling.Lowering.{lowered-on, lowered-settled, lowered-relaxed}
use Rattle.vs_path.proofs.labels.Labels.relax_along.Goals as goal

pub relax-requires-clause-arc : goal.relax-requires-clause-arc
relax-requires-clause-arc c =
    let P : Step → Type 0 = λ s. arc_no s < length c.args.residual.now.graph.arcs in
    subst P (sym c.step.ensures) (c.open_along-k-items.ensures.along.each c.loop-k.k-index c.loop-k-test.true).0

pub relax-requires-clause-from : goal.relax-requires-clause-from
relax-requires-clause-from c =
    let d = c.args.departure in
    let from = (c.open_along-k-items.ensures.along.each c.loop-k.k-index c.loop-k-test.true).1 in
    let here = sym from ∙ ap (from_of c.args.residual.now) (sym c.step.ensures) in
    subst (λ (v : ℕ). IsSettledAt (lists_of c.loop-k.self) v d.distance) here
    (lowered-settled (lists_of c.args.self.now) (lists_of c.loop-k.self) d.node d.distance
    c.loop-k.invariant.lowered c.requires.from)

pub relax-requires-clause-price : goal.relax-requires-clause-price
relax-requires-clause-price c =
    let from = (c.open_along-k-items.ensures.along.each c.loop-k.k-index c.loop-k-test.true).1 in
    let here = sym from ∙ ap (from_of c.args.residual.now) (sym c.step.ensures) in
    c.requires.price ∙ ap (price_at c.args.prices.now) here

-- one step more is relaxed
pub loop-k-preserved : goal.loop-k-preserved
loop-k-preserved c =
    let r = c.args.residual.now in
    let p = c.args.prices.now in
    let surplus = c.args.surplus.now in
    let d = c.args.departure in
    let ks = c.open_along-k-items.result.now in
    let inv = c.loop-k.invariant in
    let old = lists_of c.loop-k.self in
    let new = lists_of c.relax.new.self in
    let done = c.relax.ensures.relaxes in
    let from = (c.open_along-k-items.ensures.along.each c.loop-k.k-index c.loop-k-test.true).1 in
    let here : from_of r c.step.result ≡ d.node = ap (from_of r) c.step.ensures ∙ from in
    record {
      bound = c.relax.ensures.bound;
      labels = done.labels;
      lowered = lowered-on (lists_of c.args.self.now) old new inv.lowered done.lowered;
      relaxed = λ i below.
          elim (cases_lt i c.loop-k.k-index) [
            | inl before ↦
                lowered-relaxed r p surplus old new d.node d.distance (step_along c.args.way (get_or ks i 0))
                done.lowered (inv.relaxed i before)
            | inr last ↦
                let e : c.loop-k.k-index ≡ i = omega arith in
                let P : ℕ → Type 0 =
                λ j. IsRelaxed r p surplus new d.node d.distance (step_along c.args.way (get_or ks j 0)) in
                let Q : Step → Type 0 = λ s. IsRelaxed r p surplus new d.node d.distance s in
                subst P e (subst Q c.step.ensures
                (subst (λ (v : ℕ). IsRelaxed r p surplus new v d.distance c.step.result) here done.relaxed))
          ];
      order = c.relax.ensures.order ∙ inv.order;
    }

pub returns-clause-relaxed : goal.returns-clause-relaxed
returns-clause-relaxed c = record {
  each = λ k is_open from.
      let r = c.args.residual.now in
      let d = c.args.departure in
      let at = c.open_along-k-items.ensures.along.all k is_open from in
      let P : ℕ → Type 0 =
      λ j. IsRelaxed r c.args.prices.now c.args.surplus.now (lists_of c.loop-k.self) d.node d.distance
      (step_along c.args.way j) in
      subst P at.2 (c.loop-k.invariant.relaxed at.0 (omega (arith, at.1, c.loop-k-test.false))) is_open from;
}
