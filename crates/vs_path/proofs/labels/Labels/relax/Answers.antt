use Rattle.std.proofs.Common.{◌≡◌, ◌<◌, ◌∙◌, refl, ap, sym, subst, arith, rules, ℕ, ℤ, ◌<ℤ◌, true, false, SFits, w64}
use Rattle.std.proofs.lemmas.Int.{ints, to_z-of_z}
use Rattle.vs_path.specs.declared.labels.TheConstants.{NO_BOUND}
use Rattle.vs_path.specs.Residual.{to_of}
use Rattle.vs_queue.specs.Keys.{IsBelow}
use Rattle.vs_path.specs.Labels.{Lists, Covers, IsBetter, Relaxes, label_at, lists_of, lowered, settled_at}
use Rattle.vs_path.proofs.labelling.Lowering.{along-few, covers_here, is_lowered, farther-better, farther-unsettled, relaxed_past, relaxed_worse, relaxes_lowered, lowered-same}
use Rattle.vs_path.proofs.labels.Labels.relax.Goals as goal

pub is_farther-requires : goal.is_farther-requires
is_farther-requires c = omega (arith, c.to-node.ensures.of_net, c.requires.labels.are_listed.waiting)

pub lower-requires-clause-unsettled : goal.lower-requires-clause-unsettled
lower-requires-clause-unsettled c =
    let r = c.args.residual.now in
    let p = c.args.prices.now in
    let l = lists_of c.args.self.now in
    let s = c.args.step in
    let label = c.along-label.result in
    let fits : SFits w64 label = search rules in
    let given = simp to_z-of_z at (c.if-not-is_farther.ensures.0 refl) in
    let farther : IsBelow label (label_at l (to_of r s)) =
    subst (λ (v : ℕ). IsBelow label (label_at l v)) c.to-node.ensures.node given in
    ap (settled_at l) c.to-node.ensures.node
    ∙ farther-unsettled r p c.args.surplus.now l c.requires.labels c.requires.sign_rule s c.args.departure.distance
    label c.requires.from c.requires.farthest (c.if-is_open.ensures.0 refl) c.along-label.ensures farther

pub lower-requires-clause-better : goal.lower-requires-clause-better
lower-requires-clause-better c =
    let r = c.args.residual.now in
    let p = c.args.prices.now in
    let l = lists_of c.args.self.now in
    let s = c.args.step in
    let label = c.along-label.result in
    let fits : SFits w64 label = search rules in
    let given = simp to_z-of_z at (c.if-not-is_farther.ensures.0 refl) in
    let farther : IsBelow label (label_at l (to_of r s)) =
    subst (λ (v : ℕ). IsBelow label (label_at l v)) c.to-node.ensures.node given in
    let better =
    farther-better r p c.args.surplus.now l c.requires.labels c.requires.sign_rule s c.args.departure.distance label
    c.requires.from c.requires.farthest (c.if-is_open.ensures.0 refl) c.along-label.ensures farther in
    let P : ℕ → Type 0 = λ v. IsBetter l v label in
    rw to_z-of_z (subst P (sym c.to-node.ensures.node) better)

-- no unit can take the step
pub returns-else-is_open-clause-relaxes : goal.returns-else-is_open-clause-relaxes
returns-else-is_open-clause-relaxes c =
    let l = lists_of c.args.self.now in
    record {
      labels = c.requires.labels;
      lowered = lowered-same l;
      relaxed = λ is_open from. let e : false ≡ true = c.if-is_open.ensures.1 is_open in absurd (cc);
    }

-- a node that lacks a unit is no farther
pub returns-then-is_past-clause-relaxes : goal.returns-then-is_past-clause-relaxes
returns-then-is_past-clause-relaxes c =
    let r = c.args.residual.now in
    let p = c.args.prices.now in
    let l = lists_of c.args.self.now in
    let s = c.args.step in
    let label = c.along-label.result in
    let fits : SFits w64 label = search rules in
    let sum = c.along-label.ensures in
    let past = simp to_z-of_z at (c.if-is_past.ensures.0 refl) in
    let along = along-few r p l s c.args.departure.distance c.requires.small c.requires.labels c.requires.from in
    let few : label <ℤ NO_BOUND = omega (arith, ints, sum, along) in
    record {
      labels = c.requires.labels;
      lowered = lowered-same l;
      relaxed = λ is_open from.
          relaxed_past r p c.args.surplus.now l c.requires.labels c.requires.sign_rule s c.args.departure.distance label
          c.requires.from c.requires.farthest is_open sum c.args.self.now.bound c.requires.bound past few is_open from;
    }

-- the node has the label then
pub note-requires-clause-covers : goal.note-requires-clause-covers
note-requires-clause-covers c =
    let r = c.args.residual.now in
    let p = c.args.prices.now in
    let l = lists_of c.args.self.now in
    let s = c.args.step in
    let label = c.along-label.result in
    let fits : SFits w64 label = search rules in
    let sum = c.along-label.ensures in
    let given = simp to_z-of_z at c.lower.ensures.lists in
    let lists : lists_of c.lower.new.self ≡ lowered l (to_of r s) label s =
    given ∙ ap (λ (v : ℕ). lowered l v label s) c.to-node.ensures.node in
    let given_farther = simp to_z-of_z at (c.if-not-is_farther.ensures.0 refl) in
    let farther : IsBelow label (label_at l (to_of r s)) =
    subst (λ (v : ℕ). IsBelow label (label_at l v)) c.to-node.ensures.node given_farther in
    let unsettled =
    farther-unsettled r p c.args.surplus.now l c.requires.labels c.requires.sign_rule s c.args.departure.distance label
    c.requires.from c.requires.farthest (c.if-is_open.ensures.0 refl) sum farther in
    let better =
    farther-better r p c.args.surplus.now l c.requires.labels c.requires.sign_rule s c.args.departure.distance label
    c.requires.from c.requires.farthest (c.if-is_open.ensures.0 refl) sum farther in
    let inside : to_of r s < r.graph.nodes =
    subst (λ (v : ℕ). v < r.graph.nodes) c.to-node.ensures.node c.to-node.ensures.of_net in
    let at =
    covers_here r p c.args.surplus.now l c.requires.labels c.requires.sign_rule s c.args.departure.distance label
    c.requires.from c.requires.farthest (c.if-is_open.ensures.0 refl) sum
    c.requires.small inside unsettled better in
    let P : ℕ → Type 0 = λ v. Covers (lowered l (to_of r s) label s) v label in
    let Q : Lists → Type 0 = λ k. Covers k c.to-node.result label in
    simp to_z-of_z (subst Q (sym lists) (subst P (sym c.to-node.ensures.node) at))

pub note-requires-clause-bound : goal.note-requires-clause-bound
note-requires-clause-bound c = λ less.
    let r = c.args.residual.now in
    let p = c.args.prices.now in
    let l = lists_of c.args.self.now in
    let s = c.args.step in
    let label = c.along-label.result in
    let fits : SFits w64 label = search rules in
    let sum = c.along-label.ensures in
    let given = simp to_z-of_z at c.lower.ensures.lists in
    let lists : lists_of c.lower.new.self ≡ lowered l (to_of r s) label s =
    given ∙ ap (λ (v : ℕ). lowered l v label s) c.to-node.ensures.node in
    let given_farther = simp to_z-of_z at (c.if-not-is_farther.ensures.0 refl) in
    let farther : IsBelow label (label_at l (to_of r s)) =
    subst (λ (v : ℕ). IsBelow label (label_at l v)) c.to-node.ensures.node given_farther in
    let unsettled =
    farther-unsettled r p c.args.surplus.now l c.requires.labels c.requires.sign_rule s c.args.departure.distance label
    c.requires.from c.requires.farthest (c.if-is_open.ensures.0 refl) sum farther in
    let better =
    farther-better r p c.args.surplus.now l c.requires.labels c.requires.sign_rule s c.args.departure.distance label
    c.requires.from c.requires.farthest (c.if-is_open.ensures.0 refl) sum farther in
    let inside : to_of r s < r.graph.nodes =
    subst (λ (v : ℕ). v < r.graph.nodes) c.to-node.ensures.node c.to-node.ensures.of_net in
    let low =
    is_lowered r p c.args.surplus.now l c.requires.labels c.requires.sign_rule s c.args.departure.distance label
    c.requires.from c.requires.farthest (c.if-is_open.ensures.0 refl) sum
    c.requires.small inside unsettled better in
    let b = c.args.self.now.bound in
    let at = c.requires.bound (omega (arith, ints, less, c.lower.ensures.bound)) in
    let P : Lists → Type 0 = λ k. Covers k at.0 b in
    let Q : ℤ → Type 0 = λ z. Covers (lists_of c.lower.new.self) at.0 z in
    (at.0, at.1, subst Q (sym c.lower.ensures.bound) (subst P (sym lists) (low.covers at.0 b at.2)))

-- the step is open, and the node farther
pub returns-then-is_open-clause-relaxes : goal.returns-then-is_open-clause-relaxes
returns-then-is_open-clause-relaxes c =
    let r = c.args.residual.now in
    let p = c.args.prices.now in
    let l = lists_of c.args.self.now in
    let s = c.args.step in
    let label = c.along-label.result in
    let fits : SFits w64 label = search rules in
    let sum = c.along-label.ensures in
    let given = simp to_z-of_z at c.lower.ensures.lists in
    let lists : lists_of c.lower.new.self ≡ lowered l (to_of r s) label s =
    given ∙ ap (λ (v : ℕ). lowered l v label s) c.to-node.ensures.node in
    let given_farther = simp to_z-of_z at (c.if-not-is_farther.ensures.0 refl) in
    let farther : IsBelow label (label_at l (to_of r s)) =
    subst (λ (v : ℕ). IsBelow label (label_at l v)) c.to-node.ensures.node given_farther in
    let unsettled =
    farther-unsettled r p c.args.surplus.now l c.requires.labels c.requires.sign_rule s c.args.departure.distance label
    c.requires.from c.requires.farthest (c.if-is_open.ensures.0 refl) sum farther in
    let better =
    farther-better r p c.args.surplus.now l c.requires.labels c.requires.sign_rule s c.args.departure.distance label
    c.requires.from c.requires.farthest (c.if-is_open.ensures.0 refl) sum farther in
    let inside : to_of r s < r.graph.nodes =
    subst (λ (v : ℕ). v < r.graph.nodes) c.to-node.ensures.node c.to-node.ensures.of_net in
    let P : Lists → Type 0 = Relaxes r p c.args.surplus.now s c.args.departure.distance l in
    subst P (sym (c.note.ensures.lists ∙ lists))
    (relaxes_lowered r p c.args.surplus.now l c.requires.labels c.requires.sign_rule s c.args.departure.distance label
    c.requires.from c.requires.farthest (c.if-is_open.ensures.0 refl) sum c.requires.small inside unsettled better)

-- the node is no farther
pub returns-then-not-is_farther-clause-relaxes : goal.returns-then-not-is_farther-clause-relaxes
returns-then-not-is_farther-clause-relaxes c =
    let r = c.args.residual.now in
    let p = c.args.prices.now in
    let l = lists_of c.args.self.now in
    let s = c.args.step in
    let label = c.along-label.result in
    let fits : SFits w64 label = search rules in
    let given_worse = simp to_z-of_z at c.if-not-is_farther.ensures.1 in
    record {
      labels = c.requires.labels;
      lowered = lowered-same l;
      relaxed = λ is_open from.
          relaxed_worse r p c.args.surplus.now l c.requires.labels c.requires.sign_rule s c.args.departure.distance
          label c.requires.from c.requires.farthest is_open c.along-label.ensures
          (λ below.
          let P : ℕ → Type 0 = λ v. IsBelow label (label_at l v) in
          let e : false ≡ true = given_worse (subst P (sym c.to-node.ensures.node) below) in
          cc)
          is_open from;
    }
