use Rattle.std.proofs.Common.{◌≡◌, ◌<◌, ◌∙◌, Option, None, ℤ, pos, [], ◌∷◌, length, get_or, refl, sym, ap, subst, rules, arith, true, false, ◌<ℤ◌, SFits, w64, length-append}
use Rattle.std.proofs.lemmas.List.{length-replicate}
use Rattle.std.proofs.lemmas.Int.{ints, to_z-of_z}
use Rattle.std.specs.Prelude.{vec_capacity}
use lib.Signed.{lt_z}
use Rattle.vs_queue.specs.Keys.{Keys, key_at}
use Rattle.vs_path.specs.Labels.{Lists, AreLabels, Covers, IsReached, IsSettledAt, IsFarthest, IsLowered, Lacks, lists_of, settle_in}
use Rattle.vs_path.proofs.labelling.Settling.{room-left}
use Rattle.vs_path.proofs.labelling.Exploring.{get_or-none, begun_at, is_begun, begun_labels, begun_farthest, begun_settled, begun_relaxed, begun_lack, expanded, next_bound, next_labels, next_relaxed, next_settled, next_farthest, next_from, next_lack, next_reached}
use Rattle.vs_path.proofs.labels.Labels.explore.Goals as goal

lt_z-true : (a b : ℤ) → lt_z a b ≡ true → a <ℤ b
lt_z-true a b test = grind (arith, ints)

lt_z-false : (a b : ℤ) → lt_z a b ≡ false → a <ℤ b → ⊥
lt_z-false a b test less = grind (arith, ints)

pub settle-requires-clause-node : goal.settle-requires-clause-node
settle-requires-clause-node c =
    let all = ap length c.requires.fresh.waiting in
    omega (arith, all, length-replicate {A = Option ℤ} c.args.residual.now.graph.nodes None, c.requires.source)

pub settle-requires-clause-taken : goal.settle-requires-clause-taken
settle-requires-clause-taken c =
    ap (λ (k : Keys). key_at k c.args.source) c.requires.fresh.waiting
    ∙ get_or-none c.args.residual.now.graph.nodes c.args.source

pub expand-requires-clause-labels : goal.expand-requires-clause-labels
expand-requires-clause-labels c =
    let r = c.args.residual.now in
    let old = lists_of c.args.self.now in
    let e : lists_of c.settle.new.self ≡ begun_at r.graph.nodes c.args.source old.steps =
    is_begun r.graph.nodes c.args.source old (lists_of c.settle.new.self) c.requires.fresh c.settle.ensures.settled
    c.settle.ensures.waiting c.settle.ensures.steps c.settle.ensures.order in
    let P : Lists → Type 0 = AreLabels r c.args.prices.now in
    subst P (sym e) (begun_labels r c.args.prices.now c.args.source old.steps c.requires.source c.requires.fresh.steps)

pub expand-requires-clause-from : goal.expand-requires-clause-from
expand-requires-clause-from c =
    let r = c.args.residual.now in
    let old = lists_of c.args.self.now in
    let e : lists_of c.settle.new.self ≡ begun_at r.graph.nodes c.args.source old.steps =
    is_begun r.graph.nodes c.args.source old (lists_of c.settle.new.self) c.requires.fresh c.settle.ensures.settled
    c.settle.ensures.waiting c.settle.ensures.steps c.settle.ensures.order in
    let P : Lists → Type 0 = λ l. IsSettledAt l c.args.source (pos 0) in
    subst P (sym e) (begun_settled r c.args.prices.now c.args.source old.steps c.requires.source
    c.requires.fresh.steps)

pub expand-requires-clause-farthest : goal.expand-requires-clause-farthest
expand-requires-clause-farthest c =
    let r = c.args.residual.now in
    let old = lists_of c.args.self.now in
    let e : lists_of c.settle.new.self ≡ begun_at r.graph.nodes c.args.source old.steps =
    is_begun r.graph.nodes c.args.source old (lists_of c.settle.new.self) c.requires.fresh c.settle.ensures.settled
    c.settle.ensures.waiting c.settle.ensures.steps c.settle.ensures.order in
    let P : Lists → Type 0 = λ l. IsFarthest l (pos 0) in
    subst P (sym e) (begun_farthest r c.args.prices.now c.args.source old.steps c.requires.source
    c.requires.fresh.steps)

pub expand-requires-clause-bound : goal.expand-requires-clause-bound
expand-requires-clause-bound c = λ less.
    absurd (omega (arith, ints, less, c.requires.no_bound, c.settle.ensures.bound))

pub expand-requires-in-Some-clause-bound : goal.expand-requires-in-Some-clause-bound
expand-requires-in-Some-clause-bound c =
    let r = c.args.residual.now in
    let s = c.args.surplus.now in
    let l = lists_of c.loop-node.self in
    let way = c.loop-node.invariant.under_way in
    let within : c.in-Some.node < r.graph.nodes =
    omega (arith, c.in-Some.ensures.node, way.labels.are_listed.waiting) in
    let b = c.loop-node.self.bound in
    λ less.
    let at =
    next_bound r c.args.prices.now s c.args.source l way c.in-Some.node c.in-Some.distance
    c.in-Some.ensures.next within b c.loop-node.invariant.bound (omega (arith, ints, less, c.in-Some.ensures.bound)) in
    let P : Lists → Type 0 = λ k. Covers k at.0 b in
    let covers = subst P (sym c.in-Some.ensures.lists) at.2 in (
      at.0,
      at.1,
      record {
        label = covers.label;
        has = covers.has;
        no_more = omega (arith, ints, covers.no_more, c.in-Some.ensures.bound);
      },
    )

-- the source is settled and its steps are relaxed
pub loop-node-init : goal.loop-node-init
loop-node-init c =
    let r = c.args.residual.now in
    let p = c.args.prices.now in
    let source = c.args.source in
    let old = lists_of c.args.self.now in
    let e : lists_of c.settle.new.self ≡ begun_at r.graph.nodes source old.steps =
    is_begun r.graph.nodes source old (lists_of c.settle.new.self) c.requires.fresh c.settle.ensures.settled
    c.settle.ensures.waiting c.settle.ensures.steps c.settle.ensures.order in
    let P : Lists → Type 0 = λ l. IsLowered l (lists_of c.expand.new.self) in
    record {
      under_way = expanded r p c.args.surplus.now source (begun_at r.graph.nodes source old.steps)
          (lists_of c.expand.new.self) source (pos 0)
          (begun_relaxed r p source old.steps c.requires.source c.requires.fresh.steps c.args.surplus.now) refl
          (begun_lack r p source old.steps c.requires.source c.requires.fresh.steps c.args.surplus.now)
          c.requires.has_enough
          (begun_settled r p source old.steps c.requires.source c.requires.fresh.steps)
          (subst P e c.expand.ensures.lowered) c.expand.ensures.labels c.expand.ensures.relaxed;
      bound = c.expand.ensures.bound;
      space = let same = ap vec_capacity c.expand.ensures.order in omega (arith, same, c.settle.ensures.space);
    }

-- the nearest node lacks a unit
pub returns-then-surplus-node-lt0-clause-found : goal.returns-then-surplus-node-lt0-clause-found
returns-then-surplus-node-lt0-clause-found c =
    let r = c.args.residual.now in
    let p = c.args.prices.now in
    let l = lists_of c.loop-node.self in
    let way = c.loop-node.invariant.under_way in
    let within : c.in-Some.node < r.graph.nodes =
    omega (arith, c.in-Some.ensures.node, way.labels.are_listed.waiting) in
    let fits : SFits w64 (get_or c.args.surplus.now c.in-Some.node (pos 0)) = search rules in
    let test = simp to_z-of_z at c.if-surplus-node-lt0.true in
    let lacks : Lacks c.args.surplus.now c.in-Some.node = lt_z-true _ _ test in
    let P : Lists → Type 0 = λ k. IsReached r p c.args.surplus.now c.args.source k c.in-Some.node in
    subst P (sym c.in-Some.ensures.lists)
    (next_reached r p c.args.surplus.now c.args.source l way c.in-Some.node c.in-Some.distance c.in-Some.ensures.next
    within lacks)

pub expand-requires-in-Some-clause-labels : goal.expand-requires-in-Some-clause-labels
expand-requires-in-Some-clause-labels c =
    let r = c.args.residual.now in
    let p = c.args.prices.now in
    let way = c.loop-node.invariant.under_way in
    let within : c.in-Some.node < r.graph.nodes =
    omega (arith, c.in-Some.ensures.node, way.labels.are_listed.waiting) in
    let P : Lists → Type 0 = AreLabels r p in
    subst P (sym c.in-Some.ensures.lists)
    (next_labels r p c.args.surplus.now c.args.source (lists_of c.loop-node.self) way c.in-Some.node c.in-Some.distance
    c.in-Some.ensures.next within)

pub expand-requires-in-Some-clause-from : goal.expand-requires-in-Some-clause-from
expand-requires-in-Some-clause-from c =
    let r = c.args.residual.now in
    let p = c.args.prices.now in
    let way = c.loop-node.invariant.under_way in
    let within : c.in-Some.node < r.graph.nodes =
    omega (arith, c.in-Some.ensures.node, way.labels.are_listed.waiting) in
    let fits : SFits w64 c.in-Some.distance = search rules in
    let P : Lists → Type 0 = λ k. IsSettledAt k c.in-Some.node c.in-Some.distance in
    simp to_z-of_z
    (subst P (sym c.in-Some.ensures.lists)
    (next_settled r p c.args.surplus.now c.args.source (lists_of c.loop-node.self) way c.in-Some.node
    c.in-Some.distance
    c.in-Some.ensures.next within))

pub expand-requires-in-Some-clause-farthest : goal.expand-requires-in-Some-clause-farthest
expand-requires-in-Some-clause-farthest c =
    let r = c.args.residual.now in
    let p = c.args.prices.now in
    let way = c.loop-node.invariant.under_way in
    let within : c.in-Some.node < r.graph.nodes =
    omega (arith, c.in-Some.ensures.node, way.labels.are_listed.waiting) in
    let fits : SFits w64 c.in-Some.distance = search rules in
    let P : Lists → Type 0 = λ k. IsFarthest k c.in-Some.distance in
    simp to_z-of_z
    (subst P (sym c.in-Some.ensures.lists)
    (next_farthest r p c.args.surplus.now c.args.source (lists_of c.loop-node.self) way c.in-Some.node
    c.in-Some.distance
    c.in-Some.ensures.next within))

pub loop-node-smaller : goal.loop-node-smaller
loop-node-smaller c =
    let r = c.args.residual.now in
    let l = lists_of c.loop-node.self in
    let way = c.loop-node.invariant.under_way in
    let within : c.in-Some.node < r.graph.nodes =
    omega (arith, c.in-Some.ensures.node, way.labels.are_listed.waiting) in
    let less =
    room-left r.graph.nodes l way.labels.are_listed c.in-Some.node
    (way.labels.unsettled c.in-Some.node c.in-Some.distance c.in-Some.ensures.next.has) within in
    let more = ap (λ (k : Lists). length k.order) c.in-Some.ensures.lists in
    let same = ap (λ v. length v.items) c.expand-in-Some.ensures.order in
    omega (arith, less, more, same, length-append l.order (c.in-Some.node ∷ []))

-- the nearest node doesn't lack a unit, and its steps are relaxed
pub loop-node-preserved : goal.loop-node-preserved
loop-node-preserved c =
    let r = c.args.residual.now in
    let p = c.args.prices.now in
    let s = c.args.surplus.now in
    let source = c.args.source in
    let l = lists_of c.loop-node.self in
    let node = c.in-Some.node in
    let way = c.loop-node.invariant.under_way in
    let within : node < r.graph.nodes = omega (arith, c.in-Some.ensures.node, way.labels.are_listed.waiting) in
    let fits : SFits w64 c.in-Some.distance = search rules in
    let next = c.in-Some.ensures.next in
    let P : Lists → Type 0 = λ k. IsLowered k (lists_of c.expand-in-Some.new.self) in
    let fits_too : SFits w64 (get_or s node (pos 0)) = search rules in
    let test = simp to_z-of_z at c.if-surplus-node-lt0.false in
    let enough : Lacks s node → ⊥ = λ lacks. lt_z-false _ _ test lacks in
    let relaxed = simp to_z-of_z at c.expand-in-Some.ensures.relaxed in
    record {
      under_way = expanded r p s source (settle_in l node c.in-Some.distance) (lists_of c.expand-in-Some.new.self) node
          c.in-Some.distance
          (next_relaxed r p s source l way node c.in-Some.distance next within)
          (next_from r p s source l way node c.in-Some.distance next within)
          (next_lack r p s source l way node c.in-Some.distance next within)
          enough
          (next_settled r p s source l way node c.in-Some.distance next within)
          (subst P c.in-Some.ensures.lists c.expand-in-Some.ensures.lowered) c.expand-in-Some.ensures.labels relaxed;
      bound = c.expand-in-Some.ensures.bound;
      space = let same = ap vec_capacity c.expand-in-Some.ensures.order in
          omega (arith, same, c.in-Some.ensures.space, c.loop-node.invariant.space);
    }
