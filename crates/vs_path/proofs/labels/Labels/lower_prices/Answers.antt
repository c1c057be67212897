use Rattle.std.proofs.Common.{◌≡◌, ◌<◌, ◌+◌, ◌∙◌, ◌-ℤ◌, ℕ, ℤ, List, length, get_or, set, sym, ap, subst, arith, rules, Some, None, SFits, w64}
use Rattle.std.proofs.lemmas.Int.{to_z-of_z}
use Rattle.vs_queue.specs.declared.node_table.Settled.{Settled}
use Rattle.vs_path.specs.Residual.{price_at}
use Rattle.vs_path.specs.Labels.{lists_of, settled_at}
use Rattle.vs_path.specs.Search.{AreMoved}
use Rattle.vs_path.proofs.found.Moving.{AreMovedUpTo, moved-all, moved-kept, moved-more, moved-skip, listed-within}
use Rattle.vs_path.proofs.labels.Labels.lower_prices.Goals as goal
use Rattle.vs_path.proofs.labels.Labels.lower_prices.Goals.{in-Some-known, in_default-known}

pub settled-known-requires : goal.settled-known-requires
settled-known-requires c =
    let l = lists_of c.args.self.now in
    let i = c.loop-node.node-index in
    let nodes = c.deref-node-items.result.now in
    let inside : i < length l.order =
    omega (arith, c.loop-node-test.true, ap length c.deref-node-items.ensures.value) in
    let at : get_or nodes i 0 ≡ get_or l.order i 0 =
    ap (λ (xs : List ℕ). get_or xs i 0) c.deref-node-items.ensures.value in
    let within = listed-within (length c.args.prices.now) l i c.requires.listed inside in
    omega (arith, at, within, c.requires.listed.settled)

pub bounds-prices-node : goal.bounds-prices-node
bounds-prices-node c =
    let l = lists_of c.args.self.now in
    let i = c.loop-node.node-index in
    let nodes = c.deref-node-items.result.now in
    let inside : i < length l.order =
    omega (arith, c.loop-node-test.true, ap length c.deref-node-items.ensures.value) in
    let at : get_or nodes i 0 ≡ get_or l.order i 0 =
    ap (λ (xs : List ℕ). get_or xs i 0) c.deref-node-items.ensures.value in
    let within = listed-within (length c.args.prices.now) l i c.requires.listed inside in
    omega (arith, at, within, c.loop-node.invariant.size)

pub slice_copy_out-price : goal.slice_copy_out-price
slice_copy_out-price c =
    let l = lists_of c.args.self.now in
    let i = c.loop-node.node-index in
    let nodes = c.deref-node-items.result.now in
    let inside : i < length l.order =
    omega (arith, c.loop-node-test.true, ap length c.deref-node-items.ensures.value) in
    let at : get_or nodes i 0 ≡ get_or l.order i 0 =
    ap (λ (xs : List ℕ). get_or xs i 0) c.deref-node-items.ensures.value in
    let within = listed-within (length c.args.prices.now) l i c.requires.listed inside in
    omega (arith, at, within, c.loop-node.invariant.size)

pub lowered_price-requires-clause-nearer : goal.lowered_price-requires-clause-nearer
lowered_price-requires-clause-nearer c =
    let a = c.in-Some-known.settled in
    let l = lists_of c.args.self.now in
    let i = c.loop-node.node-index in
    let nodes = c.deref-node-items.result.now in
    let inside : i < length l.order =
    omega (arith, c.loop-node-test.true, ap length c.deref-node-items.ensures.value) in
    let at : get_or nodes i 0 ≡ get_or l.order i 0 =
    ap (λ (xs : List ℕ). get_or xs i 0) c.deref-node-items.ensures.value in
    let within = listed-within (length c.args.prices.now) l i c.requires.listed inside in
    let goal_is : settled_at l c.args.goal ≡ Some c.in-Some.farthest =
    sym c.settled.ensures
    ∙ c.in-Some.is in
    let is : settled_at l (get_or l.order i 0) ≡ Some a =
    ap (settled_at l) (sym at)
    ∙ sym c.settled-known.ensures ∙ c.in-Some-known.is in
    (c.requires.space c.in-Some.farthest goal_is (get_or l.order i 0) a is).0

pub lowered_price-requires-clause-fits : goal.lowered_price-requires-clause-fits
lowered_price-requires-clause-fits c =
    let a = c.in-Some-known.settled in
    let l = lists_of c.args.self.now in
    let i = c.loop-node.node-index in
    let nodes = c.deref-node-items.result.now in
    let inside : i < length l.order =
    omega (arith, c.loop-node-test.true, ap length c.deref-node-items.ensures.value) in
    let at : get_or nodes i 0 ≡ get_or l.order i 0 =
    ap (λ (xs : List ℕ). get_or xs i 0) c.deref-node-items.ensures.value in
    let within = listed-within (length c.args.prices.now) l i c.requires.listed inside in
    let goal_is : settled_at l c.args.goal ≡ Some c.in-Some.farthest =
    sym c.settled.ensures
    ∙ c.in-Some.is in
    let is : settled_at l (get_or l.order i 0) ≡ Some a =
    ap (settled_at l) (sym at)
    ∙ sym c.settled-known.ensures ∙ c.in-Some-known.is in
    let kept =
    moved-kept (length c.args.prices.now) l c.in-Some.farthest.distance c.args.prices.now c.loop-node.prices i a
    c.requires.listed inside is c.loop-node.invariant in
    let same : price_at c.loop-node.prices (get_or nodes i 0) ≡ price_at c.args.prices.now (get_or l.order i 0) =
    ap (price_at c.loop-node.prices) at ∙ kept in
    let fits = (c.requires.space c.in-Some.farthest goal_is (get_or l.order i 0) a is).1 in
    let fits_too : SFits w64 (price_at c.loop-node.prices (get_or nodes i 0)) = search rules in
    let P : ℤ → Type 0 = λ z. SFits w64 (z -ℤ (c.in-Some.farthest.distance -ℤ a.distance)) in
    rw to_z-of_z (subst P (sym same) fits)

pub loop-node-preserved : goal.loop-node-preserved
loop-node-preserved c =
    let l = lists_of c.args.self.now in
    let i = c.loop-node.node-index in
    let nodes = c.deref-node-items.result.now in
    let inside : i < length l.order =
    omega (arith, c.loop-node-test.true, ap length c.deref-node-items.ensures.value) in
    let at : get_or nodes i 0 ≡ get_or l.order i 0 =
    ap (λ (xs : List ℕ). get_or xs i 0) c.deref-node-items.ensures.value in
    let within = listed-within (length c.args.prices.now) l i c.requires.listed inside in
    elim c.match-known.branch [
      | in-Some-known w ↦
          let a = w.in-Some-known.settled in
          let is : settled_at l (get_or l.order i 0) ≡ Some a =
          ap (settled_at l) (sym at)
          ∙ sym c.settled-known.ensures ∙ w.in-Some-known.is in
          let fits : SFits w64 (price_at c.loop-node.prices (get_or nodes i 0)) = search rules in
          let fits_too : SFits w64 w.lowered_price.result = search rules in
          let price = simp to_z-of_z at w.lowered_price.ensures in
          let written = simp to_z-of_z at w.prices-is in
          let n = c.loop-node.prices in
          let f = c.in-Some.farthest.distance in
          let u = get_or l.order i 0 in
          let priced : w.lowered_price.result ≡ price_at n u -ℤ (f -ℤ a.distance) =
          price ∙ ap (λ (v : ℕ). price_at n v -ℤ (f -ℤ a.distance)) at in
          let put : c.match-known.prices ≡ set n u w.lowered_price.result =
          written ∙ ap (λ (v : ℕ). set n v w.lowered_price.result) at in
          let P : List ℤ → Type 0 = λ ps. AreMovedUpTo l f (i + 1) c.args.prices.now ps in
          subst P (sym put)
          (moved-more (length c.args.prices.now) l f c.args.prices.now n i a w.lowered_price.result c.requires.listed
          c.loop-node.invariant.size inside is priced c.loop-node.invariant)
      | in_default-known w ↦
          let none : settled_at l (get_or l.order i 0) ≡ None =
          ap (settled_at l) (sym at)
          ∙ sym c.settled-known.ensures ∙ w.in_default-known.is in
          absurd (moved-skip (length c.args.prices.now) l i c.requires.listed inside none)
    ]

pub returns : goal.returns
returns c = λ a is.
    let l = lists_of c.args.self.now in
    let goal_is : settled_at l c.args.goal ≡ Some c.in-Some.farthest =
    sym c.settled.ensures
    ∙ c.in-Some.is in
    let e : Some c.in-Some.farthest ≡ Some a = sym goal_is ∙ is in
    let same : c.in-Some.farthest ≡ a = cc in
    let P : Settled → Type 0 = λ b. AreMoved l b.distance c.args.prices.now c.loop-node.prices in
    subst P same
    (moved-all (length c.args.prices.now) l c.in-Some.farthest.distance c.args.prices.now c.loop-node.prices
    c.loop-node.node-index c.requires.listed
    (omega (arith, c.loop-node-test.false, ap length c.deref-node-items.ensures.value)) c.loop-node.invariant)
