use Rattle.std.proofs.Common.{◌≡◌, ◌∙◌, ◌<◌, ℕ, length, get_or, set, refl, sym, ap, arith, inl, inr, None, length-set}
use Rattle.std.proofs.lemmas.Bool.{cases_eq, cases_lt}
use Rattle.std.proofs.lemmas.List.{get_or-set_same, get_or-set_other}
use Rattle.vs_queue.specs.Keys.{Keys, key_at}
use Rattle.vs_queue.proofs.queue.forget_nodes.Goals as goal

pub loop-node-init : goal.loop-node-init
loop-node-init c = record {
  none = λ v. inr (refl, λ i before. absurd (omega (arith, before)));
  size = refl;
  settled = refl;
  steps = refl;
}

pub take_key-requires : goal.take_key-requires
take_key-requires c =
    let i = c.loop-node.node-index in
    omega
    (arith, c.loop-node.invariant.size, c.requires (get_or c.args.nodes.now i 0) (i, c.loop-node-test.true, refl))

pub loop-node-preserved : goal.loop-node-preserved
loop-node-preserved c =
    let keys = c.loop-node.table.waiting in
    let old = c.args.table.now.waiting in
    let nodes = c.args.nodes.now in
    let i = c.loop-node.node-index in
    let inv = c.loop-node.invariant in
    let node : ℕ = get_or nodes i 0 in
    let taken = c.take_key.ensures.waiting in
    let within : node < length keys = omega (
      arith,
      inv.size,
      c.requires node
          (i, c.loop-node-test.true, refl),
    ) in
    let after : (v : ℕ) → key_at c.take_key.new.self.waiting v ≡ key_at (set keys node None) v =
    λ v. ap (λ (k : Keys). key_at k v) taken in
    record {
      none = λ v.
          elim (cases_eq v node) [
            | inl same ↦
                inl (after v ∙ ap (key_at (set keys node None)) same ∙ get_or-set_same keys node None None within)
            | inr ne ↦
                let other : key_at c.take_key.new.self.waiting v ≡ key_at keys v =
                after v ∙ get_or-set_other keys node v None None (λ e. ne e) in
                elim (inv.none v) [
                  | inl none ↦ inl (other ∙ none)
                  | inr kept ↦
                      inr (
                        other ∙ kept.0,
                        λ j before.
                            elim (cases_lt j i) [
                              | inl low ↦ kept.1 j low
                              | inr last ↦
                                  let e : j ≡ i = omega (arith, before, last) in
                                  λ is. ne (sym is ∙ ap (λ (k : ℕ). get_or nodes k 0) e)
                            ],
                      )
                ]
          ];
      size = ap length taken ∙ length-set keys node None ∙ inv.size;
      settled = c.take_key.ensures.settled ∙ inv.settled;
      steps = c.take_key.ensures.steps ∙ inv.steps;
    }

pub returns-clause-forgotten : goal.returns-clause-forgotten
returns-clause-forgotten c v =
    elim (c.loop-node.invariant.none v) [
      | inl none ↦ inl none
      | inr kept ↦ inr (kept.0, λ on. kept.1 on.0 (omega (arith, on.1, c.loop-node-test.false)) on.2)
    ]
