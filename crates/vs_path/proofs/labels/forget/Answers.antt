use Rattle.std.proofs.Common.{◌≡◌, ◌<◌, ◌∙◌, ℕ, List, length, get_or, set, replicate, refl, sym, ap, arith, inl, inr, Option, Some, None, length-set}
use Rattle.std.proofs.lemmas.Bool.{cases_lt}
use Rattle.vs_queue.specs.declared.node_table.Settled.{Settled}
use Rattle.vs_queue.proofs.CallerLemmas.{all-none, emptied-here, emptied-kept, emptied-was}
use Rattle.vs_path.proofs.labels.forget.Goals as goal

-- what was emptied at each place that wasn't empty is empty
emptied : (old now : List (Option Settled)) (nodes : List ℕ)
    → ((v : ℕ) (a : Settled) → get_or old v None ≡ Some a → (i : ℕ) × (i < length nodes) × (get_or nodes i 0 ≡ v))
    → ((v : ℕ) (a : Settled) → get_or now v None ≡ Some a → get_or old v None ≡ Some a)
    → ((j : ℕ) → j < length nodes → get_or now (get_or nodes j 0) None ≡ None)
    → (v : ℕ) → get_or now v None ≡ None
emptied old now nodes all kept gone v = go (get_or now v None) refl
  where
    go : (o : Option Settled) → get_or now v None ≡ o → get_or now v None ≡ None
    go None e = e
    go (Some a) e =
        let at = all v a (kept v a e) in
        ap (λ (w : ℕ). get_or now w None) (sym at.2) ∙ gone at.0 at.1

pub unsettle-requires : goal.unsettle-requires
unsettle-requires c =
    let same = ap length c.loop-node.invariant.waiting in
    omega (arith, same, c.requires.within c.loop-node.node-index c.loop-node-test.true)

pub loop-node-preserved : goal.loop-node-preserved
loop-node-preserved c =
    let nodes = c.args.nodes.now in
    let i = c.loop-node.node-index in
    let node = get_or nodes i 0 in
    let old = c.loop-node.heap.settled in
    let new = c.unsettle.new.self.settled in
    let inv = c.loop-node.invariant in
    let here : (v : ℕ) → get_or new v None ≡ get_or (set old node None) v None =
    λ v. ap (λ (s : List (Option Settled)). get_or s v None) c.unsettle.ensures.settled in
    record {
      size = ap length c.unsettle.ensures.settled ∙ length-set old node None ∙ inv.size;
      kept = λ v a is. inv.kept v a (emptied-was old node v a (sym (here v) ∙ is));
      gone = λ j before.
          here (get_or nodes j 0)
          ∙ elim (cases_lt j i) [
            | inl low ↦ emptied-kept old node (get_or nodes j 0) (inv.gone j low)
            | inr last ↦
                let e : j ≡ i = omega (arith, before, last) in
                ap (λ (k : ℕ). get_or (set old node None) (get_or nodes k 0) None) e ∙ emptied-here old node
          ];
      waiting = c.unsettle.ensures.waiting ∙ inv.waiting;
      steps = c.unsettle.ensures.steps ∙ inv.steps;
    }

pub returns-clause-settled : goal.returns-clause-settled
returns-clause-settled c =
    let now = c.loop-node.heap.settled in
    let inv = c.loop-node.invariant in
    all-none now
    (emptied c.args.heap.now.settled now c.args.nodes.now c.requires.all inv.kept
    (λ j inside. inv.gone j (omega (arith, c.loop-node-test.false))))
    ∙ ap (λ n. replicate n None) inv.size
