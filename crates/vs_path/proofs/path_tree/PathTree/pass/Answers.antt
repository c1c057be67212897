use Rattle.std.proofs.Common.{◌≡◌, ◌⊎◌, ◌+◌, ◌<◌, ℕ, arith, inl, inr}
use Rattle.std.proofs.lemmas.Bool.{cases_lt}
use Rattle.vs_queue.specs.declared.step.Step.{Step}
use Rattle.vs_path.specs.Residual.{arc_no}
use Rattle.vs_path.specs.PathTree.{paths_of}
use Rattle.vs_path.proofs.correcting.Corrected.{corrected-both, corrected-less}
use Rattle.vs_path.proofs.path_tree.PathTree.pass.Goals as goal

-- one arc more
before-or-at : (k : ℕ) (s : Step) → arc_no s < k + 1 → (arc_no s < k) ⊎ (arc_no s ≡ k)
before-or-at k s below = elim (cases_lt (arc_no s) k) [ inl less ↦ inl less | inr last ↦ inr (omega arith) ]

pub loop-k-preserved : goal.loop-k-preserved
loop-k-preserved c =
    let r = c.args.residual.now in
    let a = paths_of c.args.self.now in
    let z = paths_of c.shorten_along-fell.new.self in
    let k = c.loop-k.k in
    record {
      tree = c.shorten_along-fell.ensures.tree;
      corrected = corrected-less r a z (λ s. (arc_no s < k) ⊎ (arc_no s ≡ k)) (λ s. arc_no s < k + 1) _
          (before-or-at k)
          (corrected-both r a (paths_of c.loop-k.self) z (λ s. arc_no s < k) (λ s. arc_no s ≡ k) c.loop-k.fell
          c.shorten_along-fell.result c.loop-k.invariant.corrected c.shorten_along-fell.ensures.corrected);
    }
