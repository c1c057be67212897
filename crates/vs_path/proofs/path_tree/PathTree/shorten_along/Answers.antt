use Rattle.std.proofs.Common.{◌≡◌, ◌⊎◌, ℕ, ap, inl, inr}
use Rattle.vs_queue.specs.declared.step.Step.{Step}
use Rattle.vs_queue.specs.declared.step.Step.TheVariants.{Forward, Back}
use Rattle.vs_path.specs.Residual.{arc_no}
use Rattle.vs_path.specs.PathTree.{paths_of}
use Rattle.vs_path.proofs.correcting.Corrected.{corrected-both, corrected-less}
use Rattle.vs_path.proofs.path_tree.PathTree.shorten_along.Goals as goal

-- a step along an arc goes forward or back
either : (k : ℕ) (s : Step) → arc_no s ≡ k → (s ≡ Forward k) ⊎ (s ≡ Back k)
either k (Forward j) same = inl (ap Forward same)
either k (Back j) same = inr (ap Back same)

pub returns-clause-corrected : goal.returns-clause-corrected
returns-clause-corrected c =
    let r = c.args.residual.now in
    let a = paths_of c.args.self.now in
    let z = paths_of c.shorten-back.new.self in
    let k = c.args.arc in
    corrected-less r a z (λ s. (s ≡ Forward k) ⊎ (s ≡ Back k)) (λ s. arc_no s ≡ k) _ (either k)
    (corrected-both r a (paths_of c.shorten-forward.new.self) z (λ s. s ≡ Forward k) (λ s. s ≡ Back k)
    c.shorten-forward.result c.shorten-back.result c.shorten-forward.ensures.corrected
    c.shorten-back.ensures.corrected)
