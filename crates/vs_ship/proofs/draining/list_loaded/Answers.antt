use Rattle.std.proofs.Common.{◌≡◌, ℕ, ◌+◌, ◌∙◌, sym, ap, subst, arith, inl, inr}
use Rattle.std.proofs.lemmas.Bool.{cases_lt}
use Rattle.vs_path.specs.declared.loads.Loads.{Loads}
use Rattle.vs_queue.specs.declared.step.Step.TheVariants.{Forward}
use Rattle.vs_path.specs.Residual.{step_in}
use Rattle.vs_path.specs.Loads.{IsListed, lists_in}
use Rattle.vs_ship.specs.Shipments.{AreListedToo}
use Rattle.vs_ship.proofs.draining.list_loaded.Goals as goal
use Rattle.vs_ship.proofs.draining.list_loaded.Goals.{in-Forward, in-Back}

pub loop-step-preserved : goal.loop-step-preserved
loop-step-preserved c =
    let g = c.args.net.now in
    let path = c.args.path.now in
    let i = c.loop-step.step-index in
    let inv = c.loop-step.invariant in
    let P : Loads → Type 0 = λ l. AreListedToo g c.args.loads.now l path (i + 1) in
    elim c.match-step.branch [
      | in-Forward w ↦
          let k = w.in-Forward.k in
          subst P (sym w.loads-is)
          (record {
            by_node = w.add.ensures.by_node;
            kept = λ j is. w.add.ensures.kept j (inv.kept j is);
            complete = λ all. inv.complete (w.add.ensures.complete all);
            listed = λ all j n below is.
                elim (cases_lt j i) [
                  | inl before ↦ w.add.ensures.kept n (inv.listed (w.add.ensures.complete all) j n before is)
                  | inr last ↦
                      let at : j ≡ i = omega (arith, below, last) in
                      let same : Forward k ≡ Forward n = sym w.in-Forward.is ∙ ap (step_in path) (sym at) ∙ is in
                      let arc : k ≡ n = cc in
                      let Q : ℕ → Type 0 = λ m. IsListed g (lists_in w.add.new.self) m in
                      subst Q arc (w.add.ensures.listed all)
                ];
          })
      | in-Back w ↦
          subst P (sym w.loads-is)
          (record {
            by_node = inv.by_node;
            kept = inv.kept;
            complete = inv.complete;
            listed = λ all j n below is.
                elim (cases_lt j i) [
                  | inl before ↦ inv.listed all j n before is
                  | inr last ↦
                      let at : j ≡ i = omega (arith, below, last) in
                      let other = sym w.in-Back.is ∙ ap (step_in path) (sym at) ∙ is in
                      absurd (cc)
                ];
          })
    ]
