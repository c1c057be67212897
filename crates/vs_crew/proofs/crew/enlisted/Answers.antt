use Rattle.std.proofs.Common.{◌≡◌, List, [], ◌∷◌, ◌++◌, length, length-append, sym, subst, ap, ◌∙◌, arith, ℕ}
use Rattle.vs_crew.specs.Workers.{AreEnlisted, IsEnlisted}
use Rattle.vs_crew.specs.declared.worker.Worker.{Worker}
use Rattle.vs_crew.proofs.Crews.{enlisted-more}
use Rattle.vs_crew.proofs.crew.enlisted.Goals as goal

pub loop-number-preserved : goal.loop-number-preserved
loop-number-preserved c =
    let crew = c.loop-number.crew.items in
    let worker = c.in_ok-worker.worker in
    let count = c.loop-number.invariant.count in
    let items : c.push.new.self.items ≡ crew ++ worker ∷ [] = c.in_ok-push.ensures.items in
    let size = length-append crew (worker ∷ []) in
    let one : IsEnlisted c.args.instance.now (length crew) worker =
    subst (λ (n : ℕ). IsEnlisted c.args.instance.now n worker) (sym count) c.in_ok-worker.ensures in
    record {
      count = ap (λ (l : List Worker). length l) items ∙ (omega (arith, size, count));
      each = subst (λ (l : List Worker). AreEnlisted c.args.instance.now l) (sym items)
          (enlisted-more c.args.instance.now crew worker c.loop-number.invariant.each one);
    }
