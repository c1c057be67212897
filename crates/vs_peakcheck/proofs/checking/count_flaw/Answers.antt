use Rattle.std.proofs.Common.{ap, sym, subst, ◌∙◌, ℕ, Option}
use Rattle.vs_instance.specs.Firsts.{first}
use Rattle.vs_instance.specs.Plan.{IsPlan}
use Rattle.vs_plan.specs.Blocks.{pairs_of}
use Rattle.vs_plan.proofs.CallerLemmas.{few_blocks}
use Rattle.vs_peakcheck.specs.Flaws.{count_flaws}
use Rattle.vs_peakcheck.proofs.LayerFlaws.{plan_flaw}
use Rattle.vs_peakcheck.proofs.checking.count_flaw.Goals as goal

pub difference-requires : goal.difference-requires
difference-requires c = few_blocks c.args.counted.now c.args.blocks.now c.requires

pub returns : goal.returns
returns c =
    let q = c.args.counted.now in
    let blocks = c.args.blocks.now in
    let plan : IsPlan q (pairs_of blocks) = subst (IsPlan q) c.in_ok-plan.ensures c.in-Ok.ensures.plan.0 in
    c.difference.ensures
    ∙ sym (plan_flaw q blocks c.in-Some.count plan)
    ∙ ap (λ (n : Option ℕ). first (count_flaws q (pairs_of blocks) n)) (sym c.in-Some.is)
