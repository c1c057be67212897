use Rattle.std.proofs.Common.{sym, ap, ◌∙◌}
use Rattle.std.specs.List.{filter}
use Rattle.vs_decomp.specs.Stands.{has_run}
use Rattle.vs_decomp.proofs.Standing.{last_row}
use Rattle.vs_decomp.proofs.underway.Underway.into_blocks.Goals as goal

pub returns : goal.returns
returns c =
    c.into_blocks.ensures
    ∙ ap (filter has_run)
    (sym (last_row c.args.self.stands.items c.pop.new.self.items c.in-Some.last c.in-Some.ensures.items))
