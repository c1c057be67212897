use Rattle.std.proofs.Common.{drop}
use Rattle.vs_instance.specs.Firsts.{first}
use Rattle.vs_check.specs.Flaws.{shape_flaws}
use Rattle.vs_check.proofs.Parts.{IsBefore}
use Rattle.vs_check.proofs.verdict.shape_flaw.Given as goal

-- the rows from here on are those of the parts still to come, which have the first flaw of all
abbrev pub invariant-loop-position : goal.invariant-loop-position
invariant-loop-position l =
    IsBefore l.instance l.document (drop l.position l.document.shape.items) l.position l.walk
    (first (shape_flaws l.instance l.document))
