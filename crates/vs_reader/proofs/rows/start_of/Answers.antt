use Rattle.std.proofs.Common.{◌≡◌, suc, ◌-◌, take, sym, ap, ◌∙◌, arith}
use Rattle.vs_reader.specs.RowEnds.{end_of}
use Rattle.vs_reader.proofs.places.ListParts.{end_of-take}
use Rattle.vs_reader.proofs.rows.start_of.Goals as goal

pub returns-else-k-eq0 : goal.returns-else-k-eq0
returns-else-k-eq0 c =
    let k = c.args.k in let ends = c.args.ends.now in
    let is : suc (k - 1) ≡ k = omega arith in
    sym (end_of-take 0 ends (k - 1) 0 (omega arith)) ∙ ap (λ n. end_of 0 (take n ends)) is
