use Rattle.std.proofs.Common.{◌≡◌, [], ◌++◌, take, cond, eqb, not}
use Rattle.std.specs.Prelude.{flat_map}
use Rattle.std.specs.List.{range_with_len}
use Rattle.vs_reader.specs.Rows.{line}
use Rattle.vs_make.specs.declared.grid.TheConstants.{STOPS}
use Rattle.vs_make.specs.Generator.{deadhead_row}
use Rattle.vs_make.proofs.making.write_deadheads_from.Given as goal

-- the deadheads so far are written
abbrev pub invariant-loop-s : goal.invariant-loop-s
invariant-loop-s l = l.text ≡ l.initial.text
    ++ flat_map (λ s. cond (not (eqb s l.k)) (line (deadhead_row l.k s)) []) (take l.s (range_with_len 0 STOPS))
