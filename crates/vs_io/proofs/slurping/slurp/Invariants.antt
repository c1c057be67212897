use Rattle.std.proofs.Common.{◌≡◌, ◌+◌, ◌-◌, ◌≤◌, ◌⊎◌, vec_len}
use Rattle.vs_io.specs.Bytes.{Takes}
use Rattle.vs_io.specs.Faults.{Rose}
use Rattle.vs_io.proofs.slurping.slurp.Given as goal

abbrev pub invariant-pieces : goal.invariant-pieces
invariant-pieces g l = record {
  within : vec_len l.bytes ≤ l.limit;
  taken : Takes (g.S.Source.left l.initial.src) (g.S.Source.left l.src) l.bytes.items;
  kept : g.S.Source.faults l.initial.src ≤ g.S.Source.faults l.src;
  counted : (g.S.Source.calls l.src ≡ g.S.Source.calls l.initial.src)
      ⊎ Rose (g.S.Source.calls l.initial.src) (g.S.Source.calls l.src);
  few_takes : g.S.Source.calls l.src ≤ g.S.Source.calls l.initial.src + vec_len l.bytes;
}

abbrev pub decreases-pieces : goal.decreases-pieces
decreases-pieces g l = l.limit - vec_len l.bytes
