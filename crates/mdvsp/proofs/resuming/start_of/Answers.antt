use Rattle.std.proofs.Common.{ℕ, length, sym, subst}
use Rattle.vs_check.specs.Flaws.{IsFlawWithin, IsVerdictWithin}
use Rattle.mdvsp.proofs.resuming.start_of.Goals as goal

pub no-requires : goal.no-requires
no-requires c =
    let input = c.args.case.now.input in
    let within = subst (IsVerdictWithin (length input.instance.layers) (length input.instance.trips)) c.in-No.is
    c.in_ok-check.ensures.of_instance in
    let counts = c.requires.counts in
    subst (λ (n : ℕ). IsFlawWithin n (length input.names.trips) c.in-No.flaw) (sym counts.layers)
    (subst (λ (n : ℕ). IsFlawWithin (length input.instance.layers) n c.in-No.flaw) (sym counts.trips) within)
