use Rattle.std.proofs.Common.{◌+◌, ◌<◌, get_or, length, sym, ap, arith, subst}
use Rattle.std.proofs.lemmas.Bool.{lt-ltb, ltb-true, eq-eqb}
use Rattle.std.proofs.lemmas.List.{get_or_default}
use Rattle.vs_match.specs.declared.matching.Matching.{Matching}
use Rattle.vs_match.specs.declared.stop_node.StopNode.{StopNode}
use Rattle.vs_match.specs.Sweep.{IsKept}
use Rattle.vs_match.proofs.matches.Sweeping.{last_kept, next_late, next_in_time}
use Rattle.vs_match.proofs.deadheads.is_kept.Goals as goal

pub returns-then-k-arrivals : goal.returns-then-k-arrivals
returns-then-k-arrivals c = λ d.
    let xs = c.args.arrivals.now in
    let Kept : Matching → Type 0 = λ m. IsKept m xs c.args.way (get_or xs c.args.k d) c.args.until.now in (
      λ _. subst Kept (sym c.in-Latest.is)
          (last_kept xs c.requires.rising c.args.way c.args.k c.requires.of_arrivals d c.args.until.now
          c.if-k-arrivals.true),
      λ _. eq-eqb (c.args.k + 1) (length xs) c.if-k-arrivals.true,
    )

pub returns-else-k-arrivals : goal.returns-else-k-arrivals
returns-else-k-arrivals c = λ d.
    let xs = c.args.arrivals.now in
    let w = c.args.way in
    let b = c.args.until.now in
    let k = c.args.k in
    let Kept : Matching → Type 0 = λ m. IsKept m xs w (get_or xs k d) b in
    let more : k + 1 < length xs = omega (arith, c.requires.of_arrivals, c.if-k-arrivals.false) in
    let minute =
    ap (λ (s : StopNode). s.minute)
    (get_or_default xs (k + 1) d (record { stop = record { 0 = 0 }; minute = 0; node = 0 }) more) in (
      λ late. subst Kept (sym c.in-Latest.is)
          (next_late xs c.requires.rising w k c.requires.of_arrivals d b more
          (omega (arith, minute, ltb-true _ _ late))),
      λ kept. lt-ltb _ _
          (omega (
            arith,
            minute,
            next_in_time xs c.requires.rising w k c.requires.of_arrivals d b more (subst Kept c.in-Latest.is kept),
          )),
    )
