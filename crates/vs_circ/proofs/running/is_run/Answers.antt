use Rattle.std.proofs.Common.{◌<◌, ℕ, get_or, subst}
use Rattle.std.proofs.lemmas.Bool.{lt-ltb, ltb-true}
use Rattle.vs_circ.proofs.running.is_run.Goals as goal

pub returns-in-Some : goal.returns-in-Some
returns-in-Some c =
    let units = c.args.units.now in
    let k = c.in-Some.k in
    let is = c.in-Some.ensures in (
      λ some. (k, is, ltb-true 0 (get_or units k 0) some),
      λ run.
          let same = c.requires.of_layer.2.one_arc c.args.trip.0 run.0 k run.1 is in
          lt-ltb 0 (get_or units k 0) (subst (λ (j : ℕ). 0 < get_or units j 0) same run.2),
    )
