use Rattle.std.proofs.Common.{◌≡◌, ℕ, ◌↔◌, Bool, true, false, get_or, set, sym, subst, below_more, get_or-set_same, get_or-set_other, arith}
use Rattle.vs_circ.specs.Circulations.{RunTrip}
use Rattle.vs_circ.proofs.running.mark.Goals as goal

pub loop-i-preserved : goal.loop-i-preserved
loop-i-preserved c =
    let n = c.args.net.now in
    let units = c.args.units.now in
    let i = c.loop-i.i in
    let old = c.loop-i.answer in
    let Is : ℕ → Bool → Type 0 = λ j b. (b ≡ true) ↔ RunTrip n units j in
    let here : get_or (set old i c.is_run.result) i false ≡ c.is_run.result =
    get_or-set_same old i c.is_run.result false (omega arith) in
    below_more (λ (j : ℕ). Is j (get_or (set old i c.is_run.result) j false)) i
    (λ j below.
    subst (Is j) (sym (get_or-set_other old i j c.is_run.result false (omega arith)))
    (c.loop-i.invariant j below))
    (subst (Is i) (sym here) c.is_run.ensures)
