use Rattle.std.proofs.Common.{◌≡◌, ◌∙◌, ℕ, List, length, get_or, ap, arith}
use Rattle.vs_path.specs.Labels.{lists_of}
use Rattle.vs_path.proofs.labelling.Lowering.{some_within}
use Rattle.vs_path.proofs.labels.Labels.clear.Goals as goal

pub forget-requires-clause-within : goal.forget-requires-clause-within
forget-requires-clause-within c = λ i inside.
    let l = lists_of c.args.self.now in
    let is = c.requires.listed i (omega (arith, inside, ap length c.deref.ensures.value)) in
    let within = some_within l.settled (get_or l.order i 0) is.0 is.1 in
    let same : get_or c.deref.result.now i 0 ≡ get_or l.order i 0 =
    ap (λ (xs : List ℕ). get_or xs i 0) c.deref.ensures.value in
    omega (arith, within, same, c.requires.waiting)

pub forget-requires-clause-all : goal.forget-requires-clause-all
forget-requires-clause-all c = λ v a is.
    let at = c.requires.placed v a is in (
      a.place,
      omega (arith, at.0, ap length c.deref.ensures.value),
      ap (λ (xs : List ℕ). get_or xs a.place 0) c.deref.ensures.value ∙ at.1,
    )
