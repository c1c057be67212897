use Rattle.std.proofs.Common.{arith}
use Rattle.std.proofs.lemmas.Int.{ints, clamps}
use Rattle.vs_walk.proofs.penalties.offer.Goals as goal
use Rattle.vs_walk.proofs.penalties.offer.Goals.{then-count-eq0, else-count-eq0}

pub returns-clause-bid : goal.returns-clause-bid
returns-clause-bid c = record {
  alone = λ none. elim c.if-count-eq0.branch [
    | then-count-eq0 w ↦ omega (arith, ints, clamps, w.offered-is, c.max.ensures.value, c.min.ensures.value)
    | else-count-eq0 w ↦ absurd (omega (arith, none, c.count.ensures, w.if-count-eq0.false))
  ];
  beside = λ some. elim c.if-count-eq0.branch [
    | then-count-eq0 w ↦ absurd (omega (arith, some, c.count.ensures, w.if-count-eq0.true))
    | else-count-eq0 w ↦ omega (arith, ints, clamps, w.offered-is, c.max.ensures.value, c.min.ensures.value)
  ];
}

pub returns-clause-within : goal.returns-clause-within
returns-clause-within c = (
  omega (arith, ints, clamps, c.max.ensures.value, c.min.ensures.value),
  omega (arith, ints, clamps, c.max.ensures.value, c.min.ensures.value, c.most_multiplier.ensures.limit),
  omega (arith, ints, clamps, c.max.ensures.value, c.min.ensures.value, c.most_multiplier.ensures.value),
)
