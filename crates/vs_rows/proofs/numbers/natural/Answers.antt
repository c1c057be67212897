use Rattle.std.proofs.Common.{◌⊎◌, sym, ◌∙◌, ◌≡◌, ◌<◌, arith, ap, length, inl, inr}
use Rattle.std.proofs.lemmas.Bool.{eqb-true}
use Rattle.vs_rows.proofs.words.Numbers.{starts, few_digits, reads_more, no_digit, leading_zero_of, other_number}
use Rattle.vs_rows.proofs.numbers.natural.Goals as goal
use Rattle.vs_rows.proofs.numbers.natural.Goals.{else-i-gt0-via-then-i-gt0+else-n-eq0, else-i-gt0-via-else-i-gt0}

pub returns-then-is_empty-clause-none : goal.returns-then-is_empty-clause-none
returns-then-is_empty-clause-none c = λ n few e.
    let some = starts n (omega arith) in
    let size = ap length e in
    let digits = few_digits n few in
    elim c.then-is_empty.either [
      | inl h ↦
          absurd (omega (arith, some.some, eqb-true _ _ (sym c.is_empty.ensures ∙ h)))
      | inr h ↦ omega (arith, h.1)
    ]

pub returns-then-not-is_ascii_digit-clause-none : goal.returns-then-not-is_ascii_digit-clause-none
returns-then-not-is_ascii_digit-clause-none c =
    λ m few e. no_digit c.args.digits.now c.loop-i.i m c.loop-i-test.true c.if-not-is_ascii_digit.ensures.cases few e

pub returns-then-n-eq0-clause-none : goal.returns-then-n-eq0-clause-none
returns-then-n-eq0-clause-none c =
    λ m few e. leading_zero_of c.args.digits.now c.loop-i.i c.loop-i.n m c.if-i-gt0.true c.loop-i-test.true
    c.if-n-eq0.true c.loop-i.invariant few e

pub loop-i-preserved : goal.loop-i-preserved
loop-i-preserved c =
    let first : (c.loop-i.i ≡ 0) ⊎ (0 < c.loop-i.n) =
    elim c.else-i-gt0.either [ inl h ↦ inr (omega (arith, h.1)) | inr h ↦ inl (omega arith) ] in
    reads_more c.args.digits.now c.loop-i.i c.loop-i.n c.from.result
    (omega arith) c.loop-i-test.true c.from.ensures c.if-not-is_ascii_digit.ensures.cases first c.loop-i.invariant

pub returns-then-n-gt-LARGEST-clause-none : goal.returns-then-n-gt-LARGEST-clause-none
returns-then-n-gt-LARGEST-clause-none c = λ m few e.
    other_number c.args.digits.now c.loop-i.i c.loop-i.n m c.loop-i-test.false (omega arith)
    (omega arith) c.loop-i.invariant few e
