use Rattle.std.proofs.Common.{◌<◌, ◌≤◌, length, take, get_or, arith, rules, ℕ, List}
use Rattle.std.specs.Prelude.{All}
use Rattle.std.specs.Char.{IsAsciiDigit}
use Rattle.std.specs.Str.Parse.{digits_value}
use Rattle.std.proofs.lemmas.List.{length-take}
use Rattle.std.proofs.lemmas.List.Elements.{All-more}
use Rattle.vs_reader.proofs.declaring.NumberLemmas.{digits_short, digits_step}
use Rattle.vs_reader.proofs.fields.digits.Goals as goal

-- what is read so far is below ten to the ninth
small : (field : List ℕ) (i most : ℕ) → All IsAsciiDigit (take i field) → i < length field → length field ≤ most
    → most ≤ 10 → digits_value 10 (take i field) < 1000000000
small field i most digits within short few = digits_short (take i field) 9 digits (omega (arith, length-take i field))

pub overflow_mul-value : goal.overflow_mul-value
overflow_mul-value c =
    let s = small c.args.field.now c.loop-byte.byte-index c.args.most c.loop-byte.invariant.digits (omega arith)
    (omega arith) (omega arith) in
    omega arith

pub overflow_add-value : goal.overflow_add-value
overflow_add-value c =
    let s = small c.args.field.now c.loop-byte.byte-index c.args.most c.loop-byte.invariant.digits (omega arith)
    (omega arith) (omega arith) in
    let digit : (48 ≤ get_or c.args.field.now c.loop-byte.byte-index 0)
    × (get_or c.args.field.now c.loop-byte.byte-index 0 ≤ 57) = search rules in
    omega arith

pub loop-byte-preserved : goal.loop-byte-preserved
loop-byte-preserved c =
    let digit : (48 ≤ get_or c.args.field.now c.loop-byte.byte-index 0)
    × (get_or c.args.field.now c.loop-byte.byte-index 0 ≤ 57) = search rules in
    record {
      digits = All-more IsAsciiDigit c.args.field.now c.loop-byte.byte-index 0 c.loop-byte-test.true
          c.loop-byte.invariant.digits digit;
      value = let step = digits_step c.args.field.now c.loop-byte.byte-index c.loop-byte-test.true digit in omega arith;
    }
