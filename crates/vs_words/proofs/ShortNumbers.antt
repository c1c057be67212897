-- Numbers as words write them.
use Rattle.std.proofs.Common.{◌≡◌, ℕ, ◌^◌, ◌<◌, ◌≤◌, Result, Ok, arith}
use Rattle.std.specs.Char.{IsAsciiDigit}
use Rattle.std.specs.Str.Parse.{ParsesUnsigned, digits_value}
use Rattle.std.proofs.lemmas.List.Elements.{All-get_or}
use Rattle.std.proofs.lemmas.Str.Parse.{parse_gives}
use Rattle.vs_reader.specs.Numbers.{AreDigits}
use Rattle.vs_reader.proofs.CallerLemmas.{digits_short, numerals}
use Rattle.vs_words.specs.Words.{Word}

-- what is read from few digits is the number that they write
pub parses_number : {E : Type 0} (count : ℕ) (word : Word) (r : Result ℕ E) → count ≤ 7 → AreDigits word count
    → ParsesUnsigned 32 10 word r → r ≡ Ok (digits_value 10 word)
parses_number count word r short digits parses =
    let size = digits.few in
    let few : digits_value 10 word < 10 ^ 7 = digits_short word 7 digits.digits (omega (arith, size, short)) in
    parse_gives numerals 32 word r parses (λ i within. All-get_or IsAsciiDigit word i 0 within digits.digits)
    digits.some (omega arith)
