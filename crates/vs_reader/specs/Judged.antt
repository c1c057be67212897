-- What judging a record answers.
use Rattle.std.specs.Prelude.{List, Result, Ok, Err}
use Rattle.vs_reader.specs.declared.refused.Why.{Why}
use Rattle.vs_reader.specs.declared.record.RecordError.{RecordError}
use Rattle.vs_reader.specs.declared.record.RecordError.TheVariants as error
use Rattle.vs_reader.specs.Rules.{Rule, AreKept, BreaksFirst}

-- the rules are kept, and this is true of the value; or the first that is broken is answered
abbrev pub Judged : {X : Type 0} → List Rule → (X → Type 0) → Result X Why → Type 0
Judged rules P (Ok x) = AreKept rules × P x
Judged rules P (Err why) = BreaksFirst rules why

-- the same, where there may be no memory
abbrev pub JudgedOrMemory : {X : Type 0} → List Rule → Type 0 → Result X RecordError → Type 0
JudgedOrMemory rules P (Ok x) = AreKept rules × P
JudgedOrMemory rules P (Err (error.Refused why)) = BreaksFirst rules why
JudgedOrMemory rules P (Err error.Memory) = Unit {0}
