-- What an error of reading says.
use Rattle.std.specs.Prelude.{ℕ}
use Rattle.vs_reader.specs.declared.record.RecordError.{RecordError}
use Rattle.vs_reader.specs.declared.record.RecordError.TheVariants as record_error
use Rattle.vs_reader.specs.declared.refused.ReadError.{ReadError}
use Rattle.vs_reader.specs.declared.refused.ReadError.TheVariants as error
use Rattle.vs_reader.specs.declared.refused.Refused.{Refused}

-- a refusal, of which this is true; want of memory says nothing
abbrev pub RefusesAs : (Refused → Type 0) → ReadError → Type 0
RefusesAs P (error.Refused refused) = P refused
RefusesAs P error.Memory = Unit {0}

-- the error is a refusal
abbrev pub IsRefusedError : ReadError → Type 0
IsRefusedError (error.Refused refused) = Unit {0}
IsRefusedError error.Memory = ⊥

-- the error of the record with this number
abbrev pub error_at : ℕ → RecordError → ReadError
error_at number (record_error.Refused why) = error.Refused (record { row = number; why = why })
error_at number record_error.Memory = error.Memory
