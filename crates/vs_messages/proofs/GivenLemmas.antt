-- How many records were given, as reading goes on.
use Rattle.std.proofs.Common.{ℕ, ◌+◌, ◌<◌, inl, inr, true, false, List, [], ◌∷◌, ◌++◌, length, append_assoc, refl, sym, ap, ◌∙◌, arith}
use Rattle.std.proofs.lemmas.List.{length-append, length_push}
use Rattle.csv.specs.Records.{fields_of}
use Rattle.vs_reader.specs.Rows.{Row}
use Rattle.vs_reader.specs.declared.text_records.TextRecords.{TextRecords}
use Rattle.vs_reader.specs.Left.{AreLeft, GivesNext}
use Rattle.vs_messages.specs.Given.{IsAt, IsLast, WasGiven}

-- none was given of the records that are left
pub none_given : (rows : List Row) (records : TextRecords) → AreLeft records rows → WasGiven rows 0 records
none_given rows records left = record {
  given = [];
  left = rows;
  parts = refl;
  so_many = refl;
  last = inl refl;
  are_left = left;
}

-- one more was given
pub one_more : (rows : List Row) (count : ℕ) (old new : TextRecords) (was : WasGiven rows count old)
    → GivesNext new was.left true → WasGiven rows (count + 1) new
one_more rows count old new was next = record {
  given = was.given ++ fields_of new.current ∷ [];
  left = next.0;
  parts = was.parts ∙ ap (λ (rs : List Row). was.given ++ rs) next.1
      ∙ sym (append_assoc was.given (fields_of new.current ∷ []) next.0);
  so_many = omega (arith, was.so_many, length_push was.given (fields_of new.current));
  last = inr (was.given, refl);
  are_left = next.2;
}

-- there were no more
pub no_more : (rows : List Row) (count number : ℕ) (old new : TextRecords) (was : WasGiven rows count old)
    → count < number → GivesNext new was.left false → length rows < number
no_more rows count number old new was less none =
    omega (
      arith,
      was.so_many,
      ap (λ (rs : List Row). length rs) was.parts,
      length-append was.given was.left,
      ap (λ (rs : List Row). length rs) none,
    )

-- where some were given, the current record is the last of them
pub is_at : (rows : List Row) (count : ℕ) (records : TextRecords) → WasGiven rows count records → 0 < count
    → IsAt rows count (fields_of records.current)
is_at rows count records was some = by was.last
  where
    by : IsLast was.given (fields_of records.current) → IsAt rows count (fields_of records.current)
    by (inl none) = absurd (omega (arith, was.so_many, ap (λ (rs : List Row). length rs) none))
    by (inr last) = record {
      before = last.0;
      after = was.left;
      parts = was.parts ∙ ap (λ (rs : List Row). rs ++ was.left) last.1
          ∙ append_assoc last.0 (fields_of records.current ∷ []) was.left;
      place = omega (
        arith,
        was.so_many,
        ap (λ (rs : List Row). length rs) last.1,
        length_push last.0 (fields_of records.current),
      );
    }
