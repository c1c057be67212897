-- The rows as which claims are written are plain: nothing in them has to be quoted.
use Rattle.std.proofs.Common.{ℕ, List, [], ◌∷◌, map, get_or, codes, refl, arith, All, Option, Some, None}
use Rattle.std.specs.Fmt.{signed_decimal}
use Rattle.std.proofs.lemmas.List.Elements.{All-cons, All-head, All-map, All-nil, All-tail}
use Rattle.vs_types.specs.declared.numbers.TripNo.{TripNo}
use Rattle.vs_reader.specs.NameRules.{AreNames}
use Rattle.vs_reader.specs.Names.{NameLists, name_of}
use Rattle.vs_reader.specs.Rows.{IsPlainRow}
use Rattle.vs_rows.specs.DocumentRows.{BlockRow, EndRow, FleetRow, PriceRow}
use Rattle.vs_rows.proofs.CallerLemmas.{IsPlainField, plain_word, plain_row, plain_decimal, plain_name_of, plain_price, one_field}
use Rattle.vs_peakcheck.specs.PeakRows.{CountRow, IsCount, PartRow, PeakRow, count_field, head_row, written_peak}
use Rattle.vs_peak.proofs.WrittenSays.{HasPeakForm}

plain_count : (n : Option ℕ) → IsCount n → IsPlainField (count_field n)
plain_count (Some n) few = plain_decimal n (omega (arith, few))
plain_count None few = plain_word (codes "none") refl

-- the first row
pub plain_head : IsPlainRow head_row
plain_head =
    plain_row (codes "result") (codes "1" ∷ codes "peak" ∷ []) (omega arith) refl
    (All-cons IsPlainField (codes "1") (codes "peak" ∷ []) (plain_word (codes "1") refl)
    (one_field (codes "peak") (plain_word (codes "peak") refl)))

module _ (names : NameLists) (layers : AreNames names.layers) (trips : AreNames names.trips) where
  layer : (l : ℕ) → IsPlainField (name_of names.layers l)
  layer l = plain_name_of names.layers l layers.each

  trip : (i : ℕ) → IsPlainField (name_of names.trips i)
  trip i = plain_name_of names.trips i trips.each

  trip_names : (ts : List TripNo) → All IsPlainField (map (λ t. name_of names.trips t.0) ts)
  trip_names ts = All-map IsPlainField (λ t. name_of names.trips t.0) ts (λ k d within. trip (get_or ts k d).0)

  -- what has the form of a row is written plainly
  plain_written : (said : PeakRow) → HasPeakForm names said → IsPlainRow (written_peak names said)
  plain_written (CountRow l n) form =
      plain_row (codes "peak") (name_of names.layers l ∷ count_field n ∷ []) (omega arith) refl
      (All-cons IsPlainField (name_of names.layers l) (count_field n ∷ []) (layer l)
      (one_field (count_field n) (plain_count n form.1)))
  plain_written (PartRow (BlockRow b)) form =
      plain_row (codes "block") (name_of names.layers b.0.0 ∷ map (λ t. name_of names.trips t.0) b.1) (omega arith) refl
      (All-cons IsPlainField (name_of names.layers b.0.0) (map (λ t. name_of names.trips t.0) b.1) (layer b.0.0)
      (trip_names b.1))
  plain_written (PartRow (FleetRow l price)) form =
      plain_row (codes "fleet") (name_of names.layers l ∷ signed_decimal price ∷ []) (omega arith) refl
      (All-cons IsPlainField (name_of names.layers l) (signed_decimal price ∷ []) (layer l)
      (one_field (signed_decimal price) (plain_price price form.1.1)))
  plain_written (PartRow (PriceRow l i into from)) form =
      plain_row (codes "price")
      (name_of names.layers l ∷ name_of names.trips i ∷ signed_decimal into ∷ signed_decimal from ∷ [])
      (omega arith) refl
      (All-cons IsPlainField (name_of names.layers l)
      (name_of names.trips i ∷ signed_decimal into ∷ signed_decimal from ∷ []) (layer l)
      (All-cons IsPlainField (name_of names.trips i) (signed_decimal into ∷ signed_decimal from ∷ []) (trip i)
      (All-cons IsPlainField (signed_decimal into) (signed_decimal from ∷ []) (plain_price into form.1.2)
      (one_field (signed_decimal from) (plain_price from form.1.3)))))
  plain_written (PartRow EndRow) form = plain_row (codes "end") [] (omega arith) refl (All-nil IsPlainField)
  plain_written (PartRow _) form = absurd form.0

  pub plain_rows : (said : List PeakRow) → All (HasPeakForm names) said
      → All IsPlainRow (map (written_peak names) said)
  plain_rows [] forms = All-nil IsPlainRow
  plain_rows (row ∷ said) forms =
      All-cons IsPlainRow (written_peak names row) (map (written_peak names) said)
      (plain_written row (All-head (HasPeakForm names) row said forms))
      (plain_rows said (All-tail (HasPeakForm names) row said forms))
