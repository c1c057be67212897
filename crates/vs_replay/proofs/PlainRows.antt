-- Rows of a trace are plain: nothing in them has to be quoted.
use Rattle.std.proofs.Common.{◌≡◌, ℕ, ◌+◌, ◌<◌, true, List, [], ◌∷◌, length, map, codes, decimal, refl, sym, subst, arith, All}
use Rattle.std.specs.Fmt.{signed_decimal}
use Rattle.std.proofs.lemmas.List.Elements.{All-cons, All-map, All-nil}
use Rattle.vs_types.specs.declared.numbers.TripNo.{TripNo}
use Rattle.vs_reader.specs.NameRules.{AreNames}
use Rattle.vs_reader.specs.Names.{NameLists, name_of}
use Rattle.vs_reader.specs.Rows.{Field, IsPlainRow, Row}
use Rattle.vs_rows.specs.DocumentRows.{BlockRow, DocumentRow, EndRow, FleetRow, PriceRow, TableRow, Says, kind_field, number_field}
use Rattle.vs_rows.proofs.CallerLemmas.{IsPlainField, are_high, plain_word, plain_row, plain_decimal, plain_name_of, plain_price, one_field, two_fields, every, plain_amount, plain_cost, plain_kind}
use Rattle.vs_trace.specs.TraceRows.{AreNumbers, ClosedRow, FirstRow, GaveBackRow, HeadRow, IsPart, OfferedRow, OpeningRow, PartRow, SayAllSo, SaysSo, SplitRow, TookRow, TraceRow, spot_row}

-- a row of a worker and a spot
plain_numbers : (worker spot : ℕ) → AreNumbers worker spot
    → IsPlainField (decimal (worker + 1)) × IsPlainField (decimal (spot + 1))
plain_numbers worker spot are = (
  plain_decimal (worker + 1) (omega (arith, are.worker_is)),
  plain_decimal (spot + 1) (omega (arith, are.spot_is)),
)

plain_spot : (kind : Field) (worker spot : ℕ) → 0 < length kind → are_high kind ≡ true → AreNumbers worker spot
    → IsPlainRow (spot_row kind worker spot)
plain_spot kind worker spot some high are =
    let both = plain_numbers worker spot are in
    plain_row kind (decimal (worker + 1) ∷ decimal (spot + 1) ∷ []) some high
    (two_fields (decimal (worker + 1)) (decimal (spot + 1)) both.0 both.1)

module _ (names : NameLists) (layers : AreNames names.layers) (trips : AreNames names.trips) where
  layer : (l : ℕ) → IsPlainField (name_of names.layers l)
  layer l = plain_name_of names.layers l layers.each

  trip : (i : ℕ) → IsPlainField (name_of names.trips i)
  trip i = plain_name_of names.trips i trips.each

  layer_names : (ls : List ℕ) → All IsPlainField (map (name_of names.layers) ls)
  layer_names ls =
      All-map IsPlainField (name_of names.layers) ls (every (λ l. IsPlainField (name_of names.layers l)) ls layer)

  trip_names : (ts : List TripNo) → All IsPlainField (map (λ t. name_of names.trips t.0) ts)
  trip_names ts = All-map IsPlainField (λ t. name_of names.trips t.0) ts
      (every (λ t. IsPlainField (name_of names.trips t.0)) ts (λ t. trip t.0))

  -- a row of a plan or of a table, or the end
  plain_part : (row : Row) (said : DocumentRow) → IsPart said → Says names row said → IsPlainRow row
  plain_part row (BlockRow b) part says =
      subst IsPlainRow (sym says.written)
      (plain_row (codes "block") (name_of names.layers b.0.0 ∷ map (λ t. name_of names.trips t.0) b.1) (omega arith)
      refl
      (All-cons IsPlainField (name_of names.layers b.0.0) (map (λ t. name_of names.trips t.0) b.1) (layer b.0.0)
      (trip_names b.1)))
  plain_part row (TableRow n ray) part says =
      subst IsPlainRow (sym says.written)
      (plain_row (codes "table") (decimal n ∷ kind_field ray ∷ []) (omega arith) refl
      (two_fields (decimal n) (kind_field ray) (plain_decimal n (omega (arith, says.form))) (plain_kind ray)))
  plain_part row (FleetRow l price) part says =
      subst IsPlainRow (sym says.written)
      (plain_row (codes "fleet") (name_of names.layers l ∷ signed_decimal price ∷ []) (omega arith) refl
      (two_fields (name_of names.layers l) (signed_decimal price) (layer l) (plain_price price says.form.1)))
  plain_part row (PriceRow l i into from) part says =
      subst IsPlainRow (sym says.written)
      (plain_row (codes "price")
      (name_of names.layers l ∷ name_of names.trips i ∷ signed_decimal into ∷ signed_decimal from ∷ [])
      (omega arith) refl
      (All-cons IsPlainField (name_of names.layers l)
      (name_of names.trips i ∷ signed_decimal into ∷ signed_decimal from ∷ []) (layer l)
      (All-cons IsPlainField (name_of names.trips i) (signed_decimal into ∷ signed_decimal from ∷ []) (trip i)
      (two_fields (signed_decimal into) (signed_decimal from) (plain_price into says.form.2)
      (plain_price from says.form.3)))))
  plain_part row EndRow part says =
      subst IsPlainRow (sym says.written) (plain_row (codes "end") [] (omega arith) refl (All-nil IsPlainField))
  plain_part row _ part says = absurd part

  plain_said : (row : Row) (said : TraceRow) → SaysSo names row said → IsPlainRow row
  plain_said row HeadRow says =
      subst IsPlainRow (sym says)
      (plain_row (codes "result") (codes "1" ∷ codes "trace" ∷ []) (omega arith) refl
      (two_fields (codes "1") (codes "trace") (plain_word (codes "1") refl) (plain_word (codes "trace") refl)))
  plain_said row (OpeningRow budget workers) says =
      subst IsPlainRow (sym says.1)
      (plain_row (codes "opening") (decimal budget ∷ decimal workers ∷ []) (omega arith) refl
      (two_fields (decimal budget) (decimal workers) (plain_decimal budget (omega (arith, says.0.few_leaves)))
      (plain_decimal workers (omega (arith, says.0.few_workers)))))
  plain_said row (FirstRow cost) says =
      subst IsPlainRow (sym says.1)
      (plain_row (codes "first") (number_field cost ∷ []) (omega arith) refl
      (one_field (number_field cost) (plain_cost cost says.0)))
  plain_said row (TookRow worker spot) says =
      subst IsPlainRow (sym says.1) (plain_spot (codes "took") worker spot (omega arith) refl says.0)
  plain_said row (ClosedRow worker spot) says =
      subst IsPlainRow (sym says.1) (plain_spot (codes "closed") worker spot (omega arith) refl says.0)
  plain_said row (GaveBackRow worker spot) says =
      subst IsPlainRow (sym says.1) (plain_spot (codes "gaveback") worker spot (omega arith) refl says.0)
  plain_said row (OfferedRow worker cost) says =
      subst IsPlainRow (sym says.written)
      (plain_row (codes "offered") (decimal (worker + 1) ∷ signed_decimal cost ∷ []) (omega arith) refl
      (two_fields (decimal (worker + 1)) (signed_decimal cost)
      (plain_decimal (worker + 1) (omega (arith, says.worker_is))) (plain_amount cost says.cost_is)))
  plain_said row (SplitRow worker spot t left) says =
      let both = plain_numbers worker spot says.numbers in
      let parts : List Field = name_of names.trips t.0 ∷ map (name_of names.layers) says.layers in
      subst IsPlainRow (sym says.written)
      (plain_row (codes "split") (decimal (worker + 1) ∷ decimal (spot + 1) ∷ parts) (omega arith) refl
      (All-cons IsPlainField (decimal (worker + 1)) (decimal (spot + 1) ∷ parts) both.0
      (All-cons IsPlainField (decimal (spot + 1)) parts both.1
      (All-cons IsPlainField (name_of names.trips t.0) (map (name_of names.layers) says.layers) (trip t.0)
      (layer_names says.layers)))))
  plain_said row (PartRow said) says = plain_part row said says.0 says.1

  pub all_plain : (rows : List Row) (said : List TraceRow) → SayAllSo names rows said → All IsPlainRow rows
  all_plain [] [] say = All-nil IsPlainRow
  all_plain [] (row ∷ said) say = absurd say
  all_plain (row ∷ rows) [] say = absurd say
  all_plain (row ∷ rows) (said ∷ more) say =
      All-cons IsPlainRow row rows (plain_said row said say.0) (all_plain rows more say.1)
