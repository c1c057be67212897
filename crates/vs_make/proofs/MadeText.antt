-- A made text is an instance text: the lines of its records are read as these records, which declare the instance.
use Rattle.std.proofs.Common.{◌≡◌, ℕ, ◌+◌, ◌<◌, ◌≤◌, Bool, true, false, cond, eqb, List, [], ◌∷◌, ◌++◌, length, map, append_assoc, refl, sym, ap, ◌∙◌, subst, inl, inr, arith}
use Rattle.std.specs.Prelude.{All, flat_map, nat_lt}
use Rattle.std.specs.List.{join_with_byte, range_with_len}
use Rattle.std.proofs.lemmas.Bool.{cases_lt, false≢true, le-ltb, lt-ltb, ne_eqb}
use Rattle.std.proofs.lemmas.List.{drop_all}
use Rattle.std.proofs.lemmas.List.Elements.{All-append, All-cons, All-head, All-nil, All-tail, All-weaker}
use Rattle.csv.specs.Machine.{next_record, step, ends_with, after_end, in_field, start_field, start_record}
use Rattle.csv.specs.Reading.{Reached, default_config, strip_bom}
use Rattle.csv.specs.declared.parser.Action.{Action}
use Rattle.csv.specs.declared.parser.Action.TheVariants as act
use Rattle.csv.specs.declared.parser.State.{State}
use Rattle.csv.specs.declared.parser.State.TheVariants as st
use Rattle.csv.specs.declared.parser.Terminator.TheVariants as term
use Rattle.vs_instance.specs.Misfits.{deadheads_of}
use Rattle.vs_instance.specs.declared.limits.TheConstants.{USUAL_TRIPS}
use Rattle.vs_reader.specs.declared.version.Version.{Version}
use Rattle.vs_reader.specs.declared.version.Version.TheVariants.{One, Two, Three}
use Rattle.vs_reader.specs.Names.{Names}
use Rattle.vs_reader.specs.InstanceText.{AddAll, Declared, instance_records, nothing_yet}
use Rattle.vs_reader.specs.Rows.{Field, IsPlain, IsPlainRow, Row, line, lines}
use Rattle.vs_reader.specs.Texts.{EndsInLine, HasRows, is_between, state_after}
use Rattle.vs_reader.specs.Versions.{header, most_in, writes_stay}
use Rattle.vs_reader.proofs.CallerLemmas.{lines_behind}
use Rattle.vs_make.specs.declared.grid.TheConstants.{STOPS, DEPOTS}
use Rattle.vs_make.specs.Generator.{deadheads_from, drawn_row, layer_name, layer_row, made_version, make_rows, stop_name, stop_row}
use Rattle.vs_make.specs.Made.{IsWholeText, depot_names, drawn_trip, made_deadheads, made_layers, made_names, made_problem, stop_names}
use Rattle.vs_make.proofs.Fields.{named_in_order}
use Rattle.vs_make.proofs.Declaring.{added_both, all_stops, deadheads_added, layers_added, stops_added, trips_added}
use Rattle.vs_make.proofs.Limits.{fleets_fit, is_instance, once}
use Rattle.vs_make.proofs.Plain.{IsMadeRow, made_layer_rows, made_links, made_stops, made_trips, none_is_result}
use Rattle.vs_rows.proofs.CallerLemmas.{all_below}

-- in these states no quote is open
abbrev is_open : State → Bool
is_open st.StartRecord = true
is_open st.StartField = true
is_open st.InField = true
is_open _ = false

-- no quote and no carriage return
record IsQuiet (byte : ℕ) : Type 0 where
  no_return : ¬ (byte ≡ 13)
  no_quote : ¬ (byte ≡ 34)

in_field_open : (c : ℕ) → IsQuiet c → is_open (in_field default_config c).0 ≡ true
in_field_open c quiet =
    let then : Bool → State × Action = λ t. cond t (after_end term.CRLF c, act.EndRecord) (st.InField, act.Copy) in
    let last = ends_with term.CRLF c in
    elim (eqb c 44) as
    (λ b. is_open (cond {A = State × Action} b (st.StartField, act.EndField) (then last)).0 ≡ true) [
      | true ↦ refl
      | false ↦ elim last as (λ t. is_open (then t).0 ≡ true) [
        | true ↦ ap (λ (r : Bool). is_open (cond r st.AfterCr st.StartRecord)) (ne_eqb c 13 quiet.no_return)
        | false ↦ refl
      ]
    ]

start_field_open : (c : ℕ) → IsQuiet c → is_open (start_field default_config c).0 ≡ true
start_field_open c quiet =
    ap (λ (b : Bool). is_open (cond {A = State × Action} b (st.InQuoted, act.Skip) (in_field default_config c)).0)
    (ne_eqb c 34 quiet.no_quote) ∙ in_field_open c quiet

start_open : (c : ℕ) → IsQuiet c → is_open (start_record default_config c).0 ≡ true
start_open c quiet =
    elim (ends_with term.CRLF c) as
    (λ t. is_open (cond {A = State × Action} t (st.StartRecord, act.Skip) (start_field default_config c)).0 ≡ true) [
      | true ↦ refl
      | false ↦ start_field_open c quiet
    ]

stays_open : (s : State) (c : ℕ) → is_open s ≡ true → IsQuiet c → is_open (step default_config s c).0 ≡ true
stays_open st.StartRecord c is quiet = start_open c quiet
stays_open st.StartField c is quiet = start_field_open c quiet
stays_open st.InField c is quiet = in_field_open c quiet
stays_open st.InQuoted c is quiet = absurd (false≢true is)
stays_open st.AfterQuote c is quiet = absurd (false≢true is)
stays_open st.AfterCr c is quiet = absurd (false≢true is)
stays_open st.InEscape c is quiet = absurd (false≢true is)
stays_open st.InComment c is quiet = absurd (false≢true is)

-- a line feed leads back to the beginning of a record
feed_ends : (s : State) → is_open s ≡ true → (step default_config s 10).0 ≡ st.StartRecord
feed_ends st.StartRecord is = refl
feed_ends st.StartField is = refl
feed_ends st.InField is = refl
feed_ends st.InQuoted is = absurd (false≢true is)
feed_ends st.AfterQuote is = absurd (false≢true is)
feed_ends st.AfterCr is = absurd (false≢true is)
feed_ends st.InEscape is = absurd (false≢true is)
feed_ends st.InComment is = absurd (false≢true is)

after_quiet : (s : State) (bytes rest : List ℕ) → is_open s ≡ true → All IsQuiet bytes
    → state_after s (bytes ++ 10 ∷ rest) ≡ state_after st.StartRecord rest
after_quiet s [] rest is quiet = ap (λ (t : State). state_after t rest) (feed_ends s is)
after_quiet s (b ∷ bytes) rest is quiet =
    after_quiet (step default_config s b).0 bytes rest (stays_open s b is (All-head IsQuiet b bytes quiet))
    (All-tail IsQuiet b bytes quiet)

quiet_field : (field : Field) → All IsPlain field → All IsQuiet field
quiet_field field plain =
    All-weaker IsPlain IsQuiet (λ b is. record { no_return = is.no_carriage_return; no_quote = is.no_quote })
    field plain

quiet_row : (row : Row) → All (λ f. All IsPlain f) row → All IsQuiet (join_with_byte 44 row)
quiet_row [] plain = All-nil IsQuiet
quiet_row (f ∷ []) plain = quiet_field f (All-head (λ f. All IsPlain f) f [] plain)
quiet_row (f ∷ g ∷ row) plain =
    let comma : IsQuiet 44 = record { no_return = λ e. omega (arith, e); no_quote = λ e. omega (arith, e) } in
    All-append IsQuiet f (44 ∷ join_with_byte 44 (g ∷ row))
    (quiet_field f (All-head (λ f. All IsPlain f) f (g ∷ row) plain))
    (All-cons IsQuiet 44 (join_with_byte 44 (g ∷ row)) comma
    (quiet_row (g ∷ row) (All-tail (λ f. All IsPlain f) f (g ∷ row) plain)))

-- after lines of plain records none is begun
after_lines : (rows : List Row) → All IsPlainRow rows → state_after st.StartRecord (lines rows) ≡ st.StartRecord
after_lines [] plain = refl
after_lines (row ∷ rows) plain =
    ap (state_after st.StartRecord) (append_assoc (join_with_byte 44 row) (10 ∷ []) (lines rows))
    ∙ after_quiet st.StartRecord (join_with_byte 44 row) (lines rows) refl
    (quiet_row row (All-head IsPlainRow row rows plain).plain)
    ∙ after_lines rows (All-tail IsPlainRow row rows plain)

-- records behind the header, read from their lines
header_read : (v : Version) → HasRows (line (header v)) (header v ∷ [])
unfolding next_record Reached strip_bom
header_read One = (st.StartRecord, [], ((header One, st.StartRecord, []), refl, refl, (refl, refl)), refl)
header_read Two = (st.StartRecord, [], ((header Two, st.StartRecord, []), refl, refl, (refl, refl)), refl)
header_read Three = (st.StartRecord, [], ((header Three, st.StartRecord, []), refl, refl, (refl, refl)), refl)

header_ends : (v : Version) → EndsInLine (line (header v))
unfolding strip_bom
header_ends One = refl
header_ends Two = refl
header_ends Three = refl

all_ends : (v : Version) (rows : List Row) → All IsPlainRow rows → EndsInLine (line (header v) ++ lines rows)
unfolding strip_bom
all_ends One rows plain = ap is_between (after_lines rows plain)
all_ends Two rows plain = ap is_between (after_lines rows plain)
all_ends Three rows plain = ap is_between (after_lines rows plain)

-- the version of the text of n trips has room for them, and its layers write no least rest
version_has_room : (n : ℕ) → n ≤ 10000 → n ≤ most_in (made_version n)
version_has_room n few =
    elim (cases_lt USUAL_TRIPS n) [
      | inl many ↦ subst (λ (b : Bool). n ≤ most_in (cond b Three One)) (sym (lt-ltb USUAL_TRIPS n many)) few
      | inr usual ↦ subst (λ (b : Bool). n ≤ most_in (cond b Three One)) (sym (le-ltb USUAL_TRIPS n usual)) usual
    ]

version_no_stay : (n : ℕ) → writes_stay (made_version n) 7 ≡ false
version_no_stay n =
    elim (nat_lt USUAL_TRIPS n) as (λ b. writes_stay (cond b Three One) 7 ≡ false) [ true ↦ refl | false ↦ refl ]

module _ (n : ℕ) (few : n ≤ 10000) (v : Version) (room : n ≤ most_in v) (no_stay : writes_stay v 7 ≡ false) where
  -- the records behind the header, kind by kind
  records : (ks ls : List ℕ) → List Row
  records ks ls = map stop_row ks ++ (flat_map deadheads_from ks
      ++ (map (layer_row n) ls ++ map (drawn_row n) (range_with_len 0 n)))

  all_made : (ks ls : List ℕ) → All (λ k. k < 12) ks → All (λ l. l < 4) ls → All IsMadeRow (records ks ls)
  unfolding records
  all_made ks ls stops layers =
      All-append IsMadeRow (map stop_row ks) _ (made_stops ks stops)
      (All-append IsMadeRow (flat_map deadheads_from ks) _ (made_links ks stops)
      (All-append IsMadeRow (map (layer_row n) ls) _ (made_layer_rows n ls few layers) (made_trips n few)))

  -- all that is declared
  abbrev declared : Declared
  declared = record {
    names = made_names n;
    deadheads = made_deadheads;
    layers = made_layers n;
    trips = map (drawn_trip n) (range_with_len 0 n);
  }

  stop_named : (k : ℕ) → k < 12 → Names stop_names (stop_name k) k
  unfolding stop_names
  stop_named k below = named_in_order 83 12 k below

  layer_named : (l : ℕ) → l < 4 → Names depot_names (layer_name l) l
  unfolding depot_names
  layer_named l below = named_in_order 76 4 l below

  four_names : length depot_names ≡ 4
  unfolding depot_names
  four_names = refl

  declares : (ks ls : List ℕ) → ks ≡ range_with_len 0 12 → ls ≡ range_with_len 0 4
      → AddAll v nothing_yet (records ks ls) declared
  unfolding records
  declares ks ls stops layers =
      let mid : Declared = record {
        names = record { stops = stop_names; layers = []; trips = [] };
        deadheads = made_deadheads;
        layers = [];
        trips = [];
      } in
      let fleets : Declared = record {
        names = record { stops = stop_names; layers = depot_names; trips = [] };
        deadheads = made_deadheads;
        layers = made_layers n;
        trips = [];
      } in
      added_both v no_stay nothing_yet all_stops declared (map stop_row ks) _ (stops_added v no_stay ks stops)
      (added_both v no_stay all_stops mid declared (flat_map deadheads_from ks) _
      (deadheads_added v no_stay stop_names stop_named ks stops)
      (added_both v no_stay mid fleets declared (map (layer_row n) ls) (map (drawn_row n) (range_with_len 0 n))
      (layers_added v no_stay stop_names stop_named n few room made_deadheads ls layers)
      (trips_added v no_stay stop_names stop_named n few room made_deadheads depot_names (made_layers n)
      layer_named four_names)))

  problem_is : made_problem n ≡ record {
    stops = length stop_names;
    deadheads = deadheads_of made_deadheads;
    layers = made_layers n;
    trips = map (drawn_trip n) (range_with_len 0 n);
  }
  unfolding stop_names
  problem_is = refl

  made_from : (rows : List Row) → All IsMadeRow rows → AddAll v nothing_yet rows declared
      → IsWholeText (lines (header v ∷ rows)) (made_problem n) (made_names n)
  made_from rows made all =
      let plain = All-weaker IsMadeRow IsPlainRow (λ row is. is.plain) rows made in
      let same : instance_records (header v ∷ rows) ≡ rows = none_is_result rows made in
      let before : ℕ = length (instance_records (header v ∷ rows)) + 1 in
      let whole : length (header v ∷ rows) ≤ before = omega (arith, ap length same) in
      record {
        before = before;
        stands = record {
          rows = header v ∷ rows;
          has_rows = lines_behind (line (header v)) (header v ∷ []) rows v (header_read v) refl (header_ends v) plain;
          text = record {
            version = v;
            first = refl;
            declared = declared;
            declares = subst (λ (rs : List Row). AddAll v nothing_yet rs declared) (sym same) all;
            makes = record {
              once = once;
              fleets = fleets_fit n few v room;
              problem = problem_is;
              instance = is_instance n few;
            };
            names_are = refl;
            before_is = refl;
            rest_is = sym (drop_all before (header v ∷ rows) whole);
          };
        };
        ends = all_ends v rows plain;
      }

  made_rows_are : header v ∷ records (range_with_len 0 STOPS) (range_with_len 0 DEPOTS)
      ≡ header v ∷ map stop_row (range_with_len 0 STOPS) ++ flat_map deadheads_from (range_with_len 0 STOPS)
      ++ map (layer_row n) (range_with_len 0 DEPOTS) ++ map (drawn_row n) (range_with_len 0 n)
  unfolding records
  made_rows_are = refl

  -- the text of this version
  text_of : IsWholeText (lines (header v ∷ map stop_row (range_with_len 0 STOPS)
      ++ flat_map deadheads_from (range_with_len 0 STOPS) ++ map (layer_row n) (range_with_len 0 DEPOTS)
      ++ map (drawn_row n) (range_with_len 0 n))) (made_problem n) (made_names n)
  text_of =
      let ks : List ℕ = range_with_len 0 STOPS in
      let ls : List ℕ = range_with_len 0 DEPOTS in
      subst (λ (rows : List Row). IsWholeText (lines rows) (made_problem n) (made_names n)) made_rows_are
      (made_from (records ks ls) (all_made ks ls (all_below 12) (all_below 4)) (declares ks ls refl refl))

-- the text that is made
pub made_text : (n : ℕ) → n ≤ 10000 → IsWholeText (lines (make_rows n)) (made_problem n) (made_names n)
made_text n few = text_of n few (made_version n) (version_has_room n few) (version_no_stay n)
