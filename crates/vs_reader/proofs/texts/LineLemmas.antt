-- Lines behind a text whose last record is ended.
use Rattle.std.proofs.Common.{◌≡◌, ℕ, ◌+◌, ◌≤◌, ◌⊎◌, inl, inr, Bool, true, false, cond, eqb, List, [], ◌∷◌, ◌++◌, length, take, drop, Option, Some, None, append_assoc, append-nil, refl, sym, ap, ◌∙◌, subst, arith}
use Rattle.std.specs.Prelude.{All}
use Rattle.std.specs.List.{join_with_byte}
use Rattle.std.proofs.lemmas.Bool.{ne_eqb, false≢true}
use Rattle.std.proofs.lemmas.List.{take_at, drop_at}
use Rattle.std.proofs.lemmas.List.Elements.{All-head, All-tail}
use Rattle.csv.specs.Machine.{Read, next_record, step, is_end, ends_at_end, fields_after, field_after, ends_with, after_end, in_field, start_field, start_record}
use Rattle.csv.specs.declared.parser.Action.{Action}
use Rattle.csv.specs.declared.parser.Action.TheVariants as act
use Rattle.csv.specs.declared.parser.Terminator.TheVariants as term
use Rattle.csv.specs.Reading.{AreRecords, Reached, default_config, strip_bom, is_bom}
use Rattle.csv.specs.declared.parser.State.{State}
use Rattle.csv.specs.declared.parser.State.TheVariants as st
use Rattle.vs_reader.specs.Rows.{Field, Row, IsPlain, IsPlainRow, line, lines}
use Rattle.vs_instance.specs.Problem.{Problem}
use Rattle.vs_reader.specs.Names.{NameLists}
use Rattle.vs_reader.specs.Versions.{HasHeader, header}
use Rattle.vs_reader.specs.Kinds.{is_result, before_result}
use Rattle.vs_reader.specs.InstanceText.{AddAll, nothing_yet, instance_records}
use Rattle.vs_reader.specs.RowEnds.{row_weight, weight_of}
use Rattle.vs_reader.specs.declared.version.Version.{Version}
use Rattle.vs_reader.specs.declared.version.Version.TheVariants.{One, Two, Three}
use Rattle.vs_reader.specs.Texts.{HasRows, StandsFor, EndsInLine, state_after, is_between}
use Rattle.vs_reader.proofs.texts.TextLemmas.{weight_of-rows}

some_none : {X : Type 0} {x : X} → Some x ≡ None → ⊥
some_none e = cc

-- in these states a record is begun that the end of the text ends
abbrev is_inside : State → Bool
is_inside st.StartField = true
is_inside st.InField = true
is_inside st.InQuoted = true
is_inside st.AfterQuote = true
is_inside _ = false

between_no_end : (s : State) → is_between s ≡ true → ends_at_end s ≡ false
between_no_end st.StartRecord is = refl
between_no_end st.AfterCr is = refl
between_no_end st.StartField is = absurd (false≢true is)
between_no_end st.InField is = absurd (false≢true is)
between_no_end st.InQuoted is = absurd (false≢true is)
between_no_end st.AfterQuote is = absurd (false≢true is)
between_no_end st.InEscape is = absurd (false≢true is)
between_no_end st.InComment is = absurd (false≢true is)

inside_ends : (s : State) → is_inside s ≡ true → ends_at_end s ≡ true
inside_ends st.StartRecord is = absurd (false≢true is)
inside_ends st.AfterCr is = absurd (false≢true is)
inside_ends st.StartField is = refl
inside_ends st.InField is = refl
inside_ends st.InQuoted is = refl
inside_ends st.AfterQuote is = refl
inside_ends st.InEscape is = absurd (false≢true is)
inside_ends st.InComment is = absurd (false≢true is)

-- a record that a byte ends is the same, whatever stands behind the text
next-append : (s : State) (fields : Row) (field : Field) (xs ys : List ℕ) (p : Read)
    → next_record default_config s fields field xs ≡ Some p
    → is_between (state_after s xs) ≡ true
    → (next_record default_config s fields field (xs ++ ys) ≡ Some (p.0, p.1, p.2 ++ ys))
    × (state_after p.1 p.2 ≡ state_after s xs)
unfolding next_record
next-append s fields field [] ys p is between =
    let none : cond (ends_at_end s) (Some (fields ++ (field ∷ []), st.StartRecord, [])) None ≡ None =
    ap (λ (b : Bool). cond b (Some (fields ++ (field ∷ []), st.StartRecord, [])) None) (between_no_end s between) in
    absurd (some_none (sym is ∙ none))
next-append s fields field (c ∷ rest) ys p is between =
    by (is_end (step default_config s c).1) refl is
    (next-append (step default_config s c).0 (fields_after (step default_config s c).1 fields field)
    (field_after (step default_config s c).1 c field) rest ys p)
  where
    after : List ℕ → Option Read
    after more =
        next_record default_config (step default_config s c).0
        (fields_after (step default_config s c).1 fields field) (field_after (step default_config s c).1 c field) more

    ended : List ℕ → Read
    ended more = (fields_after (step default_config s c).1 fields field, (step default_config s c).0, more)

    by : (b : Bool) → is_end (step default_config s c).1 ≡ b → cond b (Some (ended rest)) (after rest) ≡ Some p
        → (after rest ≡ Some p → is_between (state_after (step default_config s c).0 rest) ≡ true
        → (after (rest ++ ys) ≡ Some (p.0, p.1, p.2 ++ ys))
        × (state_after p.1 p.2 ≡ state_after (step default_config s c).0 rest))
        → (cond (is_end (step default_config s c).1) (Some (ended (rest ++ ys))) (after (rest ++ ys))
        ≡ Some (p.0, p.1, p.2 ++ ys))
        × (state_after p.1 p.2 ≡ state_after (step default_config s c).0 rest)
    by true ends at more =
        let same : ended rest ≡ p = cc in (
          ap (λ (b : Bool). cond b (Some (ended (rest ++ ys))) (after (rest ++ ys))) ends
              ∙ ap (λ (q : Read). Some (q.0, q.1, q.2 ++ ys)) same,
          sym (ap (λ (q : Read). state_after q.1 q.2) same),
        )
    by false goes at more =
        let later = more at between in
        (ap (λ (b : Bool). cond b (Some (ended (rest ++ ys))) (after (rest ++ ys))) goes ∙ later.0, later.1)

-- a byte inside a record ends it, or leaves the next one inside
in_field_goes : (c : ℕ) → (is_end (in_field default_config c).1 ≡ true)
    ⊎ (is_inside (in_field default_config c).0 ≡ true)
in_field_goes c =
    let then : Bool → State × Action = λ t. cond t (after_end term.CRLF c, act.EndRecord) (st.InField, act.Copy) in
    let goes : (t : Bool) → (is_end (then t).1 ≡ true) ⊎ (is_inside (then t).0 ≡ true) =
    λ t. elim t as (λ u. (is_end (then u).1 ≡ true) ⊎ (is_inside (then u).0 ≡ true)) [
      | true ↦ inl refl
      | false ↦ inr refl
    ] in
    let last = ends_with term.CRLF c in
    elim (eqb c 44) as
    (λ b. (is_end (cond {A = State × Action} b (st.StartField, act.EndField) (then last)).1 ≡ true)
    ⊎ (is_inside (cond {A = State × Action} b (st.StartField, act.EndField) (then last)).0 ≡ true)) [
      | true ↦ inr refl
      | false ↦ goes last
    ]

inside_goes : (s : State) (c : ℕ) → is_inside s ≡ true → (is_end (step default_config s c).1 ≡ true)
    ⊎ (is_inside (step default_config s c).0 ≡ true)
inside_goes st.StartField c is =
    elim (eqb c 34) as
    (λ b. (is_end (cond {A = State × Action} b (st.InQuoted, act.Skip) (in_field default_config c)).1 ≡ true)
    ⊎ (is_inside (cond {A = State × Action} b (st.InQuoted, act.Skip) (in_field default_config c)).0 ≡ true)) [
      | true ↦ inr refl
      | false ↦ in_field_goes c
    ]
inside_goes st.InField c is = in_field_goes c
inside_goes st.InQuoted c is =
    elim (eqb c 34) as
    (λ b. (is_end (cond {A = State × Action} b (st.AfterQuote, act.Skip) (st.InQuoted, act.Copy)).1 ≡ true)
    ⊎ (is_inside (cond {A = State × Action} b (st.AfterQuote, act.Skip) (st.InQuoted, act.Copy)).0 ≡ true)) [
      | true ↦ inr refl
      | false ↦ inr refl
    ]
inside_goes st.AfterQuote c is =
    elim (eqb c 34) as
    (λ b. (is_end (cond {A = State × Action} b (st.InQuoted, act.Copy) (in_field default_config c)).1 ≡ true)
    ⊎ (is_inside (cond {A = State × Action} b (st.InQuoted, act.Copy) (in_field default_config c)).0 ≡ true)) [
      | true ↦ inr refl
      | false ↦ in_field_goes c
    ]
inside_goes st.StartRecord c is = absurd (false≢true is)
inside_goes st.AfterCr c is = absurd (false≢true is)
inside_goes st.InEscape c is = absurd (false≢true is)
inside_goes st.InComment c is = absurd (false≢true is)

-- so from inside a record there is one
inside_some : (s : State) (fields : Row) (field : Field) (xs : List ℕ) → is_inside s ≡ true
    → ¬ (next_record default_config s fields field xs ≡ None)
unfolding next_record
inside_some s fields field [] is none =
    let some : cond (ends_at_end s) (Some (fields ++ (field ∷ []), st.StartRecord, [])) None
    ≡ Some (fields ++ (field ∷ []), st.StartRecord, []) =
    ap (λ (b : Bool). cond b (Some (fields ++ (field ∷ []), st.StartRecord, [])) None) (inside_ends s is) in
    some_none (sym some ∙ none)
inside_some s fields field (c ∷ rest) is none =
    by (is_end (step default_config s c).1) refl none
    (inside_some (step default_config s c).0 (fields_after (step default_config s c).1 fields field)
    (field_after (step default_config s c).1 c field) rest)
  where
    after : Option Read
    after = next_record default_config (step default_config s c).0
        (fields_after (step default_config s c).1 fields field) (field_after (step default_config s c).1 c field) rest

    ended : Read
    ended = (fields_after (step default_config s c).1 fields field, (step default_config s c).0, rest)

    by : (b : Bool) → is_end (step default_config s c).1 ≡ b → cond b (Some ended) after ≡ None
        → (is_inside (step default_config s c).0 ≡ true → ¬ (after ≡ None)) → ⊥
    by true ends at later = some_none at
    by false goes at later = elim (inside_goes s c is) [
      | inl ends ↦ false≢true (sym goes ∙ ends)
      | inr inside ↦ later inside at
    ]

-- a byte between records ends an empty line, or begins a record
start_goes : (c : ℕ) → (start_record default_config c ≡ (st.StartRecord, act.Skip))
    ⊎ (is_inside (start_record default_config c).0 ≡ true)
start_goes c =
    elim (ends_with term.CRLF c) as
    (λ t. (cond {A = State × Action} t (st.StartRecord, act.Skip) (cond (eqb c 34) (st.InQuoted, act.Skip)
    (cond (eqb c 44) (st.StartField, act.EndField)
    (cond t (after_end term.CRLF c, act.EndRecord) (st.InField, act.Copy)))) ≡ (st.StartRecord, act.Skip))
    ⊎ (is_inside (cond {A = State × Action} t (st.StartRecord, act.Skip) (cond (eqb c 34) (st.InQuoted, act.Skip)
    (cond (eqb c 44) (st.StartField, act.EndField)
    (cond t (after_end term.CRLF c, act.EndRecord) (st.InField, act.Copy))))).0 ≡ true)) [
      | true ↦ inl refl
      | false ↦
          inr (elim (eqb c 34) as
          (λ q. is_inside
          (cond {A =
          State × Action} q (st.InQuoted, act.Skip)
          (cond (eqb c 44) (st.StartField, act.EndField) (st.InField, act.Copy))).0 ≡ true) [
            | true ↦ refl
            | false ↦
                elim (eqb c 44) as
                (λ d. is_inside
                (cond {A = State × Action} d (st.StartField, act.EndField) (st.InField, act.Copy)).0 ≡ true) [
                  | true ↦ refl
                  | false ↦ refl
                ]
          ])
    ]

between_goes : (s : State) (c : ℕ) → is_between s ≡ true → (step default_config s c ≡ (st.StartRecord, act.Skip))
    ⊎ (is_inside (step default_config s c).0 ≡ true)
between_goes st.StartRecord c is = start_goes c
between_goes st.AfterCr c is =
    elim (eqb c 10) as
    (λ b. (cond {A =
    State × Action} b (st.StartRecord, act.Skip) (start_record default_config c) ≡ (st.StartRecord, act.Skip))
    ⊎ (is_inside (cond {A = State × Action} b (st.StartRecord, act.Skip) (start_record default_config c)).0 ≡ true)) [
      | true ↦ inl refl
      | false ↦ start_goes c
    ]
between_goes st.StartField c is = absurd (false≢true is)
between_goes st.InField c is = absurd (false≢true is)
between_goes st.InQuoted c is = absurd (false≢true is)
between_goes st.AfterQuote c is = absurd (false≢true is)
between_goes st.InEscape c is = absurd (false≢true is)
between_goes st.InComment c is = absurd (false≢true is)

-- what is read after one byte, by what the byte does
abbrev after_step : Row → Field → ℕ → List ℕ → State × Action → Option Read
after_step fields field c rest q =
    cond (is_end q.1) (Some (fields_after q.1 fields field, q.0, rest))
    (next_record default_config q.0 (fields_after q.1 fields field) (field_after q.1 c field) rest)

-- bytes that have no record are empty lines, and what stands behind them is read as if they weren't there
none-append : (s : State) (xs ys : List ℕ) → is_between s ≡ true → next_record default_config s [] [] xs ≡ None
    → next_record default_config s [] [] (xs ++ ys) ≡ next_record default_config (state_after s xs) [] [] ys
unfolding next_record
none-append s [] ys between none = refl
none-append s (c ∷ rest) ys between none =
    elim (between_goes s c between) [
      | inl skips ↦
          ap (after_step [] [] c (rest ++ ys)) skips
          ∙ none-append st.StartRecord rest ys refl (sym (ap (after_step [] [] c rest) skips) ∙ none)
          ∙ ap (λ (q : State × Action). next_record default_config (state_after q.0 rest) [] [] ys) (sym skips)
      | inr inside ↦
          absurd (elim (is_end (step default_config s c).1) as
          (λ b. cond b (Some (fields_after (step default_config s c).1 [] [], (step default_config s c).0, rest))
          (next_record default_config (step default_config s c).0 (fields_after (step default_config s c).1 [] [])
          (field_after (step default_config s c).1 c []) rest) ≡ None → ⊥) [
            | true ↦ λ at. some_none at
            | false ↦
                λ at. inside_some (step default_config s c).0 (fields_after (step default_config s c).1 [] [])
                (field_after (step default_config s c).1 c []) rest inside at
          ] none)
    ]

-- a plain byte only joins its field, wherever the field or the record begins
plain_joins : (b : ℕ) → IsPlain b → in_field default_config b ≡ (st.InField, act.Copy)
plain_joins b plain =
    rw (ne_eqb b 44 plain.no_comma, ne_eqb b 13 plain.no_carriage_return, ne_eqb b 10 plain.no_line_feed) refl

plain_starts : (b : ℕ) → IsPlain b → start_field default_config b ≡ (st.InField, act.Copy)
plain_starts b plain =
    ap (λ (t : Bool). cond {A = State × Action} t (st.InQuoted, act.Skip) (in_field default_config b))
    (ne_eqb b 34 plain.no_quote) ∙ plain_joins b plain

plain_bytes : (fields : Row) (field f : Field) (rest : List ℕ) → All IsPlain f
    → next_record default_config st.InField fields field (f ++ rest)
    ≡ next_record default_config st.InField fields (field ++ f) rest
unfolding next_record
plain_bytes fields field [] rest plain =
    ap (λ (g : Field). next_record default_config st.InField fields g rest) (sym (append-nil field))
plain_bytes fields field (b ∷ f) rest plain =
    ap (after_step fields field b (f ++ rest)) (plain_joins b (All-head IsPlain b f plain))
    ∙ plain_bytes fields (field ++ b ∷ []) f rest (All-tail IsPlain b f plain)
    ∙ ap (λ (g : Field). next_record default_config st.InField fields g rest) (append_assoc field (b ∷ []) f)

plain_field : (fields : Row) (f : Field) (rest : List ℕ) → All IsPlain f
    → next_record default_config st.StartField fields [] (f ++ 44 ∷ rest)
    ≡ next_record default_config st.StartField (fields ++ f ∷ []) [] rest
unfolding next_record
plain_field fields [] rest plain = refl
plain_field fields (b ∷ f) rest plain =
    ap (after_step fields [] b (f ++ 44 ∷ rest)) (plain_starts b (All-head IsPlain b f plain))
    ∙ plain_bytes fields (b ∷ []) f (44 ∷ rest) (All-tail IsPlain b f plain)

plain_last : (fields : Row) (f : Field) (rest : List ℕ) → All IsPlain f
    → next_record default_config st.StartField fields [] (f ++ 10 ∷ rest)
    ≡ Some (fields ++ f ∷ [], st.StartRecord, rest)
unfolding next_record
plain_last fields [] rest plain = refl
plain_last fields (b ∷ f) rest plain =
    ap (after_step fields [] b (f ++ 10 ∷ rest)) (plain_starts b (All-head IsPlain b f plain))
    ∙ plain_bytes fields (b ∷ []) f (10 ∷ rest) (All-tail IsPlain b f plain)

plain_row : (fields row : Row) (rest : List ℕ) → ¬ (row ≡ []) → All (λ f. All IsPlain f) row
    → next_record default_config st.StartField fields [] (join_with_byte 44 row ++ 10 ∷ rest)
    ≡ Some (fields ++ row, st.StartRecord, rest)
plain_row fields [] rest some plain = absurd (some refl)
plain_row fields (f ∷ []) rest some plain = plain_last fields f rest (All-head (λ f. All IsPlain f) f [] plain)
plain_row fields (f ∷ g ∷ row) rest some plain =
    ap (next_record default_config st.StartField fields [])
    (append_assoc f (44 ∷ join_with_byte 44 (g ∷ row)) (10 ∷ rest))
    ∙ plain_field fields f (join_with_byte 44 (g ∷ row) ++ 10 ∷ rest) (All-head (λ f. All IsPlain f) f (g ∷ row) plain)
    ∙ plain_row (fields ++ f ∷ []) (g ∷ row) rest (λ none. cc) (All-tail (λ f. All IsPlain f) f (g ∷ row) plain)
    ∙ ap (λ (r : Row). Some (r, st.StartRecord, rest)) (append_assoc fields (f ∷ []) (g ∷ row))

-- a record begins as its first field does
begins_alike : (s : State) (b : ℕ) (rest : List ℕ) → is_between s ≡ true → ¬ (b ≡ 10) → ¬ (b ≡ 13)
    → next_record default_config s [] [] (b ∷ rest) ≡ next_record default_config st.StartField [] [] (b ∷ rest)
unfolding next_record
begins_alike s b rest between no_feed no_return = ap (after_step [] [] b rest) (alike s between)
  where
    start : start_record default_config b ≡ start_field default_config b
    start = rw (ne_eqb b 13 no_return, ne_eqb b 10 no_feed) refl

    alike : (s : State) → is_between s ≡ true → step default_config s b ≡ step default_config st.StartField b
    alike st.StartRecord is = start
    alike st.AfterCr is =
        ap (λ (t : Bool). cond {A = State × Action} t (st.StartRecord, act.Skip) (start_record default_config b))
        (ne_eqb b 10 no_feed) ∙ start
    alike st.StartField is = refl
    alike st.InField is = absurd (false≢true is)
    alike st.InQuoted is = absurd (false≢true is)
    alike st.AfterQuote is = absurd (false≢true is)
    alike st.InEscape is = absurd (false≢true is)
    alike st.InComment is = absurd (false≢true is)

-- a line is read as its row
line_read : (s : State) (row : Row) (rest : List ℕ) → is_between s ≡ true → IsPlainRow row
    → next_record default_config s [] [] (line row ++ rest) ≡ Some (row, st.StartRecord, rest)
line_read s [] rest between plain = absurd (plain.some_field refl)
line_read s ([] ∷ []) rest between plain = absurd (plain.some_byte refl)
line_read s ([] ∷ g ∷ row) rest between plain =
    begins_alike s 44 ((join_with_byte 44 (g ∷ row) ++ 10 ∷ []) ++ rest) between (λ is. omega arith) (λ is. omega arith)
    ∙ ap (λ (bs : List ℕ). next_record default_config st.StartField [] [] (44 ∷ bs))
    (append_assoc (join_with_byte 44 (g ∷ row)) (10 ∷ []) rest)
    ∙ plain_row [] ([] ∷ g ∷ row) rest plain.some_field plain.plain
line_read s ((b ∷ f) ∷ row) rest between plain =
    let first : IsPlain b = All-head IsPlain b f (All-head (λ f. All IsPlain f) (b ∷ f) row plain.plain) in
    ap (next_record default_config s [] []) (append_assoc (join_with_byte 44 ((b ∷ f) ∷ row)) (10 ∷ []) rest)
    ∙ begin first row
    ∙ plain_row [] ((b ∷ f) ∷ row) rest plain.some_field plain.plain
  where
    begin : IsPlain b → (row : Row)
        → next_record default_config s [] [] (join_with_byte 44 ((b ∷ f) ∷ row) ++ 10 ∷ rest)
        ≡ next_record default_config st.StartField [] [] (join_with_byte 44 ((b ∷ f) ∷ row) ++ 10 ∷ rest)
    begin first [] = begins_alike s b (f ++ 10 ∷ rest) between first.no_line_feed first.no_carriage_return
    begin first (g ∷ row) =
        begins_alike s b
        ((f ++ 44 ∷ join_with_byte 44 (g ∷ row)) ++ 10 ∷ rest) between first.no_line_feed first.no_carriage_return

-- lines are read as their rows
lines_read : (s : State) (rows : List Row) → is_between s ≡ true → All IsPlainRow rows
    → AreRecords default_config s (lines rows) rows
unfolding next_record Reached
lines_read s [] between plain = (
  s,
  [],
  (refl, refl),
  ap (λ (b : Bool). cond b (Some ([] ∷ [], st.StartRecord, [])) None) (between_no_end s between),
)
lines_read s (row ∷ rows) between plain =
    let more = lines_read st.StartRecord rows refl (All-tail IsPlainRow row rows plain) in (
      more.0,
      more.1,
      (
        (row, st.StartRecord, lines rows),
        line_read s row (lines rows) between (All-head IsPlainRow row rows plain),
        refl,
        more.2,
      ),
      more.3,
    )

-- after a record the text is between records
in_field_end : (c : ℕ) → is_end (in_field default_config c).1 ≡ true → is_between (in_field default_config c).0 ≡ true
in_field_end c =
    let then : Bool → State × Action = λ t. cond t (after_end term.CRLF c, act.EndRecord) (st.InField, act.Copy) in
    let last = ends_with term.CRLF c in
    elim (eqb c 44) as (λ b. is_end (cond {A = State × Action} b (st.StartField, act.EndField) (then last)).1 ≡ true
    → is_between (cond {A = State × Action} b (st.StartField, act.EndField) (then last)).0 ≡ true) [
      | true ↦ λ ends. absurd (false≢true ends)
      | false ↦ elim last as (λ t. is_end (then t).1 ≡ true → is_between (then t).0 ≡ true) [
        | true ↦ λ ends. elim (eqb c 13) as (λ r. is_between (cond r st.AfterCr st.StartRecord) ≡ true) [
          | true ↦
              refl
          | false ↦ refl
        ]
        | false ↦ λ ends. absurd (false≢true ends)
      ]
    ]

start_end : (c : ℕ) → is_end (start_record default_config c).1 ≡ true
    → is_between (start_record default_config c).0 ≡ true
start_end c =
    elim (ends_with term.CRLF c) as
    (λ t. is_end (cond {A = State × Action} t (st.StartRecord, act.Skip) (start_field default_config c)).1 ≡ true
    → is_between (cond {A = State × Action} t (st.StartRecord, act.Skip) (start_field default_config c)).0 ≡ true) [
      | true ↦ λ ends. absurd (false≢true ends)
      | false ↦
          elim (eqb c 34) as
          (λ b. is_end (cond {A = State × Action} b (st.InQuoted, act.Skip) (in_field default_config c)).1 ≡ true
          → is_between (cond {A = State × Action} b (st.InQuoted, act.Skip) (in_field default_config c)).0 ≡ true) [
            | true ↦ λ ends. absurd (false≢true ends)
            | false ↦ in_field_end c
          ]
    ]

end_between : (s : State) (c : ℕ) → is_end (step default_config s c).1 ≡ true
    → is_between (step default_config s c).0 ≡ true
end_between st.StartField c =
    elim (eqb c 34) as
    (λ b. is_end (cond {A = State × Action} b (st.InQuoted, act.Skip) (in_field default_config c)).1 ≡ true
    → is_between (cond {A = State × Action} b (st.InQuoted, act.Skip) (in_field default_config c)).0 ≡ true) [
      | true ↦ λ ends. absurd (false≢true ends)
      | false ↦ in_field_end c
    ]
end_between st.InField c = in_field_end c
end_between st.InQuoted c =
    elim (eqb c 34) as
    (λ b. is_end (cond {A = State × Action} b (st.AfterQuote, act.Skip) (st.InQuoted, act.Copy)).1 ≡ true
    → is_between (cond {A = State × Action} b (st.AfterQuote, act.Skip) (st.InQuoted, act.Copy)).0 ≡ true) [
      | true ↦ λ ends. absurd (false≢true ends)
      | false ↦ λ ends. absurd (false≢true ends)
    ]
end_between st.AfterQuote c =
    elim (eqb c 34) as
    (λ b. is_end (cond {A = State × Action} b (st.InQuoted, act.Copy) (in_field default_config c)).1 ≡ true
    → is_between (cond {A = State × Action} b (st.InQuoted, act.Copy) (in_field default_config c)).0 ≡ true) [
      | true ↦ λ ends. absurd (false≢true ends)
      | false ↦ in_field_end c
    ]
end_between st.StartRecord c = start_end c
end_between st.AfterCr c =
    elim (eqb c 10) as
    (λ b. is_end (cond {A = State × Action} b (st.StartRecord, act.Skip) (start_record default_config c)).1 ≡ true
    → is_between (cond {A = State × Action} b (st.StartRecord, act.Skip) (start_record default_config c)).0 ≡ true) [
      | true ↦ λ ends. absurd (false≢true ends)
      | false ↦ start_end c
    ]
end_between st.InEscape c = λ ends. absurd (false≢true ends)
end_between st.InComment c =
    elim (eqb c 10) as
    (λ b. is_end (cond {A = State × Action} b (st.StartRecord, act.Skip) (st.InComment, act.Skip)).1 ≡ true
    → is_between (cond {A = State × Action} b (st.StartRecord, act.Skip) (st.InComment, act.Skip)).0 ≡ true) [
      | true ↦ λ ends. absurd (false≢true ends)
      | false ↦ λ ends. absurd (false≢true ends)
    ]

next_between : (s : State) (fields : Row) (field : Field) (xs : List ℕ) (p : Read)
    → next_record default_config s fields field xs ≡ Some p → is_between p.1 ≡ true
unfolding next_record
next_between s fields field [] p is =
    elim (ends_at_end s) as (λ b. cond b (Some (fields ++ (field ∷ []), st.StartRecord, [])) None ≡ Some p
    → is_between p.1 ≡ true) [
      | true ↦ λ at. let same : (fields ++ (field ∷ []), st.StartRecord, []) ≡ p =
          cc in sym (ap (λ (q : Read). is_between q.1) same)
      | false ↦ λ at. absurd (some_none (sym at))
    ] is
next_between s fields field (c ∷ rest) p is =
    by (is_end (step default_config s c).1) refl is
    (next_between (step default_config s c).0 (fields_after (step default_config s c).1 fields field)
    (field_after (step default_config s c).1 c field) rest p)
  where
    after : Option Read
    after = next_record default_config (step default_config s c).0
        (fields_after (step default_config s c).1 fields field) (field_after (step default_config s c).1 c field) rest

    ended : Read
    ended = (fields_after (step default_config s c).1 fields field, (step default_config s c).0, rest)

    by : (b : Bool) → is_end (step default_config s c).1 ≡ b → cond b (Some ended) after ≡ Some p
        → (after ≡ Some p → is_between p.1 ≡ true) → is_between p.1 ≡ true
    by true ends at more = let same : ended ≡ p =
        cc in sym (ap (λ (q : Read). is_between q.1) same) ∙ end_between s c ends
    by false goes at more = more at

-- the records of a text whose last one is ended, and then those of what stands behind it
records-append : (s s2 : State) (xs ys more : List ℕ) (rows others : List Row) → is_between s ≡ true
    → Reached default_config s xs rows s2 ys → next_record default_config s2 [] [] ys ≡ None
    → is_between (state_after s xs) ≡ true → AreRecords default_config (state_after s xs) more others
    → AreRecords default_config s (xs ++ more) (rows ++ others)
unfolding Reached
records-append s s2 xs ys more [] [] start r none ends are =
    let here : next_record default_config s [] [] xs ≡ None =
    (λ i. next_record default_config (r.0 i) [] [] (r.1 i)) ∙ none in (
      s,
      xs ++ more,
      (refl, refl),
      none-append s xs more start here ∙ (λ i. next_record default_config (are.2.0 i) [] [] (are.2.1 i)) ∙ are.3,
    )
records-append s s2 xs ys more [] (o ∷ others) start r none ends are =
    let here : next_record default_config s [] [] xs ≡ None =
    (λ i. next_record default_config (r.0 i) [] [] (r.1 i)) ∙ none in
    (are.0, are.1, (are.2.0, none-append s xs more start here ∙ are.2.1, are.2.2, are.2.3), are.3)
records-append s s2 xs ys more (row ∷ rows) others start (p, is, row_is, later) none ends are =
    let longer = next-append s [] [] xs more p is ends in
    let rest =
    records-append p.1 s2 p.2 ys more rows others (next_between s [] [] xs p is) later none
    (ap is_between longer.1 ∙ ends)
    (subst (λ (t : State). AreRecords default_config t more others) (sym longer.1) are) in
    (rest.0, rest.1, ((p.0, p.1, p.2 ++ more), longer.0, row_is, rest.2), rest.3)

strip_bom-append : (xs ys : List ℕ) → 3 ≤ length xs → strip_bom (xs ++ ys) ≡ strip_bom xs ++ ys
unfolding strip_bom
strip_bom-append [] ys many = absurd (omega arith)
strip_bom-append (a ∷ []) ys many = absurd (omega arith)
strip_bom-append (a ∷ b ∷ []) ys many = absurd (omega arith)
strip_bom-append (a ∷ b ∷ c ∷ xs) ys many =
    elim (is_bom a b c) as
    (λ t. cond t (xs ++ ys) (a ∷ b ∷ c ∷ (xs ++ ys)) ≡ cond t xs (a ∷ b ∷ c ∷ xs) ++ ys) [
      | true ↦ refl
      | false ↦
          refl
    ]

-- a text with a header isn't short
long_header : (version : Version) (rows : List Row) → HasHeader version rows → 11 ≤ weight_of rows
long_header version [] begins = absurd (omega (arith, ap (λ (r : Row). length r) begins))
long_header One (row ∷ rows) begins = omega (arith, ap row_weight begins)
long_header Two (row ∷ rows) begins = omega (arith, ap row_weight begins)
long_header Three (row ∷ rows) begins = omega (arith, ap row_weight begins)

-- lines of plain rows behind an instance text are read as these rows
pub lines_behind : (bytes : List ℕ) (rows others : List Row) (version : Version) → HasRows bytes rows
    → HasHeader version rows → EndsInLine bytes → All IsPlainRow others
    → HasRows (bytes ++ lines others) (rows ++ others)
lines_behind bytes rows others version has begins ends plain =
    let long : 3 ≤ length bytes = omega (arith, long_header version rows begins, weight_of-rows bytes rows has) in
    subst (λ (bs : List ℕ). AreRecords default_config st.StartRecord bs (rows ++ others))
    (sym (strip_bom-append bytes (lines others) long))
    (records-append st.StartRecord has.0 (strip_bom bytes) has.1 (lines others) rows others refl has.2 has.3 ends
    (lines_read (state_after st.StartRecord (strip_bom bytes)) others ends plain))

-- rows are those before the first `result` row, and then the others
result_split : (rows : List Row) → (left : List Row) × (rows ≡ before_result rows ++ left)
result_split [] = ([], refl)
result_split (row ∷ rows) =
    let more = result_split rows in
    elim (is_result row) as (λ b. (left : List Row) × (row ∷ rows ≡ cond b [] (row ∷ before_result rows) ++ left)) [
      | true ↦ (row ∷ rows, refl)
      | false ↦ (more.0, ap (λ (rs : List Row). row ∷ rs) more.1)
    ]

-- rows behind those before the first `result` row
result_behind : (rows more : List Row)
    → before_result (before_result rows ++ more) ≡ before_result rows ++ before_result more
result_behind [] more = refl
result_behind (row ∷ rows) more =
    let later = result_behind rows more in
    elim (is_result row) as (λ b. is_result row ≡ b
    → before_result (cond b [] (row ∷ before_result rows) ++ more) ≡ cond b [] (row ∷ before_result rows)
    ++ before_result more) [
      | true ↦ λ is. refl
      | false ↦ λ is.
          ap (λ (b : Bool). cond b [] (row ∷ before_result (before_result rows ++ more))) is
          ∙ ap (λ (rs : List Row). row ∷ rs) later
    ] refl

some_header : (version : Version) (rows : List Row) → HasHeader version rows → rows ≡ header version ∷ drop 1 rows
some_header version [] begins = absurd (omega (arith, ap (λ (r : Row). length r) begins))
some_header version (row ∷ rows) begins = ap (λ (r : Row). r ∷ rows) begins

-- the records of an instance text, and behind them rows that are none of the instance's
pub stands_behind : (bytes read : List ℕ) (p : Problem) (names : NameLists) (before : ℕ) (rest written : List Row)
    (stands : StandsFor bytes p names before rest)
    → HasRows read (take before stands.rows) → EndsInLine read → All IsPlainRow written → before_result written ≡ []
    → StandsFor (read ++ lines written) p names before written
stands_behind bytes read p names before rest written stands has ends plain begins =
    let version = stands.text.version in
    let records = instance_records stands.rows in
    let split = result_split (drop 1 stands.rows) in
    let all : stands.rows ≡ (header version ∷ records) ++ split.0 =
    some_header version stands.rows stands.text.first ∙ ap (λ (rs : List Row). header version ∷ rs) split.1 in
    let count : length (header version ∷ records) ≡ before = omega (arith, stands.text.before_is) in
    let first : take before stands.rows ≡ header version ∷ records =
    ap (take before) all ∙ take_at (header version ∷ records) split.0 before count in
    let same : before_result (records ++ written) ≡ records =
    result_behind (drop 1 stands.rows) written ∙ ap (λ (rs : List Row). records ++ rs) begins ∙ append-nil records in
    record {
      rows = (header version ∷ records) ++ written;
      has_rows =
          lines_behind read (header version ∷ records) written version (subst (HasRows read) first has) refl ends plain;
      text = record {
        version = version;
        first = refl;
        declared = stands.text.declared;
        declares =
            subst (λ (rs : List Row). AddAll version nothing_yet rs stands.text.declared) (sym same)
            stands.text.declares;
        makes = stands.text.makes;
        names_are = stands.text.names_are;
        before_is = stands.text.before_is ∙ ap (λ (rs : List Row). length rs + 1) (sym same);
        rest_is = sym (drop_at (header version ∷ records) written before count);
      };
    }
