-- Rows that are written one after another, and fields that are.
use Rattle.std.proofs.Common.{◌≡◌, ℕ, ◌+◌, ◌*◌, ◌<◌, ◌≤◌, Bool, true, false, cond, List, [], ◌∷◌, ◌++◌, length, get_or, take, drop, ◌-◌, refl, sym, ap, ◌∙◌, arith}
use Rattle.std.specs.Prelude.{flat_map, filter, map, slice_range}
use Rattle.std.specs.List.{join_with_byte, range_with_len}
use Rattle.std.proofs.lemmas.List.{append_assoc, append-nil, take_more, take_all, get_or-take, get_or-drop, get_or_default}
use Rattle.std.proofs.lemmas.Nat.{mul-add-lt}
use Rattle.std.proofs.lemmas.List.Concat.{flat_map-append}
use Rattle.std.proofs.lemmas.List.FromFn.{get_or-range_with_len, length-range_with_len}
use Rattle.vs_reader.specs.Rows.{Field, Row, line, lines, more_fields}
use Rattle.vs_rows.proofs.written.LinesAppend.{lines-append}

-- the fields of a row behind its first one
pub join-cons : (field : Field) (fields : List Field) → join_with_byte 44 (field ∷ fields) ≡ field ++ more_fields fields
join-cons field [] = sym (append-nil field)
join-cons field (next ∷ fields) = ap (λ bytes. field ++ (44 ∷ bytes)) (join-cons next fields)

-- a row as its first field, the others and its end
pub line-cons : (field : Field) (fields : List Field) → line (field ∷ fields) ≡ field ++ (more_fields fields ++ 10 ∷ [])
line-cons field fields =
    ap (λ bytes. bytes ++ 10 ∷ []) (join-cons field fields) ∙ append_assoc field (more_fields fields) (10 ∷ [])

pub more_fields-append : (xs ys : List Field) → more_fields (xs ++ ys) ≡ more_fields xs ++ more_fields ys
more_fields-append xs ys = flat_map-append (λ (field : Field). 44 ∷ field) xs ys

-- one more field is added to those that were
pub one_more_field : (begun before after : List ℕ) (fields : List Field) (field : Field)
    → before ≡ begun ++ more_fields fields
    → after ≡ before ++ (44 ∷ field) → after ≡ begun ++ more_fields (fields ++ field ∷ [])
one_more_field begun before after fields field so_far then =
    then ∙ ap (λ bytes. bytes ++ (44 ∷ field)) so_far ∙ append_assoc begun (more_fields fields) (44 ∷ field)
    ∙ ap (λ bytes. begun ++ (more_fields fields ++ bytes)) (sym (append-nil (44 ∷ field)))
    ∙ ap (λ bytes. begun ++ bytes) (sym (more_fields-append fields (field ∷ [])))

-- more fields are added to those that were
pub some_more_fields : (begun before after : List ℕ) (fields more : List Field) → before ≡ begun ++ more_fields fields
    → after ≡ before ++ more_fields more → after ≡ begun ++ more_fields (fields ++ more)
some_more_fields begun before after fields more so_far then =
    then ∙ ap (λ bytes. bytes ++ more_fields more) so_far ∙ append_assoc begun (more_fields fields) (more_fields more)
    ∙ ap (λ bytes. begun ++ bytes) (sym (more_fields-append fields more))

-- more rows are written behind these
pub more_rows : (before after : List ℕ) (rows more : List Row) → before ≡ lines rows → after ≡ before ++ lines more
    → after ≡ lines (rows ++ more)
more_rows before after rows more so_far then =
    then ∙ ap (λ bytes. bytes ++ lines more) so_far ∙ sym (lines-append rows more)

-- one more is written
pub wrote_more : {X : Type 0} (f : X → List ℕ) (start before after : List ℕ) (xs : List X) (i : ℕ) (d : X)
    → i < length xs
    → before ≡ start ++ flat_map f (take i xs) → after ≡ before ++ f (get_or xs i d)
    → after ≡ start ++ flat_map f (take (i + 1) xs)
wrote_more f start before after xs i d within so_far then =
    let more = ap (flat_map f) (take_more xs i d within) ∙ flat_map-append f (take i xs) (get_or xs i d ∷ []) in
    let one = append-nil (f (get_or xs i d)) in
    then ∙ ap (λ bytes. bytes ++ f (get_or xs i d)) so_far
    ∙ append_assoc start (flat_map f (take i xs)) (f (get_or xs i d))
    ∙ sym (ap (λ bytes. start ++ bytes) (more ∙ ap (λ bytes. flat_map f (take i xs) ++ bytes) one))

pub wrote_all : {X : Type 0} (f : X → List ℕ) (start now : List ℕ) (xs : List X) (i : ℕ) → length xs ≤ i
    → now ≡ start ++ flat_map f (take i xs) → now ≡ start ++ flat_map f xs
wrote_all f start now xs i past so_far = so_far ∙ ap (λ ys. start ++ flat_map f ys) (take_all i xs past)

-- the same over numbers from 0 on
pub numbered_more : (f : ℕ → List ℕ) (start before after : List ℕ) (n i : ℕ) → i < n
    → before ≡ start ++ flat_map f (take i (range_with_len 0 n)) → after ≡ before ++ f i
    → after ≡ start ++ flat_map f (take (i + 1) (range_with_len 0 n))
numbered_more f start before after n i within so_far then =
    let here : get_or (range_with_len 0 n) i 0 ≡ i = omega (arith, get_or-range_with_len 0 n i 0 within) in
    wrote_more f start before after (range_with_len 0 n) i 0 (omega (arith, length-range_with_len 0 n)) so_far
    (then ∙ ap (λ k. before ++ f k) (sym here))

pub numbered_all : (f : ℕ → List ℕ) (start now : List ℕ) (n i : ℕ) → n ≤ i
    → now ≡ start ++ flat_map f (take i (range_with_len 0 n)) → now ≡ start ++ flat_map f (range_with_len 0 n)
numbered_all f start now n i past so_far =
    wrote_all f start now (range_with_len 0 n) i (omega (arith, length-range_with_len 0 n)) so_far

-- those that fail write nothing
pub flat_map-filter : {X : Type 0} (p : X → Bool) (f : X → List ℕ) (xs : List X)
    → flat_map (λ x. cond (p x) (f x) []) xs ≡ flat_map f (filter p xs)
flat_map-filter p f [] = refl
flat_map-filter {X = X} p f (x ∷ xs) =
    let rest = flat_map-filter p f xs in
    let ys : List X = filter p xs in
    ap (λ bytes. cond (p x) (f x) [] ++ bytes) rest
    ∙ elim (p x) as (λ b. cond b (f x) [] ++ flat_map f ys ≡ flat_map f (cond b (x ∷ ys) ys)) [
      | true ↦
          refl
      | false ↦ refl
    ]

pub lines-map : {X : Type 0} (f : X → Row) (xs : List X) → lines (map f xs) ≡ flat_map (λ x. line (f x)) xs
lines-map f [] = refl
lines-map f (x ∷ xs) = ap (λ bytes. line (f x) ++ bytes) (lines-map f xs)

pub lines-flat_map : {X : Type 0} (f : X → List Row) (xs : List X)
    → lines (flat_map f xs) ≡ flat_map (λ x. lines (f x)) xs
lines-flat_map f [] = refl
lines-flat_map f (x ∷ xs) =
    lines-append (f x) (flat_map f xs) ∙ ap (λ bytes. lines (f x) ++ bytes) (lines-flat_map f xs)

pub more_fields-map : {X : Type 0} (f : X → Field) (xs : List X) → more_fields (map f xs) ≡ flat_map (λ x. 44 ∷ f x) xs
more_fields-map f [] = refl
more_fields-map f (x ∷ xs) = ap (λ bytes. (44 ∷ f x) ++ bytes) (more_fields-map f xs)

-- a row that was begun has these fields when it ends
pub ended_row : (old begun now : List ℕ) (kind : Field) (fields : List Field) → begun ≡ old ++ kind
    → now ≡ begun ++ more_fields fields
    → now ++ 10 ∷ [] ≡ old ++ line (kind ∷ fields)
ended_row old begun now kind fields begins goes =
    ap (λ bytes. bytes ++ 10 ∷ []) (goes ∙ ap (λ bytes. bytes ++ more_fields fields) begins)
    ∙ append_assoc (old ++ kind) (more_fields fields) (10 ∷ []) ∙ append_assoc old kind (more_fields fields ++ 10 ∷ [])
    ∙ ap (λ bytes. old ++ bytes) (sym (line-cons kind fields))

-- an element of a part of a list
pub get_or-part : {X : Type 0} (xs : List X) (start n i : ℕ) (d : X) → i < n
    → get_or (slice_range xs start (start + n)) i d ≡ get_or xs (start + i) d
get_or-part xs start n i d within =
    get_or-take ((start + n) - start) (drop start xs) i d (omega arith) ∙ get_or-drop start xs i d

-- a price read at its place among those of all layers, and among those of its own
pub price_read : {X : Type 0} (xs : List X) (l rows n i : ℕ) (z d : X) → length xs ≡ rows * n → l < rows → i < n
    → z ≡ get_or xs (l * n + i) z
    → z ≡ get_or (slice_range xs (l * n) (l * n + n)) i d
price_read xs l rows n i z d size row within is =
    let placed : l * n + i < length xs = omega (arith, mul-add-lt l n i rows row within) in
    is ∙ get_or_default xs (l * n + i) z d placed ∙ sym (get_or-part xs (l * n) n i d within)

-- one field is written, and then others
pub wrote_field : (old new : List ℕ) (field : Field) (rest : List Field) → new ≡ old ++ 44 ∷ field
    → new ++ more_fields rest ≡ old ++ more_fields (field ∷ rest)
wrote_field old new field rest is =
    ap (λ bytes. bytes ++ more_fields rest) is ∙ append_assoc old (44 ∷ field) (more_fields rest)

-- a last field is written
pub wrote_last : (old : List ℕ) (field : Field) → old ++ 44 ∷ field ≡ old ++ more_fields (field ∷ [])
wrote_last old field = ap (λ bytes. old ++ bytes) (sym (append-nil (44 ∷ field)))
