-- The fields that name the layers of a split.
use Rattle.std.proofs.Common.{◌≡◌, ◌≢◌, true, codes, ℕ, ◌+◌, ◌-◌, ◌/◌, ◌%◌, ◌^◌, ◌<◌, ◌≤◌, List, [], ◌∷◌, ◌++◌, length, get_or, map, take, drop, refl, sym, ap, ◌∙◌, subst, inl, inr, arith, All, ◌↔◌, ◌⊎◌}
use Rattle.std.specs.Prelude.{Contains, ◌==◌}
use Rattle.std.specs.Int.{bit_at}
use Rattle.std.proofs.lemmas.Bool.{eqb-true}
use Rattle.std.proofs.lemmas.List.{get_or-map, map_push, length-map, take_all, take_more, get_or-drop, get_or-take, length-drop, length-take}
use Rattle.std.proofs.lemmas.List.Elements.{All-push, All-nil, Contains-append_left, Contains-push, Contains-push_cases, Contains-get_or, All-contains, All-from_get_or, All-head, filter_passes}
use Rattle.std.proofs.lemmas.List.Quantifiers.{all_pairs_push}
use Rattle.std.proofs.lemmas.Nat.Bits.{bit_at-zero}
use Rattle.vs_types.specs.LayerSet.{Has, layer_numbers, members}
use Rattle.vs_types.specs.declared.numbers.TripNo.{TripNo}
use Rattle.vs_types.proofs.CallerLemmas.{members-some}
use Rattle.vs_types.specs.declared.layer_set.LayerSet.{LayerSet}
use Rattle.vs_types.specs.declared.numbers.TheConstants.{MAX_LAYERS}
use Rattle.vs_reader.specs.Rows.{Field, Row, field_of}
use Rattle.vs_reader.specs.Names.{NameLists, name_of}
use Rattle.vs_reader.specs.NameRules.{AreNames}
use Rattle.vs_rows.specs.RowForms.{BeginsAs, NameSet}
use Rattle.vs_rows.specs.DocumentRows.{Says, SplitRow}
use Rattle.vs_rows.proofs.words.Names.{name_once}

module _ (names : List Field) where
  -- no fields name the empty set
  pub set_none : (empty : LayerSet) → empty.0 ≡ 0 → NameSet names [] empty
  set_none empty zero = record {
    layers = [];
    fields_are = refl;
    layers_are = All-nil (λ l. l < length names);
    set_is = record {
      once = λ i j d lt within. absurd (omega arith);
      members = λ l. (
        (λ among. absurd (omega (arith, among.1))),
        (λ has. absurd (omega (arith, sym has ∙ ap (λ n. n / 2 ^ l % 2) zero ∙ bit_at-zero l))),
      );
    };
  }

  -- one field more, which names a layer that isn't in the set
  pub set_more : (fields : List Field) (field : Field) (old new : LayerSet) (l : ℕ) → NameSet names fields old
      → l < length names → field ≡ name_of names l → ¬ (Has old l)
      → ((k : ℕ) → Has new k ↔ (Has old k ⊎ (k ≡ l))) → NameSet names (fields ++ field ∷ []) new
  set_more fields field old new l s lt e other with_it = record {
    layers = s.layers ++ l ∷ [];
    fields_are =
        ap (λ (fs : List Field). fs ++ field ∷ []) s.fields_are
        ∙ ap (λ (f : Field). map (name_of names) s.layers ++ f ∷ []) e
        ∙ sym (map_push (name_of names) s.layers l);
    layers_are = All-push (λ k. k < length names) s.layers l s.layers_are lt;
    set_is = record {
      once = all_pairs_push (λ a b. ¬ (a ≡ b)) s.layers l s.set_is.once
          (λ k d within same. other ((s.set_is.members l).0
          (let P : ℕ → Type 0 = λ n. Contains s.layers n in subst P same (Contains-get_or s.layers k d within))));
      members = λ k. (
        (λ among. (with_it k).1 (elim (Contains-push_cases s.layers l k among) [
          | inl before ↦ inl ((s.set_is.members k).0 before)
          | inr same ↦ inr (sym same)
        ])),
        (λ has. elim ((with_it k).0 has) [
          | inl before ↦ Contains-append_left s.layers (l ∷ []) k ((s.set_is.members k).1 before)
          | inr same ↦
              let P : ℕ → Type 0 = λ n. Contains (s.layers ++ l ∷ []) n in subst P (sym same) (Contains-push s.layers l)
        ]),
      );
    };
  }

  -- field k is the name of layer k of those in the row
  layer_at : (fields : List Field) (set : LayerSet) (s : NameSet names fields set) (k : ℕ) → k < length fields
      → (k < length s.layers) × (get_or s.layers k 0 < length names)
      × (get_or fields k [] ≡ name_of names (get_or s.layers k 0))
  layer_at fields set s k lt =
      let within : k < length s.layers = omega (arith, ap length s.fields_are, length-map s.layers (name_of names)) in (
        within,
        s.layers_are k 0 within,
        ap (λ (fs : List Field). get_or fs k []) s.fields_are ∙ get_or-map (name_of names) s.layers k 0 [] within,
      )

  -- a field that names no layer
  pub no_layer : (fields : List Field) (k : ℕ) → k < length fields
      → ((l : ℕ) → l < length names → ¬ (get_or fields k [] ≡ name_of names l))
      → (set : LayerSet) → ¬ (NameSet names fields set)
  no_layer fields k lt none set s = let at = layer_at fields set s k lt in none (get_or s.layers k 0) at.1 at.2

  -- a field that names a layer that an earlier one has named
  pub layer_twice : (fields : List Field) (k l : ℕ) (old : LayerSet) → AreNames names → k < length fields
      → NameSet names (take k fields) old → l < length names → get_or fields k [] ≡ name_of names l → Has old l
      → (set : LayerSet) → ¬ (NameSet names fields set)
  layer_twice fields k l old are lt so_far below e has set s =
      let before = (so_far.set_is.members l).1 has in
      let j : ℕ = before.0 in
      let j_few : j < k =
      omega (
        arith,
        before.1,
        ap length so_far.fields_are,
        length-map so_far.layers
            (name_of names),
        length-take k fields,
      ) in
      let at_k = layer_at fields set s k lt in
      let at_j = layer_at fields set s j (omega arith) in
      let name_j : get_or fields j [] ≡ name_of names l =
      sym (get_or-take k fields j [] j_few) ∙ ap (λ (fs : List Field). get_or fs j []) so_far.fields_are
      ∙ get_or-map (name_of names) so_far.layers j l [] before.1 ∙ ap (name_of names) before.2 in
      let same_j : get_or s.layers j 0 ≡ l = name_once names (get_or s.layers j 0) l are at_j.1 below (sym at_j.2
      ∙ name_j) in
      let same_k : get_or s.layers k 0 ≡ l = name_once names (get_or s.layers k 0) l are at_k.1 below (sym at_k.2
      ∙ e) in
      s.set_is.once j k 0 j_few at_k.0 (same_j ∙ sym same_k)

  module _ (row : List Field) (from : ℕ) where
    -- the same of the fields of a row from one on
    later : (k : ℕ) (field : Field) → from ≤ k → field ≡ get_or row k [] → get_or (drop from row) (k - from) [] ≡ field
    later k field low is =
        let place : from + (k - from) ≡ k = omega arith in
        get_or-drop from row (k - from) [] ∙ ap (λ (n : ℕ). get_or row n []) place ∙ sym is

    pub no_layers_in_row : (k : ℕ) (field : Field) → from ≤ k → k < length row → field ≡ get_or row k []
        → ((l : ℕ) → l < length names → ¬ (field ≡ name_of names l))
        → (set : LayerSet) → ¬ (NameSet names (drop from row) set)
    no_layers_in_row k field low lt is none =
        no_layer (drop from row) (k - from) (omega (arith, length-drop from row))
        (λ l below e. none l below (sym (later k field low is) ∙ e))

    pub layer_twice_in_row : (k l : ℕ) (field : Field) (old : LayerSet) → AreNames names → from ≤ k → k < length row
        → field ≡ get_or row k [] → NameSet names (take (k - from) (drop from row)) old → l < length names
        → field ≡ name_of names l → Has old l → (set : LayerSet) → ¬ (NameSet names (drop from row) set)
    layer_twice_in_row k l field old are low lt is so_far below e has =
        layer_twice (drop from row) (k - from) l old are (omega (arith, length-drop from row)) so_far below
        (later k field low is ∙ e) has

    pub row_layers_more : (k l : ℕ) (field : Field) (old new : LayerSet) → from ≤ k → k < length row
        → field ≡ get_or row k [] → NameSet names (take (k - from) (drop from row)) old → l < length names
        → field ≡ name_of names l → ¬ (Has old l) → ((j : ℕ) → Has new j ↔ (Has old j ⊎ (j ≡ l)))
        → NameSet names (take (k + 1 - from) (drop from row)) new
    row_layers_more k l field old new low lt is so_far below e other with_it =
        let next : k + 1 - from ≡ k - from + 1 = omega arith in
        let fields : take (k + 1 - from) (drop from row) ≡ take (k - from) (drop from row) ++ field ∷ [] =
        ap (λ (n : ℕ). take n (drop from row)) next
        ∙ take_more (drop from row) (k - from) [] (omega (arith, length-drop from row))
        ∙ ap (λ (f : Field). take (k - from) (drop from row) ++ f ∷ []) (later k field low is) in
        let P : List Field → Type 0 = λ fs. NameSet names fs new in
        subst P (sym fields) (set_more (take (k - from) (drop from row)) field old new l so_far below e other with_it)

    pub row_layers_all : (k : ℕ) (set : LayerSet) → length row ≤ k
        → NameSet names (take (k - from) (drop from row)) set → NameSet names (drop from row) set
    row_layers_all k set le so_far =
        let P : List Field → Type 0 = λ fs. NameSet names fs set in
        subst P (take_all (k - from) (drop from row) (omega (arith, length-drop from row))) so_far

some_of : (set : LayerSet) (xs : List ℕ) → xs ≢ [] → All (λ l. (bit_at set.0 l == 1) ≡ true) xs
    → (l : ℕ) × Has set l
some_of set [] some each = absurd (some refl)
some_of set (x ∷ xs) some each =
    (x, eqb-true (bit_at set.0 x) 1 (All-head (λ l. (bit_at set.0 l == 1) ≡ true) x xs each))

-- a set that isn't empty has a member
pub some_member : (set : LayerSet) → members set ≢ [] → (l : ℕ) × Has set l
some_member set some = some_of set (members set) some (filter_passes (λ l. bit_at set.0 l == 1) layer_numbers)

two_fields : (row : Row) → 3 ≤ length row → row ≡ field_of row 0 ∷ field_of row 1 ∷ drop 2 row
two_fields [] many = absurd (omega arith)
two_fields (a ∷ []) many = absurd (omega arith)
two_fields (a ∷ b ∷ rest) many = refl

-- a row of some fields that begins as a split, and names a trip and then some layers, says so
pub split_says : (names : NameLists) (row : Row) (trip : TripNo) (left : LayerSet) (field : Field)
    → BeginsAs (codes "split") row → field ≡ field_of row 1 → field ≡ name_of names.trips trip.0
    → trip.0 < length names.trips → NameSet names.layers (drop 2 row) left → length names.layers ≤ MAX_LAYERS
    → Says names row (SplitRow trip left)
split_says names row trip left field begins is name lt s few =
    let some : 0 < length s.layers =
    omega (arith, begins.many, ap length s.fields_are, length-map s.layers (name_of names.layers), length-drop 2 row) in
    let first = (s.set_is.members (get_or s.layers 0 0)).0 (Contains-get_or s.layers 0 0 some) in
    record {
      form = (
        lt,
        members-some left (get_or s.layers 0 0) (omega (arith, few, s.layers_are 0 0 some)) first,
        λ l has. All-contains (λ k. k < length names.layers) s.layers l s.layers_are ((s.set_is.members l).1 has),
      );
      written = (
        s.layers,
        s.set_is,
        two_fields row begins.many
            ∙ ap (λ (f : Field). f ∷ field_of row 1 ∷ drop 2 row) begins.kind_is
            ∙ ap (λ (f : Field). codes "split" ∷ f ∷ drop 2 row) (sym is ∙ name)
            ∙ ap (λ (fs : List Field). codes "split" ∷ name_of names.trips trip.0 ∷ fs) s.fields_are,
      );
    }

-- a row that says a split begins as one
pub split_begins : (names : NameLists) (row : Row) (trip : TripNo) (left : LayerSet)
    → Says names row (SplitRow trip left) → BeginsAs (codes "split") row
split_begins names row trip left says =
    let layers : List ℕ = says.written.0 in
    let member = some_member left says.form.1 in
    let among = (says.written.1.members member.0).1 member.1 in
    record {
      kind_is = ap (λ (r : Row). get_or r 0 []) says.written.2;
      many = omega (arith, among.1, ap length says.written.2, length-map layers (name_of names.layers));
    }

-- and names its layers
pub split_names : (names : NameLists) (row : Row) (trip : TripNo) (left : LayerSet)
    → Says names row (SplitRow trip left) → NameSet names.layers (drop 2 row) left
split_names names row trip left says = record {
  layers = says.written.0;
  fields_are = ap (drop 2) says.written.2;
  layers_are = All-from_get_or (λ l. l < length names.layers) says.written.0 0
      (λ k within. says.form.2 _ ((says.written.1.members _).0 (Contains-get_or says.written.0 k 0 within)));
  set_is = says.written.1;
}
