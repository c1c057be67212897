-- A text in which a record breaks a rule declares nothing.
use Rattle.std.proofs.Common.{◌≡◌, ℕ, ◌+◌, Bool, true, false, if◌then◌else◌, inl, inr, List, [], ◌∷◌, ◌++◌, length, get_or, Option, Some, None, IsSome, Contains, append_assoc, refl, sym, ap, ◌∙◌, subst, arith}
use Rattle.std.specs.Prelude.{All, AllPairs, codes}
use Rattle.std.proofs.lemmas.List.{get_or_append_left, length-append}
use Rattle.std.proofs.lemmas.List.Elements.{All-nil, All-push, All-head, All-tail, All-contains}
use Rattle.vs_reader.specs.declared.kind.Kind.{Kind}
use Rattle.vs_reader.specs.declared.kind.Kind.TheVariants.{Stop, Deadhead, Layer, Trip}
use Rattle.vs_reader.specs.declared.refused.Refused.{Refused}
use Rattle.vs_reader.specs.declared.version.Version.{Version}
use Rattle.vs_reader.specs.Rows.{Field, Row, field_of}
use Rattle.vs_reader.specs.Names.{IsName, NameLists, Names}
use Rattle.vs_reader.specs.Kinds.{kind_of}
use Rattle.vs_reader.specs.Versions.{layer_fields, most_in, writes_stay}
use Rattle.vs_reader.specs.InstanceText.{Declared, AddsStop, AddsDeadhead, AddsLayer, AddsTrip, Adds, AddAll, StayOf, stay_fields, nothing_yet}
use Rattle.vs_reader.specs.Rules.{AreKept, HasRoom, WritesNumber, rules, rules_of_kind, stop_rules, deadhead_rules, layer_rules, stay_rules, trip_rules, layer_names}
use Rattle.vs_reader.specs.Refusals.{BreaksRule}
use Rattle.vs_types.specs.declared.numbers.TheConstants.{MAX_LAYERS}
use Rattle.vs_reader.proofs.naming.NameLemmas.{Contains-Names}
use Rattle.vs_reader.proofs.declaring.RuleLemmas.{AreKept-append, broken_not_kept}
use Rattle.vs_reader.proofs.declaring.KindLemmas.{AddsOfKind, adds_by_kind, names_after}

-- the element behind a list
element_behind : (xs ys : List Field) (f d : Field) → get_or (xs ++ f ∷ ys) (length xs) d ≡ f
element_behind [] ys f d = refl
element_behind (x ∷ xs) ys f d = element_behind xs ys f d

-- what is declared is a name
pub record AreAllNames (names : NameLists) : Type 0 where
  pub stops : All IsName names.stops
  pub layers : All IsName names.layers

named : (names : List Field) (f : Field) (k : ℕ) → All IsName names → Names names f k → IsName f × Contains names f
named names f k are at = let among = Contains-Names names f k at in (All-contains IsName names f are among, among)

-- fields that name layers, each once, keep the rules of such fields
kept_layers : (names earlier fields : List Field) → All IsName names → All (λ f. Contains names f) fields
    → AllPairs (λ f g. ¬ (f ≡ g)) (earlier ++ fields)
    → AreKept (layer_names names earlier fields)
kept_layers names earlier [] are each once = tt
kept_layers names earlier (f ∷ fields) are each once =
    let among = All-head (λ f. Contains names f) f fields each in
    let regrouped : (earlier ++ f ∷ []) ++ fields ≡ earlier ++ f ∷ fields = append_assoc earlier (f ∷ []) fields in (
      All-contains IsName names f are among,
      (
        among,
        (
          new,
          kept_layers names (earlier ++ f ∷ []) fields are (All-tail (λ f. Contains names f) f fields each)
              (subst (λ (fs : List Field). AllPairs (λ f g. ¬ (f ≡ g)) fs) (sym regrouped) once),
        ),
      ),
    )
  where
    new : ¬ (Contains earlier f)
    new (k, within, is) =
        once k (length earlier) f within (omega (arith, length-append earlier (f ∷ fields)))
        (get_or_append_left earlier (f ∷ fields) f k within ∙ is ∙ sym (element_behind earlier fields f f))

-- a row with the fields of a least rest behind seven others
abbrev with_stay : Bool → Field → Field → Field → Field → Field → Field → Field → Field → Row
with_stay writes a b c d e f g stay = a ∷ b ∷ c ∷ d ∷ e ∷ f ∷ g ∷ stay_fields writes stay

with_stay-count : (writes : Bool) (a b c d e f g stay : Field)
    → length (with_stay writes a b c d e f g stay) ≡ (if writes then 8 else 7)
with_stay-count false a b c d e f g stay = refl
with_stay-count true a b c d e f g stay = refl

with_stay-kept : (writes : Bool) (a b c d e f g field : Field) (stay : Option ℕ) → StayOf writes field stay
    → AreKept (if writes then WritesNumber (field_of (with_stay writes a b c d e f g field) 7) ∷ [] else [])
with_stay-kept false a b c d e f g field stay is = tt
with_stay-kept true a b c d e f g field None is = absurd is
with_stay-kept true a b c d e f g field (Some n) is = ((n, is), tt)

module _ (version : Version) (old : Declared) (row : Row) (new : Declared) (are : AreAllNames old.names) where
  stop_kept : AddsStop old row new → AreKept (stop_rules old.names row)
  stop_kept a =
      subst (λ (r : Row). AreKept (stop_rules old.names r)) (sym a.row_is)
      (refl, (a.new_name.name, (a.new_name.new, (a.room, tt))))

  deadhead_kept : AddsDeadhead old row new → AreKept (deadhead_rules old.names row)
  deadhead_kept a =
      let r = a.row_is in
      let from = named old.names.stops r.from a.deadhead.from.0 are.stops r.from_is in
      let to = named old.names.stops r.to a.deadhead.to.0 are.stops r.to_is in
      subst (λ (r : Row). AreKept (deadhead_rules old.names r)) (sym r.row_is) (
        refl,
        (
          from.0,
          (from.1, (to.0, (to.1, ((a.deadhead.minutes, r.minutes_are), ((a.deadhead.metres, r.metres_are), tt))))),
        ),
      )

  layer_kept : AddsLayer version old row new → AreKept (layer_rules version old.names row)
  layer_kept a =
      let r = a.row_is in
      let depot = named old.names.stops r.depot a.layer.depot.0 are.stops r.depot_is in
      let writes = writes_stay version (length row) in
      let same = ap (λ (k : Row). writes_stay version (length k)) r.row_is in
      let written = with_stay writes (codes "layer") a.name r.depot r.fleet r.fixed r.per_minute r.per_metre r.stay in
      let count : length written ≡ layer_fields version (length written) =
      with_stay-count writes (codes "layer") a.name r.depot r.fleet r.fixed r.per_minute r.per_metre r.stay
      ∙ ap (λ (w : Bool). if w then 8 else 7) same in
      let stay : AreKept (stay_rules version written) =
      subst (λ (w : Bool). AreKept (if w then WritesNumber (field_of written 7) ∷ [] else [])) same
      (with_stay-kept writes (codes "layer") a.name r.depot r.fleet r.fixed r.per_minute r.per_metre r.stay a.layer.stay
      r.stay_is) in
      let rest =
      AreKept-append (stay_rules version written) (HasRoom MAX_LAYERS old.names.layers ∷ []) stay (a.room, tt) in
      subst (λ (r : Row). AreKept (layer_rules version old.names r)) (sym r.row_is) (
        count,
        (
          a.new_name.name,
          (
            a.new_name.new,
            (
              depot.0,
              (
                depot.1,
                (
                  (a.layer.fleet, r.fleet_is),
                  (
                    (a.layer.fixed, r.fixed_is),
                    ((a.layer.per_minute, r.per_minute_is), ((a.layer.per_metre, r.per_metre_is), rest)),
                  ),
                ),
              ),
            ),
          ),
        ),
      )

  trip_kept : AddsTrip version old row new → AreKept (trip_rules version old.names row)
  trip_kept a =
      let r = a.row_is in
      let from = named old.names.stops r.from a.trip.from.0 are.stops r.from_is in
      let to = named old.names.stops r.to a.trip.to.0 are.stops r.to_is in
      let layers = kept_layers old.names.layers [] r.layers are.layers r.layers_are.each r.layers_are.once in
      subst (λ (r : Row). AreKept (trip_rules version old.names r)) (sym r.row_is) (
        omega (arith, r.some_layer),
        (
          a.new_name.name,
          (
            a.new_name.new,
            (
              from.0,
              (
                from.1,
                (
                  (a.trip.start, r.start_is),
                  (
                    to.0,
                    (
                      to.1,
                      (
                        (a.trip.end, r.end_is),
                        (
                          (a.trip.metres, r.metres_are),
                          AreKept-append (layer_names old.names.layers [] r.layers)
                              (HasRoom (most_in version) old.names.trips ∷ []) layers
                              (a.room, tt),
                        ),
                      ),
                    ),
                  ),
                ),
              ),
            ),
          ),
        ),
      )

  kept_of_kind : (kind : Option Kind) → AddsOfKind kind version old row new → IsSome kind
      × AreKept (rules_of_kind kind version old.names row)
  kept_of_kind None a = absurd a
  kept_of_kind (Some Stop) a = (refl, stop_kept a)
  kept_of_kind (Some Deadhead) a = (refl, deadhead_kept a)
  kept_of_kind (Some Layer) a = (refl, layer_kept a)
  kept_of_kind (Some Trip) a = (refl, trip_kept a)

  -- a record that adds something keeps its rules
  pub kept_by : Adds version old row new → AreKept (rules version old.names row)
  kept_by a = kept_of_kind (kind_of (field_of row 0)) (adds_by_kind version old row new a)

  names_of_kind : (kind : Option Kind) → AddsOfKind kind version old row new → AreAllNames new.names
  names_of_kind None a = absurd a
  names_of_kind (Some Stop) a = subst (λ (d : Declared). AreAllNames d.names) (sym a.added)
      (record { stops = All-push IsName old.names.stops a.name are.stops a.new_name.name; layers = are.layers })
  names_of_kind (Some Deadhead) a = subst (λ (d : Declared). AreAllNames d.names) (sym a.added) are
  names_of_kind (Some Layer) a = subst (λ (d : Declared). AreAllNames d.names) (sym a.added)
      (record { stops = are.stops; layers = All-push IsName old.names.layers a.name are.layers a.new_name.name })
  names_of_kind (Some Trip) a =
      subst (λ (d : Declared). AreAllNames d.names) (sym a.added) (record { stops = are.stops; layers = are.layers })

  pub all_names : Adds version old row new → AreAllNames new.names
  all_names a = names_of_kind (kind_of (field_of row 0)) (adds_by_kind version old row new a)

pub AreAllNames-nothing : AreAllNames nothing_yet.names
AreAllNames-nothing = record { stops = All-nil IsName; layers = All-nil IsName }

-- where a record breaks a rule, the records declare nothing
pub breaks_refutes : (version : Version) (n : ℕ) (old new : Declared) (rows : List Row) (refused : Refused)
    → AreAllNames old.names → BreaksRule version n old.names rows refused → ¬ (AddAll version old rows new)
breaks_refutes version n old new [] refused are breaks all = breaks
breaks_refutes version n old new (row ∷ rows) refused are (inl here) all =
    broken_not_kept (rules version old.names row) refused.why here.1 (kept_by version old row all.0 are all.1)
breaks_refutes version n old new (row ∷ rows) refused are (inr later) all =
    breaks_refutes version (n + 1) all.0 new rows refused (all_names version old row all.0 are all.1)
    (subst (λ (ns : NameLists). BreaksRule version (n + 1) ns rows refused) (names_after version old row all.0 all.1)
    later.1) all.2
