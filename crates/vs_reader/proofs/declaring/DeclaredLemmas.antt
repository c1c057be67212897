-- What records declare: it is sound, and there is one such thing.
use Rattle.std.proofs.Common.{◌≡◌, ℕ, ◌+◌, ◌<◌, ◌≤◌, inl, inr, List, [], ◌∷◌, ◌++◌, length, get_or, Contains, Option, Some, None, refl, sym, ap, ◌∙◌, subst, arith}
use Rattle.std.proofs.lemmas.List.{length_push, get_or_default}
use Rattle.std.proofs.lemmas.List.Elements.{All-get_or, All-nil, All-push, All-weaker, Contains-get_or}
use Rattle.std.proofs.lemmas.List.Quantifiers.{all_pairs_push}
use Rattle.std.proofs.lemmas.Option.{slice_get_within}
use Rattle.vs_types.specs.LayerSet.{Has}
use Rattle.vs_instance.specs.declared.limits.TheConstants.{TWO_DAYS}
use Rattle.vs_types.specs.declared.layer_set.LayerSet.{LayerSet}
use Rattle.vs_instance.specs.declared.parts.Deadhead.{Deadhead}
use Rattle.vs_instance.specs.declared.layer.Layer.{Layer}
use Rattle.vs_instance.specs.declared.trip.Trip.{Trip}
use Rattle.vs_reader.specs.declared.kind.Kind.{Kind}
use Rattle.vs_reader.specs.declared.kind.Kind.TheVariants as kind
use Rattle.vs_reader.specs.declared.version.Version.{Version}
use Rattle.vs_reader.specs.Rows.{Field, Row, field_of}
use Rattle.vs_reader.specs.Kinds.{kind_of}
use Rattle.vs_reader.proofs.declaring.KindLemmas.{AddsOfKind, adds_by_kind}
use Rattle.vs_reader.specs.Numbers.{IsTime}
use Rattle.vs_reader.specs.InstanceText.{Declared, nothing_yet, IsNew, AddsStop, AddsDeadhead, AddsLayer, AddsTrip, Adds, AddAll, NameLayers}
use Rattle.vs_reader.specs.Drafts.{AreApart, IsSound}
use Rattle.vs_reader.proofs.naming.NameLemmas.{Names-Contains}
use Rattle.vs_reader.proofs.declaring.RowsSayOne.{same_field, one_deadhead, one_layer, one_trip}

AreApart-push : (names : List Field) (f : Field) → AreApart names → IsNew names f → AreApart (names ++ f ∷ [])
AreApart-push names f apart new =
    all_pairs_push (λ f g. ¬ (f ≡ g)) names f apart
    (λ k d within same. new.new (k, within, get_or_default names k f d within ∙ same))

AreApart-nil : AreApart []
AreApart-nil i j d before within = absurd (omega arith)

pub IsSound-nothing : (version : Version) → IsSound version nothing_yet
IsSound-nothing version = record {
  stops_apart = AreApart-nil;
  layers_apart = AreApart-nil;
  few_stops = omega arith;
  few_layers = omega arith;
  few_trips = omega arith;
  each_layer = refl;
  each_trip = refl;
  depots = All-nil (λ (l : Layer). l.depot.0 < 0);
  deadheads = All-nil (λ (h : Deadhead). (h.from.0 < 0) × (h.to.0 < 0));
  trip_stops = All-nil (λ (t : Trip). (t.from.0 < 0) × (t.to.0 < 0));
  trip_times = All-nil (λ (t : Trip). (t.start < TWO_DAYS) × (t.end < TWO_DAYS));
  some_layer = All-nil (λ (t : Trip). (l : ℕ) × Has t.layers l);
  trip_layers = All-nil (λ (t : Trip). (l : ℕ) → Has t.layers l → l < 0);
}

sound_stop : (version : Version) (old new : Declared) (row : Row) → IsSound version old → AddsStop old row new
    → IsSound version new
sound_stop version old new row s a =
    let more = length_push old.names.stops a.name in
    subst (IsSound version) (sym a.added) (record {
      stops_apart = AreApart-push old.names.stops a.name s.stops_apart a.new_name;
      layers_apart = s.layers_apart;
      few_stops = omega (arith, more, a.room);
      few_layers = s.few_layers;
      few_trips = s.few_trips;
      each_layer = s.each_layer;
      each_trip = s.each_trip;
      depots = All-weaker (λ (l : Layer). l.depot.0 < length old.names.stops)
          (λ (l : Layer). l.depot.0 < length (old.names.stops ++ a.name ∷ []))
          (λ l h. omega (arith, more, h)) old.layers s.depots;
      deadheads =
          All-weaker (λ (d : Deadhead). (d.from.0 < length old.names.stops) × (d.to.0 < length old.names.stops))
          (λ (d : Deadhead). (d.from.0 < length (old.names.stops ++ a.name ∷ []))
          × (d.to.0 < length (old.names.stops ++ a.name ∷ [])))
          (λ d h. (omega (arith, more, h.0), omega (arith, more, h.1))) old.deadheads s.deadheads;
      trip_stops =
          All-weaker (λ (t : Trip). (t.from.0 < length old.names.stops) × (t.to.0 < length old.names.stops))
          (λ (t : Trip). (t.from.0 < length (old.names.stops ++ a.name ∷ []))
          × (t.to.0 < length (old.names.stops ++ a.name ∷ [])))
          (λ t h. (omega (arith, more, h.0), omega (arith, more, h.1))) old.trips s.trip_stops;
      trip_times = s.trip_times;
      some_layer = s.some_layer;
      trip_layers = s.trip_layers;
    })

sound_deadhead : (version : Version) (old new : Declared) (row : Row) → IsSound version old
    → AddsDeadhead old row new → IsSound version new
sound_deadhead version old new row s a =
    subst (IsSound version) (sym a.added) (record {
      stops_apart = s.stops_apart;
      layers_apart = s.layers_apart;
      few_stops = s.few_stops;
      few_layers = s.few_layers;
      few_trips = s.few_trips;
      each_layer = s.each_layer;
      each_trip = s.each_trip;
      depots = s.depots;
      deadheads =
          All-push (λ (d : Deadhead). (d.from.0 < length old.names.stops)
          × (d.to.0 < length old.names.stops)) old.deadheads a.deadhead s.deadheads (
            slice_get_within old.names.stops a.deadhead.from.0 a.row_is.from a.row_is.from_is,
            slice_get_within old.names.stops a.deadhead.to.0 a.row_is.to a.row_is.to_is,
          );
      trip_stops = s.trip_stops;
      trip_times = s.trip_times;
      some_layer = s.some_layer;
      trip_layers = s.trip_layers;
    })

sound_layer : (version : Version) (old new : Declared) (row : Row) → IsSound version old → AddsLayer version old row new
    → IsSound version new
sound_layer version old new row s a =
    let more = length_push old.names.layers a.name in
    subst (IsSound version) (sym a.added) (record {
      stops_apart = s.stops_apart;
      layers_apart = AreApart-push old.names.layers a.name s.layers_apart a.new_name;
      few_stops = s.few_stops;
      few_layers = omega (arith, more, a.room);
      few_trips = s.few_trips;
      each_layer = omega (arith, more, length_push old.layers a.layer, s.each_layer);
      each_trip = s.each_trip;
      depots = All-push (λ (l : Layer). l.depot.0 < length old.names.stops) old.layers a.layer s.depots
          (slice_get_within old.names.stops a.layer.depot.0 a.row_is.depot a.row_is.depot_is);
      deadheads = s.deadheads;
      trip_stops = s.trip_stops;
      trip_times = s.trip_times;
      some_layer = s.some_layer;
      trip_layers =
          All-weaker (λ (t : Trip). (l : ℕ) → Has t.layers l → l < length old.names.layers) (λ (t : Trip). (l : ℕ)
          → Has t.layers l → l < length (old.names.layers ++ a.name ∷ [])) (λ t h l has. let b =
          h l has in omega (arith, more, b)) old.trips s.trip_layers;
    })

-- a time is one of the two days
time_below : (field : Field) (t : ℕ) → IsTime field t → t < TWO_DAYS
time_below field t is = omega (arith, is.6, is.7, is.8)

-- some field names some layer
named_layer : (names fields : List Field) (set : LayerSet) → 1 ≤ length fields → NameLayers names fields set
    → (l : ℕ) × Has set l
named_layer names fields set some named =
    let f = get_or fields 0 [] in
    let at = Names-Contains names f (All-get_or (λ f. Contains names f) fields 0 [] some named.each) in
    (at.0, (named.members at.0).1 (f, Contains-get_or fields 0 [] some, at.1))

sound_trip : (version : Version) (old new : Declared) (row : Row) → IsSound version old
    → AddsTrip version old row new → IsSound version new
sound_trip version old new row s a =
    let more = length_push old.names.trips a.name in
    let r = a.row_is in
    subst (IsSound version) (sym a.added) (record {
      stops_apart = s.stops_apart;
      layers_apart = s.layers_apart;
      few_stops = s.few_stops;
      few_layers = s.few_layers;
      few_trips = omega (arith, more, a.room);
      each_layer = s.each_layer;
      each_trip = omega (arith, more, length_push old.trips a.trip, s.each_trip);
      depots = s.depots;
      deadheads = s.deadheads;
      trip_stops =
          All-push (λ (t : Trip). (t.from.0 < length old.names.stops)
          × (t.to.0 < length old.names.stops)) old.trips a.trip s.trip_stops (
            slice_get_within old.names.stops a.trip.from.0 r.from r.from_is,
            slice_get_within old.names.stops a.trip.to.0 r.to r.to_is,
          );
      trip_times =
          All-push (λ (t : Trip). (t.start < TWO_DAYS) × (t.end < TWO_DAYS)) old.trips a.trip s.trip_times
          (time_below r.start a.trip.start r.start_is, time_below r.end a.trip.end r.end_is);
      some_layer =
          All-push (λ (t : Trip). (l : ℕ) × Has t.layers l) old.trips a.trip s.some_layer
          (named_layer old.names.layers r.layers a.trip.layers r.some_layer r.layers_are);
      trip_layers =
          All-push (λ (t : Trip). (l : ℕ) → Has t.layers l → l < length old.names.layers) old.trips a.trip s.trip_layers
          (λ l has. let w = (r.layers_are.members l).0 has in slice_get_within old.names.layers l w.0 w.2);
    })

pub IsSound-Adds : (version : Version) (old new : Declared) (row : Row) → IsSound version old → Adds version old row new
    → IsSound version new
IsSound-Adds version old new row s (inl a) = sound_stop version old new row s a
IsSound-Adds version old new row s (inr (inl a)) = sound_deadhead version old new row s a
IsSound-Adds version old new row s (inr (inr (inl a))) = sound_layer version old new row s a
IsSound-Adds version old new row s (inr (inr (inr a))) = sound_trip version old new row s a

pub IsSound-AddAll : (version : Version) (old new : Declared) (rows : List Row) → IsSound version old
    → AddAll version old rows new → IsSound version new
IsSound-AddAll version old new [] s all = subst (IsSound version) (sym all) s
IsSound-AddAll version old new (row ∷ rows) s all =
    IsSound-AddAll version all.0 new rows (IsSound-Adds version old all.0 row s all.1) all.2

-- what records of one kind add is one thing
one_stop : (old a b : Declared) (row : Row) → AddsStop old row a → AddsStop old row b → a ≡ b
one_stop old a b row x y =
    let name = same_field row _ _ 1 x.row_is y.row_is in
    x.added ∙ ap (λ (f : Field). record old { names = record old.names { stops = old.names.stops ++ f ∷ [] } }) name
    ∙ sym y.added

one_more_deadhead : (version : Version) (old a b : Declared) (row : Row) → IsSound version old
    → AddsDeadhead old row a → AddsDeadhead old row b
    → a ≡ b
one_more_deadhead version old a b row s x y =
    let d = one_deadhead old.names.stops row x.deadhead y.deadhead s.stops_apart x.row_is y.row_is in
    x.added ∙ ap (λ (d : Deadhead). record old { deadheads = old.deadheads ++ d ∷ [] }) d ∙ sym y.added

one_more_layer : (version : Version) (old a b : Declared) (row : Row) → IsSound version old
    → AddsLayer version old row a
    → AddsLayer version old row b → a ≡ b
one_more_layer version old a b row s x y =
    let l = one_layer version old.names.stops row x.name y.name x.layer y.layer s.stops_apart x.row_is y.row_is in
    x.added ∙
    (λ i. record old {
      names = record old.names { layers = old.names.layers ++ l.0 i ∷ [] };
      layers =
          old.layers ++ l.1 i ∷ [];
    }) ∙ sym y.added

one_more_trip : (version : Version) (old a b : Declared) (row : Row) → IsSound version old
    → AddsTrip version old row a → AddsTrip version old row b → a ≡ b
one_more_trip version old a b row s x y =
    let t = one_trip old.names row x.name y.name x.trip y.trip s.stops_apart x.row_is y.row_is in
    x.added ∙
    (λ i. record old {
      names = record old.names { trips = old.names.trips ++ t.0 i ∷ [] };
      trips =
          old.trips ++ t.1 i ∷ [];
    }) ∙ sym y.added

pub one_Adds : (version : Version) (old a b : Declared) (row : Row) → IsSound version old → Adds version old row a
    → Adds version old row b → a ≡ b
one_Adds version old a b row s x y =
    by (kind_of (field_of row 0)) (adds_by_kind version old row a x) (adds_by_kind version old row b y)
  where
    by : (kind : Option Kind) → AddsOfKind kind version old row a → AddsOfKind kind version old row b → a ≡ b
    by None x y = absurd x
    by (Some kind.Stop) x y = one_stop old a b row x y
    by (Some kind.Deadhead) x y = one_more_deadhead version old a b row s x y
    by (Some kind.Layer) x y = one_more_layer version old a b row s x y
    by (Some kind.Trip) x y = one_more_trip version old a b row s x y

pub AddAll-push : (version : Version) (old mid new : Declared) (rows : List Row) (row : Row)
    → AddAll version old rows mid → Adds version mid row new → AddAll version old (rows ++ row ∷ []) new
AddAll-push version old mid new [] row all adds = (new, subst (λ (m : Declared). Adds version m row new) all adds, refl)
AddAll-push version old mid new (r ∷ rows) row all adds =
    (all.0, all.1, AddAll-push version all.0 mid new rows row all.2 adds)

pub one_AddAll : (version : Version) (old a b : Declared) (rows : List Row) → IsSound version old
    → AddAll version old rows a → AddAll version old rows b → a ≡ b
one_AddAll version old a b [] s x y = x ∙ sym y
one_AddAll version old a b (row ∷ rows) s x y =
    let same = one_Adds version old x.0 y.0 row s x.1 y.1 in
    one_AddAll version x.0 a b rows (IsSound-Adds version old x.0 row s x.1) x.2
    (subst (λ (m : Declared). AddAll version m rows b) (sym same) y.2)

-- records declare no more deadheads than there are records
fewer_deadheads : (version : Version) (old new : Declared) (row : Row) → Adds version old row new
    → length new.deadheads ≤ length old.deadheads + 1
fewer_deadheads version old new row adds = by (kind_of (field_of row 0)) (adds_by_kind version old row new adds)
  where
    by : (kind : Option Kind) → AddsOfKind kind version old row new → length new.deadheads ≤ length old.deadheads + 1
    by None a = absurd a
    by (Some kind.Stop) a = omega (arith, ap (λ (d : Declared). length d.deadheads) a.added)
    by (Some kind.Deadhead) a =
        omega (arith, ap (λ (d : Declared). length d.deadheads) a.added, length_push old.deadheads a.deadhead)
    by (Some kind.Layer) a = omega (arith, ap (λ (d : Declared). length d.deadheads) a.added)
    by (Some kind.Trip) a = omega (arith, ap (λ (d : Declared). length d.deadheads) a.added)

pub few_deadheads : (version : Version) (old new : Declared) (rows : List Row) → AddAll version old rows new
    → length new.deadheads ≤ length old.deadheads + length rows
few_deadheads version old new [] all = omega (arith, ap (λ (d : Declared). length d.deadheads) all)
few_deadheads version old new (row ∷ rows) all =
    omega (arith, fewer_deadheads version old all.0 row all.1, few_deadheads version all.0 new rows all.2)
