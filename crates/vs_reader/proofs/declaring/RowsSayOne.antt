-- A row says one thing alone.
use Rattle.std.proofs.Common.{◌≡◌, ℕ, ◌+◌, ◌-◌, ◌*◌, Bool, true, false, inl, inr, List, ◌∷◌, length, take, drop, Option, Some, None, sym, ap, ◌∙◌, subst, arith}
use Rattle.std.specs.Int.{bit_at}
use Rattle.std.specs.Str.Parse.{digits_value}
use Rattle.std.proofs.lemmas.Bool.{cases_eq}
use Rattle.std.proofs.lemmas.List.{length-append, take_at, drop_at}
use Rattle.std.proofs.lemmas.Nat.Bits.{bit_at-lt, same_from_bits}
use Rattle.vs_types.specs.declared.layer_set.LayerSet.{LayerSet}
use Rattle.vs_instance.specs.declared.parts.Deadhead.{Deadhead}
use Rattle.vs_instance.specs.declared.layer.Layer.{Layer}
use Rattle.vs_instance.specs.declared.trip.Trip.{Trip}
use Rattle.vs_reader.specs.declared.version.Version.{Version}
use Rattle.vs_reader.specs.Rows.{Field, Row, field_of}
use Rattle.vs_reader.specs.Names.{NameLists, Names}
use Rattle.vs_reader.specs.Numbers.{IsNumber, IsTime}
use Rattle.vs_reader.specs.Versions.{writes_stay}
use Rattle.vs_reader.specs.InstanceText.{DeadheadRow, LayerRow, StayOf, stay_fields, TripRow, NameLayers}
use Rattle.vs_reader.specs.Drafts.{AreApart}
use Rattle.vs_reader.proofs.naming.NameLemmas.{same_number}

-- the field at one place of two ways to write a row
pub same_field : (row a b : Row) (k : ℕ) → row ≡ a → row ≡ b → field_of a k ≡ field_of b k
same_field row a b k is_a is_b = ap (λ (r : Row). field_of r k) (sym is_a ∙ is_b)

pub one_number : (f g : Field) (m n : ℕ) → f ≡ g → IsNumber f m → IsNumber g n → m ≡ n
one_number f g m n same is_m is_n = is_m.value ∙ ap (digits_value 10) same ∙ sym is_n.value

pub one_stop : (names : List Field) (f g : Field) (j k : ℕ) → AreApart names → f ≡ g → Names names f j
    → Names names g k → j ≡ k
one_stop names f g j k apart same at_j at_k =
    same_number names f j k apart at_j (subst (λ (h : Field). Names names h k) (sym same) at_k)

-- the time of a field, by where its colon stands
time_value : (field : Field) (t : ℕ) → IsTime field t
    → t ≡ 60 * digits_value 10 (take (length field - 3) field)
    + digits_value 10 (drop 1 (drop (length field - 3) field))
time_value field t is =
    let hours = is.0 in
    let minutes = is.1 in
    let long : length hours ≡ length field - 3 =
    omega (arith, ap length is.2, length-append hours (58 ∷ minutes), is.5) in
    let before : take (length field - 3) field ≡ hours =
    ap (take (length field - 3)) is.2 ∙ take_at hours (58 ∷ minutes) (length field - 3) long in
    let after : drop (length field - 3) field ≡ 58 ∷ minutes =
    ap (drop (length field - 3)) is.2 ∙ drop_at hours (58 ∷ minutes) (length field - 3) long in
    rw (before, after) is.8

pub one_time : (f g : Field) (s t : ℕ) → f ≡ g → IsTime f s → IsTime g t → s ≡ t
one_time f g s t same is_s is_t =
    time_value f s is_s ∙ sym (time_value f t (subst (λ (h : Field). IsTime h t) (sym same) is_t))

-- the fields name one set
pub one_set : (names fields : List Field) (a b : LayerSet) → NameLayers names fields a → NameLayers names fields b
    → a.0 ≡ b.0
one_set names fields a b is_a is_b = same_from_bits a.0 b.0 (λ i. elim (cases_eq (bit_at a.0 i) 1) [
  | inl has ↦ has ∙ sym ((is_b.members i).1 ((is_a.members i).0 has))
  | inr lacks ↦ elim (cases_eq (bit_at b.0 i) 1) [
    | inl has ↦ absurd (lacks ((is_a.members i).1 ((is_b.members i).0 has)))
    | inr lacks_too ↦ omega (arith, bit_at-lt a.0 i, bit_at-lt b.0 i)
  ]
])

pub one_deadhead : (stops : List Field) (row : Row) (d e : Deadhead) → AreApart stops → DeadheadRow stops row d
    → DeadheadRow stops row e → d ≡ e
one_deadhead stops row d e apart a b =
    let from =
    one_stop stops a.from b.from d.from.0 e.from.0 apart
    (same_field row _ _ 1 a.row_is b.row_is) a.from_is b.from_is in
    let to = one_stop stops a.to b.to d.to.0 e.to.0 apart (same_field row _ _ 2 a.row_is b.row_is) a.to_is b.to_is in
    let minutes =
    one_number a.minutes b.minutes d.minutes e.minutes
    (same_field row _ _ 3 a.row_is b.row_is) a.minutes_are b.minutes_are in
    let metres =
    one_number a.metres b.metres d.metres e.metres
    (same_field row _ _ 4 a.row_is b.row_is) a.metres_are b.metres_are in
    λ i. record { from = record { 0 = from i }; to = record { 0 = to i }; minutes = minutes i; metres = metres i }

-- fields write one least rest
one_stay : (writes : Bool) (f g : Field) (s t : Option ℕ) → stay_fields writes f ≡ stay_fields writes g
    → StayOf writes f s → StayOf writes g t → s ≡ t
one_stay false f g s t same is so = is ∙ sym so
one_stay true f g None t same is so = absurd is
one_stay true f g (Some m) None same is so = absurd so
one_stay true f g (Some m) (Some n) same is so =
    ap (λ (k : ℕ). Some k) (one_number f g m n (ap (λ (r : Row). field_of r 0) same) is so)

pub one_layer : (version : Version) (stops : List Field) (row : Row) (f g : Field) (k l : Layer) → AreApart stops
    → LayerRow version stops row f k → LayerRow version stops row g l → (f ≡ g) × (k ≡ l)
one_layer version stops row f g k l apart a b =
    let depot =
    one_stop stops a.depot b.depot k.depot.0 l.depot.0 apart
    (same_field row _ _ 2 a.row_is b.row_is) a.depot_is b.depot_is in
    let fleet =
    one_number a.fleet b.fleet k.fleet l.fleet (same_field row _ _ 3 a.row_is b.row_is) a.fleet_is b.fleet_is in
    let fixed =
    one_number a.fixed b.fixed k.fixed l.fixed (same_field row _ _ 4 a.row_is b.row_is) a.fixed_is b.fixed_is in
    let per_minute =
    one_number a.per_minute b.per_minute k.per_minute l.per_minute
    (same_field row _ _ 5 a.row_is b.row_is) a.per_minute_is b.per_minute_is in
    let per_metre =
    one_number a.per_metre b.per_metre k.per_metre l.per_metre
    (same_field row _ _ 6 a.row_is b.row_is) a.per_metre_is b.per_metre_is in
    let stay =
    one_stay (writes_stay version (length row)) a.stay b.stay k.stay l.stay
    (ap (λ (r : Row). drop 7 r) (sym a.row_is ∙ b.row_is)) a.stay_is
    b.stay_is in (
      same_field row _ _ 1 a.row_is b.row_is,
      λ i. record {
        depot = record { 0 = depot i };
        fleet = fleet i;
        fixed =
            fixed i;
        per_minute = per_minute i;
        per_metre = per_metre i;
        stay = stay i;
      },
    )

pub one_trip : (names : NameLists) (row : Row) (f g : Field) (s t : Trip) → AreApart names.stops
    → TripRow names row f s → TripRow names row g t → (f ≡ g) × (s ≡ t)
one_trip names row f g s t apart a b =
    let from =
    one_stop names.stops a.from b.from s.from.0 t.from.0 apart
    (same_field row _ _ 2 a.row_is b.row_is) a.from_is b.from_is in
    let start =
    one_time a.start b.start s.start t.start (same_field row _ _ 3 a.row_is b.row_is) a.start_is b.start_is in
    let to = one_stop names.stops a.to b.to s.to.0 t.to.0 apart
    (same_field row _ _ 4 a.row_is b.row_is) a.to_is b.to_is in
    let end = one_time a.end b.end s.end t.end (same_field row _ _ 5 a.row_is b.row_is) a.end_is b.end_is in
    let metres =
    one_number a.metres b.metres s.metres t.metres
    (same_field row _ _ 6 a.row_is b.row_is) a.metres_are b.metres_are in
    let layers = one_set names.layers a.layers s.layers t.layers a.layers_are
    (subst (λ (h : List Field). NameLayers names.layers h t.layers)
    (sym (ap (λ (r : Row). drop 7 r) (sym a.row_is ∙ b.row_is))) b.layers_are) in (
      same_field row _ _ 1 a.row_is b.row_is,
      λ i. record {
        from = record { 0 = from i };
        start = start i;
        to =
            record { 0 = to i };
        end = end i;
        metres = metres i;
        layers = record { 0 = layers i };
      },
    )
