-- The prices of a layer that are read trip by trip.
use Rattle.std.proofs.Common.{◌≡◌, ℕ, suc, ◌+◌, ◌-◌, ◌<◌, ◌≤◌, Bool, true, false, cond, List, [], ◌∷◌, ◌++◌, length, map, refl, sym, ap, ◌∙◌, subst, inl, inr, arith, ℤ, pos, All, eqb, filter, rules, ◌↔◌, to_z, of_z, w64}
use Rattle.std.specs.Int.{bit_at}
use Rattle.std.specs.List.{range_with_len}
use Rattle.std.proofs.lemmas.Bool.{cases_lt, eq-eqb, ne_eqb, false≢true}
use Rattle.std.proofs.lemmas.List.{get_or_append_left, get_or_push, length_push, append_assoc}
use Rattle.std.proofs.lemmas.List.Elements.{All-push}
use Rattle.vs_types.specs.LayerSet.{Has}
use Rattle.vs_instance.specs.declared.trip.Trip.{Trip as TripOf}
use Rattle.vs_instance.specs.Problem.{Problem}
use Rattle.vs_instance.specs.Ways.{Permitted, trip_of}
use Rattle.vs_instance.specs.HoldingTable.{price_of}
use Rattle.vs_prices.specs.declared.table.Table.{Table}
use Rattle.vs_prices.specs.Table.{IsPrice}
use Rattle.vs_reader.specs.declared.input.Input.{Input}
use Rattle.vs_rows.specs.declared.wrong.TableError.{TableError}
use Rattle.vs_rows.specs.DocumentRows.{DocumentRow, PriceRow, permitted_trips}
use Rattle.vs_rows.specs.PriceOrder.{PriceOf, Trip, trips_from}
use Rattle.vs_rows.specs.TableReading.{IsWrongAt, PassTo, ReadsPrice, ReadsPrices, price_rows}
use Rattle.vs_rows.specs.Standing.{StandFrom}
use Rattle.vs_rows.proofs.tables.Passing.{passes_price}
use Rattle.vs_rows.proofs.tables.PriceRows.{as_word}

abbrev may_run : Problem → ℕ → ℕ → Bool
may_run p l k = eqb (bit_at (trip_of p k).layers.0 l) 1

-- at a trip that the layer may run there is one more, and at another one there is none
trips_at : (p : Problem) (l i n : ℕ) (test : Bool) → may_run p l i ≡ test
    → filter (may_run p l) (range_with_len i (suc n))
    ≡ cond test (i ∷ filter (may_run p l) (range_with_len (i + 1) n)) (filter (may_run p l) (range_with_len (i + 1) n))
trips_at p l i n test e =
    ap (λ (b : Bool). cond b (i ∷ filter (may_run p l) (range_with_len (i + 1) n))
    (filter (may_run p l) (range_with_len (i + 1) n))) e

pub trips_with : (p : Problem) (l i : ℕ) → i < length p.trips → Permitted p l i
    → trips_from p l i ≡ i ∷ trips_from p l (i + 1)
trips_with p l i lt may =
    let more : length p.trips - i ≡ suc (length p.trips - (i + 1)) = omega arith in
    ap (λ (n : ℕ). filter (may_run p l) (range_with_len i n)) more
    ∙ trips_at p l i (length p.trips - (i + 1)) true (eq-eqb _ 1 may)

pub trips_without : (p : Problem) (l i : ℕ) → i < length p.trips → ¬ (Permitted p l i)
    → trips_from p l i ≡ trips_from p l (i + 1)
trips_without p l i lt may_not =
    let more : length p.trips - i ≡ suc (length p.trips - (i + 1)) = omega arith in
    ap (λ (n : ℕ). filter (may_run p l) (range_with_len i n)) more
    ∙ trips_at p l i (length p.trips - (i + 1)) false (ne_eqb _ 1 may_not)

pub trips_end : (p : Problem) (l i : ℕ) → length p.trips ≤ i → trips_from p l i ≡ []
trips_end p l i le =
    let none : length p.trips - i ≡ 0 = omega arith in
    ap (λ (n : ℕ). filter (may_run p l) (range_with_len i n)) none

pub trips_begin : (p : Problem) (l : ℕ) → trips_from p l 0 ≡ permitted_trips p l
trips_begin p l =
    let all : length p.trips - 0 ≡ length p.trips = omega arith in
    ap (λ (n : ℕ). filter (may_run p l) (range_with_len 0 n)) all

-- f gives the first i of the prices
pub record Gives (i : ℕ) (f : ℕ → ℤ) (prices : List ℤ) : Type 0 where
  pub below : (k : ℕ) → k < i → f k ≡ price_of prices k

gives_push : (i : ℕ) (f : ℕ → ℤ) (prices : List ℤ) (x : ℤ) → length prices ≡ i
    → Gives (i + 1) f (prices ++ x ∷ []) → Gives i f prices × (f i ≡ x)
gives_push i f prices x size gives = (
  record { below = λ k lt. gives.below k (omega arith) ∙ get_or_append_left prices (x ∷ []) (pos 0) k (omega arith) },
  gives.below i (omega arith) ∙ get_or_push prices x (pos 0) i size,
)

gives_itself : (i : ℕ) (prices : List ℤ) → Gives i (price_of prices) prices
gives_itself i prices = record { below = λ k lt. refl }

-- the prices of the trips before i are read
pub record PricesSoFar (input : Input) (at l i row : ℕ) (old new : Table) : Type 0 where
  pub into : List ℤ
  pub from : List ℤ
  pub into_is : new.into.items ≡ old.into.items ++ into
  pub from_is : new.from.items ≡ old.from.items ++ from
  pub fleet_is : new.fleet.items ≡ old.fleet.items
  pub ray_is : new.ray ≡ old.ray
  pub into_size : length into ≡ i
  pub from_size : length from ≡ i
  pub into_prices : All IsPrice into
  pub from_prices : All IsPrice from
  pub blank : (k : ℕ) → k < i → ¬ (Permitted input.instance l k) → (price_of into k ≡ pos 0) × (price_of from k ≡ pos 0)
  pub further : at ≤ row
  pub within : row ≤ length input.rest
  -- what stands from here on stands behind what was read
  pub stand : (f g : ℕ → ℤ) (to : ℕ) → Gives i f into → Gives i g from
      → StandFrom input row (price_rows l f g (trips_from input.instance l i)) to
      → StandFrom input at (price_rows l f g (trips_from input.instance l 0)) to
  pub pass : (later : List PriceOf) → PassTo input at (map (Trip l) (trips_from input.instance l 0) ++ later) row
      (map (Trip l) (trips_from input.instance l i) ++ later)

-- a table with one more price for entering and one for leaving a trip
pub record AddsTrip (old new : Table) (into from : ℤ) : Type 0 where
  pub into_is : new.into.items ≡ old.into.items ++ into ∷ []
  pub from_is : new.from.items ≡ old.from.items ++ from ∷ []
  pub fleet_is : new.fleet.items ≡ old.fleet.items
  pub ray_is : new.ray ≡ old.ray

push_on : (xs ys zs old : List ℤ) (x : ℤ) → xs ≡ ys ++ x ∷ [] → ys ≡ old ++ zs → xs ≡ old ++ (zs ++ x ∷ [])
push_on xs ys zs old x e h = e ∙ ap (λ (l : List ℤ). l ++ x ∷ []) h ∙ append_assoc old zs (x ∷ [])

pub zero_price : IsPrice (pos 0)
zero_price = (search rules, search rules)

blank_push : (p : Problem) (l i : ℕ) (into from : List ℤ) (a b : ℤ) → length into ≡ i → length from ≡ i
    → ((k : ℕ) → k < i → ¬ (Permitted p l k) → (price_of into k ≡ pos 0) × (price_of from k ≡ pos 0))
    → (¬ (Permitted p l i) → (a ≡ pos 0) × (b ≡ pos 0))
    → (k : ℕ) → k < i + 1 → ¬ (Permitted p l k) → (price_of (into ++ a ∷ []) k ≡ pos 0)
    × (price_of (from ++ b ∷ []) k ≡ pos 0)
blank_push p l i into from a b into_size from_size blank last k lt may_not = elim (cases_lt k i) [
  | inl below ↦ let h = blank k below may_not in (
    get_or_append_left into (a ∷ []) (pos 0) k (omega arith) ∙ h.0,
    get_or_append_left from (b ∷ []) (pos 0) k (omega arith) ∙ h.1,
  )
  | inr above ↦
      let here : k ≡ i = omega arith in
      let P : ℕ → Type 0 = λ n. ¬ (Permitted p l n) in
      let h = last (subst P here may_not) in
      (get_or_push into a (pos 0) k (omega arith) ∙ h.0, get_or_push from b (pos 0) k (omega arith) ∙ h.1)
]

module _ (input : Input) (at l i row : ℕ) (old table new : Table) (s : PricesSoFar input at l i row old table)
    (lt : i < length input.instance.trips) where
  -- a trip that the layer may not run, which has no row
  pub prices_without : ¬ (Permitted input.instance l i) → AddsTrip table new (pos 0) (pos 0)
      → PricesSoFar input at l (i + 1) row old new
  prices_without may_not adds =
      let here = trips_without input.instance l i lt may_not in
      record {
        into = s.into ++ pos 0 ∷ [];
        from = s.from ++ pos 0 ∷ [];
        into_is = push_on new.into.items table.into.items s.into old.into.items (pos 0) adds.into_is s.into_is;
        from_is = push_on new.from.items table.from.items s.from old.from.items (pos 0) adds.from_is s.from_is;
        fleet_is = adds.fleet_is ∙ s.fleet_is;
        ray_is = adds.ray_is ∙ s.ray_is;
        into_size = omega (arith, s.into_size, length_push s.into (pos 0));
        from_size = omega (arith, s.from_size, length_push s.from (pos 0));
        into_prices = All-push IsPrice s.into (pos 0) s.into_prices zero_price;
        from_prices = All-push IsPrice s.from (pos 0) s.from_prices zero_price;
        blank = blank_push input.instance l i s.into s.from (pos 0) (pos 0) s.into_size s.from_size s.blank
            (λ _. (refl, refl));
        further = s.further;
        within = s.within;
        stand = λ f g to gives_f gives_g rest.
            let P : List ℕ → Type 0 = λ trips. StandFrom input row (price_rows l f g trips) to in
            s.stand f g to (gives_push i f s.into (pos 0) s.into_size gives_f).0
            (gives_push i g s.from (pos 0) s.from_size gives_g).0 (subst P (sym here) rest);
        pass = λ later.
            let P : List ℕ → Type 0 = λ trips.
            PassTo input at (map (Trip l) (trips_from input.instance l 0) ++ later) row
            (map (Trip l) trips ++ later) in
            subst P here (s.pass later);
      }

  -- a trip that the layer may run, with its row
  pub prices_with : (a b : ℤ) → Permitted input.instance l i → ReadsPrice input row l i (a, b) → AddsTrip table new a b
      → PricesSoFar input at l (i + 1) (row + 1) old new
  prices_with a b may r adds =
      let here = trips_with input.instance l i lt may in
      record {
        into = s.into ++ a ∷ [];
        from = s.from ++ b ∷ [];
        into_is = push_on new.into.items table.into.items s.into old.into.items a adds.into_is s.into_is;
        from_is = push_on new.from.items table.from.items s.from old.from.items b adds.from_is s.from_is;
        fleet_is = adds.fleet_is ∙ s.fleet_is;
        ray_is = adds.ray_is ∙ s.ray_is;
        into_size = omega (arith, s.into_size, length_push s.into a);
        from_size = omega (arith, s.from_size, length_push s.from b);
        into_prices = All-push IsPrice s.into a s.into_prices r.into_price;
        from_prices = All-push IsPrice s.from b s.from_prices r.from_price;
        blank = blank_push input.instance l i s.into s.from a b s.into_size s.from_size s.blank
            (λ may_not. absurd (may_not may));
        further = omega (arith, s.further);
        within = omega (arith, r.here);
        stand = λ f g to gives_f gives_g rest.
            let fs = gives_push i f s.into a s.into_size gives_f in
            let gs = gives_push i g s.from b s.from_size gives_g in
            let rows : List DocumentRow = price_rows l f g (trips_from input.instance l (i + 1)) in
            let A : ℤ → Type 0 = λ x. StandFrom input row (PriceRow l i x b ∷ rows) to in
            let B : ℤ → Type 0 = λ x. StandFrom input row (PriceRow l i (f i) x ∷ rows) to in
            let P : List ℕ → Type 0 = λ trips. StandFrom input row (price_rows l f g trips) to in
            s.stand f g to fs.0 gs.0 (subst P (sym here) (subst B (sym gs.1) (subst A (sym fs.1)
            (r.here, r.says, rest))));
        pass = λ later.
            let P : List ℕ → Type 0 = λ trips.
            PassTo input at (map (Trip l) (trips_from input.instance l 0) ++ later) row
            (map (Trip l) trips ++ later) in
            let one = subst P here (s.pass later) in
            let two = passes_price input row l i (a, b) r
            (map (Trip l) (trips_from input.instance l (i + 1)) ++ later) in
            record { wrong = λ e is. one.wrong e (two.wrong e is) };
      }

  -- what is wrong in the place of that row
  pub prices_wrong : (e : TableError) (later : List PriceOf) → Permitted input.instance l i
      → ((behind : List PriceOf) → IsWrongAt input row (Trip l i ∷ behind) e)
      → IsWrongAt input at (map (Trip l) (permitted_trips input.instance l) ++ later) e
  prices_wrong e later may wrong =
      let here = trips_with input.instance l i lt may in
      let P : List ℕ → Type 0 = λ trips. IsWrongAt input row (map (Trip l) trips ++ later) e in
      let Q : List ℕ → Type 0 = λ trips. IsWrongAt input at (map (Trip l) trips ++ later) e in
      subst Q (trips_begin input.instance l)
      ((s.pass later).wrong e
      (subst P (sym here) (wrong (map (Trip l) (trips_from input.instance l (i + 1)) ++ later))))

pub prices_end : (input : Input) (at l i row : ℕ) (old new : Table) → PricesSoFar input at l i row old new
    → i ≡ length input.instance.trips → ReadsPrices input at l row old new
prices_end input at l i row old new s all =
    let none : trips_from input.instance l i ≡ [] = trips_end input.instance l i (omega arith) in
    let begin = trips_begin input.instance l in
    record {
      into = s.into;
      from = s.from;
      adds = record {
        into_is = s.into_is;
        from_is = s.from_is;
        into_size = s.into_size ∙ all;
        from_size = s.from_size ∙ all;
        into_prices = s.into_prices;
        from_prices = s.from_prices;
        blank = λ k lt. s.blank k (omega arith);
        ray_is = s.ray_is;
      };
      fleet_is = s.fleet_is;
      further = s.further;
      stand =
          let f = price_of s.into in
          let g = price_of s.from in
          let P : List ℕ → Type 0 = λ trips. StandFrom input row (price_rows l f g trips) row in
          let Q : List ℕ → Type 0 = λ trips. StandFrom input at (price_rows l f g trips) row in
          subst Q begin
          (s.stand f g row (gives_itself i s.into) (gives_itself i s.from) (subst P (sym none) (refl, s.within)));
      pass = λ later.
          let P : List ℕ → Type 0 = λ trips.
          PassTo input at (map (Trip l) (trips_from input.instance l 0) ++ later) row
          (map (Trip l) trips ++ later) in
          let Q : List ℕ → Type 0 = λ trips. PassTo input at (map (Trip l) trips ++ later) row later in
          subst Q begin (subst P none (s.pass later));
    }

pub not_permitted : (p : Problem) (l i : ℕ) (trip : TripOf) (may : Bool) → trip ≡ trip_of p i → may ≡ false
    → (may ≡ true) ↔ Has trip.layers l → ¬ (Permitted p l i)
not_permitted p l i trip may is none iff h =
    let P : TripOf → Type 0 = λ t. Has t.layers l in
    false≢true (sym none ∙ iff.1 (subst P (sym is) h))

pub is_permitted : (p : Problem) (l i : ℕ) (trip : TripOf) (may : Bool) → trip ≡ trip_of p i → may ≡ true
    → (may ≡ true) ↔ Has trip.layers l → Permitted p l i
is_permitted p l i trip may is some iff = let P : TripOf → Type 0 = λ t. Has t.layers l in subst P is (iff.0 some)

-- what is pushed as a number of 64 bits is the price
pub pushed : (xs old : List ℤ) (x a : ℤ) → xs ≡ old ++ to_z w64 (of_z w64 x) ∷ [] → x ≡ a → IsPrice a
    → xs ≡ old ++ a ∷ []
pushed xs old x a e same price =
    e ∙ ap (λ (y : ℤ). old ++ to_z w64 (of_z w64 y) ∷ []) same ∙ ap (λ (y : ℤ). old ++ y ∷ []) (as_word a price)
