-- The prices of a table that are read layer by layer.
use Rattle.std.proofs.Common.{◌≡◌, ℕ, suc, ◌+◌, ◌-◌, ◌*◌, ◌<◌, ◌≤◌, Bool, List, [], ◌∷◌, ◌++◌, length, map, drop, take, refl, sym, ap, ◌∙◌, subst, inl, inr, arith, ℤ, pos, All, flat_map, length-append}
use Rattle.std.specs.List.{range_with_len}
use Rattle.std.proofs.lemmas.Bool.{cases_lt}
use Rattle.std.proofs.lemmas.List.{get_or_at, length_push, append-nil, append_assoc, drop_at, take_at, drop-append-le, take-append-le, length-drop}
use Rattle.std.proofs.lemmas.List.Elements.{All-push, All-append}
use Rattle.std.proofs.lemmas.Nat.{row_fits}
use Rattle.vs_instance.specs.Problem.{Problem}
use Rattle.vs_instance.specs.Ways.{Permitted}
use Rattle.vs_instance.specs.HoldingTable.{price_of}
use Rattle.vs_prices.specs.declared.table.Table.{Table}
use Rattle.vs_prices.specs.Table.{IsPrice, prices_in}
use Rattle.vs_reader.specs.declared.input.Input.{Input}
use Rattle.vs_rows.specs.declared.wrong.TableError.{TableError}
use Rattle.vs_rows.specs.declared.wrong.TableError.TheVariants as error
use Rattle.vs_rows.specs.DocumentRows.{DocumentRow, FleetRow, TableRow, layer_rows, permitted_trips}
use Rattle.vs_rows.specs.PriceOrder.{PriceOf, Trip, Vehicle, prices_from, prices_of}
use Rattle.vs_rows.specs.TableReading.{IsNoTable, IsWrongAt, PassTo, ReadsFleet, ReadsKind, ReadsLayer, ReadsPrices, ReadsTable, price_rows}
use Rattle.vs_rows.specs.Standing.{StandFrom}
use Rattle.vs_rows.proofs.tables.Passing.{passes_fleet}
use Rattle.vs_rows.proofs.tables.Standing.{stand_on, stand_within}

-- the rows of prices from a layer on, and from the first
pub prices_at : (p : Problem) (l : ℕ) → l < length p.layers
    → prices_from p l ≡ Vehicle l ∷ (map (Trip l) (permitted_trips p l) ++ prices_from p (l + 1))
prices_at p l lt =
    let more : length p.layers - l ≡ suc (length p.layers - (l + 1)) = omega arith in
    ap (λ (n : ℕ). flat_map (λ (k : ℕ). Vehicle k ∷ map (Trip k) (permitted_trips p k)) (range_with_len l n)) more

pub prices_begin : (p : Problem) → prices_from p 0 ≡ prices_of p
prices_begin p =
    let all : length p.layers - 0 ≡ length p.layers = omega arith in
    ap (λ (n : ℕ). flat_map (λ (k : ℕ). Vehicle k ∷ map (Trip k) (permitted_trips p k)) (range_with_len 0 n)) all

-- the fleet row of a layer, and then its prices
pub layer_read : (input : Input) (at l to : ℕ) (old middle new : Table) (price : ℤ) → l < length input.instance.layers
    → ReadsFleet input at l price
    → middle.into.items ≡ old.into.items → middle.from.items ≡ old.from.items → middle.ray ≡ old.ray
    → middle.fleet.items ≡ old.fleet.items ++ price ∷ [] → ReadsPrices input (at + 1) l to middle new
    → ReadsLayer input at l to old new
layer_read input at l to old middle new price lt r into from ray fleet s =
    let here = prices_at input.instance l lt in
    record {
      into = s.into;
      from = s.from;
      fleet = price;
      adds = record {
        into_is = s.adds.into_is ∙ ap (λ (xs : List ℤ). xs ++ s.into) into;
        from_is = s.adds.from_is ∙ ap (λ (xs : List ℤ). xs ++ s.from) from;
        into_size = s.adds.into_size;
        from_size = s.adds.from_size;
        into_prices = s.adds.into_prices;
        from_prices = s.adds.from_prices;
        blank = s.adds.blank;
        ray_is = s.adds.ray_is ∙ ray;
      };
      fleet_is = s.fleet_is ∙ fleet;
      fleet_price = r.is_price;
      further = omega (arith, s.further);
      stand = (r.here, r.says, s.stand);
      pass =
          let later = prices_from input.instance (l + 1) in
          let P : List PriceOf → Type 0 = λ prices. PassTo input at prices to later in
          let one = passes_fleet input at l price r (map (Trip l) (permitted_trips input.instance l) ++ later) in
          let two = s.pass later in
          subst P (sym here) (record { wrong = λ e is. one.wrong e (two.wrong e is) });
    }

-- what is wrong in the first row of a layer, and behind it
pub layer_wrong : (input : Input) (at l : ℕ) (e : TableError) → l < length input.instance.layers
    → ((later : List PriceOf) → IsWrongAt input at (Vehicle l ∷ later) e)
    → IsWrongAt input at (prices_from input.instance l) e
layer_wrong input at l e lt wrong =
    let P : List PriceOf → Type 0 = λ prices. IsWrongAt input at prices e in
    subst P (sym (prices_at input.instance l lt))
    (wrong (map (Trip l) (permitted_trips input.instance l) ++ prices_from input.instance (l + 1)))

pub layer_wrong_behind : (input : Input) (at l : ℕ) (price : ℤ) (e : TableError) → l < length input.instance.layers
    → ReadsFleet input at l price
    → ((later : List PriceOf)
    → IsWrongAt input (at + 1) (map (Trip l) (permitted_trips input.instance l) ++ later) e)
    → IsWrongAt input at (prices_from input.instance l) e
layer_wrong_behind input at l price e lt r wrong =
    let later = map (Trip l) (permitted_trips input.instance l) ++ prices_from input.instance (l + 1) in
    let P : List PriceOf → Type 0 = λ prices. IsWrongAt input at prices e in
    subst P (sym (prices_at input.instance l lt))
    ((passes_fleet input at l price r later).wrong e (wrong (prices_from input.instance (l + 1))))

-- the prices of layer k among those of all layers
abbrev pub of_layer : Problem → List ℤ → ℕ → ℕ → ℤ
of_layer p prices k = price_of (prices_in p k prices)

-- the prices of layer l, which stand after those of the layers before it
pub prices_in_middle : (p : Problem) (l : ℕ) (before prices after : List ℤ) → length before ≡ l * length p.trips
    → length prices ≡ length p.trips
    → prices_in p l (before ++ (prices ++ after)) ≡ prices
prices_in_middle p l before prices after size one =
    let width : l * length p.trips + length p.trips - l * length p.trips ≡ length p.trips = omega arith in
    ap (λ (n : ℕ). take n (drop (l * length p.trips) (before ++ (prices ++ after)))) width
    ∙ ap (take (length p.trips)) (drop_at before (prices ++ after) (l * length p.trips) size)
    ∙ take_at prices after (length p.trips) one

-- the prices of an earlier layer stay as they are
earlier : (p : Problem) (k l : ℕ) (old new : List ℤ) → k < l → length old ≡ l * length p.trips
    → prices_in p k (old ++ new) ≡ prices_in p k old
earlier p k l old new lt size =
    let fits : k * length p.trips + length p.trips ≤ l * length p.trips =
    row_fits k (length p.trips) l (length p.trips) lt (omega arith) in
    ap (take (k * length p.trips + length p.trips - k * length p.trips))
    (drop-append-le (k * length p.trips) old new (omega arith))
    ∙ take-append-le (k * length p.trips + length p.trips - k * length p.trips) (drop (k * length p.trips) old) new
    (omega (arith, length-drop (k * length p.trips) old))

last_layer : (p : Problem) (l : ℕ) (old prices : List ℤ) → length old ≡ l * length p.trips
    → length prices ≡ length p.trips → prices_in p l (old ++ prices) ≡ prices
last_layer p l old prices size one =
    ap (λ (xs : List ℤ). prices_in p l (old ++ xs)) (sym (append-nil prices))
    ∙ prices_in_middle p l old prices [] size one

blank_more : (p : Problem) (l : ℕ) (old prices : List ℤ) → length old ≡ l * length p.trips
    → length prices ≡ length p.trips
    → ((k i : ℕ) → k < l → i < length p.trips → ¬ (Permitted p k i) → of_layer p old k i ≡ pos 0)
    → ((i : ℕ) → i < length p.trips → ¬ (Permitted p l i) → price_of prices i ≡ pos 0)
    → (k i : ℕ) → k < l + 1 → i < length p.trips → ¬ (Permitted p k i) → of_layer p (old ++ prices) k i ≡ pos 0
blank_more p l old prices size one before here k i lt within may_not = elim (cases_lt k l) [
  | inl below ↦
      ap (λ (xs : List ℤ). price_of xs i) (earlier p k l old prices below size) ∙ before k i below within may_not
  | inr above ↦
      let same : k ≡ l = omega arith in
      let P : ℕ → Type 0 = λ n. ¬ (Permitted p n i) in
      ap (λ (n : ℕ). of_layer p (old ++ prices) n i) same
      ∙ ap (λ (xs : List ℤ). price_of xs i) (last_layer p l old prices size one)
      ∙ here i within (subst P same may_not)
]

-- the rows of the layers from l on
abbrev pub layers_rows : Problem → Table → ℕ → List DocumentRow
layers_rows p t l = flat_map (layer_rows p t) (range_with_len l (length p.layers - l))

layers_at : (p : Problem) (t : Table) (l : ℕ) → l < length p.layers
    → layers_rows p t l ≡ layer_rows p t l ++ layers_rows p t (l + 1)
layers_at p t l lt =
    let more : length p.layers - l ≡ suc (length p.layers - (l + 1)) = omega arith in
    ap (λ (n : ℕ). flat_map (layer_rows p t) (range_with_len l n)) more

layers_over : (p : Problem) (t : Table) (l : ℕ) → length p.layers ≤ l → layers_rows p t l ≡ []
layers_over p t l le =
    let none : length p.layers - l ≡ 0 = omega arith in
    ap (λ (n : ℕ). flat_map (layer_rows p t) (range_with_len l n)) none

layers_begin : (p : Problem) (t : Table) → layers_rows p t 0
    ≡ flat_map (layer_rows p t) (range_with_len 0 (length p.layers))
layers_begin p t =
    let all : length p.layers - 0 ≡ length p.layers = omega arith in
    ap (λ (n : ℕ). flat_map (layer_rows p t) (range_with_len 0 n)) all

-- the table has these prices, and perhaps more behind them
pub record Extends (table t : Table) : Type 0 where
  pub into : List ℤ
  pub from : List ℤ
  pub fleet : List ℤ
  pub into_is : t.into.items ≡ table.into.items ++ into
  pub from_is : t.from.items ≡ table.from.items ++ from
  pub fleet_is : t.fleet.items ≡ table.fleet.items ++ fleet

extends_itself : (table : Table) → Extends table table
extends_itself table = record {
  into = [];
  from = [];
  fleet = [];
  into_is = sym (append-nil table.into.items);
  from_is = sym (append-nil table.from.items);
  fleet_is = sym (append-nil table.fleet.items);
}

abbrev extends_more : (old new t : Table) (into from fleet : List ℤ) → new.into.items ≡ old.into.items ++ into
    → new.from.items ≡ old.from.items ++ from → new.fleet.items ≡ old.fleet.items ++ fleet → Extends new t
    → Extends old t
extends_more old new t into from fleet a b c s = record {
  into = into ++ s.into;
  from = from ++ s.from;
  fleet = fleet ++ s.fleet;
  into_is = s.into_is ∙ ap (λ (xs : List ℤ). xs ++ s.into) a ∙ append_assoc old.into.items into s.into;
  from_is = s.from_is ∙ ap (λ (xs : List ℤ). xs ++ s.from) b ∙ append_assoc old.from.items from s.from;
  fleet_is = s.fleet_is ∙ ap (λ (xs : List ℤ). xs ++ s.fleet) c ∙ append_assoc old.fleet.items fleet s.fleet;
}

-- the layers before l are read
pub record LayersSoFar (input : Input) (at l row : ℕ) (ray : Bool) (table : Table) : Type 0 where
  pub into_size : length table.into.items ≡ l * length input.instance.trips
  pub from_size : length table.from.items ≡ l * length input.instance.trips
  pub fleet_size : length table.fleet.items ≡ l
  pub into_prices : All IsPrice table.into.items
  pub from_prices : All IsPrice table.from.items
  pub fleet_prices : All IsPrice table.fleet.items
  pub blank : (k i : ℕ) → k < l → i < length input.instance.trips → ¬ (Permitted input.instance k i)
      → (of_layer input.instance table.into.items k i ≡ pos 0) × (of_layer input.instance table.from.items k i ≡ pos 0)
  pub ray_is : table.ray ≡ ray
  pub further : at ≤ row
  pub within : row ≤ length input.rest
  pub stand : (t : Table) (to : ℕ) → Extends table t → StandFrom input row (layers_rows input.instance t l) to
      → StandFrom input at (layers_rows input.instance t 0) to
  pub pass : PassTo input at (prices_from input.instance 0) row (prices_from input.instance l)

-- the rows of a layer by the prices that were read for it
layer_rows_are : (p : Problem) (t : Table) (l : ℕ) (into from : List ℤ) (fleet : ℤ) → prices_in p l t.into.items ≡ into
    → prices_in p l t.from.items ≡ from → price_of t.fleet.items l ≡ fleet
    → FleetRow l fleet ∷ price_rows l (price_of into) (price_of from) (permitted_trips p l) ≡ layer_rows p t l
layer_rows_are p t l into from fleet a b c =
    ap (λ (x : ℤ). FleetRow l x ∷ price_rows l (price_of into) (price_of from) (permitted_trips p l)) (sym c)
    ∙ ap (λ (xs : List ℤ). FleetRow l (price_of t.fleet.items l)
    ∷ price_rows l (price_of xs) (price_of from) (permitted_trips p l)) (sym a)
    ∙ ap (λ (xs : List ℤ). FleetRow l (price_of t.fleet.items l)
    ∷ price_rows l (of_layer p t.into.items l) (price_of xs) (permitted_trips p l)) (sym b)

pub layers_more : (input : Input) (at l row next : ℕ) (ray : Bool) (old new : Table)
    → LayersSoFar input at l row ray old
    → l < length input.instance.layers → ReadsLayer input row l next old new
    → LayersSoFar input at (l + 1) next ray new
layers_more input at l row next ray old new s lt r =
    let p = input.instance in
    let All_prices : List ℤ → Type 0 = λ xs. All IsPrice xs in
    let into_blank =
    blank_more p l old.into.items r.into s.into_size r.adds.into_size (λ k i a b c. (s.blank k i a b c).0)
    (λ i a b. (r.adds.blank i a b).0) in
    let from_blank =
    blank_more p l old.from.items r.from s.from_size r.adds.from_size (λ k i a b c. (s.blank k i a b c).1)
    (λ i a b. (r.adds.blank i a b).1) in
    record {
      into_size =
          omega (arith, ap length r.adds.into_is, length-append old.into.items r.into, s.into_size, r.adds.into_size);
      from_size =
          omega (arith, ap length r.adds.from_is, length-append old.from.items r.from, s.from_size, r.adds.from_size);
      fleet_size = omega (arith, ap length r.fleet_is, length_push old.fleet.items r.fleet, s.fleet_size);
      into_prices =
          subst All_prices (sym r.adds.into_is)
          (All-append IsPrice old.into.items r.into s.into_prices r.adds.into_prices);
      from_prices =
          subst All_prices (sym r.adds.from_is)
          (All-append IsPrice old.from.items r.from s.from_prices r.adds.from_prices);
      fleet_prices =
          subst All_prices (sym r.fleet_is) (All-push IsPrice old.fleet.items r.fleet s.fleet_prices r.fleet_price);
      blank = λ k i a b c. (
        ap (λ (xs : List ℤ). of_layer p xs k i) r.adds.into_is ∙ into_blank k i a b c,
        ap (λ (xs : List ℤ). of_layer p xs k i) r.adds.from_is ∙ from_blank k i a b c,
      );
      ray_is = r.adds.ray_is ∙ s.ray_is;
      further = omega (arith, s.further, r.further);
      within =
          stand_within input (FleetRow l r.fleet ∷ price_rows l (price_of r.into) (price_of r.from)
          (permitted_trips p l)) row next r.stand;
      stand = λ t to ext rest.
          let before = extends_more old new t r.into r.from
          (r.fleet ∷ []) r.adds.into_is r.adds.from_is r.fleet_is ext in
          let into_is : prices_in p l t.into.items ≡ r.into =
          ap (prices_in p l) before.into_is ∙ prices_in_middle p l old.into.items r.into ext.into s.into_size
          r.adds.into_size in
          let from_is : prices_in p l t.from.items ≡ r.from =
          ap (prices_in p l) before.from_is ∙ prices_in_middle p l old.from.items r.from ext.from s.from_size
          r.adds.from_size in
          let fleet_is : price_of t.fleet.items l ≡ r.fleet =
          ap (λ (xs : List ℤ). price_of xs l) before.fleet_is
          ∙ get_or_at old.fleet.items r.fleet ext.fleet (pos 0) l s.fleet_size in
          let later = layers_rows p t (l + 1) in
          let P : List DocumentRow → Type 0 = λ rows. StandFrom input row rows to in
          let rows : List DocumentRow =
          FleetRow l r.fleet ∷ price_rows l (price_of r.into) (price_of r.from) (permitted_trips p l) in
          s.stand t to before
          (subst P
          (ap (λ (rows : List DocumentRow). rows ++ later)
          (layer_rows_are p t l r.into r.from r.fleet into_is from_is fleet_is)
          ∙ sym (layers_at p t l lt))
          (stand_on input rows later row next to r.stand rest));
      pass = record { wrong = λ e is. s.pass.wrong e (r.pass.wrong e is) };
    }

-- what is wrong in a layer that comes next
no_table_of : (input : Input) (at n : ℕ) (ray : Bool) (e : TableError) → ReadsKind input at n ray
    → IsWrongAt input (at + 1) (prices_of input.instance) e → IsNoTable input at n e
no_table_of input at n ray (error.Prices row why) kind wrong = (ray, kind, wrong)
no_table_of input at n ray error.NoTable kind wrong = absurd wrong
no_table_of input at n ray error.Number kind wrong = absurd wrong
no_table_of input at n ray error.Memory kind wrong = tt

pub layers_wrong : (input : Input) (at l row n : ℕ) (ray kind : Bool) (table : Table) (e : TableError)
    → ReadsKind input at n kind → LayersSoFar input (at + 1) l row ray table
    → IsWrongAt input row (prices_from input.instance l) e → IsNoTable input at n e
layers_wrong input at l row n ray kind table e reads s wrong =
    let P : List PriceOf → Type 0 = λ prices. IsWrongAt input (at + 1) prices e in
    no_table_of input at n kind e reads (subst P (prices_begin input.instance) (s.pass.wrong e wrong))

pub table_read : (input : Input) (at l row n : ℕ) (ray : Bool) (table : Table) → ReadsKind input at n ray
    → LayersSoFar input (at + 1) l row ray table → l ≡ length input.instance.layers → ReadsTable input at n row table
table_read input at l row n ray table kind s all =
    let p = input.instance in
    record {
      fits = record {
        into_size = s.into_size ∙ ap (λ (k : ℕ). k * length p.trips) all;
        from_size = s.from_size ∙ ap (λ (k : ℕ). k * length p.trips) all;
        fleet_size = s.fleet_size ∙ all;
        into = s.into_prices;
        from = s.from_prices;
        fleet = s.fleet_prices;
      };
      blank = λ k i lt. s.blank k i (omega arith);
      number = kind.number;
      further = omega (arith, s.further);
      stand =
          let Rest : List DocumentRow → Type 0 = λ rows. StandFrom input row rows row in
          let Whole : List DocumentRow → Type 0 = λ rows. StandFrom input (at + 1) rows row in
          let Kind : Bool → Type 0 = λ b. StandFrom input at
          (TableRow (n + 1) b ∷ flat_map (layer_rows p table) (range_with_len 0 (length p.layers))) row in
          subst Kind (sym s.ray_is) (
            kind.here,
            kind.says,
            subst Whole (layers_begin p table)
                (s.stand table row (extends_itself table)
                (subst Rest (sym (layers_over p table l (omega arith))) (refl, s.within))),
          );
    }

-- the kind of the table is the one that it began with
pub of_kind : (input : Input) (at l row : ℕ) (ray other : Bool) (table : Table) → ray ≡ other
    → LayersSoFar input at l row ray table → LayersSoFar input at l row other table
of_kind input at l row ray other table same s =
    let P : Bool → Type 0 = λ b. LayersSoFar input at l row b table in subst P same s
