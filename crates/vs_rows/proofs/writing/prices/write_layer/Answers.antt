use Rattle.std.proofs.Common.{◌≡◌, ℕ, ◌+◌, ◌*◌, ◌<◌, Bool, cond, eqb, List, ◌∷◌, [], ◌++◌, length, get_or, sym, ap, ◌∙◌, arith, rules}
use Rattle.std.specs.Prelude.{flat_map, filter, codes, pos, ℤ}
use Rattle.std.specs.Fmt.{signed_decimal}
use Rattle.std.specs.List.{range_with_len}
use Rattle.std.specs.Int.{bit_at}
use Rattle.std.proofs.lemmas.Bool.{eq-eqb, ne_eqb, false≢true}
use Rattle.std.proofs.lemmas.List.{append_assoc, append-nil, get_or_default}
use Rattle.std.proofs.lemmas.Int.{to_z-of_z}
use mir.Val.{SFits, to_z, of_z}
use mir.Syntax.{w64}
use Rattle.vs_instance.specs.Ways.{trip_of}
use Rattle.vs_instance.specs.HoldingTable.{price_of}
use Rattle.vs_prices.specs.Table.{prices_in, into_price, from_price}
use Rattle.vs_reader.specs.Rows.{Row, line}
use Rattle.vs_rows.specs.DocumentRows.{DocumentRow, PriceRow, written_row}
use Rattle.vs_reader.specs.Names.{name_of}
use Rattle.vs_rows.proofs.written.WrittenParts.{written-map}
use Rattle.vs_rows.proofs.written.WrittenRows.{flat_map-filter, numbered_more, numbered_all, price_read}
use Rattle.vs_rows.proofs.writing.prices.write_layer.Goals as goal
use Rattle.vs_rows.proofs.writing.prices.write_layer.Goals.{then-has+in_ok-write_price, else-has}

pub loop-i-preserved : goal.loop-i-preserved
loop-i-preserved c =
    let p = c.args.instance.now in let names = c.args.names.now in let table = c.args.table.now in let l = c.args.l.0 in
    let i = c.loop-i.i in let text = c.loop-i.text in
    let n = length p.trips in
    let bytes : ℕ → List ℕ = λ k. line (written_row names (PriceRow l k (into_price p table l k)
    (from_price p table l k))) in
    let written : ℕ → List ℕ = λ k. cond (eqb (bit_at (trip_of p k).layers.0 l) 1) (bytes k) [] in
    let bit : bit_at c.trip.result.now.layers.0 l ≡ bit_at (trip_of p i).layers.0 l =
    ap (λ t. bit_at t.layers.0 l) c.trip.ensures in
    let within : i < n = omega (arith, c.trips-trips.ensures.count) in
    let after : c.if-has.text ≡ text ++ written i =
    elim c.if-has.branch [
      | then-has+in_ok-write_price w ↦
          let has : bit_at (trip_of p i).layers.0 l ≡ 1 = sym bit ∙ c.has.ensures.0 w.if-has.true in
          let a = w.index-into.result.now in let b = w.index-from.result.now in
          let a_fits : SFits w64 a = search rules in
          let b_fits : SFits w64 b = search rules in
          let place : l * c.trips-trips.result + i ≡ l * n + i = ap (λ m. l * m + i) c.trips-trips.ensures.count in
          let into : to_z w64 (of_z w64 a) ≡ price_of (prices_in p l table.into.items) i =
          to_z-of_z w64 a a_fits
          ∙ price_read table.into.items l (length p.layers) n i a
          (pos 0) c.requires.fits.into_size c.requires.layer within
          (w.index-into.ensures ∙ ap (λ k. get_or table.into.items k a) place) in
          let from : to_z w64 (of_z w64 b) ≡ price_of (prices_in p l table.from.items) i =
          to_z-of_z w64 b b_fits
          ∙ price_read table.from.items l (length p.layers) n i b
          (pos 0) c.requires.fits.from_size c.requires.layer within
          (w.index-from.ensures ∙ ap (λ k. get_or table.from.items k b) place) in
          w.text-is ∙ w.in_ok-write_price.ensures
          ∙ ap (λ (z : ℤ). text
          ++ line (codes "price" ∷ name_of names.layers l ∷ name_of names.trips i ∷ signed_decimal z
          ∷ signed_decimal (to_z w64 (of_z w64 b)) ∷ [])) into
          ∙ ap (λ (z : ℤ). text
          ++ line (codes "price" ∷ name_of names.layers l ∷ name_of names.trips i
          ∷ signed_decimal (price_of (prices_in p l table.into.items) i) ∷ signed_decimal z ∷ [])) from
          ∙ sym (ap (λ t. text ++ cond t (bytes i) []) (eq-eqb (bit_at (trip_of p i).layers.0 l) 1 has))
      | else-has w ↦
          let other : bit_at (trip_of p i).layers.0 l ≡ 1 → ⊥ =
          λ has. false≢true (sym w.if-has.false ∙ c.has.ensures.1 (bit ∙ has)) in
          w.text-is
          ∙ sym (ap (λ t. text ++ cond t (bytes i) []) (ne_eqb (bit_at (trip_of p i).layers.0 l) 1 other)
          ∙ append-nil text)
    ] in
    numbered_more written c.write_fleet.new.text text c.if-has.text n i within c.loop-i.invariant after

pub returns : goal.returns
returns c =
    let p = c.args.instance.now in let names = c.args.names.now in let table = c.args.table.now in let l = c.args.l.0 in
    let n = length p.trips in
    let has : ℕ → Bool = λ k. eqb (bit_at (trip_of p k).layers.0 l) 1 in
    let bytes : ℕ → List ℕ = λ k. line (written_row names (PriceRow l k (into_price p table l k)
    (from_price p table l k))) in
    let trips = filter has (range_with_len 0 n) in
    let price : ℕ → DocumentRow = λ k. PriceRow l k (into_price p table l k) (from_price p table l k) in
    let fleet : Row = codes "fleet" ∷ name_of names.layers l ∷ signed_decimal (price_of table.fleet.items l) ∷ [] in
    let fits : SFits w64 c.index.result.now = search rules in
    let within : l < length table.fleet.items = omega (arith, c.requires.fits.fleet_size, c.requires.layer) in
    let fleet_is : to_z w64 (of_z w64 c.index.result.now) ≡ price_of table.fleet.items l =
    to_z-of_z w64 c.index.result.now fits ∙ c.index.ensures
    ∙ get_or_default table.fleet.items l c.index.result.now (pos 0) within in
    let first : c.write_fleet.new.text ≡ c.args.text.now ++ line fleet =
    c.in_ok-write_fleet.ensures
    ∙ ap (λ (z : ℤ). c.args.text.now ++ line (codes "fleet" ∷ name_of names.layers l ∷ signed_decimal z ∷ []))
    fleet_is in
    numbered_all (λ k. cond (has k) (bytes k) []) c.write_fleet.new.text c.loop-i.text n c.loop-i.i
    (omega (arith, c.trips-trips.ensures.count)) c.loop-i.invariant
    ∙ ap (λ rest. c.write_fleet.new.text ++ rest) (flat_map-filter has bytes (range_with_len 0 n))
    ∙ ap (λ text. text ++ flat_map bytes trips) first
    ∙ append_assoc c.args.text.now (line fleet) (flat_map bytes trips)
    ∙ ap (λ rest. c.args.text.now ++ (line fleet ++ rest)) (sym (written-map names price trips))
