use Rattle.std.proofs.Common.{◌≡◌, [], ◌++◌, length, take, cond, eqb}
use Rattle.std.specs.Prelude.{flat_map}
use Rattle.std.specs.List.{range_with_len}
use Rattle.std.specs.Int.{bit_at}
use Rattle.vs_instance.specs.Ways.{trip_of}
use Rattle.vs_prices.specs.Table.{into_price, from_price}
use Rattle.vs_reader.specs.Rows.{line}
use Rattle.vs_rows.specs.DocumentRows.{PriceRow, written_row}
use Rattle.vs_rows.proofs.writing.prices.write_layer.Given as goal

-- the prices so far are written
abbrev pub invariant-loop-i : goal.invariant-loop-i
invariant-loop-i l = l.text ≡ l.initial.text
    ++ flat_map
    (λ k. cond (eqb (bit_at (trip_of l.instance k).layers.0 l.l.0) 1)
    (line (written_row l.names (PriceRow l.l.0 k (into_price l.instance l.table l.l.0 k)
    (from_price l.instance l.table l.l.0 k)))) [])
    (take l.i (range_with_len 0 (length l.instance.trips)))
