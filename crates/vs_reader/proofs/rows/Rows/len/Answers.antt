use Rattle.std.proofs.Common.{length, ap, arith}
use Rattle.vs_reader.proofs.places.RowPlaces.{length-rows}
use Rattle.vs_reader.proofs.rows.Rows.len.Goals as goal

pub returns : goal.returns
returns c =
    let i = c.self.inside in
    omega (
      arith,
      c.len.ensures,
      i.row_ends.ok.0,
      length-rows i.bytes.items i.field_ends.items i.row_ends.items c.self.invariant,
      ap length c.self.view_is,
    )
