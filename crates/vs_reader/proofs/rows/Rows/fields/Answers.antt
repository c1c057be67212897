use Rattle.std.proofs.Common.{◌≡◌, ℕ, ◌<◌, List, [], length, take, get_or, ap, ◌∙◌, arith}
use Rattle.vs_reader.specs.RowEnds.{end_of}
use Rattle.vs_reader.proofs.places.RowPlaces.{length-rows, length-row, row_start_before}
use Rattle.vs_reader.proofs.rows.Rows.fields.Goals as goal
use Rattle.vs_reader.proofs.rows.Rows.fields.Goals.{After-self}

within : (c : After-self) → c.args.row < length c.self.inside.row_ends.items
within c =
    let i = c.self.inside in
    omega (
      arith,
      c.requires,
      length-rows i.bytes.items i.field_ends.items i.row_ends.items c.self.invariant,
      ap length c.self.view_is,
    )

pub index-requires : goal.index-requires
index-requires c = omega (arith, within c, c.self.inside.row_ends.ok.0)

pub start_of-requires : goal.start_of-requires
start_of-requires c =
    omega (arith, within (goal.at.start_of-requires c).After-self, c.deref.ensures.len, c.self.inside.row_ends.ok.0)

start_is : (c : goal.After-start_of) → c.start_of.result ≡ end_of 0 (take c.args.row c.self.inside.row_ends.items)
start_is c = c.start_of.ensures ∙ ap (λ ends. end_of 0 (take c.args.row ends)) c.deref.ensures.value

pub overflow_sub-result : goal.overflow_sub-result
overflow_sub-result c =
    let i = c.self.inside in let d = c.index.result.now in
    omega (
      arith,
      start_is c,
      c.index.ensures,
      row_start_before i.bytes.items i.field_ends.items i.row_ends.items c.self.invariant c.args.row d
          (within (goal.at.overflow_sub-result c).After-self),
    )

pub returns : goal.returns
returns c =
    let i = c.self.inside in let d = c.index.result.now in
    omega (
      arith,
      start_is c,
      c.index.ensures,
      length-row i.bytes.items i.field_ends.items i.row_ends.items c.self.invariant c.args.row d []
          (within (goal.at.returns c).After-self),
      ap (λ (rows : List (List (List ℕ))). length (get_or rows c.args.row [])) c.self.view_is,
    )
