use Rattle.std.proofs.Common.{◌≡◌, ℕ, ◌+◌, ◌<◌, ◌≤◌, List, [], length, take, get_or, ap, ◌∙◌, arith}
use Rattle.std.specs.Prelude.{slice_range}
use Rattle.vs_reader.specs.RowEnds.{end_of, rows_of}
use Rattle.vs_reader.proofs.places.RowPlaces.{length-rows, place_within, field_start_before, field_within, field_is}
use Rattle.vs_reader.proofs.rows.Rows.field.Goals as goal
use Rattle.vs_reader.proofs.rows.Rows.field.Goals.{After-deref-row_ends, After-start_of, After-deref-bytes}

row_within : (c : After-deref-row_ends) → c.args.row < length c.self.inside.row_ends.items
row_within c =
    let i = c.self.inside in
    omega (
      arith,
      c.requires.row,
      length-rows i.bytes.items i.field_ends.items i.row_ends.items c.self.invariant,
      ap length c.self.view_is,
    )

k_within : (c : After-deref-row_ends)
    → c.args.k < length
    (get_or (rows_of c.self.inside.bytes.items c.self.inside.field_ends.items c.self.inside.row_ends.items)
    c.args.row [])
k_within c =
    omega (
      arith,
      c.requires.field,
      ap (λ (rows : List (List (List ℕ))). length (get_or rows c.args.row [])) c.self.view_is,
    )

pub start_of-requires : goal.start_of-requires
start_of-requires c = omega (arith, row_within c, c.deref-row_ends.ensures.len, c.self.inside.row_ends.ok.0)

place_is : (c : After-start_of)
    → c.start_of.result + c.args.k ≡ end_of 0 (take c.args.row c.self.inside.row_ends.items) + c.args.k
place_is c =
    ap (λ n. n + c.args.k)
    (c.start_of.ensures ∙ ap (λ ends. end_of 0 (take c.args.row ends)) c.deref-row_ends.ensures.value)

placed : (c : After-start_of) → c.start_of.result + c.args.k < length c.self.inside.field_ends.items
placed c =
    let i = c.self.inside in
    place_within i.bytes.items i.field_ends.items i.row_ends.items c.self.invariant c.args.row c.args.k
    (c.start_of.result + c.args.k) 0 []
    (row_within (goal.at.overflow_add-place c).After-deref-row_ends)
    (k_within (goal.at.overflow_add-place c).After-deref-row_ends)
    (place_is c)

pub overflow_add-place : goal.overflow_add-place
overflow_add-place c = omega (arith, placed c, c.self.inside.field_ends.ok)

pub start_of-start-requires : goal.start_of-start-requires
start_of-start-requires c =
    omega (arith, placed (goal.at.start_of-start-requires c).After-start_of, ap length c.deref-field_ends.ensures.value)

pub index-requires : goal.index-requires
index-requires c = omega (arith, placed (goal.at.index-requires c).After-start_of, c.self.inside.field_ends.ok.0)

start_is : (c : After-deref-bytes)
    → c.start_of-start.result ≡ end_of 0 (take (c.start_of.result + c.args.k) c.self.inside.field_ends.items)
start_is c =
    c.start_of-start.ensures
    ∙ ap (λ ends. end_of 0 (take (c.start_of.result + c.args.k) ends)) c.deref-field_ends.ensures.value

start_before : (c : After-deref-bytes) → c.start_of-start.result ≤ c.index.result.now
start_before c =
    let i = c.self.inside in let place = c.start_of.result + c.args.k in let d = c.index.result.now in
    omega (
      arith,
      start_is c,
      c.index.ensures,
      field_start_before i.bytes.items i.field_ends.items i.row_ends.items c.self.invariant place d
          (placed (goal.at.slice_bounds-result-count c).After-start_of),
    )

end_within : (c : After-deref-bytes) → c.index.result.now ≤ length c.self.inside.bytes.items
end_within c =
    let i = c.self.inside in let place = c.start_of.result + c.args.k in let d = c.index.result.now in
    omega (
      arith,
      c.index.ensures,
      field_within i.bytes.items i.field_ends.items i.row_ends.items c.self.invariant place d
          (placed (goal.at.slice_bounds-result-count c).After-start_of),
    )

pub slice_bounds-result-count : goal.slice_bounds-result-count
slice_bounds-result-count c = start_before c

pub slice_bounds-result-start : goal.slice_bounds-result-start
slice_bounds-result-start c = omega (arith, start_before c, end_within c, ap length c.deref-bytes.ensures.value)

pub slice_bounds-result-end : goal.slice_bounds-result-end
slice_bounds-result-end c = omega (arith, start_before c, end_within c, ap length c.deref-bytes.ensures.value)

pub returns : goal.returns
returns c =
    let i = c.self.inside in let place = c.start_of.result + c.args.k in let d = c.index.result.now in
    let s = (goal.at.returns c).After-deref-bytes in let t = (goal.at.returns c).After-start_of in let u =
    (goal.at.returns c).After-deref-row_ends in
    ap (λ bytes. slice_range bytes c.start_of-start.result d) c.deref-bytes.ensures.value
    ∙ ap (λ start. slice_range i.bytes.items start d) (start_is s)
    ∙ ap (slice_range i.bytes.items (end_of 0 (take place i.field_ends.items))) c.index.ensures
    ∙ field_is i.bytes.items i.field_ends.items i.row_ends.items c.self.invariant c.args.row c.args.k place d []
    (row_within u) (k_within u) (place_is t)
    ∙ ap (λ (rows : List (List (List ℕ))). get_or (get_or rows c.args.row []) c.args.k []) c.self.view_is
