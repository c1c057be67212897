-- Blocks that are read row by row.
use Rattle.std.proofs.Common.{◌≡◌, ℕ, ◌+◌, ◌<◌, ◌≤◌, List, [], ◌∷◌, ◌++◌, length, map, refl, sym, ap, subst, arith, All}
use Rattle.std.proofs.lemmas.List.{get_or_past, map_push}
use Rattle.std.proofs.lemmas.List.Elements.{All-push, All-nil, All-weaker}
use Rattle.vs_types.specs.declared.numbers.TripNo.{TripNo}
use Rattle.vs_instance.specs.Plan.{LayerBlock}
use Rattle.vs_plan.specs.Blocks.{IsOfInstance}
use Rattle.vs_reader.specs.Rows.{row_of}
use Rattle.vs_reader.specs.Names.{HaveCounts}
use Rattle.vs_reader.specs.declared.input.Input.{Input}
use Rattle.vs_rows.specs.DocumentRows.{BlockRow, DocumentRow, IsNamedBlock}
use Rattle.vs_rows.specs.RowForms.{SaysThere}
use Rattle.vs_rows.specs.Standing.{BlocksStand, IsNoBlock, StandFrom}
use Rattle.vs_rows.proofs.tables.Standing.{stand_on, stand_within}

-- the blocks that are read so far
pub record BlocksSoFar (input : Input) (at row : ℕ) (blocks : List LayerBlock) : Type 0 where
  pub of_instance : All (IsOfInstance input.instance) blocks
  pub stand : StandFrom input at (map BlockRow blocks) row

of_instance : (input : Input) (b : LayerBlock) → HaveCounts input.instance input.names → IsNamedBlock input.names b
    → IsOfInstance input.instance b
of_instance input b counts named = record {
  layer = omega (arith, counts.layers, named.layer);
  some_trip = named.some_trip;
  trips = All-weaker (λ (t : TripNo). t.0 < length input.names.trips) (λ
      (t : TripNo). t.0 < length input.instance.trips)
      (λ t lt. omega (arith, counts.trips)) b.1 named.trips;
}

module _ (input : Input) (at : ℕ) where
  pub blocks_none : at ≤ length input.rest → BlocksSoFar input at at []
  blocks_none within =
      record { of_instance = All-nil (IsOfInstance input.instance); stand = (refl, within) }

  pub blocks_more : (row : ℕ) (blocks : List LayerBlock) (b : LayerBlock) → BlocksSoFar input at row blocks
      → HaveCounts input.instance input.names → row < length input.rest → SaysThere input row (BlockRow b)
      → BlocksSoFar input at (row + 1) (blocks ++ b ∷ [])
  blocks_more row blocks b s counts lt says =
      let P : List DocumentRow → Type 0 = λ said. StandFrom input at said (row + 1) in
      record {
        of_instance = All-push (IsOfInstance input.instance) blocks b s.of_instance
            (of_instance input b counts says.form);
        stand = subst P (sym (map_push BlockRow blocks b))
            (stand_on input (map BlockRow blocks) (BlockRow b ∷ []) at row (row + 1) s.stand
            (lt, says, (refl, omega (arith, lt))));
      }

  pub blocks_done : (row : ℕ) (blocks : List LayerBlock) → BlocksSoFar input at row blocks → IsNoBlock input row
      → BlocksStand input at row blocks
  blocks_done row blocks s none = record { of_instance = s.of_instance; stand = s.stand; ends = none }

  -- no block stands behind the last row
  pub blocks_to_the_end : (row len : ℕ) (blocks : List LayerBlock) → BlocksSoFar input at row blocks → len ≤ row
      → len ≡ length input.rest → BlocksStand input at len blocks
  blocks_to_the_end row len blocks s low is =
      let at_len : row ≡ len =
      omega (arith, stand_within input (map BlockRow blocks) at row s.stand) in
      let past : row_of input.rest len ≡ [] = get_or_past input.rest len [] (omega arith) in
      let P : ℕ → Type 0 = λ n. BlocksSoFar input at n blocks in
      blocks_done len blocks (subst P at_len s) (λ b says. omega (arith, ap length says.written, ap length past))
