-- Places at which the same rows come.
use Rattle.std.proofs.Common.{◌≡◌, ℕ, ◌+◌, [], refl, sym, ap, ◌∙◌, inl, inr}
use Rattle.vs_instance.specs.Problem.{Problem}
use Rattle.vs_instance.specs.Plan.{LayerBlock}
use Rattle.vs_reader.specs.Rows.{Row, row_of}
use Rattle.vs_reader.specs.Names.{NameLists}
use Rattle.vs_reader.specs.declared.input.Input.{Input}
use Rattle.vs_rows.specs.DocumentRows.{BlockRow, TableRow, Says}
use Rattle.vs_rows.specs.RowReading.{LeadTo}
use Rattle.vs_rows.specs.Standing.{IsNoBlock}
use Rattle.vs_rows.proofs.CallerLemmas.{same_place}
use Rattle.vs_trace.specs.TraceRows.{TraceRow, PartRow, SaysSo}
use Rattle.vs_trace.specs.declared.refused.TraceWhy.{TraceWhy}
use Rattle.vs_trace.specs.TraceRefusals.{traces}
use Rattle.vs_trace.specs.Places.{AtBlocks, HasNumber, InTable, Place, behind, tables_before}

-- behind as many tables a row has its number at both places or at none
same_number : (place other : Place) → tables_before place ≡ tables_before other → (said : TraceRow)
    → HasNumber place said → HasNumber other said
same_number place other same (PartRow (TableRow number ray)) is = is ∙ ap (λ (k : ℕ). k + 1) same
same_number place other same _ is = tt

module _ (place other : Place) (same : tables_before place ≡ tables_before other) (said : TraceRow) where
  pub same_right : traces.IsRight other said → traces.IsRight place said
  same_right right = (same_number other place (sym same) said right.0, right.1)

  same_wrong : (why : TraceWhy) → traces.IsWrong other said why → traces.IsWrong place said why
  same_wrong why (inl (wrong, is)) = inl ((λ has. wrong (same_number place other same said has)), is)
  same_wrong why (inr (has, wrong, is)) = inr (same_number other place (sym same) said has, wrong, is)

order_of_blocks : (p : Problem) (names : NameLists) (n : ℕ) (row : Row)
    → ((b : LayerBlock) → ¬ (Says names row (BlockRow b))) → (said : TraceRow) → SaysSo names row said
    → behind p (AtBlocks n) said ≡ behind p (InTable n []) said
order_of_blocks p names n row none (PartRow (BlockRow b)) says = absurd (none b says.1)
order_of_blocks p names n row none _ says = refl

-- where no block comes, a step comes or the end
pub blocks_end : (input : Input) (at n : ℕ) → IsNoBlock input at
    → LeadTo traces input at (AtBlocks n) at (InTable n [])
blocks_end input at n none = same_place traces input at (AtBlocks n) (InTable n []) (record {
  going = λ e. cc;
  other_going = λ e. cc;
  suits = λ said. tt;
  other_suits = λ said. tt;
  order = order_of_blocks input.instance input.names n (row_of input.rest at) none;
  right = same_right (AtBlocks n) (InTable n []) refl;
  wrong = same_wrong (AtBlocks n) (InTable n []) refl;
})
