-- The blocks beside a cost.
use Rattle.std.proofs.Common.{◌≡◌, ℕ, ◌≤◌, List, [], length, map, refl, sym, ◌∙◌, Some, None, Option, ℤ, false, true}
use Rattle.std.specs.Prelude.{IfNone}
use Rattle.std.specs.Option.{is_some}
use Rattle.std.proofs.lemmas.Bool.{false≢true}
use Rattle.std.proofs.lemmas.List.Elements.{All-nil}
use Rattle.vs_instance.specs.Plan.{LayerBlock}
use Rattle.vs_plan.specs.Blocks.{IsOfInstance}
use Rattle.vs_reader.specs.declared.input.Input.{Input}
use Rattle.vs_rows.specs.DocumentRows.{BlockRow}
use Rattle.vs_rows.specs.Standing.{BlocksStand}
use Rattle.vs_document.specs.Places.{AtBlocks, InTable}
use Rattle.vs_document.specs.Reading.{ReadsBlocks}
use Rattle.vs_document.proofs.rows.AcceptedRows.{leads_blocks}
use Rattle.vs_document.proofs.rows.ReadThrough.{reads_through}
use Rattle.vs_document.specs.DocumentRefusals.{documents}
use Rattle.vs_rows.proofs.CallerLemmas.{lead_on, reads_none}
use Rattle.vs_document.proofs.parts.SamePlaces.{blocks_end}

beside : (blocks : List LayerBlock) (cost : Option ℤ) → is_some cost ≡ true → IfNone cost (blocks ≡ [])
beside blocks None some = absurd (false≢true some)
beside blocks (Some n) some = tt

none_beside : (blocks : List LayerBlock) (cost : Option ℤ) → blocks ≡ [] → IfNone cost (blocks ≡ [])
none_beside blocks None none = none
none_beside blocks (Some n) none = tt

module _ (input : Input) (at : ℕ) (cost : Option ℤ) where
  pub blocks_read : (to : ℕ) (blocks : List LayerBlock) → is_some cost ≡ true → BlocksStand input at to blocks
      → ReadsBlocks input at cost to blocks
  blocks_read to blocks some b =
      let none = beside blocks cost some in
      let read = reads_through input (map BlockRow blocks) (AtBlocks cost) (AtBlocks cost) at to
      (leads_blocks input.instance cost blocks none) b.stand in
      record {
        of_instance = b.of_instance;
        no_blocks = none;
        reads = record {
          say = read.say;
          lead = lead_on documents input at to to (AtBlocks cost) (AtBlocks cost) (InTable 0 []) read.lead
              (blocks_end input to cost (λ _. b.ends));
        };
      }

  -- where there is no cost there are no blocks
  pub blocks_without_cost : is_some cost ≡ false → at ≤ length input.rest → ReadsBlocks input at cost at []
  blocks_without_cost none within =
      let read = reads_none documents input at (AtBlocks cost) within in
      record {
        of_instance = All-nil (IsOfInstance input.instance);
        no_blocks = none_beside [] cost refl;
        reads = record {
          say = read.say;
          lead = blocks_end input at cost (λ some. absurd (false≢true (sym none ∙ some)));
        };
      }
