-- Documents that say the same.
use Rattle.std.specs.Prelude.{◌≡◌}
use Rattle.std.specs.List.{AllZip}
use Rattle.vs_instance.specs.Problem.{Problem}
use Rattle.vs_plan.specs.Blocks.{blocks_of}
use Rattle.vs_rows.specs.declared.document.Document.{Document}
use Rattle.vs_rows.specs.DocumentText.{Agree}

-- they have the same claim, numbers, blocks and tree, and their tables agree, each with the one of its number
pub record AreAlike (p : Problem) (d e : Document) : Type 0 where
  pub claim : d.claim ≡ e.claim
  pub cost : d.cost ≡ e.cost
  pub bound : d.bound ≡ e.bound
  pub nodes : d.nodes ≡ e.nodes
  pub blocks : blocks_of d.plan ≡ blocks_of e.plan
  pub tables : AllZip (Agree p) d.tables.items e.tables.items
  pub shape : d.shape.items ≡ e.shape.items
