-- What a search that is carried on answers.
use Rattle.std.specs.Prelude.{◌≡◌, ℕ, ◌*◌, ◌+◌, ◌≤◌, max, Bool, true, false, List, length, count_by}
use Rattle.vs_instance.specs.Problem.{Problem}
use Rattle.vs_prices.specs.declared.bound.Bound.{Bound}
use Rattle.vs_prices.specs.declared.claim.Claim.TheVariants.{StillOpen}
use Rattle.vs_rows.specs.DocumentText.{HasText}
use Rattle.vs_rows.specs.declared.document.Document.{Document}
use Rattle.vs_rows.specs.declared.document.Shape.{Shape}
use Rattle.vs_rows.specs.declared.document.Shape.TheVariants as shape
use Rattle.vs_check.specs.HoldingDocument.{HoldingDocument}
use Rattle.vs_cert.specs.Answers.{AreNamedInOrder, AreWorths, IsBoundOf, leaf_places}
use Rattle.vs_resume.specs.declared.resuming.TheConstants.{MAX_RESUMED_ENTRIES}
use Rattle.vs_resume.specs.Standing.{IsPrinted, IsWrittenFor, Standing}
use Rattle.vs_resume.specs.Turns.{AreTurns, Turned, nodes_of}

abbrev pub is_leaf : Shape → Bool
is_leaf (shape.Leaf table) = true
is_leaf (shape.Split trip left) = false

-- with one table for each leaf of the document and for each node of the budget, the tables have few enough entries
abbrev pub HasRoom : Problem → Document → ℕ → Type 0
HasRoom p d budget =
    length p.trips * length p.layers * max (count_by is_leaf d.shape.items + budget) 1 ≤ MAX_RESUMED_ENTRIES

-- the document prints what turns with so many nodes lead to from what another one prints
pub record IsCarriedOn (p : Problem) (budget : ℕ) (d e : Document) : Type 0 where
  pub first : Standing
  pub printed : IsPrinted d first
  pub turns : List Turned
  pub last : Standing
  pub are_turns : AreTurns p budget first turns last
  pub nodes : e.nodes ≡ nodes_of turns
  pub written : IsWrittenFor last e

-- A document that answers another one, which holds, as far as a search within a budget came before it ended early. It
-- has a text, holds, and its tables are those that leaves name, in the order in which they first do; its bound is the
-- lesser of the least worth of its leaves and of its cost; its nodes are within the budget; and turns of so many nodes
-- lead to it.
pub record StoppedResume (p : Problem) (budget : ℕ) (d e : Document) : Type 0 where
  pub has_text : HasText p e
  pub holds : HoldingDocument p e
  pub in_order : AreNamedInOrder 0 (leaf_places p e holds) (length e.tables.items)
  pub worths : List Bound
  pub are_worths : AreWorths p e (leaf_places p e holds) worths
  pub bound : IsBoundOf e.cost worths e.bound
  pub within_budget : e.nodes ≤ budget
  pub carried_on : IsCarriedOn p budget d e

-- A document that answers another one, which holds, within a budget: it has a text, holds, and its tables are those
-- that leaves name, in the order in which they first do; its bound is the lesser of the least worth of its leaves and
-- of its cost; its nodes are within the budget, and are all of it where the claim is still open; and turns of so many
-- nodes lead to it.
pub record ResumeAnswer (p : Problem) (budget : ℕ) (d e : Document) : Type 0 where
  pub has_text : HasText p e
  pub holds : HoldingDocument p e
  pub in_order : AreNamedInOrder 0 (leaf_places p e holds) (length e.tables.items)
  pub worths : List Bound
  pub are_worths : AreWorths p e (leaf_places p e holds) worths
  pub bound : IsBoundOf e.cost worths e.bound
  pub within_budget : e.nodes ≤ budget
  pub still_open : e.claim ≡ StillOpen → e.nodes ≡ budget
  pub carried_on : IsCarriedOn p budget d e
