-- What is in memory before the first turn is what a document prints that holds.
use Rattle.std.proofs.Common.{◌≡◌, ◌<◌, List, length, map, refl, sym, ap, ◌∙◌, subst}
use Rattle.std.specs.List.{All}
use Rattle.std.proofs.lemmas.List.Elements.{All-weaker}
use Rattle.std.proofs.lemmas.Option.{slice_get_within}
use Rattle.vs_instance.specs.Problem.{Problem}
use Rattle.vs_instance.specs.Restriction.{permitted_sets}
use Rattle.vs_plan.specs.Blocks.{blocks_of}
use Rattle.vs_prices.specs.Table.{Fits, HoldingTable}
use Rattle.vs_prices.specs.declared.table.Table.{Table}
use Rattle.vs_prices.specs.Tree.{LeafPlace, leaves}
use Rattle.vs_rows.specs.DocumentText.{HasText}
use Rattle.vs_rows.specs.declared.document.Document.{Document}
use Rattle.vs_check.specs.HoldingDocument.{HoldingDocument, IsStrongLeaf}
use Rattle.vs_tree.specs.Prices.{prices_of}
use Rattle.vs_resume.specs.declared.course.Course.{Course}
use Rattle.vs_resume.specs.Cases.{AreCasesOf, AreCasesOfRows, AreGoodRows}
use Rattle.vs_resume.specs.Courses.{IsBegun}
use Rattle.vs_resume.specs.Outlines.{plain}

module _ (p : Problem) (d : Document) (text : HasText p d) (holds : HoldingDocument p d) where
  named : All (λ leaf. leaf.table < length d.tables.items) (leaves (permitted_sets p) holds.tree.tree)
  named =
      All-weaker (IsStrongLeaf p d.tables.items d.bound) (λ (leaf : LeafPlace). leaf.table < length d.tables.items)
      (λ leaf strong. slice_get_within d.tables.items leaf.table strong.table strong.table_is)
      (leaves (permitted_sets p) holds.tree.tree) holds.tree.strong.leaves

  pub good_rows : AreGoodRows (permitted_sets p) (length d.tables.items) d.shape.items
  good_rows = record {
    tree = holds.tree.tree;
    rows_are = holds.tree.shape_is;
    good = holds.tree.strong.splits;
    named = named;
  }

  pub begins : (c : Course) → c.cost ≡ d.cost → c.plan ≡ d.plan → c.tables ≡ d.tables → c.rows ≡ d.shape
      → AreCasesOfRows p d.tables.items (permitted_sets p) d.shape.items c.cases.items → IsBegun p d c
  begins c cost plan tables rows cases =
      let tables_are = ap (λ ts. ts.items) tables in
      record {
        first = record {
          cost = d.cost;
          blocks = blocks_of d.plan;
          tree = holds.tree.tree;
          tables = map prices_of d.tables.items;
        };
        printed = record { cost = refl; blocks = refl; rows = holds.tree.shape_is; tables = refl };
        course = record {
          cost = sym cost;
          blocks = ap blocks_of (sym plan);
          outline = ap (λ rs. map plain rs.items) rows ∙ ap (map plain) holds.tree.shape_is;
          tables = ap (map prices_of) (sym tables_are);
          good = holds.tree.strong.splits;
          lawful = subst (All (λ (table : Table). Fits p table × HoldingTable p table)) (sym tables_are) holds.tables;
          cases = subst (λ (ts : List Table). AreCasesOf p ts (leaves (permitted_sets p) holds.tree.tree) c.cases.items)
              (sym tables_are) (cases holds.tree.tree holds.tree.shape_is);
          plan = holds.plan;
          within = text.cost;
        };
        tables = ap length tables_are;
      }
