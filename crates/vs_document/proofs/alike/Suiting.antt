-- Documents that are read, and those that have a text, suit their instance.
use Rattle.vs_instance.specs.Problem.{Problem}
use Rattle.vs_rows.specs.declared.document.Document.{Document}
use Rattle.vs_document.specs.Form.{IsReadFor, Suits}
use Rattle.vs_rows.specs.DocumentText.{HasText}

pub suits-read : (p : Problem) (d : Document) → IsReadFor p d → Suits p d
suits-read p d read = record {
  blocks = read.blocks.of_instance;
  no_blocks = read.no_blocks;
  tables = read.tables;
  tree = read.tree;
  shapes = read.shapes;
}

pub suits-text : (p : Problem) (d : Document) → HasText p d → Suits p d
suits-text p d text = record {
  blocks = text.blocks;
  no_blocks = text.no_blocks;
  tables = text.fits;
  tree = text.tree;
  shapes = text.shapes;
}
