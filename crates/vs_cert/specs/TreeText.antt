-- The text of the document of a search.
use Rattle.std.specs.Prelude.{◌≡◌, ℕ, List, ◌∷◌, length, map, flat_map, slice_index_or}
use Rattle.std.specs.List.{enumerate_from, range_with_len}
use Rattle.vs_instance.specs.HoldingTable.{price_of}
use Rattle.vs_instance.specs.Problem.{Problem}
use Rattle.vs_prices.specs.Table.{prices_in}
use Rattle.vs_reader.specs.Names.{NameLists}
use Rattle.vs_reader.specs.Rows.{lines}
use Rattle.vs_tree.specs.History.{Opening, State}
use Rattle.vs_tree.specs.Prices.{Prices, no_prices}
use Rattle.vs_rows.specs.DocumentRows.{DocumentRow, FleetRow, PriceRow, TableRow, document_rows, permitted_trips}
use Rattle.vs_rows.specs.DocumentText.{HasText}
use Rattle.vs_cert.specs.StateDocument.{IsDocumentOf}
use Rattle.vs_rows.specs.declared.document.Document.{Document}

-- the prices of the state's table of this number
abbrev pub prices_of_number : State → ℕ → Prices
prices_of_number s n = slice_index_or s.tables n no_prices

-- the rows of a layer in a table of these prices, and those of the table with its number
abbrev pub layer_prices_rows : Problem → Prices → ℕ → List DocumentRow
layer_prices_rows p x l = FleetRow l (price_of x.fleet l)
    ∷ map (λ i. PriceRow l i (price_of (prices_in p l x.into) i) (price_of (prices_in p l x.from) i))
    (permitted_trips p l)

abbrev pub prices_rows : Problem → ℕ × Prices → List DocumentRow
prices_rows p e = TableRow e.0 e.1.ray ∷ flat_map (layer_prices_rows p e.1) (range_with_len 0 (length p.layers))

-- the rows of the state's tables of these numbers, numbered anew from 1
abbrev pub numbered_rows : Problem → State → List ℕ → List DocumentRow
numbered_rows p s numbers = flat_map (prices_rows p) (enumerate_from 1 (map (prices_of_number s) numbers))

-- the bytes are the text of the document of the state
pub record IsTextOf (o : Opening) (s : State) (names : NameLists) (bytes : List ℕ) : Type 0 where
  pub document : Document
  pub of_state : IsDocumentOf o s document
  pub has_text : HasText o.problem document
  pub bytes_are : bytes ≡ lines (document_rows o.problem names document)
