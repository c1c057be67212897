-- The rows that tell how large the nets of each layer are.
use Rattle.std.specs.Prelude.{◌≡◌, ℕ, zero, suc, List, [], ◌∷◌, ◌++◌, length, Option, Some, None, codes, decimal}
use Rattle.vs_instance.specs.Problem.{Problem}
use Rattle.vs_instance.specs.Ways.{layer_of}
use Rattle.vs_match.specs.declared.matching.Matching.{Matching}
use Rattle.vs_match.specs.declared.matching.Matching.TheVariants.{First, Latest}
use Rattle.vs_match.specs.declared.sizes.NetCounts.{NetCounts}
use Rattle.vs_match.specs.LayerGraph.{LayerGraph, IsNetOf}
use Rattle.vs_match.specs.Sizes.{counts_of, full_count_of}
use Rattle.vs_reader.specs.Names.{NameLists, name_of}
use Rattle.vs_reader.specs.Rows.{Field, Row, line, lines}

abbrev pub matching_field : Matching → Field
matching_field First = codes "first"
matching_field Latest = codes "latest"

-- NODES, WAITING, DEADHEADS, PULL_OUTS, PULL_INS, TRIPS
abbrev pub count_fields : NetCounts → List Field
count_fields c = decimal c.nodes ∷ decimal c.waiting ∷ decimal c.deadheads ∷ decimal c.pull_outs ∷ decimal c.pull_ins
    ∷ decimal c.trips ∷ []

-- LINE, RESTS, where the layer has a least rest: so in each row of a text of version 2, and in none of one of version 1
abbrev pub rest_fields : Option ℕ → NetCounts → List Field
rest_fields None c = []
rest_fields (Some stay) c = decimal c.line ∷ decimal c.rests ∷ []

-- `network`, LAYER, the name of the net, the counts, FULL, and what is told of rests
abbrev pub size_row : Field → Field → NetCounts → ℕ → Option ℕ → Row
size_row layer net counts full stay =
    codes "network" ∷ layer ∷ net ∷ count_fields counts ++ decimal full ∷ rest_fields stay counts

-- the row tells the size of layer l's net by this matching, beside a count of pairs of its trips
pub record IsNetRow (p : Problem) (layer : Field) (l : ℕ) (matching : Matching) (full : ℕ) (row : Row) : Type 0 where
  pub net : LayerGraph
  pub is_net : IsNetOf p l matching net
  pub row_is : row ≡ size_row layer (matching_field matching) (counts_of net) full (layer_of p l).stay

-- with the layer's name, and how many ordered pairs of its trips connect
abbrev pub IsSizeRow : Problem → NameLists → ℕ → Matching → Row → Type 0
IsSizeRow p names l matching row = IsNetRow p (name_of names.layers l) l matching (full_count_of p l) row

-- the rows are those of the layers below l: of each first the net by first match, then the one by latest first match
abbrev pub AreRowsBelow : Problem → NameLists → ℕ → List Row → Type 0
AreRowsBelow p names zero rows = rows ≡ []
AreRowsBelow p names (suc l) rows = (before : List Row) × (first latest : Row) × (rows ≡ before ++ first ∷ latest ∷ [])
    × AreRowsBelow p names l before × IsSizeRow p names l First first × IsSizeRow p names l Latest latest

-- of all layers
abbrev pub AreNetworkRows : Problem → NameLists → List Row → Type 0
AreNetworkRows p names rows = AreRowsBelow p names (length p.layers) rows

-- a row, both rows of a layer, or those of all layers are written behind a text
pub record WritesNet (p : Problem) (layer : Field) (l : ℕ) (matching : Matching) (full : ℕ)
    (old new : List ℕ) : Type 0 where
  pub row : Row
  pub is_row : IsNetRow p layer l matching full row
  pub text_is : new ≡ old ++ line row

pub record WritesLayer (p : Problem) (names : NameLists) (l : ℕ) (old new : List ℕ) : Type 0 where
  pub first : Row
  pub latest : Row
  pub is_first : IsSizeRow p names l First first
  pub is_latest : IsSizeRow p names l Latest latest
  pub text_is : new ≡ old ++ lines (first ∷ latest ∷ [])

pub record WritesNets (p : Problem) (names : NameLists) (old new : List ℕ) : Type 0 where
  pub rows : List Row
  pub are_rows : AreNetworkRows p names rows
  pub text_is : new ≡ old ++ lines rows
