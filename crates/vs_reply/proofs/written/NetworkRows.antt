-- Rows that are written layer by layer.
use Rattle.std.proofs.Common.{◌≡◌, ℕ, ◌+◌, List, [], ◌∷◌, ◌++◌, length, Option, Result, Ok, Err, OnOk, refl, sym, ap, ◌∙◌, subst, add-one, append_assoc, append-nil}
use Rattle.vs_instance.specs.Problem.{Problem}
use Rattle.vs_instance.specs.Ways.{layer_of}
use Rattle.vs_match.specs.declared.matching.Matching.{Matching}
use Rattle.vs_match.specs.declared.matching.Matching.TheVariants.{First, Latest}
use Rattle.vs_match.specs.declared.sizes.NetCounts.{NetCounts}
use Rattle.vs_match.specs.LayerGraph.{LayerGraph, IsNetOf}
use Rattle.vs_match.specs.Sizes.{counts_of, full_count_of}
use Rattle.vs_reader.specs.Names.{NameLists, name_of}
use Rattle.vs_reader.specs.Rows.{Field, Row, line, lines}
use Rattle.vs_rows.proofs.CallerLemmas.{more_rows}
use Rattle.vs_reply.specs.Network.{AreRowsBelow, IsNetRow, IsSizeRow, WritesLayer, WritesNet, WritesNets, matching_field, size_row}

-- the rows of the layers below l are written behind a text
pub record HasRowsBelow (p : Problem) (names : NameLists) (l : ℕ) (old text : List ℕ) : Type 0 where
  pub rows : List Row
  pub are_rows : AreRowsBelow p names l rows
  pub text_is : text ≡ old ++ lines rows

pub no_rows : (p : Problem) (names : NameLists) (old : List ℕ) → HasRowsBelow p names 0 old old
no_rows p names old = record { rows = []; are_rows = refl; text_is = sym (append-nil old) }

-- those of layer l are written behind them
pub one_layer_more : (p : Problem) (names : NameLists) (l : ℕ) (old text new : List ℕ) → HasRowsBelow p names l old text
    → WritesLayer p names l text new → HasRowsBelow p names (l + 1) old new
one_layer_more p names l old text new have more =
    let both : List Row = more.first ∷ more.latest ∷ [] in
    record {
      rows = have.rows ++ both;
      are_rows = subst (λ n. AreRowsBelow p names n (have.rows ++ both)) (sym (add-one l))
          (have.rows, more.first, more.latest, refl, have.are_rows, more.is_first, more.is_latest);
      text_is = more.text_is ∙ ap (λ (bytes : List ℕ). bytes ++ lines both) have.text_is
          ∙ append_assoc old (lines have.rows) (lines both)
          ∙ ap (λ (bytes : List ℕ). old ++ bytes) (more_rows (lines have.rows) _ have.rows both refl refl);
    }

-- the row of a net's counts is written
pub net_written : {A E : Type 0} (p : Problem) (layer : Field) (l : ℕ) (matching : Matching) (full : ℕ)
    (old new : List ℕ) (net : LayerGraph) (counts : NetCounts) (stay : Option ℕ) (r : Result A E)
    → IsNetOf p l matching net → counts ≡ counts_of net → stay ≡ (layer_of p l).stay
    → OnOk r (new ≡ old ++ line (size_row layer (matching_field matching) counts full stay))
    → OnOk r (WritesNet p layer l matching full old new)
net_written p layer l matching full old new net counts stay (Ok a) is_net are rests wrote = record {
  row = size_row layer (matching_field matching) counts full stay;
  is_row = record {
    net = net;
    is_net = is_net;
    row_is = ap (λ (c : NetCounts). size_row layer (matching_field matching) c full stay) are
        ∙ ap (size_row layer (matching_field matching) (counts_of net) full) rests;
  };
  text_is = wrote;
}
net_written p layer l matching full old new net counts stay (Err e) is_net are rests wrote = tt

-- the rows of both nets of a layer are
pub layer_written : {A E : Type 0} (p : Problem) (names : NameLists) (l : ℕ) (layer : Field) (full : ℕ)
    (old between new : List ℕ) (r : Result A E) → layer ≡ name_of names.layers l → full ≡ full_count_of p l
    → WritesNet p layer l First full old between → OnOk r (WritesNet p layer l Latest full between new)
    → OnOk r (WritesLayer p names l old new)
layer_written p names l layer full old between new (Ok a) named counted first latest =
    let is_layer : (matching : Matching) (row : Row) → IsNetRow p layer l matching full row
    → IsSizeRow p names l matching row =
    λ matching row is. subst (λ (name : Field). IsNetRow p name l matching (full_count_of p l) row) named
    (subst (λ (n : ℕ). IsNetRow p layer l matching n row) counted is) in
    record {
      first = first.row;
      latest = latest.row;
      is_first = is_layer First first.row first.is_row;
      is_latest = is_layer Latest latest.row latest.is_row;
      text_is = latest.text_is ∙ ap (λ (text : List ℕ). text ++ line latest.row) first.text_is
          ∙ append_assoc old (line first.row) (line latest.row)
          ∙ ap (λ (more : List ℕ). old ++ (line first.row ++ more)) (sym (append-nil (line latest.row)));
    }
layer_written p names l layer full old between new (Err e) named counted first latest = tt

-- those of all layers are
pub all_written : (p : Problem) (names : NameLists) (l : ℕ) (old text : List ℕ) → HasRowsBelow p names l old text
    → l ≡ length p.layers → WritesNets p names old text
all_written p names l old text have all = record {
  rows = have.rows;
  are_rows = subst (λ (n : ℕ). AreRowsBelow p names n have.rows) all have.are_rows;
  text_is = have.text_is;
}
