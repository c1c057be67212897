-- A layer has one net by each matching, and so one row that tells its size.
use Rattle.std.proofs.Common.{◌≡◌, ℕ, zero, suc, ◌<◌, List, [], ◌∷◌, ◌++◌, length, None, sym, ap, ◌∙◌, subst, arith}
use Rattle.std.proofs.lemmas.List.{ext_get_or}
use Rattle.vs_instance.specs.Problem.{Problem}
use Rattle.vs_instance.specs.Ways.{layer_of}
use Rattle.vs_layer.specs.declared.arc.Arc.{Arc}
use Rattle.vs_layer.specs.Graph.{arc_of}
use Rattle.vs_match.specs.declared.arc_kind.ArcKind.{ArcKind}
use Rattle.vs_match.specs.declared.arc_kind.ArcKind.TheVariants.{Return}
use Rattle.vs_match.specs.declared.event.Point.{Point}
use Rattle.vs_match.specs.declared.matching.Matching.{Matching}
use Rattle.vs_match.specs.declared.matching.Matching.TheVariants.{First, Latest}
use Rattle.vs_match.specs.Events.{ArePoints, IsBefore}
use Rattle.vs_match.specs.NetArcs.{IsArcBefore, IsArcOf}
use Rattle.vs_match.specs.LayerGraph.{LayerGraph, IsNetOf, kind_of}
use Rattle.vs_match.specs.Sizes.{counts_from, counts_of, full_count_of, line_points, stop_points}
use Rattle.vs_reader.specs.Names.{NameLists, name_of}
use Rattle.vs_reader.specs.Rows.{Field, Row}
use Rattle.vs_reply.specs.Network.{AreRowsBelow, IsNetRow, matching_field, size_row}
use Rattle.vs_reply.proofs.one_row.OneOrder.{AreAmong, IsStrict, one_list, same_length, same_value}

points_strict : IsStrict IsBefore
points_strict = record { one_way = λ a b less more. omega arith }

no_point : Point
no_point = record { minute = 0; stop = None }

one_points : (p : Problem) (l : ℕ) (xs ys : List Point) → ArePoints p l xs → ArePoints p l ys → xs ≡ ys
one_points p l xs ys a b =
    one_list IsBefore no_point xs ys points_strict a.ordered b.ordered (λ x has. b.every x (a.only x has))
    (λ x has. a.every x (b.only x has))

-- an arc with what it stands for
abbrev Labelled : Type 0
Labelled = Arc × ArcKind

abbrev IsLabelledBefore : Labelled → Labelled → Type 0
IsLabelledBefore x y = IsArcBefore x.0 x.1 y.0 y.1

arcs_strict : IsStrict IsLabelledBefore
arcs_strict = record { one_way = λ a b less more. omega arith }

abbrev labelled : LayerGraph → ℕ → Labelled
labelled n k = (arc_of n.graph k, kind_of n k)

module _ (p : Problem) (l : ℕ) (matching : Matching) where
  among : (a b : LayerGraph) → IsNetOf p l matching a → IsNetOf p l matching b
      → AreAmong (length a.graph.arcs) (labelled a) (length b.graph.arcs) (labelled b)
  among a b is_a is_b k within =
      let points : a.points ≡ b.points = one_points p l a.points b.points is_a.points is_b.points in
      let arc = is_b.every (kind_of a k) (arc_of a.graph k)
      (subst (λ (xs : List Point). IsArcOf p l matching xs (kind_of a k) (arc_of a.graph k)) points
      (is_a.only k within)) in
      let arc_is : arc_of b.graph arc.0 ≡ arc_of a.graph k = arc.3 in
      let kind_is : kind_of b arc.0 ≡ kind_of a k = arc.2 in (
        arc.0,
        arc.1,
        ap (λ (x : Arc). (x, kind_of b arc.0)) arc_is
            ∙ ap (λ (x : ArcKind). (arc_of a.graph k, x)) kind_is,
      )

  -- two nets of a layer have the same counts
  pub one_size : (a b : LayerGraph) → IsNetOf p l matching a → IsNetOf p l matching b → counts_of a ≡ counts_of b
  one_size a b is_a is_b =
      let points : a.points ≡ b.points = one_points p l a.points b.points is_a.points is_b.points in
      let many = same_length IsLabelledBefore arcs_strict (length a.graph.arcs) (length b.graph.arcs) (labelled a)
      (labelled b) is_a.ordered is_b.ordered (among a b is_a is_b) (among b a is_b is_a) in
      let each = same_value IsLabelledBefore arcs_strict (length a.graph.arcs) (length b.graph.arcs) (labelled a)
      (labelled b) is_a.ordered is_b.ordered (among a b is_a is_b) (among b a is_b is_a) in
      let kinds : a.kinds ≡ b.kinds =
      ext_get_or Return a.kinds b.kinds (is_a.kinds ∙ many ∙ sym is_b.kinds)
      (λ k within. ap (λ (x : Labelled). x.1) (each k (subst (λ (n : ℕ). k < n) is_a.kinds within))) in
      ap (λ (xs : List Point). counts_from (stop_points xs) (line_points xs) a.kinds) points
      ∙ ap (counts_from (stop_points b.points) (line_points b.points)) kinds

  one_row : (layer : Field) (full : ℕ) (r s : Row) → IsNetRow p layer l matching full r
      → IsNetRow p layer l matching full s → r ≡ s
  one_row layer full r s is also =
      is.row_is ∙ ap (λ c. size_row layer (matching_field matching) c full (layer_of p l).stay)
      (one_size is.net also.net is.is_net also.is_net)
      ∙ sym also.row_is

-- the rows of a layer's nets are one list
pub one_network : (p : Problem) (names : NameLists) (n : ℕ) (r s : List Row) → AreRowsBelow p names n r
    → AreRowsBelow p names n s → r ≡ s
one_network p names zero r s is also = is ∙ sym also
one_network p names (suc l) r s (before, first, latest, rows_are, rest, is_first, is_latest)
    (others, fst, last, others_are, more, also_first, also_latest) =
    let layer : Field = name_of names.layers l in
    let a = one_network p names l before others rest more in
    let b = one_row p l First layer (full_count_of p l) first fst is_first also_first in
    let c = one_row p l Latest layer (full_count_of p l) latest last is_latest also_latest in
    rows_are ∙ ap (λ (x : List Row). x ++ first ∷ latest ∷ []) a ∙ ap (λ (x : Row). others ++ x ∷ latest ∷ []) b
    ∙ ap (λ (x : Row). others ++ fst ∷ x ∷ []) c ∙ sym others_are
