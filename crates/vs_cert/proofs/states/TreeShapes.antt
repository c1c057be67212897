-- The rows of a good tree name what the instance has.
use Rattle.std.proofs.Common.{ℕ, ◌<◌, List, [], ◌++◌, length, sym, subst, arith}
use Rattle.std.specs.List.{All}
use Rattle.std.proofs.lemmas.List.Elements.{All-append, All-cons, All-nil}
use Rattle.std.proofs.lemmas.Option.{slice_get_within}
use Rattle.vs_types.specs.declared.layer_set.LayerSet.{LayerSet}
use Rattle.vs_types.specs.declared.numbers.TripNo.{TripNo}
use Rattle.vs_instance.specs.Instance.{IsInstance}
use Rattle.vs_instance.specs.Problem.{Problem}
use Rattle.vs_instance.specs.Restriction.{IsRestriction, set_of}
use Rattle.vs_instance.specs.Ways.{no_trip}
use Rattle.vs_prices.specs.Tree.{Tree, Leaf, Split, IsGoodTree, right_of, with_set}
use Rattle.vs_types.specs.Parts.{IsProperPart}
use Rattle.vs_prices.proofs.CallerLemmas.{left-restricts, right-restricts}
use Rattle.vs_rows.specs.Shapes.{IsShapeOf, preorder}
use Rattle.vs_cert.specs.StateDocument.{IsRenumbered}
use Rattle.vs_rows.specs.declared.document.Shape.{Shape}
use Rattle.vs_rows.specs.declared.document.Shape.TheVariants as shape

module _ (p : Problem) (instance : IsInstance p) (numbers : List ℕ) where
  abbrev IsRow : Shape → Type 0
  IsRow s = IsShapeOf p (length numbers) s

  split_row : (sets : List LayerSet) (trip : TripNo) (left : LayerSet) → IsRestriction p sets → trip.0 < length sets
      → IsProperPart left (set_of sets trip.0) → IsRow (shape.Split trip left)
  split_row sets trip left restriction inside proper =
      let of_instance : trip.0 < length p.trips = omega (arith, inside, restriction.each_trip) in (
        of_instance,
        proper.some,
        λ l has. (instance.trips trip.0 no_trip of_instance).layers l
            (restriction.permitted trip.0 l of_instance (proper.within l has)),
      )

  -- where the leaves name their tables by places among the numbers
  pub rows_of_instance : (t u : Tree) (sets : List LayerSet) → IsRestriction p sets → IsGoodTree sets t
      → IsRenumbered numbers t u → All IsRow (preorder u)
  rows_of_instance (Leaf table) (Leaf place) sets restriction good same =
      All-cons IsRow (shape.Leaf place) [] (slice_get_within numbers place table same) (All-nil IsRow)
  rows_of_instance (Leaf table) (Split also part first second) sets restriction good same = absurd same
  rows_of_instance (Split trip left lower upper) (Leaf place) sets restriction good same = absurd same
  rows_of_instance (Split trip left lower upper) (Split also part first second) sets restriction good same =
      let here = split_row sets trip left restriction good.0 good.1 in
      let row : IsRow (shape.Split also part) =
      subst (λ (i : TripNo). IsRow (shape.Split i part)) (sym same.0)
      (subst (λ (set : LayerSet). IsRow (shape.Split trip set)) (sym same.1) here) in
      All-cons IsRow (shape.Split also part) (preorder first ++ preorder second) row
      (All-append IsRow (preorder first) (preorder second)
      (rows_of_instance lower first (with_set sets trip left)
      (left-restricts p sets trip left good.0 good.1 restriction) good.2 same.2)
      (rows_of_instance upper second (with_set sets trip (right_of sets trip left))
      (right-restricts p sets trip left good.0 good.1 restriction) good.3 same.3))
