-- What a block costs, by the pieces of cost that its vehicle pays in order.
use Rattle.std.specs.Prelude.{◌≡◌, ℕ, ◌+◌, List, [], ◌∷◌, Option, unwrap_or, sum_by}
use Rattle.vs_types.specs.declared.numbers.LayerNo.{LayerNo}
use Rattle.vs_types.specs.declared.numbers.TripNo.{TripNo}
use Rattle.vs_instance.specs.Problem.{Problem}
use Rattle.vs_instance.specs.Instance.{IsInstance}
use Rattle.vs_instance.specs.Pieces.{out_piece, trip_piece, link_piece, in_piece}
use Rattle.vs_instance.specs.Blocks.{IsBlock, first_of, last_of, block_cost}

-- what a piece costs, 0 where there is none
abbrev pub cost_of : Option ℕ → ℕ
cost_of piece = unwrap_or piece 0

-- the links between trips that follow each other
abbrev pub links_between : Problem → LayerNo → List TripNo → List (Option ℕ)
links_between p l [] = []
links_between p l (i ∷ []) = []
links_between p l (i ∷ j ∷ rest) = link_piece p l.0 i.0 j.0 ∷ links_between p l (j ∷ rest)

-- the pull-out, the trips, the links between them and the pull-in, added up
abbrev pub pieces_cost : Problem → LayerNo → List TripNo → ℕ
pieces_cost p l trips = cost_of (out_piece p l.0 (first_of trips)) + sum_by (λ i. trip_piece p l.0 i.0) trips
    + sum_by cost_of (links_between p l trips) + cost_of (in_piece p l.0 (last_of trips))

-- a block costs what its pieces cost together, in every instance
abbrev pub BlocksCostTheirPieces : Type 0
BlocksCostTheirPieces = (p : Problem) (l : LayerNo) (trips : List TripNo) → IsInstance p → IsBlock p l trips
    → block_cost p l trips ≡ pieces_cost p l trips
