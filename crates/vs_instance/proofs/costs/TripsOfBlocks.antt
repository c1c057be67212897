-- The trips of all blocks.
use Rattle.std.proofs.Common.{◌<◌, ◌≤◌, List, [], ◌∷◌, length, length-append, arith}
use Rattle.std.specs.List.{All}
use Rattle.std.proofs.lemmas.List.Elements.{All-append, All-head, All-nil, All-tail}
use Rattle.vs_types.specs.declared.numbers.TripNo.{TripNo}
use Rattle.vs_instance.specs.Plan.{LayerBlock, all_trips}

-- what holds of the trips of each block holds of all trips
pub All-all_trips : (P : TripNo → Type 0) (blocks : List LayerBlock) → All (λ b. All P b.1) blocks
    → All P (all_trips blocks)
All-all_trips P [] each = All-nil P
All-all_trips P (b ∷ blocks) each =
    All-append P b.1 (all_trips blocks) (All-head (λ (c : LayerBlock). All P c.1) b blocks each)
    (All-all_trips P blocks (All-tail (λ (c : LayerBlock). All P c.1) b blocks each))

-- blocks that have a trip each are no more than their trips
pub blocks-le-trips : (blocks : List LayerBlock) → All (λ b. 0 < length b.1) blocks
    → length blocks ≤ length (all_trips blocks)
blocks-le-trips [] some = omega arith
blocks-le-trips (b ∷ blocks) some =
    let here = All-head (λ (c : LayerBlock). 0 < length c.1) b blocks some in
    let rest = blocks-le-trips blocks (All-tail (λ (c : LayerBlock). 0 < length c.1) b blocks some) in
    let size = length-append b.1 (all_trips blocks) in
    omega arith
