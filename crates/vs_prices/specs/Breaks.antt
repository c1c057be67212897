-- Where a table breaks, as one list in the order in which it is judged.
use Rattle.std.specs.Prelude.{ℕ, ◌<◌, ◌==◌, Bool, false, ◌&&◌, if◌then◌else◌, List, [], ◌++◌, length, flat_map, Option, Some, None, IsSomeAnd, int_lt, ℤ, pos, ◌+ℤ◌, ◌<ℤ◌}
use Rattle.std.specs.Int.{bit_at}
use Rattle.std.specs.List.{range_with_len}
use Rattle.vs_instance.specs.Firsts.{when}
use Rattle.vs_instance.specs.Problem.{Problem}
use Rattle.vs_instance.specs.Ways.{Permitted, trip_of}
use Rattle.vs_instance.specs.Pieces.{out_piece, link_piece, in_piece}
use Rattle.vs_instance.specs.HoldingTable.{scaled}
use Rattle.vs_prices.specs.declared.broken_at.BrokenAt.{BrokenAt}
use Rattle.vs_prices.specs.declared.broken_at.BrokenAt.TheVariants.{Fleet, PullOut, Link, PullIn}
use Rattle.vs_prices.specs.declared.table.Table.{Table}
use Rattle.vs_prices.specs.Table.{into_price, from_price, vehicle_price}

-- a price is more than another price and a piece of cost together, where there is the piece
abbrev pub exceeds : ℤ → ℤ → Bool → Option ℕ → Bool
exceeds price other ray None = false
exceeds price other ray (Some c) = int_lt (other +ℤ scaled ray c) price

-- layer l may run trip i
abbrev pub may_run : Problem → ℕ → ℕ → Bool
may_run p l i = bit_at (trip_of p i).layers.0 l == 1

-- entering trip i is worth more than its pull-out costs and a vehicle pays
abbrev pub is_pull_out_broken : Problem → Table → ℕ → ℕ → Bool
is_pull_out_broken p table l i = exceeds (into_price p table l i) (vehicle_price table l) table.ray (out_piece p l i)

-- leaving trip i and its pull-in together cost less than nothing
abbrev pub is_pull_in_broken : Problem → Table → ℕ → ℕ → Bool
is_pull_in_broken p table l i = exceeds (pos 0) (from_price p table l i) table.ray (in_piece p l i)

-- layer l may run trip j, and entering it is worth more than leaving trip i and the way between the two cost
abbrev pub is_link_broken : Problem → Table → ℕ → ℕ → ℕ → Bool
is_link_broken p table l i j =
    may_run p l j && exceeds (into_price p table l j) (from_price p table l i) table.ray (link_piece p l i j)

abbrev pub link_breaks : Problem → Table → ℕ → ℕ → ℕ → List BrokenAt
link_breaks p table l i j =
    when (is_link_broken p table l i j) (Link (record { 0 = l }) (record { 0 = i }) (record { 0 = j }))

-- on the ways from trip i to each trip in order
abbrev pub links_breaks : Problem → Table → ℕ → ℕ → List BrokenAt
links_breaks p table l i = flat_map (link_breaks p table l i) (range_with_len 0 (length p.trips))

-- on the moves of layer l into trip i from the depot, from it to each trip, and from it to the depot
abbrev pub move_breaks : Problem → Table → ℕ → ℕ → List BrokenAt
move_breaks p table l i =
    when (is_pull_out_broken p table l i) (PullOut (record { 0 = l }) (record { 0 = i }))
    ++ links_breaks p table l i
    ++ when (is_pull_in_broken p table l i) (PullIn (record { 0 = l }) (record { 0 = i }))

abbrev pub trip_breaks : Problem → Table → ℕ → ℕ → List BrokenAt
trip_breaks p table l i = if may_run p l i then move_breaks p table l i else []

abbrev pub layer_breaks : Problem → Table → ℕ → List BrokenAt
layer_breaks p table l =
    when (int_lt (vehicle_price table l) (pos 0)) (Fleet (record { 0 = l }))
    ++ flat_map (trip_breaks p table l) (range_with_len 0 (length p.trips))

-- layer by layer; in each its vehicles' price, and then trip by trip
abbrev pub breaks_of : Problem → Table → List BrokenAt
breaks_of p table = flat_map (layer_breaks p table) (range_with_len 0 (length p.layers))

-- what it means that a table breaks there: some vehicle's price is below 0, or a move that there is, in a layer that
-- may run its trips, is worth
-- more than it costs
abbrev pub IsBroken : Problem → Table → BrokenAt → Type 0
IsBroken p table (Fleet l) = (l.0 < length p.layers) × (vehicle_price table l.0 <ℤ pos 0)
IsBroken p table (PullOut l i) = (l.0 < length p.layers) × (i.0 < length p.trips) × Permitted p l.0 i.0
    × IsSomeAnd (out_piece p l.0 i.0)
    (λ c. (vehicle_price table l.0 +ℤ scaled table.ray c) <ℤ into_price p table l.0 i.0)
IsBroken p table (Link l i j) =
    (l.0 < length p.layers) × (i.0 < length p.trips) × (j.0 < length p.trips) × Permitted p l.0 i.0
    × Permitted p l.0 j.0
    × IsSomeAnd (link_piece p l.0 i.0 j.0)
    (λ c. (from_price p table l.0 i.0 +ℤ scaled table.ray c) <ℤ into_price p table l.0 j.0)
IsBroken p table (PullIn l i) = (l.0 < length p.layers) × (i.0 < length p.trips) × Permitted p l.0 i.0
    × IsSomeAnd (in_piece p l.0 i.0) (λ c. (from_price p table l.0 i.0 +ℤ scaled table.ray c) <ℤ pos 0)
