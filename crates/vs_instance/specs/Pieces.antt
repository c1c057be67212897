-- The pieces of cost of a layer, in cost units. A piece exists exactly where its move does.
use Rattle.std.specs.Prelude.{ℕ, ◌+◌, ◌-◌, ◌*◌, nat_le, min, if◌then◌else◌, Option, Some, None, option_map, option_and_then}
use Rattle.vs_instance.specs.declared.way.Way.{Way}
use Rattle.vs_instance.specs.Problem.{Problem}
use Rattle.vs_instance.specs.Ways.{trip_of, layer_of, way_out, way_in, way_between}

-- so many minutes and metres at the rates of layer l
abbrev pub rated : Problem → ℕ → ℕ → ℕ → ℕ
rated p l minutes metres = (layer_of p l).per_minute * minutes + (layer_of p l).per_metre * metres

-- the fixed cost of a vehicle, and its way from the depot to trip i
abbrev pub out_piece : Problem → ℕ → ℕ → Option ℕ
out_piece p l i = option_and_then
    (λ w. if nat_le w.minutes (trip_of p i).start then Some
    ((layer_of p l).fixed + rated p l w.minutes w.metres) else None)
    (way_out p l i)

-- trip i itself
abbrev pub trip_piece : Problem → ℕ → ℕ → ℕ
trip_piece p l i = rated p l ((trip_of p i).end - (trip_of p i).start) (trip_of p i).metres

-- the way from trip i back to the depot
abbrev pub in_piece : Problem → ℕ → ℕ → Option ℕ
in_piece p l i = option_map (λ w. rated p l w.minutes w.metres) (way_in p l i)

-- all the time from the end of trip i to the start of trip j, be it driven or waited, and the way straight from the one
-- to the other
abbrev pub direct_piece : Problem → ℕ → ℕ → ℕ → Option ℕ
direct_piece p l i j = option_and_then
    (λ w. if nat_le ((trip_of p i).end + w.minutes) (trip_of p j).start then Some
    (rated p l ((trip_of p j).start - (trip_of p i).end) w.metres) else None)
    (way_between p i j)

-- back to the depot and out of it again, where a stay of so many minutes fits in between: they cost nothing
abbrev pub rest_by : Problem → ℕ → ℕ → ℕ → ℕ → Way → Way → Option ℕ
rest_by p l i j stay back out =
    if nat_le ((trip_of p i).end + back.minutes + stay + out.minutes) (trip_of p j).start then Some
    (rated p l back.minutes back.metres + rated p l out.minutes out.metres) else None

-- the same with the layer's stay and ways, where trip i rests before trip j
abbrev pub rest_piece : Problem → ℕ → ℕ → ℕ → Option ℕ
rest_piece p l i j =
    option_and_then (λ stay. option_and_then (λ back. option_and_then (λ out. rest_by p l i j stay back out)
    (way_out p l j)) (way_in p l i)) (layer_of p l).stay

-- a cost, or another one that there may be and that is less
abbrev pub no_more_than : Option ℕ → ℕ → ℕ
no_more_than None cost = cost
no_more_than (Some other) cost = min cost other

-- from trip i to trip j, the cheaper way: straight, or by the depot where i rests before j
abbrev pub link_piece : Problem → ℕ → ℕ → ℕ → Option ℕ
link_piece p l i j = option_map (no_more_than (rest_piece p l i j)) (direct_piece p l i j)
