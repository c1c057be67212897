-- The two ends of an arc.
use Rattle.std.specs.Prelude.{ℕ, ◌==◌, List, filter, map, slice_index_or, pos, length}
use Rattle.std.specs.List.{range_with_len}
use Rattle.vs_layer.specs.declared.arc.Arc.{Arc}
use Rattle.vs_layer.specs.declared.arc.End.{End}
use Rattle.vs_layer.specs.declared.arc.End.TheVariants.{From, To}

-- the node at an end of an arc
abbrev pub end_of : End → Arc → ℕ
end_of From a = a.from
end_of To a = a.to

-- what stands past the end of the arcs
abbrev pub no_arc : Arc
no_arc = record { from = 0; to = 0; cost = pos 0; room = 0 }

abbrev pub arc_at : List Arc → ℕ → Arc
arc_at arcs k = slice_index_or arcs k no_arc

-- of the first so many arcs, the numbers of those that have node v at this end, in order
abbrev pub first_at : End → List Arc → ℕ → ℕ → List ℕ
first_at end arcs count v = filter (λ k. end_of end (arc_at arcs k) == v) (range_with_len 0 count)

-- the same of all arcs
abbrev pub arcs_at : End → List Arc → ℕ → List ℕ
arcs_at end arcs v = first_at end arcs (length arcs) v

-- by arc the node that it reaches
abbrev pub heads_in : List Arc → List ℕ
heads_in arcs = map (λ a. a.to) arcs
