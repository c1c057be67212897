-- Arcs that stand in a net as they should have no fault.
use Rattle.std.proofs.Common.{ℕ, List, length, inl, inr, arith}
use Rattle.vs_layer.specs.declared.arc.Arc.{Arc}
use Rattle.vs_layer.specs.declared.net_error.NetFault.{NetFault}
use Rattle.vs_layer.specs.declared.net_error.NetFault.TheVariants.{NoSuchNode, NotForward}
use Rattle.vs_layer.specs.Graph.{IsRightArc, AllRight}
use Rattle.vs_layer.specs.Faults.{IsFaultOf, IsFirstFault}

right_or_fault : (nodes count k : ℕ) (a : Arc) (fault : NetFault) → IsRightArc nodes count k a
    → IsFaultOf nodes count k a fault → ⊥
right_or_fault nodes count k a (NoSuchNode n) right (number, inl from) = omega (arith, right.from, from)
right_or_fault nodes count k a (NoSuchNode n) right (number, inr to) = omega (arith, right.to, to)
right_or_fault nodes count k a (NotForward n) right (number, from, to, not) = not right.goes_on

pub no_fault : (nodes : ℕ) (arcs : List Arc) (fault : NetFault) → AllRight nodes arcs
    → IsFirstFault nodes arcs fault → ⊥
no_fault nodes arcs fault right first =
    right_or_fault nodes (length arcs) first.k _ fault (right first.k first.of_net) first.is_fault
