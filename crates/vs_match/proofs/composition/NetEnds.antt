-- The return arc of a lawful net, and the arcs that go forward.
use Rattle.std.proofs.Common.{◌≡◌, ◌≢◌, ℕ, ◌+◌, ◌-◌, ◌<◌, List, length, refl, ap, ◌∙◌, subst, arith, inl, inr}
use Rattle.std.proofs.lemmas.Bool.{cases_eq}
use Rattle.std.proofs.lemmas.Option.{none-some}
use Rattle.vs_layer.specs.declared.arc.Arc.{Arc}
use Rattle.vs_layer.specs.Graph.{arc_of}
use Rattle.vs_instance.specs.Problem.{Problem}
use Rattle.vs_match.specs.declared.event.Point.{Point}
use Rattle.vs_match.specs.declared.arc_kind.ArcKind.{ArcKind}
use Rattle.vs_match.specs.declared.arc_kind.ArcKind.TheVariants.{Trip, Waiting, Deadhead, PullOut, PullIn, RestIn, RestWait, RestOut, Return}
use Rattle.vs_match.specs.Events.{HasPoint}
use Rattle.vs_match.specs.NetArcs.{IsReturnArc}
use Rattle.vs_match.specs.LawfulNets.{IsLawful, IsLawfulArc}
use Rattle.vs_match.specs.LayerGraph.{LayerGraph, kind_of}
use Rattle.vs_match.proofs.composition.Takings.{IsForward}

-- the first node stands for no point
pub no_point_at_first : (points : List Point) (v : ℕ) (x : Point) → v ≡ 0 → HasPoint points v x → ⊥
no_point_at_first points v x first at = none-some x (subst (λ (u : ℕ). HasPoint points u x) first at)

-- an arc that leads to the first node is the return arc
return_of_end : (p : Problem) (l : ℕ) (points : List Point) (a : Arc) (t : ArcKind) → IsLawfulArc p l points t a
    → a.to ≡ 0 → t ≡ Return
return_of_end p l points a (Trip i) is first = absurd (no_point_at_first points a.to _ first is.to)
return_of_end p l points a Waiting is first = absurd (no_point_at_first points a.to _ first is.1.1)
return_of_end p l points a Deadhead is first = absurd (no_point_at_first points a.to _ first is.1.1)
return_of_end p l points a PullOut is first = absurd (no_point_at_first points a.to _ first is.1.1)
return_of_end p l points a PullIn is first = absurd (omega (arith, is.1, first))
return_of_end p l points a RestIn is first = absurd (no_point_at_first points a.to _ first is.1.1)
return_of_end p l points a RestWait is first = absurd (no_point_at_first points a.to _ first is.1.1)
return_of_end p l points a RestOut is first = absurd (no_point_at_first points a.to _ first is.1.1)
return_of_end p l points a Return is first = refl

module _ (p : Problem) (l : ℕ) (n : LayerGraph) (lawful : IsLawful p l n) where
  -- the number of the return arc
  abbrev pub last : ℕ
  last = length n.graph.arcs - 1

  -- there is such an arc
  pub last-within : last < length n.graph.arcs
  last-within = omega (arith, lawful.net.some_arc)

  -- it is the last
  pub last-is : last + 1 ≡ length n.graph.arcs
  last-is = omega (arith, lawful.net.some_arc)

  -- its kind
  pub last_kind : kind_of n last ≡ Return
  last_kind =
      return_of_end p l n.points (arc_of n.graph last) (kind_of n last) (lawful.arcs last last-within)
      ((lawful.net.each_arc last last-within).goes_on.to_first last-is)

  -- where it leads, at no cost
  pub last_arc : IsReturnArc p l n.points (arc_of n.graph last)
  last_arc =
      subst (λ (t : ArcKind). IsLawfulArc p l n.points t (arc_of n.graph last)) last_kind
      (lawful.arcs last last-within)

  -- an arc of another kind goes forward
  pub forward : (k : ℕ) → k < length n.graph.arcs → kind_of n k ≢ Return → IsForward n.graph k
  forward k within other =
      elim (cases_eq k last) [
        | inl same ↦ absurd (other (ap (λ (j : ℕ). kind_of n j) same ∙ last_kind))
        | inr apart ↦ let apart' : k ≢ length n.graph.arcs - 1 = apart in omega (arith, within, apart')
      ]
