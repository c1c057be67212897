-- What a walk is worth, by the arc that it joins to its near end.
use Rattle.std.proofs.Common.{◌≡◌, ℕ, ◌<◌, ◌⊎◌, inl, inr, Bool, true, false, cond, List, [], ◌∷◌, ◌++◌, length, Some, refl, sym, ap, ◌∙◌, arith, ℤ, pos, ◌+ℤ◌}
use Rattle.std.proofs.lemmas.Int.{ints}
use Rattle.vs_layer.specs.declared.arc.Arc.{Arc}
use Rattle.vs_layer.specs.Graph.{arc_of}
use Rattle.vs_layer.specs.Walks.{path_cost}
use Rattle.vs_match.specs.LayerGraph.{LayerGraph, kind_of}
use Rattle.vs_match.specs.WalkLaw.{IsMove}
use Rattle.vs_need.specs.declared.aim.Aim.{Aim}
use Rattle.vs_need.specs.Gains.{IsGain, Joins, far_of, fare, is_against, near_of, prize_of}
use Rattle.vs_need.proofs.Ends.{cost-snoc, ends-with, leads-snoc}

-- what two costs count together
pub fare-sum : (ray : Bool) (a b : ℤ) → fare ray (a +ℤ b) ≡ fare ray a +ℤ fare ray b
fare-sum true a b = refl
fare-sum false a b = refl

pub fare-none : (ray : Bool) → fare ray (pos 0) ≡ pos 0
fare-none true = refl
fare-none false = refl

-- the two ends of an arc in a pass against the arcs, and in one with them
abbrev pub near_by : Bool → Arc → ℕ
near_by b a = cond b a.from a.to

abbrev pub far_by : Bool → Arc → ℕ
far_by b a = cond b a.to a.from

-- a walk between v and u begins, at v, with arc k
record BeginsWith (n : LayerGraph) (b : Bool) (v : ℕ) (walk : List ℕ) (u : ℕ) : Type 0 where
  pub k : ℕ
  pub rest : List ℕ
  pub of_net : k < length n.graph.arcs
  pub moves : IsMove (kind_of n k)
  pub near : near_by b (arc_of n.graph k) ≡ v
  pub joins : Joins n b (far_by b (arc_of n.graph k)) rest u
  pub cost : path_cost n.graph walk ≡ (arc_of n.graph k).cost +ℤ path_cost n.graph rest

module _ (n : LayerGraph) where
  begins-with : (b : Bool) (v : ℕ) (walk : List ℕ) (u : ℕ) → Joins n b v walk u
      → ((walk ≡ []) × (v ≡ u)) ⊎ BeginsWith n b v walk u
  begins-with true v [] u joins = inl (refl, joins)
  begins-with true v (k ∷ ks) u joins = inr (record {
    k = k;
    rest = ks;
    of_net = joins.0;
    moves = joins.1;
    near = joins.2;
    joins = joins.3;
    cost = refl;
  })
  begins-with false v walk u joins =
      elim (ends-with n.graph (λ k. IsMove (kind_of n k)) walk u v joins) [
        | inl none ↦ inl (none.0, sym none.1)
        | inr last ↦ inr (record {
          k = last.k;
          rest = last.walk;
          of_net = last.of_net;
          moves = last.may;
          near = last.to;
          joins = last.leads;
          cost = last.cost;
        })
      ]

  -- the walk with arc k before it, at v
  abbrev with_arc : Bool → ℕ → List ℕ → List ℕ
  with_arc true k walk = k ∷ walk
  with_arc false k walk = walk ++ k ∷ []

  joins-none : (b : Bool) (v : ℕ) → Joins n b v [] v
  joins-none true v = refl
  joins-none false v = refl

  joins-more : (b : Bool) (k : ℕ) (walk : List ℕ) (u : ℕ) → k < length n.graph.arcs → IsMove (kind_of n k)
      → Joins n b (far_by b (arc_of n.graph k)) walk u
      → Joins n b (near_by b (arc_of n.graph k)) (with_arc b k walk) u
  joins-more true k walk u within moves joins = (within, moves, refl, joins)
  joins-more false k walk u within moves joins =
      leads-snoc n.graph (λ j. IsMove (kind_of n j)) walk u k joins within moves

  cost-more : (b : Bool) (k : ℕ) (walk : List ℕ)
      → path_cost n.graph (with_arc b k walk) ≡ (arc_of n.graph k).cost +ℤ path_cost n.graph walk
  cost-more true k walk = refl
  cost-more false k walk = cost-snoc n.graph (λ j. IsMove (kind_of n j)) walk k

module _ (n : LayerGraph) (into : List ℤ) (ray : Bool) (t : Aim) where
  -- x is what a walk is worth that is arc k alone, or has it as its arc at the near end
  abbrev pub IsThrough : ℕ → ℤ → Type 0
  IsThrough k x = (prize_of into ray t (kind_of n k) (arc_of n.graph k).cost ≡ Some x)
      ⊎ (IsMove (kind_of n k)
      × IsGain n into ray t (far_of t (arc_of n.graph k)) (x +ℤ fare ray (arc_of n.graph k).cost))

  pub through-gain : (k : ℕ) (x : ℤ) → k < length n.graph.arcs → IsThrough k x
      → IsGain n into ray t (near_of t (arc_of n.graph k)) x
  through-gain k x within (inl is_prize) = record {
    arc = k;
    prize = x;
    walk = [];
    of_net = within;
    is_prize = is_prize;
    joins = joins-none n (is_against t) (near_of t (arc_of n.graph k));
    worth = (let none = fare-none ray in omega (arith, ints, none));
  }
  through-gain k x within (inr (moves, gain)) = record {
    arc = gain.arc;
    prize = gain.prize;
    walk = with_arc n (is_against t) k gain.walk;
    of_net = gain.of_net;
    is_prize = gain.is_prize;
    joins = joins-more n (is_against t) k gain.walk (near_of t (arc_of n.graph gain.arc)) within moves gain.joins;
    worth =
        let cost = ap (fare ray) (cost-more n (is_against t) k gain.walk)
        ∙ fare-sum ray (arc_of n.graph k).cost (path_cost n.graph gain.walk) in
        let worth = gain.worth in
        omega (arith, ints, cost, worth);
  }

  pub gain-through : (v : ℕ) (x : ℤ) → IsGain n into ray t v x
      → (k : ℕ) × (k < length n.graph.arcs) × (near_of t (arc_of n.graph k) ≡ v) × IsThrough k x
  gain-through v x gain =
      elim (begins-with n (is_against t) v gain.walk (near_of t (arc_of n.graph gain.arc)) gain.joins) [
        | inl none ↦
            let cost = ap (λ w. fare ray (path_cost n.graph w)) none.0 ∙ fare-none ray in
            let worth = gain.worth in
            let same : gain.prize ≡ x = omega (arith, ints, cost, worth) in
            (gain.arc, gain.of_net, sym none.1, inl (gain.is_prize ∙ ap Some same))
        | inr begins ↦
            let cost = ap (fare ray) begins.cost
            ∙ fare-sum ray (arc_of n.graph begins.k).cost (path_cost n.graph begins.rest) in
            let worth = gain.worth in (
              begins.k,
              begins.of_net,
              begins.near,
              inr (
                begins.moves,
                record {
                  arc = gain.arc;
                  prize = gain.prize;
                  walk = begins.rest;
                  of_net = gain.of_net;
                  is_prize = gain.is_prize;
                  joins = begins.joins;
                  worth = omega (arith, ints, cost, worth);
                },
              ),
            )
      ]
