-- From the first node, where all vehicles stand, to the last, where they have run their blocks.
use Rattle.std.proofs.Common.{◌≡◌, ℕ, ◌-◌, ◌<◌, Bool, not, cond, List, [], ◌∷◌, ◌++◌, length, get_or, set, refl, sym, ap, ◌∙◌, subst, arith}
use Rattle.std.specs.Prelude.{replicate}
use Rattle.std.specs.List.{filter}
use Rattle.std.proofs.lemmas.Bool.{ne_eqb}
use Rattle.std.proofs.lemmas.List.{map-set, get_or-set_other, get_or-replicate}
use Rattle.vs_types.specs.declared.numbers.LayerNo.{LayerNo}
use Rattle.vs_types.specs.declared.numbers.TripNo.{TripNo}
use Rattle.vs_types.proofs.CallerLemmas.{map-replicate}
use Rattle.vs_layer.specs.Graph.{IsNet}
use Rattle.vs_layer.specs.Circulation.{IsCirculation}
use Rattle.vs_instance.specs.Problem.{Problem}
use Rattle.vs_instance.specs.Instance.{IsInstance}
use Rattle.vs_instance.specs.Plan.{LayerBlock}
use Rattle.vs_match.specs.Decomposition.{Decompose}
use Rattle.vs_match.specs.LawfulNets.{IsLawful}
use Rattle.vs_match.specs.LayerGraph.{LayerGraph}
use Rattle.vs_match.specs.Underway.{IsOnward, Path, paths_at, trips_of, units_back}
use Rattle.vs_match.proofs.CallerLemmas.{arrived, block_in, blocks_along, decompose, done_first, stands_first, under_first}
use Rattle.vs_decomp.specs.Stands.{IsAt, has_run, run_on, vehicles_at}
use Rattle.vs_decomp.proofs.Coming.{have_run, run_at, count_nodes}

-- of the vehicles that have run something, their blocks
kept_one : (l : LayerNo) (trips : List TripNo) (rest : List LayerBlock)
    → cond (has_run (l, trips)) ((l, trips) ∷ rest) rest ≡ block_in l trips ++ rest
kept_one l [] rest = refl
kept_one l (i ∷ more) rest =
    ap (λ (b : Bool). cond (not b) ((l, i ∷ more) ∷ rest) rest)
    (ne_eqb (length (i ∷ more)) 0 (λ same. omega (arith, same)))

kept : (n : LayerGraph) (l : LayerNo) (paths : List Path)
    → filter has_run (have_run n l paths) ≡ blocks_along l n.kinds paths
kept n l [] = refl
kept n l (path ∷ rest) =
    ap (λ (bs : List LayerBlock). cond (has_run (run_on n l path)) (run_on n l path ∷ bs) bs) (kept n l rest)
    ∙ kept_one l (trips_of n.kinds path) (blocks_along l n.kinds rest)

module _ (n : LayerGraph) (l : LayerNo) (net : IsNet n.graph) (units : List ℕ)
    (circulates : IsCirculation n.graph units) where
  abbrev vehicles : ℕ
  vehicles = units_back n.graph units

  -- no vehicle has left the first node
  pub at_first : (stands : List (List LayerBlock))
      → stands ≡ set (replicate n.graph.nodes []) 0 (replicate vehicles (l, [])) → IsAt n l units 0 [] stands
  at_first stands is = record {
    done = done_first n.graph net units circulates;
    come = record {
      paths = stands_first n.graph net units circulates;
      are = is
          ∙ sym (map-set (have_run n l) (replicate n.graph.nodes []) 0 (replicate vehicles [])
          ∙ ap (λ (s : List (List LayerBlock)). set s 0 (have_run n l (replicate vehicles [])))
          (map-replicate (have_run n l) n.graph.nodes [])
          ∙ ap (λ (s : List LayerBlock). set (replicate n.graph.nodes []) 0 s)
          (map-replicate (run_on n l) vehicles []));
      under = under_first n.graph net units circulates;
    };
    below = λ i onward less. absurd (omega (arith, less));
    here = λ i onward from. nothing i onward ∙ omega arith;
    later = λ i onward more. nothing i onward;
  }
    where
      nothing : (i : ℕ) → IsOnward n.graph i → get_or (done_first n.graph net units circulates) i 0 ≡ 0
      nothing i onward =
          get_or-set_other (replicate (length n.graph.arcs) 0) (length n.graph.arcs - 1) i vehicles 0
          (λ same. omega (arith, same, onward))
          ∙ get_or-replicate (length n.graph.arcs) i 0 0 (omega (arith, onward))

-- at the last node the vehicles that have run something are the blocks
pub are_blocks : (p : Problem) → IsInstance p → (l : LayerNo) (n : LayerGraph) → IsLawful p l.0 n → (units : List ℕ)
    → IsCirculation n.graph units → (stands : List (List LayerBlock)) → IsAt n l units (n.graph.nodes - 1) [] stands
    → Decompose p l n units (filter has_run (vehicles_at stands (length stands - 1)))
are_blocks p is l n lawful units circulates stands at =
    let net = lawful.net in
    let paths = at.come.paths in
    let last = n.graph.nodes - 1 in
    let nodes = at.come.under.each_node in
    let within : last < length paths = let two = net.nodes in omega (arith, nodes, two) in
    let count = count_nodes n l units at.done stands at.come in
    let there : filter has_run (vehicles_at stands (length stands - 1)) ≡ blocks_along l n.kinds (paths_at paths last) =
    ap (λ (c : ℕ). filter has_run (vehicles_at stands (c - 1))) count
    ∙ ap (λ (s : List (List LayerBlock)). filter has_run (vehicles_at s last)) at.come.are
    ∙ ap (filter has_run) (run_at n l paths last within) ∙ kept n l (paths_at paths last) in
    let own =
    arrived n.graph net units circulates at.done paths at.come.under at.below in
    subst (Decompose p l n units) (sym there)
    (decompose p is l n lawful units (paths_at paths last) circulates own)
