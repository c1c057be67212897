-- Arcs are taken unit by unit, and nodes arc by arc.
use Rattle.std.proofs.Common.{◌≡◌, ◌≢◌, ℕ, ◌+◌, ◌*◌, ◌<◌, ◌≤◌, Bool, true, List, [], length, take, get_or, set, refl, sym, ap, ◌∙◌, subst, inl, inr, arith, eqb}
use Rattle.std.specs.List.{All, range_with_len}
use Rattle.std.proofs.lemmas.Bool.{cases_eq, eq-eqb, ne_eqb, eqb-true}
use Rattle.std.proofs.lemmas.List.{get_or-set_same, get_or-set_other, set-set}
use Rattle.std.proofs.lemmas.List.Elements.{All-filter, filter_passes}
use Rattle.std.proofs.lemmas.List.FromFn.{length-range_with_len, get_or-range_with_len}
use Rattle.std.proofs.lemmas.List.Sums.{count_by_more_yes, count_by_more_no, sum_by-take-le}
use Rattle.vs_types.specs.declared.numbers.LayerNo.{LayerNo}
use Rattle.vs_layer.specs.Graph.{Graph, IsNet, arc_of, leaving}
use Rattle.vs_layer.specs.Circulation.{IsCirculation}
use Rattle.vs_instance.specs.Plan.{LayerBlock}
use Rattle.vs_match.specs.LayerGraph.{LayerGraph}
use Rattle.vs_match.specs.Underway.{IsOnward, IsDoneBelow}
use Rattle.vs_match.proofs.CallerLemmas.{as_one, one_more, times, times-first}
use Rattle.vs_decomp.specs.Stands.{CanTake, Goes, HaveCome, HaveTaken, HasTakenArc, IsAt, vehicles_at}
use Rattle.vs_decomp.proofs.Coming.{goes, some_vehicle}

-- an arc of a node but the last
pub record IsOut (g : Graph) (v k : ℕ) : Type 0 where
  pub of_net : k < length g.arcs
  pub from : (arc_of g k).from ≡ v
  pub once : times k (leaving g v) ≡ 1

-- the arcs that leave a node
pub out_at : (g : Graph) (v j d : ℕ) → j < length (leaving g v) → IsOut g v (get_or (leaving g v) j d)
out_at g v j d within =
    let p : ℕ → Bool = λ k. eqb (arc_of g k).from v in
    let all = range_with_len 0 (length g.arcs) in
    let below : All (λ k. k < length g.arcs) all = λ i e inside.
    let few : i < length g.arcs = let count = length-range_with_len 0 (length g.arcs) in omega (arith, inside, count) in
    omega (arith, few, get_or-range_with_len 0 (length g.arcs) i e few) in
    let k = get_or (leaving g v) j d in
    let of_net = All-filter p (λ (i : ℕ). i < length g.arcs) all below j d within in
    let passes : p k ≡ true = filter_passes p all j d within in
    record {
      of_net = of_net;
      from = eqb-true (arc_of g k).from v passes;
      once = times-first p (length g.arcs) k of_net ∙ ap as_one passes;
    }

module _ (n : LayerGraph) (net : IsNet n.graph) (units : List ℕ) (circulates : IsCirculation n.graph units) where
  module _ (k : ℕ) (onward : IsOnward n.graph k) where
    abbrev v : ℕ
    v = (arc_of n.graph k).from

    -- some units of an arc more change nothing below it
    below_set : (done : List ℕ) (u count : ℕ) → u ≤ v → IsDoneBelow n.graph units u done
        → IsDoneBelow n.graph units u (set done k count)
    below_set done u count le below j onward' less =
        get_or-set_other done k j count 0
        (λ same. omega (arith, le, less, ap (λ (i : ℕ). (arc_of n.graph i).from) same)) ∙ below j onward' less

    count_set : (l : LayerNo) (done : List ℕ) (old : List (List LayerBlock)) (count : ℕ) → HaveCome n l units done old
        → get_or (set done k count) k 0 ≡ count
    count_set l done old count come =
        get_or-set_same done k count 0 (let same = come.under.each_arc in omega (arith, onward, same))

    -- while units are left, a vehicle stands there
    pub some_left : (count : ℕ) (old now : List (List LayerBlock)) → count < get_or units k 0
        → (can : CanTake n units k old) → HaveTaken n units k count old now
        → (come : HaveCome n can.layer units (set can.done k count) now)
        × (0 < length (vehicles_at now v))
    some_left count old now less can taken =
        let come = taken can.layer can.done can.come can.below can.none in
        let set-is = count_set can.layer can.done old count can.come in (
          come,
          some_vehicle n can.layer net units circulates k onward (set can.done k count) now come
              (below_set can.done v count (omega arith) can.below) (omega (arith, set-is, less)),
        )

    -- one unit more
    pub taken_more : (count : ℕ) (old now new : List (List LayerBlock)) → count < get_or units k 0
        → HaveTaken n units k count old now → Goes n k now new → HaveTaken n units k (count + 1) old new
    taken_more count old now new less taken go l done come below none =
        let before = taken l done come below none in
        let set-is = count_set l done old count come in
        let next =
        goes n l net units circulates k onward (set done k count) now new before (omega (arith, set-is, less)) go in
        let same : one_more (set done k count) k ≡ set done k (count + 1) =
        set-set done k count (get_or (set done k count) k 0 + 1)
        ∙ ap (λ (c : ℕ). set done k (c + 1)) set-is in
        subst (λ (d : List ℕ). HaveCome n l units d new) same next

  module _ (v : ℕ) (inner : v + 1 < n.graph.nodes) where
    -- an arc that leaves the node isn't the return arc
    pub goes_on : (k : ℕ) → IsOut n.graph v k → IsOnward n.graph k
    goes_on k out =
        elim (cases_eq (k + 1) (length n.graph.arcs)) [
          | inl last ↦
              let back = (net.each_arc k out.of_net).goes_on.from_last last in
              let from = out.from in
              absurd (omega (arith, back, from, inner))
          | inr other ↦ let of_net = out.of_net in omega (arith, of_net, other)
        ]

    -- how often an arc that comes next has been taken
    times_next : (j d : ℕ) → j < length (leaving n.graph v) → (i : ℕ)
        → times i (take (j + 1) (leaving n.graph v))
        ≡ times i (take j (leaving n.graph v)) + as_one (eqb (get_or (leaving n.graph v) j d) i)
    times_next j d within i =
        elim (cases_eq (get_or (leaving n.graph v) j d) i) [
          | inl same ↦
              let yes' = eq-eqb (get_or (leaving n.graph v) j d) i same in
              count_by_more_yes (λ x. eqb x i) (leaving n.graph v) j d within yes'
              ∙ ap (λ (t : ℕ). times i (take j (leaving n.graph v)) + t) (sym (ap as_one yes'))
          | inr other ↦
              let no' = ne_eqb (get_or (leaving n.graph v) j d) i other in
              count_by_more_no (λ x. eqb x i) (leaving n.graph v) j d within no'
              ∙ omega (arith, ap as_one no')
        ]

    times_before : (j d : ℕ) → j < length (leaving n.graph v)
        → times (get_or (leaving n.graph v) j d) (take j (leaving n.graph v)) ≡ 0
    times_before j d within =
        let k = get_or (leaving n.graph v) j d in
        let next = times_next j d within k in
        let own = ap as_one (eq-eqb k k refl) in
        let few = sum_by-take-le (λ (x : ℕ). as_one (eqb x k)) (leaving n.graph v) (j + 1) in
        let once = (out_at n.graph v j d within).once in
        omega (arith, next, own, few, once)

    -- the next arc can be taken
    pub next_can : (l : LayerNo) (j d : ℕ) (now : List (List LayerBlock)) → j < length (leaving n.graph v)
        → IsAt n l units v (take j (leaving n.graph v)) now → CanTake n units (get_or (leaving n.graph v) j d) now
    next_can l j d now within at =
        let k = get_or (leaving n.graph v) j d in
        let out = out_at n.graph v j d within in
        record {
          layer = l;
          done = at.done;
          come = at.come;
          below = subst (λ (u : ℕ). IsDoneBelow n.graph units u at.done) (sym out.from) at.below;
          none = at.here k (goes_on k out) out.from
              ∙ ap (λ (t : ℕ). get_or units k 0 * t) (times_before j d within) ∙ omega arith;
        }

    -- once it is taken, it is among those that are
    pub next_taken : (l : LayerNo) (j d : ℕ) (now new : List (List LayerBlock)) → j < length (leaving n.graph v)
        → IsAt n l units v (take j (leaving n.graph v)) now
        → HasTakenArc n units (get_or (leaving n.graph v) j d) now new
        → IsAt n l units v (take (j + 1) (leaving n.graph v)) new
    unfolding next_can
    next_taken l j d now new within at taken =
        let k = get_or (leaving n.graph v) j d in
        let out = out_at n.graph v j d within in
        let can = next_can l j d now within at in
        let onward = goes_on k out in
        let count = get_or units k 0 in
        let others : (i : ℕ) → i ≢ k → get_or (set at.done k count) i 0 ≡ get_or at.done i 0 = λ i apart.
        get_or-set_other at.done k i count 0 apart in
        record {
          done = set at.done k count;
          come = taken l at.done at.come can.below can.none;
          below = below_set k onward at.done v count (let from = out.from in omega (arith, from)) at.below;
          here = λ i onward' from. elim (cases_eq i k) [
            | inl same ↦
                let written = ap (λ (x : ℕ). get_or (set at.done k count) x 0) same
                ∙ count_set k onward l at.done now count at.come in
                let read = ap (λ (x : ℕ). get_or units x 0) same in
                let once = times_next j d within i ∙ ap (λ (t : ℕ). times i (take j (leaving n.graph v)) + t)
                (ap as_one (eq-eqb k i (sym same)))
                ∙ ap (λ (x : ℕ). times x (take j (leaving n.graph v)) + 1) same
                ∙ ap (λ (t : ℕ). t + 1) (times_before j d within) in
                written ∙ sym read ∙ omega (arith, ap (λ (t : ℕ). get_or units i 0 * t) once)
            | inr apart ↦
                let none = times_next j d within i ∙ ap (λ (t : ℕ). times i (take j (leaving n.graph v)) + t)
                (ap as_one (ne_eqb k i (λ e. apart (sym e)))) ∙ omega arith in
                others i apart ∙ at.here i onward' from ∙ ap (λ (t : ℕ). get_or units i 0 * t) (sym none)
          ];
          later = λ i onward' more. others i
              (λ same. let from = out.from in omega (arith, more, from, ap (λ (x : ℕ). (arc_of n.graph x).from) same))
              ∙ at.later i onward' more;
        }

    -- with all of them the next node is reached
    pub node_taken : (l : LayerNo) (now : List (List LayerBlock)) → IsAt n l units v (leaving n.graph v) now
        → IsAt n l units (v + 1) [] now
    node_taken l now at = record {
      done = at.done;
      come = at.come;
      below = λ i onward less. elim (cases_eq (arc_of n.graph i).from v) [
        | inr apart ↦ at.below i onward (omega (arith, less, apart))
        | inl same ↦
            let once = times-first (λ k. eqb (arc_of n.graph k).from v) (length n.graph.arcs) i (omega (arith, onward))
            ∙ ap as_one (eq-eqb (arc_of n.graph i).from v same) in
            at.here i onward same ∙ ap (λ (t : ℕ). get_or units i 0 * t) once ∙ omega arith
      ];
      here = λ i onward from. at.later i onward (omega (arith, from)) ∙ omega arith;
      later = λ i onward more. at.later i onward (omega (arith, more));
    }
