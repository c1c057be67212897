-- Waiting arcs are between nodes that follow each other at a stop.
use Rattle.std.proofs.Common.{◌≡◌, ℕ, ◌+◌, ◌<◌, ◌≤◌, List, length, get_or, inl, inr, arith, sym, ap, ◌∙◌, refl, subst}
use Rattle.std.proofs.lemmas.Bool.{cases_lt, cases_eq, cases_order}
use Rattle.std.proofs.lemmas.List.{get_or_default}
use Rattle.vs_types.specs.declared.numbers.StopNo.{StopNo}
use Rattle.vs_instance.specs.Problem.{Problem}
use Rattle.vs_match.specs.declared.event.Event.{Event}
use Rattle.vs_match.specs.declared.event.Point.{Point}
use Rattle.vs_match.specs.declared.stop_node.StopNode.{StopNode}
use Rattle.vs_match.specs.declared.arc_kind.LayerArc.{LayerArc}
use Rattle.vs_match.specs.Events.{IsEvent, HasPlace, point_of}
use Rattle.vs_match.specs.ArcsOf.{waiting_of}
use Rattle.vs_match.specs.StopNodes.{event_of, IsStopNodeBefore, AreStopNodes}
use Rattle.vs_match.specs.Adds.{Adds}
use Rattle.vs_match.specs.Parts.{IsWaiting}
use Rattle.vs_match.proofs.events.Adding.{Upto, adds-as}
use Rattle.vs_match.proofs.events.Places.{has_node, placed}
use Rattle.vs_match.proofs.walks.WaitingChains.{same_stop}
use Rattle.vs_match.specs.Events.{ArePoints}

-- the node at a place
abbrev pub AtPlace : List StopNode → ℕ → StopNode → Type 0
AtPlace stop_nodes k s = (k < length stop_nodes) × (get_or stop_nodes k s ≡ s)

pub same_at : (stop_nodes : List StopNode) (k : ℕ) (a b : StopNode) → AtPlace stop_nodes k a
    → AtPlace stop_nodes k b → a ≡ b
same_at stop_nodes k a b at at' = sym at.1 ∙ get_or_default stop_nodes k a b at.0 ∙ at'.1

pub at_place : (stop_nodes : List StopNode) (k : ℕ) (d : StopNode) → k < length stop_nodes
    → AtPlace stop_nodes k (get_or stop_nodes k d)
at_place stop_nodes k d within = (within, get_or_default stop_nodes k _ d within)

-- the waiting up to node k, where the node before it is at its stop
pub record OfNeighbours (p : Problem) (l : ℕ) (stop_nodes : List StopNode) (k : ℕ) (x : LayerArc) : Type 0 where
  pub since : StopNode
  pub until : StopNode
  pub first : ℕ
  pub follows : k ≡ first + 1
  pub at : AtPlace stop_nodes first since
  pub at_next : AtPlace stop_nodes k until
  pub same : since.stop ≡ until.stop
  pub is : x ≡ waiting_of p l since until

pub only_waiting : (p : Problem) (l : ℕ) (stop_nodes : List StopNode) (k : ℕ) (x y : LayerArc)
    → OfNeighbours p l stop_nodes k x
    → OfNeighbours p l stop_nodes k y → x ≡ y
only_waiting p l stop_nodes k x y of of' =
    let firsts : of'.first ≡ of.first = omega (arith, of.follows, of'.follows) in
    let P : ℕ → Type 0 = λ n. AtPlace stop_nodes n of'.since in
    let since = same_at stop_nodes of.first of.since of'.since of.at (subst P firsts of'.at) in
    let until = same_at stop_nodes k of.until of'.until of.at_next of'.at_next in
    of.is ∙ ap (λ (s : StopNode). waiting_of p l s of.until) since
    ∙ ap (λ (s : StopNode). waiting_of p l of'.since s) until
    ∙ sym of'.is

module _ (p : Problem) (l : ℕ) (points : List Point) (are_points : ArePoints p l points) (stop_nodes : List StopNode)
    (are : AreStopNodes points (IsEvent p l) stop_nodes) where
  is_event : (e : Event) (v : ℕ) → HasPlace points v e → IsEvent p l e
  is_event e v at =
      let x = placed points v (point_of e) at in are_points.only (point_of e) (x.k, x.within, x.point (point_of e))

  before : (j k : ℕ) (a b : StopNode) → AtPlace stop_nodes j a → AtPlace stop_nodes k b → j < k → IsStopNodeBefore a b
  before j k a b at at' less =
      let P : StopNode → Type 0 = λ s. IsStopNodeBefore s b in
      let Q : StopNode → Type 0 = λ s. IsStopNodeBefore (get_or stop_nodes j a) s in
      subst P at.1 (subst Q (same_at stop_nodes k _ b (at_place stop_nodes k a at'.0) at')
      (are.ordered j k a less at'.0))

  -- of two nodes at a stop the later stands further on
  further : (j k : ℕ) (a b : StopNode) → AtPlace stop_nodes j a → AtPlace stop_nodes k b → a.stop ≡ b.stop
      → a.minute < b.minute
      → j < k
  further j k a b at at' same later =
      let number = ap (λ (s : StopNo). s.0) same in
      elim (cases_order j k) [
        | inl equal ↦
            let P : ℕ → Type 0 = λ n. AtPlace stop_nodes n a in
            absurd (omega (
              arith,
              later,
              ap (λ (s : StopNode). s.minute) (same_at stop_nodes k a b
                  (subst P equal at) at'),
            ))
        | inr more ↦ elim more [
          | inl up ↦ up
          | inr down ↦
              absurd (elim (before k j b a at' at down) [
                | inl stop ↦ omega (arith, stop, number)
                | inr both ↦
                    omega (arith, both.1, later)
              ])
        ]
      ]

  pub at_stop_later : (j k : ℕ) (a b : StopNode) → AtPlace stop_nodes j a → AtPlace stop_nodes k b → a.stop ≡ b.stop
      → j < k
      → a.minute < b.minute
  at_stop_later j k a b at at' same less =
      elim (before j k a b at at' less) [
        | inl stop ↦
            absurd (omega (arith, stop, ap (λ (s : StopNo). s.0) same))
        | inr both ↦ both.1
      ]

  to_waiting : (k : ℕ) (x : LayerArc) → OfNeighbours p l stop_nodes k x → IsWaiting p l points x
  to_waiting k x of =
      let a = are.only of.since (of.first, of.at.0, of.at.1) in
      let b = are.only of.until (k, of.at_next.0, of.at_next.1) in
      let P : ℕ → Type 0 = λ v. HasPlace points v (event_of of.since) in
      let Q : ℕ → Type 0 = λ v. HasPlace points v (event_of of.until) in (
        ap (λ (y : LayerArc). y.kind) of.is,
        record {
          since = event_of of.since;
          until = event_of of.until;
          from = subst P (sym (ap (λ (y : LayerArc). y.from) of.is)) a.0;
          to = subst Q (sym (ap (λ (y : LayerArc). y.to) of.is)) b.0;
          same_stop = of.same;
          later = at_stop_later of.first k of.since of.until of.at of.at_next of.same (omega (arith, of.follows));
          next = λ e is same later.
              let v = has_node points (point_of e) (are_points.every (point_of e) is) in
              let s : StopNode = record { stop = e.stop; minute = e.minute; node = v.0 } in
              let has = are.every s v.1 is in
              let up = further of.first has.0 of.since s of.at (has.1, has.2) (sym same) later in
              elim (cases_eq has.0 k) [
                | inl last ↦
                    let R : ℕ → Type 0 = λ n. AtPlace stop_nodes n s in
                    omega (
                      arith,
                      ap (λ (y : StopNode). y.minute)
                          (same_at stop_nodes k s of.until (subst R last (has.1, has.2)) of.at_next),
                    )
                | inr other ↦
                    omega (
                      arith,
                      at_stop_later k has.0 of.until s of.at_next (has.1, has.2) (sym of.same ∙ sym same)
                          (omega (arith, up, other, of.follows)),
                    )
              ];
          cost = ap (λ (y : LayerArc). y.cost) of.is;
          room = ap (λ (y : LayerArc). y.room) of.is;
        },
      )

  -- no node stands between the two of a waiting arc
  none_between : (x : LayerArc) (w : IsWaiting p l points x) (i j : ℕ) (a b : StopNode) → event_of a ≡ w.1.since
      → event_of b ≡ w.1.until
      → AtPlace stop_nodes i a → AtPlace stop_nodes j b → i + 1 < j → ⊥
  none_between x w i j a b is is' at at' gap =
      let arc = w.1 in
      let same : a.stop ≡ b.stop =
      ap (λ (e : Event). e.stop) is ∙ arc.same_stop ∙ sym (ap (λ (e : Event). e.stop) is') in
      let y = get_or stop_nodes (i + 1) a in
      let at'' = at_place stop_nodes (i + 1) a (omega (arith, gap, at'.0)) in
      let first = before i (i + 1) a y at at'' (omega arith) in
      let second = before (i + 1) j y b at'' at' gap in
      let number = ap (λ (s : StopNo). s.0) same in
      let minute = ap (λ (e : Event). e.minute) is in
      let minute' = ap (λ (e : Event). e.minute) is' in
      let event = (are.only y (i + 1, at''.0, at''.1)).1 in
      elim first [
        | inl stop ↦
            elim second [
              | inl stop' ↦ omega (arith, stop, stop', number)
              | inr both' ↦
                  omega (arith, stop, both'.0, number)
            ]
        | inr both ↦ elim second [
          | inl stop' ↦ omega (arith, both.0, stop', number)
          | inr both' ↦
              let there : (event_of y).stop ≡ arc.since.stop =
              same_stop _ _ (sym both.0) ∙ ap (λ (e : Event). e.stop) is in
              omega (arith, both'.1, minute', arc.next (event_of y) event there (omega (arith, both.1, minute)))
        ]
      ]

  from_waiting : (x : LayerArc) → IsWaiting p l points x → Upto (OfNeighbours p l stop_nodes) (length stop_nodes) x
  from_waiting x (kind, arc) =
      let a : StopNode = record { stop = arc.since.stop; minute = arc.since.minute; node = x.from } in
      let b : StopNode = record { stop = arc.until.stop; minute = arc.until.minute; node = x.to } in
      let i = are.every a arc.from (is_event arc.since x.from arc.from) in
      let j = are.every b arc.to (is_event arc.until x.to arc.to) in
      let up = further i.0 j.0 a b (i.1, i.2) (j.1, j.2) arc.same_stop arc.later in
      let next : j.0 ≡ i.0 + 1 = elim (cases_lt (i.0 + 1) j.0) [
        | inl gap ↦ absurd (none_between x (kind, arc) i.0 j.0 a b refl refl (i.1, i.2) (j.1, j.2) gap)
        | inr le ↦ omega (arith, up, le)
      ] in (
        j.0,
        j.1,
        record {
          since = a;
          until = b;
          first = i.0;
          follows = next;
          at = (i.1, i.2);
          at_next = (j.1, j.2);
          same = arc.same_stop;
          is = λ t. record { from = x.from; to = x.to; kind = kind t; cost = arc.cost t; room = arc.room t };
        },
      )

  pub waiting_is : (old new : List LayerArc) → Adds (Upto (OfNeighbours p l stop_nodes) (length stop_nodes)) old new
      → Adds (IsWaiting p l points) old new
  waiting_is old new adds =
      adds-as (Upto (OfNeighbours p l stop_nodes) (length stop_nodes)) (IsWaiting p l points) old new adds
      (λ x (k, within, of). to_waiting k x of) from_waiting

-- nothing comes of places past the end
pub waiting_past : (p : Problem) (l : ℕ) (stop_nodes : List StopNode) (n : ℕ) (old new : List LayerArc)
    → length stop_nodes ≤ n
    → Adds (Upto (OfNeighbours p l stop_nodes) n) old new
    → Adds (Upto (OfNeighbours p l stop_nodes) (length stop_nodes)) old new
waiting_past p l stop_nodes n old new past adds =
    adds-as (Upto (OfNeighbours p l stop_nodes) n) (Upto (OfNeighbours p l stop_nodes) (length stop_nodes)) old new adds
    (λ x (k, within, of). (k, of.at_next.0, of)) (λ x (k, within, of). (k, omega (arith, within, past), of))

-- the first node has none before it
pub none_before_first : (p : Problem) (l : ℕ) (stop_nodes : List StopNode) (x : LayerArc)
    → ¬ (OfNeighbours p l stop_nodes 0 x)
none_before_first p l stop_nodes x of = omega (arith, of.follows)
