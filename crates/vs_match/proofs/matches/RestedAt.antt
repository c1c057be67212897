-- The arcs by which vehicles rest, by the nodes of the depot line.
use Rattle.std.proofs.Common.{◌≡◌, ℕ, ◌+◌, ◌-◌, ◌<◌, ◌≤◌, List, length, get_or, inl, inr, arith, sym, ap, ◌∙◌, refl, subst}
use Rattle.std.specs.Prelude.{AllPairs, Contains}
use Rattle.std.proofs.lemmas.Bool.{cases_lt, cases_order}
use Rattle.vs_instance.specs.declared.way.Way.{Way}
use Rattle.vs_instance.specs.Problem.{Problem}
use Rattle.vs_instance.specs.Ways.{layer_of}
use Rattle.vs_match.specs.declared.event.Point.{Point}
use Rattle.vs_match.specs.declared.stop_node.StopNode.{StopNode}
use Rattle.vs_match.specs.declared.arc_kind.LayerArc.{LayerArc}
use Rattle.vs_match.specs.Events.{ArrivesAt, IsBefore, IsLineMinute, ArePoints, HasPlace, HasLine, line_point}
use Rattle.vs_match.specs.ArcsOf.{rest_in_of, rest_wait_of, rest_out_of}
use Rattle.vs_match.specs.DepotDrives.{IsRestInFrom, IsRestOutTo}
use Rattle.vs_match.specs.StopNodes.{IsRising, event_of, AreLineNodes}
use Rattle.vs_match.specs.Sweep.{IsFirstFrom}
use Rattle.vs_match.specs.Adds.{Adds}
use Rattle.vs_match.specs.Parts.{IsRestIn, IsRestWait}
use Rattle.vs_match.proofs.events.Adding.{Upto, adds-as}
use Rattle.vs_match.proofs.events.Places.{placed, has_node, same_node}
use Rattle.vs_match.proofs.matches.WaitedAt.{AtPlace, same_at, at_place}
use Rattle.vs_match.proofs.matches.Sweeping.{same_departure}
use Rattle.vs_match.proofs.walks.ClosedWays.{some-same}

-- there is one way in from an arrival
pub only_rest_in : (p : Problem) (l : ℕ) (line : List StopNode) → IsRising line → (since : StopNode) (x y : LayerArc)
    → IsRestInFrom p l line since x → IsRestInFrom p l line since y → x ≡ y
only_rest_in p l line rising since x y of of' =
    let stay = some-same of.stay of'.stay (sym of.stay_is ∙ of'.stay_is) in
    let by = some-same of.by of'.by (sym of.way_is ∙ of'.way_is) in
    let P : ℕ → Type 0 = λ m. IsFirstFrom line m of.until in
    let ready : since.minute + of.by.minutes + of.stay ≡ since.minute + of'.by.minutes + of'.stay =
    omega (arith, stay, ap (λ (w : Way). w.minutes) by) in
    let until = same_departure line rising (since.minute + of'.by.minutes + of'.stay) of.until of'.until
    (subst P ready of.first) of'.first in
    of.is ∙ ap (λ (w : Way). rest_in_of p l w since of.until) by
    ∙ ap (λ (s : StopNode). rest_in_of p l of'.by since s) until ∙ sym of'.is

-- and one way out to a departure
pub only_rest_out : (p : Problem) (l : ℕ) (points : List Point) → AllPairs IsBefore points → (until : StopNode)
    (x y : LayerArc) → IsRestOutTo p l points until x → IsRestOutTo p l points until y → x ≡ y
only_rest_out p l points ordered until x y of of' =
    let by = some-same of.by of'.by (sym of.after.way_is ∙ of'.after.way_is) in
    let P : ℕ → Type 0 = λ m. HasLine points of.since m in
    let left : until.minute - of.by.minutes ≡ until.minute - of'.by.minutes =
    ap (λ (w : Way). until.minute - w.minutes) by in
    let since = same_node points ordered of.since of'.since (line_point (until.minute - of'.by.minutes))
    (subst P left of.leaves) of'.leaves in
    of.is ∙ ap (λ (w : Way). rest_out_of p l w of.since until) by
    ∙ ap (λ (v : ℕ). rest_out_of p l of'.by v until) since ∙ sym of'.is

-- the rest up to node k of the depot line
pub record OfRestWait (p : Problem) (l : ℕ) (line : List StopNode) (k : ℕ) (x : LayerArc) : Type 0 where
  pub since : StopNode
  pub until : StopNode
  pub first : ℕ
  pub follows : k ≡ first + 1
  pub at : AtPlace line first since
  pub at_next : AtPlace line k until
  pub is : x ≡ rest_wait_of p l since until

pub only_wait_at : (p : Problem) (l : ℕ) (line : List StopNode) (k : ℕ) (x y : LayerArc) → OfRestWait p l line k x
    → OfRestWait p l line k y → x ≡ y
only_wait_at p l line k x y of of' =
    let firsts : of'.first ≡ of.first = omega (arith, of.follows, of'.follows) in
    let P : ℕ → Type 0 = λ n. AtPlace line n of'.since in
    let since = same_at line of.first of.since of'.since of.at (subst P firsts of'.at) in
    let until = same_at line k of.until of'.until of.at_next of'.at_next in
    of.is ∙ ap (λ (s : StopNode). rest_wait_of p l s of.until) since
    ∙ ap (λ (s : StopNode). rest_wait_of p l of'.since s) until ∙ sym of'.is

module _ (p : Problem) (l : ℕ) (points : List Point) (are_points : ArePoints p l points) (line : List StopNode)
    (are_line : AreLineNodes points (layer_of p l).depot line) where
  -- a minute of the depot line has a node among these
  line_node : (minute : ℕ) → IsLineMinute p l minute → (s : StopNode) × Contains line s × (s.minute ≡ minute)
  line_node minute is =
      let v = has_node points (line_point minute) (are_points.every (line_point minute) is) in
      let s : StopNode = record { stop = (layer_of p l).depot; minute = minute; node = v.0 } in
      (s, are_line.every s v.1 refl, refl)

  is_line : (minute v : ℕ) → HasLine points v minute → IsLineMinute p l minute
  is_line minute v at =
      let x = placed points v (line_point minute) at in
      are_points.only (line_point minute) (x.k, x.within, x.point (line_point minute))

  -- a minute as a node of the depot line
  line_at_node : (minute v : ℕ) → HasLine points v minute
      → Contains line (record { stop = (layer_of p l).depot; minute = minute; node = v })
  line_at_node minute v at = are_line.every (record { stop = (layer_of p l).depot; minute = minute; node = v }) at refl

  -- the ways in
  pub to_rest_in : (since : StopNode) → HasPlace points since.node (event_of since) × ArrivesAt p l (event_of since)
      → (x : LayerArc) → IsRestInFrom p l line since x → IsRestIn p l points x
  to_rest_in since (place, arrives) x of =
      let u = (are_line.only of.until of.first.departs).0 in
      let P : ℕ → Type 0 = λ v. HasPlace points v (event_of since) in
      let Q : ℕ → Type 0 = λ v. HasLine points v of.until.minute in (
        ap (λ (y : LayerArc). y.kind) of.is,
        record {
          since = event_of since;
          by = of.by;
          stay = of.stay;
          until = of.until.minute;
          from = subst P (sym (ap (λ (y : LayerArc). y.from) of.is)) place;
          to = subst Q (sym (ap (λ (y : LayerArc). y.to) of.is)) u;
          arrives = arrives;
          way_is = of.way_is;
          stay_is = of.stay_is;
          rested = of.first.in_time;
          first = λ minute is late.
              let c = line_node minute is in
              omega (arith, c.2, of.first.first c.0 c.1 (omega (arith, c.2, late)));
          cost = ap (λ (y : LayerArc). y.cost) of.is;
          room = ap (λ (y : LayerArc). y.room) of.is;
        },
      )

  pub from_rest_in : (x : LayerArc) (is : IsRestIn p l points x)
      → IsRestInFrom p l line (record { stop = is.1.since.stop; minute = is.1.since.minute; node = x.from }) x
  from_rest_in x (kind, arc) = record {
    stay = arc.stay;
    by = arc.by;
    until = record { stop = (layer_of p l).depot; minute = arc.until; node = x.to };
    stay_is = arc.stay_is;
    way_is = arc.way_is;
    first = record {
      departs = line_at_node arc.until x.to arc.to;
      in_time = arc.rested;
      first = λ c has_c late. arc.first c.minute (is_line c.minute c.node (are_line.only c has_c).0) late;
    };
    is = λ i. record { from = x.from; to = x.to; kind = kind i; cost = arc.cost i; room = arc.room i };
  }

  at_line : (k : ℕ) (s : StopNode) → AtPlace line k s → HasLine points s.node s.minute
  at_line k s at = (are_line.only s (k, at.0, at.1)).0

  -- minutes rise along the line
  pub later_on : (j k : ℕ) (a b : StopNode) → AtPlace line j a → AtPlace line k b → j < k → a.minute < b.minute
  later_on j k a b at at' less =
      let minute = ap (λ (s : StopNode). s.minute) at.1 in
      let minute' = ap (λ (s : StopNode). s.minute) (same_at line k _ b (at_place line k a at'.0) at') in
      omega (arith, minute, minute', are_line.rising j k a less at'.0)

  same_minute : (j k : ℕ) (a b : StopNode) → AtPlace line j a → AtPlace line k b → j ≡ k → a.minute ≡ b.minute
  same_minute j k a b at at' same =
      let P : ℕ → Type 0 = λ n. AtPlace line n a in
      ap (λ (s : StopNode). s.minute) (same_at line k a b (subst P same at) at')

  to_rest_wait : (k : ℕ) (x : LayerArc) → OfRestWait p l line k x → IsRestWait p l points x
  to_rest_wait k x of =
      let P : ℕ → Type 0 = λ v. HasLine points v of.since.minute in
      let Q : ℕ → Type 0 = λ v. HasLine points v of.until.minute in (
        ap (λ (y : LayerArc). y.kind) of.is,
        record {
          since = of.since.minute;
          until = of.until.minute;
          from = subst P (sym (ap (λ (y : LayerArc). y.from) of.is)) (at_line of.first of.since of.at);
          to = subst Q (sym (ap (λ (y : LayerArc). y.to) of.is)) (at_line k of.until of.at_next);
          later = later_on of.first k of.since of.until of.at of.at_next (omega (arith, of.follows));
          next = λ minute is later.
              let c = line_node minute is in
              let j = c.1.0 in
              let at : AtPlace line j c.0 = (c.1.1, c.1.2) in
              elim (cases_order j k) [
                | inl same ↦ omega (arith, c.2, same_minute j k c.0 of.until at of.at_next same)
                | inr more ↦ elim more [
                  | inr past ↦ omega (arith, c.2, later_on k j of.until c.0 of.at_next at past)
                  | inl before ↦ elim (cases_lt j of.first) [
                    | inl down ↦ absurd (omega (arith, c.2, later, later_on j of.first c.0 of.since at of.at down))
                    | inr up ↦
                        let here : j ≡ of.first = omega (arith, up, before, of.follows) in
                        absurd (omega (arith, c.2, later, same_minute j of.first c.0 of.since at of.at here))
                  ]
                ]
              ];
          cost = ap (λ (y : LayerArc). y.cost) of.is;
          room = ap (λ (y : LayerArc). y.room) of.is;
        },
      )

  from_rest_wait : (x : LayerArc) → IsRestWait p l points x → Upto (OfRestWait p l line) (length line) x
  from_rest_wait x (kind, arc) =
      let a : StopNode = record { stop = (layer_of p l).depot; minute = arc.since; node = x.from } in
      let b : StopNode = record { stop = (layer_of p l).depot; minute = arc.until; node = x.to } in
      let i = line_at_node arc.since x.from arc.from in
      let j = line_at_node arc.until x.to arc.to in
      let at : AtPlace line i.0 a = (i.1, i.2) in
      let at' : AtPlace line j.0 b = (j.1, j.2) in
      let later = arc.later in
      let up : i.0 < j.0 = elim (cases_order i.0 j.0) [
        | inl same ↦ absurd (omega (arith, later, same_minute i.0 j.0 a b at at' same))
        | inr more ↦ elim more [
          | inl up ↦ up
          | inr down ↦ absurd (omega (arith, later, later_on j.0 i.0 b a at' at down))
        ]
      ] in
      let next : j.0 ≡ i.0 + 1 = elim (cases_lt (i.0 + 1) j.0) [
        | inr le ↦ omega (arith, up, le)
        | inl gap ↦
            let y = get_or line (i.0 + 1) a in
            let at'' = at_place line (i.0 + 1) a (omega (arith, gap, j.1)) in
            let first = later_on i.0 (i.0 + 1) a y at at'' (omega arith) in
            let second = later_on (i.0 + 1) j.0 y b at'' at' gap in
            absurd (omega
            (arith, second, arc.next y.minute (is_line y.minute y.node (at_line (i.0 + 1) y at'')) first))
      ] in (
        j.0,
        j.1,
        record {
          since = a;
          until = b;
          first = i.0;
          follows = next;
          at = at;
          at_next = at';
          is = λ t. record { from = x.from; to = x.to; kind = kind t; cost = arc.cost t; room = arc.room t };
        },
      )

  pub rest_waits_are : (old new : List LayerArc) → Adds (Upto (OfRestWait p l line) (length line)) old new
      → Adds (IsRestWait p l points) old new
  rest_waits_are old new adds =
      adds-as (Upto (OfRestWait p l line) (length line)) (IsRestWait p l points) old new adds
      (λ x (k, within, of). to_rest_wait k x of) from_rest_wait

-- nothing comes of places past the end, and nothing of the first node
pub rests_past : (p : Problem) (l : ℕ) (line : List StopNode) (n : ℕ) (old new : List LayerArc) → length line ≤ n
    → Adds (Upto (OfRestWait p l line) n) old new → Adds (Upto (OfRestWait p l line) (length line)) old new
rests_past p l line n old new past adds =
    adds-as (Upto (OfRestWait p l line) n) (Upto (OfRestWait p l line) (length line)) old new adds
    (λ x (k, within, of). (k, of.at_next.0, of)) (λ x (k, within, of). (k, omega (arith, within, past), of))

pub no_rest_before : (p : Problem) (l : ℕ) (line : List StopNode) (x : LayerArc) → ¬ (OfRestWait p l line 0 x)
no_rest_before p l line x of = omega (arith, of.follows)
