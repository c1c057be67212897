-- What a pass has found after so many arcs.
use Rattle.std.proofs.Common.{◌≡◌, ◌≢◌, ℕ, ◌+◌, ◌<◌, ◌≤◌, ◌⊎◌, inl, inr, Bool, true, false, List, length, get_or, set, replicate, Option, None, refl, sym, ap, ◌∙◌, subst, arith, w64, ℤ, FitsSigned}
use Rattle.std.proofs.lemmas.Bool.{cases_eq, cases_lt}
use Rattle.std.proofs.lemmas.List.{get_or-set_same, get_or-set_other}
use Rattle.vs_layer.specs.declared.arc.Arc.{Arc}
use Rattle.vs_layer.specs.declared.arc.TheConstants.{MAX_ARCS}
use Rattle.vs_layer.specs.Graph.{arc_of}
use Rattle.vs_instance.specs.HoldingTable.{price_of}
use Rattle.vs_match.specs.declared.arc_kind.ArcKind.{ArcKind}
use Rattle.vs_match.specs.declared.arc_kind.ArcKind.TheVariants.{Trip, Waiting, Deadhead, PullOut, PullIn, RestIn, RestWait, RestOut, Return}
use Rattle.vs_match.specs.LayerGraph.{LayerGraph, IsArcOfTrip, arcs_in, kind_of}
use Rattle.vs_match.specs.WalkLaw.{IsMove}
use Rattle.vs_match.proofs.CallerLemmas.{get_or-copies, trip_number-is}
use Rattle.vs_need.specs.declared.aim.Aim.{Aim}
use Rattle.vs_need.specs.Greatest.{IsGreatest, IfWide, greater_of}
use Rattle.vs_need.specs.Gains.{AreGains, IsGain, far_of, is_against, near_of, prize_of}
use Rattle.vs_need.specs.Nets.{CanBePassed}
use Rattle.vs_need.specs.Reading.{arc_after, noted, offer_of}
use Rattle.vs_need.proofs.Greatest.{greatest-both, greatest-same}
use Rattle.vs_need.proofs.Joined.{IsThrough, far_by, gain-through, near_by, through-gain}
use Rattle.vs_need.proofs.Offers.{greatest-offer, no_return}
use Rattle.vs_need.proofs.ReadOrder.{IsReadBy, read_all, read_before, read_more, read_new, read_none, read_not, read_older, read_within}
use Rattle.vs_need.proofs.Widths.{if_wide-≤, wide-greater, wide-offer}

-- x is the worth of a walk to node v whose arc there was read
abbrev pub IsFound : LayerGraph → List ℤ → Bool → Aim → ℕ → ℕ → ℤ → Type 0
IsFound n into ray t read v x = (k : ℕ) × IsReadBy (is_against t) (arcs_in n) read k
    × (near_of t (arc_of n.graph k) ≡ v) × IsThrough n into ray t k x

pub record IsUnderWay (n : LayerGraph) (into : List ℤ) (ray : Bool) (t : Aim) (read : ℕ)
    (values found : List (Option ℤ)) : Type 0 where
  pub values_are : (v : ℕ) → v < n.graph.nodes → IsGreatest (IsFound n into ray t read v) (get_or values v None)
  pub wide_values : (v : ℕ) → IfWide read (get_or values v None)
  pub at_trips : (i k : ℕ) → IsArcOfTrip n.kinds i k → IsReadBy (is_against t) (arcs_in n) read k
      → IsGreatest (IsGain n into ray t (far_of t (arc_of n.graph k))) (get_or found i None)
  pub nowhere : (i : ℕ) → ((k : ℕ) → ¬ (IsArcOfTrip n.kinds i k)) → get_or found i None ≡ None
  pub wide_found : (i : ℕ) → IfWide read (get_or found i None)

none_greatest : (Such : ℤ → Type 0) (a : Option ℤ) → a ≡ None → ((x : ℤ) → ¬ (Such x)) → IsGreatest Such a
none_greatest Such a is none = subst (IsGreatest Such) (sym is) none

none_wide : (m : ℕ) (a : Option ℤ) → a ≡ None → IfWide m a
none_wide m a is = subst (IfWide m) (sym is) tt

-- a trip's entry, and that of another trip
is_trip_or_not : (kind : ArcKind) (i : ℕ)
    → (kind ≡ Trip (record { 0 = i })) ⊎ (kind ≡ Trip (record { 0 = i }) → ⊥)
is_trip_or_not (Trip a) i = elim (cases_eq a.0 i) [
  | inl same ↦ inl (ap (λ (m : ℕ). Trip (record { 0 = m })) same)
  | inr other ↦ inr (λ e. other (trip_number-is a (record { 0 = i }) e))
]
is_trip_or_not Waiting i = inr (λ e. cc)
is_trip_or_not Deadhead i = inr (λ e. cc)
is_trip_or_not PullOut i = inr (λ e. cc)
is_trip_or_not PullIn i = inr (λ e. cc)
is_trip_or_not RestIn i = inr (λ e. cc)
is_trip_or_not RestWait i = inr (λ e. cc)
is_trip_or_not RestOut i = inr (λ e. cc)
is_trip_or_not Return i = inr (λ e. cc)

noted-same : (kind : ArcKind) (value : Option ℤ) (found : List (Option ℤ)) (i : ℕ) → kind ≡ Trip (record { 0 = i })
    → i < length found → get_or (noted kind value found) i None ≡ value
noted-same kind value found i is room =
    ap (λ (k : ArcKind). get_or (noted k value found) i None) is ∙ get_or-set_same found i value None room

noted-other : (kind : ArcKind) (value : Option ℤ) (found : List (Option ℤ)) (i : ℕ)
    → (kind ≡ Trip (record { 0 = i }) → ⊥) → get_or (noted kind value found) i None ≡ get_or found i None
noted-other (Trip a) value found i other =
    get_or-set_other found a.0 i value None (λ e. other (ap (λ (m : ℕ). Trip (record { 0 = m })) (sym e)))
noted-other Waiting value found i other = refl
noted-other Deadhead value found i other = refl
noted-other PullOut value found i other = refl
noted-other PullIn value found i other = refl
noted-other RestIn value found i other = refl
noted-other RestWait value found i other = refl
noted-other RestOut value found i other = refl
noted-other Return value found i other = refl

ends_within : (b : Bool) (a : Arc) (nodes : ℕ) → a.from < nodes → a.to < nodes
    → (near_by b a < nodes) × (far_by b a < nodes)
ends_within true a nodes from to = (from, to)
ends_within false a nodes from to = (to, from)

module _ (n : LayerGraph) (into : List ℤ) (ray : Bool) (t : Aim) (can : CanBePassed n (length into)) where
  -- before the first arc nothing is found
  pub none_under_way : (m m' : ℕ) (values found : List (Option ℤ)) → values ≡ replicate m None
      → found ≡ replicate m' None → IsUnderWay n into ray t 0 values found
  none_under_way m m' values found e e' =
      let no_value : (v : ℕ) → get_or values v None ≡ None =
      λ v. ap (λ (l : List (Option ℤ)). get_or l v None) e ∙ get_or-copies None m v in
      let no_found : (i : ℕ) → get_or found i None ≡ None =
      λ i. ap (λ (l : List (Option ℤ)). get_or l i None) e' ∙ get_or-copies None m' i in
      record {
        values_are = λ v within. none_greatest _ _ (no_value v)
            (λ x h. read_none (is_against t) (arcs_in n) h.0 h.1);
        wide_values = λ v. none_wide 0 _ (no_value v);
        at_trips = λ i k is read. absurd (read_none (is_against t) (arcs_in n) k read);
        nowhere = λ i none. no_found i;
        wide_found = λ i. none_wide 0 _ (no_found i);
      }

  -- after the last arc all is found
  pub all_found : (values found : List (Option ℤ)) → arcs_in n ≤ MAX_ARCS
      → IsUnderWay n into ray t (arcs_in n) values found → AreGains n into ray t found
  all_found values found few under_way = record {
    at_trips = λ i k is.
        let within : k < arcs_in n = omega (arith, can.labelled.each_arc, is.0) in
        under_way.at_trips i k is (read_all (is_against t) (arcs_in n) k within);
    nowhere = under_way.nowhere;
    wide = λ i. if_wide-≤ (arcs_in n) MAX_ARCS (get_or found i None) few (under_way.wide_found i);
  }

  -- an arc with a worth is no return arc
  no_through_return : (k : ℕ) (x : ℤ) → IsThrough n into ray t k x → kind_of n k ≢ Return
  no_through_return k x (inl prize) is =
      let none = ap (λ (kind : ArcKind). prize_of into ray t kind (arc_of n.graph k).cost) is
      ∙ no_return into ray t (arc_of n.graph k).cost in
      absurd (cc)
  no_through_return k x (inr far) is = subst (λ kind. IsMove kind) is far.0

  module _ (read j : ℕ) (values found : List (Option ℤ)) (is : j ≡ arc_after t (arcs_in n) read)
      (within : read < arcs_in n) (of_net : j < arcs_in n) (under_way : IsUnderWay n into ray t read values found) where
    abbrev far : ℕ
    far = far_of t (arc_of n.graph j)

    abbrev near : ℕ
    near = near_of t (arc_of n.graph j)

    abbrev at_far : Option ℤ
    at_far = get_or values far None

    abbrev offer : Option ℤ
    offer = offer_of into ray t (kind_of n j) (arc_of n.graph j).cost at_far

    abbrev values' : List (Option ℤ)
    values' = set values near (greater_of (get_or values near None) offer)

    abbrev found' : List (Option ℤ)
    found' = noted (kind_of n j) at_far found

    ends : (near < n.graph.nodes) × (far < n.graph.nodes)
    ends =
        let right = can.net.each_arc j of_net in
        ends_within (is_against t) (arc_of n.graph j) n.graph.nodes right.from right.to

    -- all that can be joined to the far end is joined to it
    far_is : kind_of n j ≢ Return → IsGreatest (IsGain n into ray t far) at_far
    far_is real =
        greatest-same (IsFound n into ray t read far) (IsGain n into ray t far) at_far (under_way.values_are far ends.1)
        (λ x h. let at : ℕ → Type 0 = λ v. IsGain n into ray t v x in
        subst at h.2 (through-gain n into ray t h.0 x (read_within (is_against t) (arcs_in n) read h.0 h.1) h.3))
        (λ x gain. let g = gain-through n into ray t far x gain in (
          g.0,
          read_before n (length into) can (is_against t) read j g.0 is of_net g.1 real
              (no_through_return g.0 x g.3) g.2,
          g.2,
          g.3,
        ))

    offer_is : IsGreatest (IsThrough n into ray t j) offer
    offer_is =
        greatest-offer into ray t (kind_of n j) (arc_of n.graph j).cost (IsGain n into ray t far) at_far far_is

    is_new : IsReadBy (is_against t) (arcs_in n) (read + 1) j
    is_new =
        let P : ℕ → Type 0 = λ k. IsReadBy (is_against t) (arcs_in n) (read + 1) k in
        subst P (sym is) (read_new (is_against t) (arcs_in n) read within)

    older : (v : ℕ) (x : ℤ) → IsFound n into ray t read v x → IsFound n into ray t (read + 1) v x
    older v x h = (h.0, read_older (is_against t) (arcs_in n) read h.0 h.1, h.2, h.3)

    split : (v : ℕ) (x : ℤ) → IsFound n into ray t (read + 1) v x
        → IsFound n into ray t read v x ⊎ ((near ≡ v) × IsThrough n into ray t j x)
    split v x h = elim (read_more (is_against t) (arcs_in n) read h.0 within h.1) [
      | inl before ↦ inl (h.0, before, h.2, h.3)
      | inr last ↦
          let same : h.0 ≡ j = last ∙ sym is in
          let P : ℕ → Type 0 = λ k. (near_of t (arc_of n.graph k) ≡ v) × IsThrough n into ray t k x in
          inr (subst P same (h.2, h.3))
    ]

    module _ (room : n.graph.nodes ≤ length values) (room' : length into ≤ length found) where
      value_here : (v : ℕ) → v ≡ near → get_or values' v None ≡ greater_of (get_or values v None) offer
      value_here v same =
          ap (λ (w : ℕ). get_or values' w None) same
          ∙ get_or-set_same values near (greater_of (get_or values near None) offer) None (omega (arith, ends.0))
          ∙ ap (λ (w : ℕ). greater_of (get_or values w None) offer) (sym same)

      value_there : (v : ℕ) → v ≢ near → get_or values' v None ≡ get_or values v None
      value_there v other = get_or-set_other values near v (greater_of (get_or values near None) offer) None other

      values_are' : (v : ℕ) → v < n.graph.nodes → IsGreatest (IsFound n into ray t (read + 1) v) (get_or values' v None)
      values_are' v inside = elim (cases_eq v near) [
        | inl same ↦
            subst (IsGreatest (IsFound n into ray t (read + 1) v)) (sym (value_here v same))
            (greatest-both (IsFound n into ray t read v) (IsThrough n into ray t j) (IsFound n into ray t (read + 1) v)
            (get_or values v None) offer (under_way.values_are v inside) offer_is
            (λ x h. elim (split v x h) [ inl before ↦ inl before | inr last ↦ inr last.1 ])
            (older v)
            (λ x through. (j, is_new, sym same, through)))
        | inr other ↦
            subst (IsGreatest (IsFound n into ray t (read + 1) v)) (sym (value_there v other))
            (greatest-same (IsFound n into ray t read v) (IsFound n into ray t (read + 1) v) (get_or values v None)
            (under_way.values_are v inside) (older v)
            (λ x h. elim (split v x h) [ inl before ↦ before | inr last ↦ absurd (other (sym last.0)) ]))
      ]

      module _ (each : (i : ℕ) → FitsSigned w64 (price_of into i)) (fits : FitsSigned w64 (arc_of n.graph j).cost) where
        wide_values' : (v : ℕ) → IfWide (read + 1) (get_or values' v None)
        wide_values' v =
            let before = if_wide-≤ read (read + 1) (get_or values v None) (omega arith) (under_way.wide_values v) in
            elim (cases_eq v near) [
              | inl same ↦
                  subst (IfWide (read + 1)) (sym (value_here v same))
                  (wide-greater (read + 1) (get_or values v None) offer before
                  (wide-offer into each ray read (arc_of n.graph j).cost fits t (kind_of n j) at_far
                  (under_way.wide_values far)))
              | inr other ↦ subst (IfWide (read + 1)) (sym (value_there v other)) before
            ]

        at_trips' : (i k : ℕ) → IsArcOfTrip n.kinds i k → IsReadBy (is_against t) (arcs_in n) (read + 1) k
            → IsGreatest (IsGain n into ray t (far_of t (arc_of n.graph k))) (get_or found' i None)
        at_trips' i k trip is_read = elim (read_more (is_against t) (arcs_in n) read k within is_read) [
          | inl before ↦
              let other : kind_of n j ≡ Trip (record { 0 = i }) → ⊥ = λ e.
              let same = can.one_arc i k j trip (omega (arith, can.labelled.each_arc, of_net), e) in
              let P : ℕ → Type 0 = λ m. IsReadBy (is_against t) (arcs_in n) read m in
              read_not (is_against t) (arcs_in n) read within (subst P (same ∙ is) before) in
              subst (IsGreatest (IsGain n into ray t (far_of t (arc_of n.graph k))))
              (sym (noted-other (kind_of n j) at_far found i other)) (under_way.at_trips i k trip before)
          | inr last ↦
              let same : j ≡ k = is ∙ sym last in
              let kind : kind_of n j ≡ Trip (record { 0 = i }) = ap (kind_of n) same ∙ trip.1 in
              let room'' : i < length found = omega (arith, can.below i k trip, room') in
              let real : kind_of n j ≢ Return = λ e. cc in
              let P : ℕ → Type 0 = λ m. IsGreatest (IsGain n into ray t (far_of t (arc_of n.graph m))) at_far in
              subst (IsGreatest (IsGain n into ray t (far_of t (arc_of n.graph k))))
              (sym (noted-same (kind_of n j) at_far found i kind room'')) (subst P same (far_is real))
        ]

        nowhere' : (i : ℕ) → ((k : ℕ) → ¬ (IsArcOfTrip n.kinds i k)) → get_or found' i None ≡ None
        nowhere' i none =
            noted-other (kind_of n j) at_far found i
            (λ e. none j (omega (arith, can.labelled.each_arc, of_net), e)) ∙ under_way.nowhere i none

        wide_found' : (i : ℕ) → IfWide (read + 1) (get_or found' i None)
        wide_found' i = if_wide-≤ read (read + 1) (get_or found' i None) (omega arith)
            (elim (is_trip_or_not (kind_of n j) i) [
              | inl same ↦ elim (cases_lt i (length found)) [
                | inl room'' ↦
                    subst (IfWide read) (sym (noted-same (kind_of n j) at_far found i same room''))
                    (under_way.wide_values far)
                | inr past ↦
                    let below = can.below i j (omega (arith, can.labelled.each_arc, of_net), same) in
                    absurd (omega (arith, below, past, room'))
              ]
              | inr other ↦
                  subst (IfWide read) (sym (noted-other (kind_of n j) at_far found i other)) (under_way.wide_found i)
            ])

        pub one_more_arc : IsUnderWay n into ray t (read + 1) values' found'
        one_more_arc = record {
          values_are = values_are';
          wide_values = wide_values';
          at_trips = at_trips';
          nowhere = nowhere';
          wide_found = wide_found';
        }

        -- the step as it is taken
        pub passed : (arc : Arc) (kind : ArcKind) (values'' found'' : List (Option ℤ)) → arc ≡ arc_of n.graph j
            → kind ≡ kind_of n j
            → values'' ≡ set values (near_of t arc) (greater_of (get_or values (near_of t arc) None)
            (offer_of into ray t kind arc.cost (get_or values (far_of t arc) None)))
            → found'' ≡ noted kind (get_or values (far_of t arc) None) found
            → IsUnderWay n into ray t (read + 1) values'' found''
        passed arc kind values'' found'' e e' ev ef =
            let v : values'' ≡ values' =
            ev ∙ ap (λ (a : Arc). set values (near_of t a) (greater_of (get_or values (near_of t a) None)
            (offer_of into ray t kind a.cost (get_or values (far_of t a) None)))) e
            ∙ ap (λ (k : ArcKind). set values near (greater_of (get_or values near None)
            (offer_of into ray t k (arc_of n.graph j).cost at_far))) e' in
            let f : found'' ≡ found' =
            ef ∙ ap (λ (a : Arc). noted kind (get_or values (far_of t a) None) found) e
            ∙ ap (λ (k : ArcKind). noted k at_far found) e' in
            let P : List (Option ℤ) → Type 0 = λ l. IsUnderWay n into ray t (read + 1) l found'' in
            let Q : List (Option ℤ) → Type 0 = λ l. IsUnderWay n into ray t (read + 1) values' l in
            subst P (sym v) (subst Q (sym f) one_more_arc)
