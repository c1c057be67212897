-- A sweep over the arrivals at one stop and the departures at another.
use Rattle.std.proofs.Common.{◌≡◌, ℕ, ◌+◌, ◌<◌, ◌≤◌, List, length, get_or, take, length-take, inl, inr, arith, sym, ap, ◌∙◌, subst}
use Rattle.std.specs.Prelude.{Contains}
use Rattle.std.specs.List.{All}
use Rattle.std.proofs.lemmas.Bool.{cases_lt, cases_eq, cases_order}
use Rattle.std.proofs.lemmas.List.{get_or_default, get_or-take}
use Rattle.vs_instance.specs.Problem.{Problem}
use Rattle.vs_instance.specs.declared.way.Way.{Way}
use Rattle.vs_match.specs.declared.matching.Matching.{Matching}
use Rattle.vs_match.specs.declared.matching.Matching.TheVariants.{Latest}
use Rattle.vs_match.specs.declared.stop_node.StopNode.{StopNode}
use Rattle.vs_match.specs.StopNodes.{IsRising}
use Rattle.vs_match.specs.Sweep.{IsKept, IsFirstFrom, IsMatched}
use Rattle.vs_match.specs.ArcsOf.{deadhead_of}
use Rattle.vs_match.specs.declared.arc_kind.LayerArc.{LayerArc}
use Rattle.vs_match.specs.Adds.{Adds}
use Rattle.vs_match.proofs.events.Adding.{Upto, adds-as}

-- minutes at places that come no later are no later
pub minutes-≤ : (stop_nodes : List StopNode) → IsRising stop_nodes → (j k : ℕ) (d : StopNode) → j ≤ k
    → k < length stop_nodes
    → (get_or stop_nodes j d).minute ≤ (get_or stop_nodes k d).minute
minutes-≤ stop_nodes rising j k d le within =
    elim (cases_eq j k) [
      | inl same ↦ omega (arith, ap (λ (n : ℕ). (get_or stop_nodes n d).minute) same)
      | inr other ↦ omega (arith, rising j k d (omega (arith, le, other)) within)
    ]

-- the minute of an item is that of its place
pub minute-at : (stop_nodes : List StopNode) (c d : StopNode) (has : Contains stop_nodes c)
    → (get_or stop_nodes has.0 d).minute ≡ c.minute
minute-at stop_nodes c d has = ap (λ (s : StopNode). s.minute) (get_or_default stop_nodes has.0 d c has.1 ∙ has.2)

module _ (arrivals : List StopNode) (rising : IsRising arrivals) (w : Way) (k : ℕ) (within : k < length arrivals)
    (d b : StopNode) where
  -- the last arrival has none after it
  pub last_kept : k + 1 ≡ length arrivals → IsKept Latest arrivals w (get_or arrivals k d) b
  last_kept last c has early =
      omega (arith, minute-at arrivals c d has, minutes-≤ arrivals rising has.0 k d (omega (arith, last, has.1)) within)

  -- one whose next arrival is too late
  pub next_late : k + 1 < length arrivals → b.minute < (get_or arrivals (k + 1) d).minute + w.minutes
      → IsKept Latest arrivals w (get_or arrivals k d) b
  next_late more late c has early =
      elim (cases_lt k has.0) [
        | inl after ↦
            absurd (omega (
              arith,
              late,
              early,
              minute-at arrivals c d has,
              minutes-≤ arrivals rising (k + 1) has.0 d (omega (arith, after)) has.1,
            ))
        | inr before ↦ omega (arith, minute-at arrivals c d has, minutes-≤ arrivals rising has.0 k d before within)
      ]

  -- and where it isn't, the arrival isn't kept
  pub next_in_time : k + 1 < length arrivals → IsKept Latest arrivals w (get_or arrivals k d) b
      → b.minute < (get_or arrivals (k + 1) d).minute + w.minutes
  next_in_time more kept =
      elim (cases_lt b.minute ((get_or arrivals (k + 1) d).minute + w.minutes)) [
        | inl late ↦ late
        | inr early ↦
            let c = get_or arrivals (k + 1) d in
            let no_later = kept c (k + 1, more, get_or_default arrivals (k + 1) c d more) early in
            absurd (omega (arith, no_later, rising k (k + 1) d (omega arith) more))
      ]

-- the match of arrival k
pub record OfArrival (p : Problem) (l : ℕ) (matching : Matching) (w : Way) (arrivals departures : List StopNode) (k : ℕ)
    (x : LayerArc) : Type 0 where
  pub until : StopNode
  pub within : k < length arrivals
  pub first : (d : StopNode) → IsFirstFrom departures ((get_or arrivals k d).minute + w.minutes) until
  pub kept : (d : StopNode) → IsKept matching arrivals w (get_or arrivals k d) until
  pub is : (d : StopNode) → x ≡ deadhead_of p l w (get_or arrivals k d) until

-- the departures before this place are too early for the arrivals from number k on
abbrev pub AreEarly : Way → List StopNode → List StopNode → ℕ → ℕ → Type 0
AreEarly w arrivals departures k place = (j m : ℕ) (d : StopNode) → j < place → k ≤ m → m < length arrivals
    → (get_or departures j d).minute < (get_or arrivals m d).minute + w.minutes

-- the first departure after these
pub first_departure : (departures : List StopNode) → IsRising departures → (minute place : ℕ) (d : StopNode)
    → place < length departures
    → All (λ s. s.minute < minute) (take place departures) → minute ≤ (get_or departures place d).minute
    → IsFirstFrom departures minute (get_or departures place d)
first_departure departures rising minute place d within early late = record {
  departs = (place, within, get_or_default departures place _ d within);
  in_time = late;
  first = λ c has in_time. elim (cases_lt has.0 place) [
    | inl before ↦
        let front : has.0 < length (take place departures) =
        omega (arith, length-take place departures, before, within) in
        let minute' = ap (λ (s : StopNode). s.minute) (get_or-take place departures has.0 d before) in
        absurd (omega (arith, early has.0 d front, minute', minute-at departures c d has, in_time))
    | inr after ↦ omega (arith, minute-at departures c d has, minutes-≤ departures rising place has.0 d after has.1)
  ];
}

-- there is none after these
pub no_departure : (departures : List StopNode) (minute place : ℕ) → length departures ≤ place
    → All (λ s. s.minute < minute) (take place departures)
    → (b : StopNode) → IsFirstFrom departures minute b → ⊥
no_departure departures minute place past early b first =
    let has = first.departs in
    let front : has.0 < length (take place departures) = omega (arith, length-take place departures, has.1, past) in
    let minute' = ap (λ (s : StopNode). s.minute) (get_or-take place departures has.0 b (omega (arith, has.1, past))) in
    omega (arith, early has.0 b front, minute', minute-at departures b b has, first.in_time)

-- two first departures have one minute, and so are one
pub same_departure : (departures : List StopNode) → IsRising departures → (minute : ℕ) (a b : StopNode)
    → IsFirstFrom departures minute a → IsFirstFrom departures minute b → a ≡ b
same_departure departures rising minute a b first second =
    let x = first.departs in
    let y = second.departs in
    let le = first.first b second.departs second.in_time in
    let ge = second.first a first.departs first.in_time in
    elim (cases_order x.0 y.0) [
      | inl same ↦ sym x.2 ∙ ap (λ (k : ℕ). get_or departures k a) same ∙ get_or_default departures y.0 a b y.1 ∙ y.2
      | inr more ↦ elim more [
        | inl up ↦
            absurd (omega (arith, ge, minute-at departures a a x, minute-at departures b a y, rising x.0 y.0 a up y.1))
        | inr down ↦
            absurd (omega
            (arith, le, minute-at departures a a x, minute-at departures b a y, rising y.0 x.0 a down x.1))
      ]
    ]

-- all of them together
pub are_matches : (p : Problem) (l : ℕ) (matching : Matching) (w : Way) (arrivals departures : List StopNode)
    (old new : List LayerArc)
    → Adds (Upto (OfArrival p l matching w arrivals departures) (length arrivals)) old new
    → Adds (IsMatched p l matching w arrivals departures) old new
are_matches p l matching w arrivals departures old new adds =
    adds-as (Upto (OfArrival p l matching w arrivals departures) (length arrivals))
    (IsMatched p l matching w arrivals departures) old new adds
    (λ x (k, within, of). let d = of.until in record {
      since = get_or arrivals k d;
      until = of.until;
      arrives = (k, within, get_or_default arrivals k _ d within);
      first = of.first d;
      kept = of.kept d;
      is = of.is d;
    })
    (λ x m.
    let has = m.arrives in
    let at = λ (d : StopNode). get_or_default arrivals has.0 d m.since has.1 ∙ has.2 in (
      has.0,
      has.1,
      record {
        until = m.until;
        within = has.1;
        first = λ d. let P : StopNode → Type 0 =
            λ a. IsFirstFrom departures (a.minute + w.minutes) m.until in subst P (sym (at d)) m.first;
        kept = λ d. let P : StopNode → Type 0 = λ a. IsKept matching arrivals w a m.until in subst P (sym
            (at d)) m.kept;
        is = λ d. m.is ∙ ap (λ (a : StopNode). deadhead_of p l w a m.until) (sym (at d));
      },
    ))

module _ (p : Problem) (l : ℕ) (matching : Matching) (w : Way) (arrivals departures : List StopNode)
    (rising : IsRising arrivals) (rising' : IsRising departures)
    (k : ℕ) (within : k < length arrivals) (d : StopNode) where
  -- when a vehicle that arrives with arrival k is there
  abbrev there : ℕ
  there = (get_or arrivals k d).minute + w.minutes

  pub early_take : (place : ℕ) → place ≤ length departures → AreEarly w arrivals departures k place
      → All (λ s. s.minute < there) (take place departures)
  early_take place le early j e inside =
      let before : j < place = omega (arith, inside, length-take place departures) in
      let at = ap (λ (s : StopNode). s.minute) (get_or-take place departures j e before) in
      let own = ap (λ (s : StopNode). s.minute) (get_or_default arrivals k e d within) in
      omega (arith, at, own, early j k e before (omega arith) within)

  pub early_more : (place : ℕ) → place ≤ length departures → All (λ s. s.minute < there) (take place departures)
      → AreEarly w arrivals departures (k + 1) place
  early_more place le early j m e before after inside =
      let front : j < length (take place departures) = omega (arith, length-take place departures) in
      let at = ap (λ (s : StopNode). s.minute) (get_or-take place departures j e before) in
      let own = ap (λ (s : StopNode). s.minute) (get_or_default arrivals k e d within) in
      omega (arith, at, own, early j e front, minutes-≤ arrivals rising k m e (omega arith) inside)

  -- the match of arrival k, once it is found and kept
  pub of_arrival : (b : StopNode) → IsFirstFrom departures there b → IsKept matching arrivals w (get_or arrivals k d) b
      → OfArrival p l matching w arrivals departures k (deadhead_of p l w (get_or arrivals k d) b)
  of_arrival b first kept = record {
    until = b;
    within = within;
    first = λ e. let P : StopNode → Type 0 =
        λ a. IsFirstFrom departures (a.minute + w.minutes) b in subst P (get_or_default arrivals k d e within) first;
    kept = λ e. let P : StopNode → Type 0 =
        λ a. IsKept matching arrivals w a b in subst P (get_or_default arrivals k d e within) kept;
    is = λ e. ap (λ (a : StopNode). deadhead_of p l w a b) (get_or_default arrivals k d e within);
  }

  -- there is no other
  pub only_arrival : (b : StopNode) → IsFirstFrom departures there b → (x : LayerArc)
      → OfArrival p l matching w arrivals departures k x
      → deadhead_of p l w (get_or arrivals k d) b ≡ x
  only_arrival b first x of =
      ap (λ (c : StopNode). deadhead_of p l w (get_or arrivals k d) c)
      (same_departure departures rising' there b of.until first (of.first d)) ∙ sym (of.is d)

  -- a match that there is was kept
  pub kept_of : (b : StopNode) → IsFirstFrom departures there b → (x : LayerArc)
      → OfArrival p l matching w arrivals departures k x
      → IsKept matching arrivals w (get_or arrivals k d) b
  kept_of b first x of =
      let P : StopNode → Type 0 = λ c. IsKept matching arrivals w (get_or arrivals k d) c in
      subst P (same_departure departures rising' there of.until b (of.first d) first) (of.kept d)

  -- there is no match
  pub none_of_arrival : (place : ℕ) → length departures ≤ place → All (λ s. s.minute < there) (take place departures)
      → (x : LayerArc) → ¬ (OfArrival p l matching w arrivals departures k x)
  none_of_arrival place past early x of = no_departure departures there place past early of.until (of.first d)
