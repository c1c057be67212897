-- The trace text of a search says how it began, and its steps.
use Rattle.std.proofs.Common.{◌≡◌, ℕ, ◌+◌, ◌*◌, ◌<◌, ◌≤◌, List, [], ◌∷◌, ◌++◌, length, refl, ap, subst, arith, inl, inr, Option, Some, None, IfSome, ℤ, pos, length-set, length-append}
use Rattle.std.specs.Prelude.{flat_map}
use Rattle.std.specs.List.{All}
use Rattle.std.proofs.lemmas.List.Elements.{All-append, All-cons, All-nil}
use Rattle.vs_instance.specs.Problem.{Problem}
use Rattle.vs_plan.specs.CheckedPlan.{Checked}
use Rattle.vs_reader.specs.Names.{HaveCounts, NameLists}
use Rattle.vs_rows.specs.DocumentRows.{EndRow, IsBetween}
use Rattle.vs_rows.specs.declared.limits.TheConstants.{MAX_COST}
use Rattle.vs_tree.specs.History.{FullStep, Opening, State, Took, Split, Closed, Offered, GaveBack, IsHeldBy, IsHistory, MayCome, MayFollow, MayGive, MayOffer, Place, after, first_state, is_inner, known, left_part, right_part, spot_at, table_of, with_spot}
use Rattle.vs_tree.specs.Prices.{Prices}
use Rattle.vs_tree.specs.declared.spot.Spot.{Spot}
use Rattle.vs_tree.specs.declared.spot.Spot.TheVariants.{Free, Held, Inner, Closed as ClosedSpot}
use Rattle.vs_tree.specs.Sound.{IsOpening, IsPlanOf, IsSound}
use Rattle.vs_tree.proofs.CallerLemmas.{cheaper_or_not, first_sound, leaf_within, step_sound}
use Rattle.vs_trace.specs.TraceRows.{AreNumbers, ClosedRow, FirstRow, GaveBackRow, HeadRow, IsOpeningForm, OfferedRow, OpeningRow, PartRow, SayAllSo, SplitRow, TookRow, TraceRow, block_rows, first_rows, opening_rows, priced_rows, step_rows, trace_rows, trace_text}
use Rattle.vs_trace.proofs.Holders.{AreHolders, first_holders, step_holders}
use Rattle.vs_trace.proofs.NamedSteps.{blocks_named, step_named}
use Rattle.vs_trace.proofs.SaidRows.{IsSaid, blocks_said, checked_between, prices_said, say_all, split_said}

-- as many places as before
length-spot : (places : List Place) (k : ℕ) (spot : Spot) → length (with_spot places k spot) ≡ length places
length-spot places k spot = length-set places k _

-- a plan that an offer adds is one of the instance, at its cost, and has the next number
pub record IsNextPlan (p : Problem) (s : State) (cost : ℤ) (number : Option ℕ) (plan : Checked) : Type 0 where
  pub of_instance : IsPlanOf p plan
  pub costs : plan.cost ≡ cost
  pub next : number ≡ Some (length s.accepted)

pub accepted_is : (o : Opening) (s : State) (worker : ℕ) (cost : ℤ) (number : Option ℕ) (plan : Checked)
    → MayOffer o s worker cost number (Some plan) → IsNextPlan o.problem s cost number plan
accepted_is o s worker cost number plan may =
    elim (cheaper_or_not cost (known s)) [
      | inl cheaper ↦
          let is = may.accepted cheaper in
          let same : is.plan ≡ plan = let e = is.adds in cc in
          subst (IsNextPlan o.problem s cost number) same
          (record { of_instance = (is.checked, is.of_instance); costs = is.costs; next = is.next })
      | inr other ↦ let e : Some plan ≡ None = (may.refused other).1 in absurd (cc)
    ]

module _ (o : Opening) (opening : IsOpening o) (form : IsOpeningForm o.budget o.workers) (names : NameLists)
    (counts : HaveCounts o.problem names) where
  abbrev p : Problem
  p = o.problem

  abbrev AreSaid : List TraceRow → Type 0
  AreSaid rows = All (IsSaid names) rows

  -- what keeps the numbers of a state within their ranges
  pub record IsInRange (s : State) : Type 0 where
    pub sound : IsSound o s
    pub holders : AreHolders o s
    pub few_places : length s.places ≤ 2 * s.finished + 1

  pub first_range : IsInRange (first_state o)
  first_range = record {
    sound = first_sound o opening;
    holders = first_holders o opening;
    few_places = omega arith;
  }

  places_after : (s : State) (step : FullStep) → length s.places ≤ 2 * s.finished + 1
      → length (after s step).places ≤ 2 * (after s step).finished + 1
  places_after s (Took worker leaf) few =
      omega (arith, few, length-spot s.places leaf (Held worker (table_of (spot_at s leaf))))
  places_after s (Split worker leaf table trip left prices) few =
      let inner = Inner trip left (length s.places) (length s.places + 1) in
      omega (
        arith,
        few,
        length-spot s.places leaf inner,
        length-append (with_spot s.places leaf inner)
            (left_part s leaf table trip left ∷ right_part s leaf table trip left ∷ []),
      )
  places_after s (Closed worker leaf table prices) few =
      omega (arith, few, length-spot s.places leaf (ClosedSpot table))
  places_after s (Offered worker cost number added) few = few
  places_after s (GaveBack worker leaf) few =
      omega (arith, few, length-spot s.places leaf (Free (table_of (spot_at s leaf))))

  pub range_after : (s : State) (step : FullStep) → MayCome o s step → IsInRange s → IsInRange (after s step)
  range_after s step may range = record {
    sound = step_sound o opening s step may range.sound;
    holders = step_holders o s step may range.holders;
    few_places = places_after s step range.few_places;
  }

  -- the numbers of a worker and of a spot
  are_numbers : (s : State) (worker leaf : ℕ) → IsInRange s → worker < o.workers → leaf < length s.places
      → AreNumbers worker leaf
  are_numbers s worker leaf range is_worker inside = record {
    worker_is = omega (arith, is_worker, form.few_workers);
    spot_is = omega (arith, inside, range.few_places, range.sound.budget, form.few_leaves);
  }

  held_numbers : (s : State) (worker leaf : ℕ) → IsInRange s → IsHeldBy s worker leaf → AreNumbers worker leaf
  held_numbers s worker leaf range held =
      are_numbers s worker leaf range (range.holders worker leaf held)
      (leaf_within s.places leaf (ap is_inner held.1))

  table_said : (s : State) (leaf number : ℕ) (prices : Prices) → IsInRange s → MayGive p s leaf number prices
      → AreSaid (priced_rows p number prices)
  table_said s leaf number prices range gives =
      prices_said p names opening.instance counts number prices
      (omega (arith, gives.number, range.sound.count_tables, range.sound.budget, form.few_leaves)) gives.lawful

  plan_said : (plan : Checked) → IsPlanOf p plan → AreSaid (block_rows plan.blocks)
  plan_said plan is = blocks_said names plan.blocks (blocks_named o opening names counts plan is)

  step_said : (s : State) (step : FullStep) → MayCome o s step → IsInRange s → AreSaid (step_rows p step)
  step_said s (Took worker leaf) may range =
      All-cons (IsSaid names) (TookRow worker leaf) []
      (are_numbers s worker leaf range may.is_worker (leaf_within s.places leaf (ap is_inner may.next.free.1)), refl)
      (All-nil (IsSaid names))
  step_said s (Split worker leaf table trip left prices) may range =
      All-cons (IsSaid names) (SplitRow worker leaf trip left) (priced_rows p table prices)
      (split_said p names opening.instance counts worker leaf trip left
      (held_numbers s worker leaf range may.holds)
      (step_named o opening names counts s (Split worker leaf table trip left prices) may range.sound))
      (table_said s leaf table prices range may.gives)
  step_said s (Closed worker leaf table prices) may range =
      All-cons (IsSaid names) (ClosedRow worker leaf) (priced_rows p table prices)
      (held_numbers s worker leaf range may.holds, refl) (table_said s leaf table prices range may.gives)
  step_said s (Offered worker cost number None) may range = All-nil (IsSaid names)
  step_said s (Offered worker cost number (Some plan)) may range =
      let is = accepted_is o s worker cost number plan may in
      let numbers = held_numbers s worker may.leaf range may.holds in
      All-cons (IsSaid names) (OfferedRow worker cost) (block_rows plan.blocks)
      (record {
        worker_is = numbers.worker_is;
        cost_is = subst (IsBetween (pos 0) MAX_COST) is.costs (checked_between plan is.of_instance.0);
        written = refl;
      }) (plan_said plan is.of_instance)
  step_said s (GaveBack worker leaf) may range =
      All-cons (IsSaid names) (GaveBackRow worker leaf) [] (held_numbers s worker leaf range may, refl)
      (All-nil (IsSaid names))

  steps_said : (s : State) (steps : List FullStep) → MayFollow o s steps → IsInRange s
      → AreSaid (flat_map (step_rows p) steps)
  steps_said s [] may range = All-nil (IsSaid names)
  steps_said s (step ∷ steps) may range =
      All-append (IsSaid names) (step_rows p step) (flat_map (step_rows p) steps) (step_said s step may.0 range)
      (steps_said (after s step) steps may.1 (range_after s step may.0 range))

  first_said : (first : Option Checked) → IfSome first (IsPlanOf p) → AreSaid (first_rows first)
  first_said None is = All-cons (IsSaid names) (FirstRow None) [] (tt, refl) (All-nil (IsSaid names))
  first_said (Some plan) is =
      All-cons (IsSaid names) (FirstRow (Some plan.cost)) (block_rows plan.blocks)
      (checked_between plan is.0, refl) (plan_said plan is)

  opening_said : AreSaid (opening_rows o)
  opening_said =
      All-cons (IsSaid names) HeadRow (OpeningRow o.budget o.workers ∷ []) refl
      (All-cons (IsSaid names) (OpeningRow o.budget o.workers) [] (form, refl) (All-nil (IsSaid names)))

  rows_said : (steps : List FullStep) → IsHistory o steps → AreSaid (trace_rows o steps)
  rows_said steps history =
      let first = first_rows o.first in
      let rows = flat_map (step_rows p) steps in
      All-append (IsSaid names) (opening_rows o ++ first ++ rows) (PartRow EndRow ∷ [])
      (All-append (IsSaid names) (opening_rows o ++ first) rows
      (All-append (IsSaid names) (opening_rows o) first opening_said (first_said o.first opening.first))
      (steps_said (first_state o) steps history first_range))
      (All-cons (IsSaid names) (PartRow EndRow) [] (tt, record { form = tt; written = refl })
      (All-nil (IsSaid names)))

  -- the rows of the text say, one by one, what they are to say
  pub trace_says : (steps : List FullStep) → IsHistory o steps
      → SayAllSo names (trace_text names o steps) (trace_rows o steps)
  trace_says steps history = say_all names (trace_rows o steps) (rows_said steps history)
