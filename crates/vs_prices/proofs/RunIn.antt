-- In which layer a plan runs a trip, and what that says of the restrictions that the plan keeps to.
use Rattle.std.proofs.Common.{◌≡◌, ◌≢◌, ℕ, ◌+◌, ◌<◌, ◌≤◌, ◌==◌, Bool, cond, eqb, List, [], ◌∷◌, length, get_or, refl, ap, ◌∙◌, subst, arith, inl, inr, count_by}
use Rattle.std.specs.List.{All}
use Rattle.std.proofs.lemmas.Bool.{cases_eq, eq-eqb, ne_eqb}
use Rattle.std.proofs.lemmas.List.{get_or-set_same, get_or-set_other}
use Rattle.std.proofs.lemmas.List.Elements.{All-head, All-tail, All-nil, All-cons}
use Rattle.std.proofs.lemmas.List.Sums.{sum_by-cons, sum_by-append}
use Rattle.vs_types.specs.LayerSet.{Has}
use Rattle.vs_types.specs.declared.layer_set.LayerSet.{LayerSet}
use Rattle.vs_types.specs.declared.numbers.TripNo.{TripNo}
use Rattle.vs_instance.specs.Plan.{LayerBlock, all_trips, times_run}
use Rattle.vs_instance.specs.Restriction.{IsWithin, set_of}
use Rattle.vs_prices.specs.Tree.{with_set}

module _ (t : ℕ) where
  abbrev count : List TripNo → ℕ
  count trips = count_by (λ x. x.0 == t) trips

  -- 1 for trip t, 0 for any other
  abbrev tally : TripNo → ℕ
  tally x = cond (eqb x.0 t) 1 0

  count-cons : (x : TripNo) (trips : List TripNo) → count (x ∷ trips) ≡ tally x + count trips
  count-cons x trips = sum_by-cons tally x trips

  here : (x : TripNo) → x.0 ≡ t → tally x ≡ 1
  here x same = ap {B = ℕ} (λ (b : Bool). cond b 1 0) (eq-eqb x.0 t same)

  elsewhere : (x : TripNo) → x.0 ≢ t → tally x ≡ 0
  elsewhere x other = ap {B = ℕ} (λ (b : Bool). cond b 1 0) (ne_eqb x.0 t other)

  -- a trip that is counted nowhere stands nowhere
  absent : (trips : List TripNo) → count trips ≡ 0 → All (λ x. x.0 ≢ t) trips
  absent [] none = All-nil (λ (x : TripNo). x.0 ≢ t)
  absent (x ∷ trips) none =
      elim (cases_eq x.0 t) [
        | inl same ↦ absurd (omega (arith, count-cons x trips, here x same))
        | inr other ↦
            All-cons (λ (y : TripNo). y.0 ≢ t) x trips other
            (absent trips (omega (arith, count-cons x trips, elsewhere x other)))
      ]

  -- what is true of all trips is true of one that is counted
  present : (P : ℕ → Type 0) (trips : List TripNo) → 1 ≤ count trips → All (λ x. P x.0) trips → P t
  present P [] some each = absurd (omega (arith, some))
  present P (x ∷ trips) some each =
      elim (cases_eq x.0 t) [
        | inl same ↦ subst P same (All-head (λ (y : TripNo). P y.0) x trips each)
        | inr other ↦
            present P trips (omega (arith, some, count-cons x trips, elsewhere x other))
            (All-tail (λ (y : TripNo). P y.0) x trips each)
      ]

  -- trip t stands in blocks of layer l alone, and in one of them
  pub record IsRunIn (l : ℕ) (blocks : List LayerBlock) : Type 0 where
    pub only : All (λ b. All (λ i. i.0 ≡ t → b.0.0 ≡ l) b.1) blocks
    pub somewhere : (sets : List LayerSet) → IsWithin sets blocks → Has (set_of sets t) l

  abbrev OnlyIn : ℕ → LayerBlock → Type 0
  OnlyIn l b = All (λ i. i.0 ≡ t → b.0.0 ≡ l) b.1

  nowhere : (l : ℕ) (b : LayerBlock) → count b.1 ≡ 0 → OnlyIn l b
  nowhere l b none = λ k d within. λ same. absurd (absent b.1 none k d within same)

  nowhere_else : (l : ℕ) (blocks : List LayerBlock) → count (all_trips blocks) ≡ 0 → All (OnlyIn l) blocks
  nowhere_else l [] none = All-nil (OnlyIn l)
  nowhere_else l (b ∷ blocks) none =
      let both = sum_by-append tally b.1 (all_trips blocks) in
      All-cons (OnlyIn l) b blocks (nowhere l b (omega (arith, none, both)))
      (nowhere_else l blocks (omega (arith, none, both)))

  abbrev KeepsTo : List LayerSet → LayerBlock → Type 0
  KeepsTo sets b = All (λ i. Has (set_of sets i.0) b.0.0) b.1

  -- a trip that is run once is run in some layer
  pub run_once : (blocks : List LayerBlock) → times_run blocks t ≡ 1 → (l : ℕ) × IsRunIn l blocks
  run_once [] once = absurd (omega (arith, once))
  run_once (b ∷ blocks) once =
      let both = sum_by-append tally b.1 (all_trips blocks) in
      elim (cases_eq (count b.1) 0) [
        | inl none ↦
            let rest = run_once blocks (omega (arith, once, both, none)) in (
              rest.0,
              record {
                only = All-cons (OnlyIn rest.0) b blocks (nowhere rest.0 b none) rest.1.only;
                somewhere = λ sets within. rest.1.somewhere sets (All-tail (KeepsTo sets) b blocks within);
              },
            )
        | inr some ↦ (
          b.0.0,
          record {
            only = All-cons (OnlyIn b.0.0) b blocks (λ k d within. λ same. refl)
                (nowhere_else b.0.0 blocks (omega (arith, once, both, some)));
            somewhere = λ sets within. present (λ i. Has (set_of sets i) b.0.0) b.1 (omega (arith, some))
                (All-head (KeepsTo sets) b blocks within);
          },
        )
      ]

-- the set of the trip that was given another, and those of the others
pub set_of-same : (sets : List LayerSet) (trip : TripNo) (layers : LayerSet) → trip.0 < length sets
    → set_of (with_set sets trip layers) trip.0 ≡ layers
set_of-same sets trip layers inside = get_or-set_same sets trip.0 layers (record { 0 = 0 }) inside

pub set_of-other : (sets : List LayerSet) (trip : TripNo) (layers : LayerSet) (i : ℕ) → i ≢ trip.0
    → set_of (with_set sets trip layers) i ≡ set_of sets i
set_of-other sets trip layers i other = get_or-set_other sets trip.0 i layers (record { 0 = 0 }) other

module _ (sets : List LayerSet) (trip : TripNo) (layers : LayerSet) (inside : trip.0 < length sets)
    (blocks : List LayerBlock) where
  -- a plan that runs the trip in one of the layers keeps to the narrower restriction too
  pub narrower : (l : ℕ) → IsRunIn trip.0 l blocks → Has layers l → IsWithin sets blocks
      → IsWithin (with_set sets trip layers) blocks
  narrower l run has within =
      λ b d among i e of_block.
      elim (cases_eq (get_or (get_or blocks b d).1 i e).0 trip.0) [
        | inl same ↦
            let here = run.only b d among i e of_block same in
            rw (same, here, set_of-same sets trip layers inside) has
        | inr other ↦ rw (set_of-other sets trip layers _ other) (within b d among i e of_block)
      ]

  -- a plan that keeps to the narrower restriction runs the trip in one of the layers
  pub runs_in : (l : ℕ) → IsRunIn trip.0 l blocks → IsWithin (with_set sets trip layers) blocks → Has layers l
  runs_in l run within =
      subst (λ (s : LayerSet). Has s l) (set_of-same sets trip layers inside)
      (run.somewhere (with_set sets trip layers) within)

  -- and keeps to the wider one
  pub wider : ((l : ℕ) → Has layers l → Has (set_of sets trip.0) l) → IsWithin (with_set sets trip layers) blocks
      → IsWithin sets blocks
  wider part within =
      λ b d among i e of_block.
      let keeps = within b d among i e of_block in
      elim (cases_eq (get_or (get_or blocks b d).1 i e).0 trip.0) [
        | inl same ↦
            let is : set_of (with_set sets trip layers) (get_or (get_or blocks b d).1 i e).0 ≡ layers =
            ap (set_of (with_set sets trip layers)) same ∙ set_of-same sets trip layers inside in
            rw same (part _ (subst (λ (s : LayerSet). Has s (get_or blocks b d).0.0) is keeps))
        | inr other ↦
            subst (λ (s : LayerSet). Has s (get_or blocks b d).0.0) (set_of-other sets trip layers _ other) keeps
      ]
