-- Blocks without a fault are a plan, and a plan has none.
use Rattle.std.proofs.Common.{◌≡◌, ℕ, ◌+◌, ◌-◌, ◌<◌, ◌==◌, Bool, true, false, cond, not, List, [], length, get_or, Option, Some, None, ◌⊎◌, inl, inr, refl, sym, ap, ◌∙◌, subst, arith}
use Rattle.std.specs.Prelude.{IsSome, is_none}
use Rattle.std.specs.List.{All}
use Rattle.std.proofs.lemmas.Bool.{cases_order, eq-eqb, eqb-true, eqb-false, ne_eqb, le-ltb, ltb-false, not-false}
use Rattle.std.proofs.lemmas.List.{get_or_default}
use Rattle.std.proofs.lemmas.List.FromFn.{get_or-map-range_with_len, length-map-range_with_len}
use Rattle.std.proofs.lemmas.Option.{none-some}
use Rattle.vs_types.specs.declared.numbers.LayerNo.{LayerNo}
use Rattle.vs_types.specs.declared.numbers.TripNo.{TripNo}
use Rattle.vs_instance.specs.Firsts.{first, when}
use Rattle.vs_instance.specs.Problem.{Problem}
use Rattle.vs_instance.specs.Ways.{Connects, HasPullOut, Permitted}
use Rattle.vs_instance.specs.Blocks.{IsBlock, last_of}
use Rattle.vs_instance.specs.Plan.{IsPlan, LayerBlock, times_run}
use Rattle.vs_instance.proofs.CallerLemmas as empty
use Rattle.vs_instance.proofs.CallerLemmas.{none_from_first}
use Rattle.vs_connect.proofs.CallerLemmas.{pieces_exist}
use Rattle.vs_plan.specs.declared.plan_fault.PlanFault.{PlanFault}
use Rattle.vs_plan.specs.Blocks.{IsOfInstance}
use Rattle.vs_plan.specs.PlanFaults.{arrival_faults, block_faults, blocks_faults, cover_faults, faults_of, fleet_faults, layer_faults, place_faults, return_faults, times_of, trip_at, trips_faults, twice, uncovered}

-- there is no fault in the list
abbrev Clear : List PlanFault → Type 0
Clear faults = faults ≡ []

some_from_test : {X : Type 0} (o : Option X) → is_none o ≡ false → IsSome o
some_from_test None e = cc
some_from_test (Some x) e = search

test_from_some : {X : Type 0} (o : Option X) → IsSome o → is_none o ≡ false
test_from_some None h = cc
test_from_some (Some x) h = refl

clear_when : (b : Bool) (fault : PlanFault) → Clear (when b fault) → b ≡ false
clear_when b fault clear = empty.false_from_none b fault clear

when_clear : (b : Bool) (fault : PlanFault) → b ≡ false → Clear (when b fault)
when_clear b fault e = empty.none_from_false b fault e

cond_true : (b : Bool) (xs ys : List PlanFault) → b ≡ true → cond b xs ys ≡ xs
cond_true b xs ys e = ap (λ (t : Bool). cond t xs ys) e

cond_false : (b : Bool) (xs ys : List PlanFault) → b ≡ false → cond b xs ys ≡ ys
cond_false b xs ys e = ap (λ (t : Bool). cond t xs ys) e

module _ (p : Problem) (b : ℕ) (l : LayerNo) (trips : List TripNo) where
  -- what is right at a place that has no fault
  record IsRight (place : ℕ) : Type 0 where
    permitted : Permitted p l.0 (trip_at trips place)
    pull_out : place ≡ 0 → HasPullOut p l.0 (trip_at trips place)
    connected : 0 < place → Connects p (trip_at trips (place - 1)) (trip_at trips place)

  right_from_clear : (place : ℕ) → Clear (place_faults p b l trips place) → IsRight place
  right_from_clear place clear =
      let parts = empty.both_none _ _ clear in
      let may = not-false _ (clear_when _ _ parts.0) in
      record {
        permitted = eqb-true _ _ may;
        pull_out = λ at.
            let here = sym (cond_true (place == 0) _ _ (eq-eqb place 0 at)) ∙ parts.1 in
            ((pieces_exist p).out l.0 (trip_at trips place)).0 (some_from_test _ (clear_when _ _ here));
        connected = λ later.
            let here = sym (cond_false (place == 0) _ _ (ne_eqb place 0 (omega arith))) ∙ parts.1 in
            ((pieces_exist p).link l.0 (trip_at trips (place - 1)) (trip_at trips place)).0
            (some_from_test _ (clear_when _ _ here));
      }

  clear_from_right : (place : ℕ) → IsRight place → Clear (place_faults p b l trips place)
  clear_from_right place right =
      empty.none-append _ _ (when_clear _ _ (ap not (eq-eqb _ _ right.permitted))) (arrival (cases_order place 0))
    where
      arrival : (place ≡ 0) ⊎ ((place < 0) ⊎ (0 < place)) → Clear (arrival_faults p b l trips place)
      arrival (inl at) =
          cond_true (place == 0) _ _ (eq-eqb place 0 at)
          ∙ when_clear _ _ (test_from_some _ (((pieces_exist p).out l.0 (trip_at trips place)).1 (right.pull_out at)))
      arrival (inr (inl below)) = absurd (omega arith)
      arrival (inr (inr later)) =
          cond_false (place == 0) _ _ (ne_eqb place 0 (omega arith))
          ∙ when_clear _ _
          (test_from_some _
          (((pieces_exist p).link l.0 (trip_at trips (place - 1)) (trip_at trips place)).1 (right.connected later)))

module _ (p : Problem) (b : ℕ) (block : LayerBlock) where
  abbrev no_trip : TripNo
  no_trip = record { 0 = 0 }

  -- a block of the instance without a fault is a block
  pub block_from_clear : IsOfInstance p block → Clear (block_faults p b block) → IsBlock p block.0 block.1
  block_from_clear is clear = record {
    layer = is.layer;
    some_trip = is.some_trip;
    of_instance = is.trips;
    permitted = λ k d within.
        subst (λ (t : TripNo). Permitted p block.0.0 t.0) (get_or_default block.1 k no_trip d within)
        (right k within).permitted;
    connected = λ k d below.
        let here : k < length block.1 = omega arith in
        let next = (right (k + 1) below).connected (omega arith) in
        let before : k + 1 - 1 ≡ k = omega arith in
        let linked = subst (λ (n : ℕ). Connects p (trip_at block.1 n) (trip_at block.1 (k + 1))) before next in
        subst (λ (t : TripNo). Connects p t.0 (get_or block.1 (k + 1) d).0) (get_or_default block.1 k no_trip d here)
        (subst (λ (t : TripNo). Connects p (trip_at block.1 k) t.0)
        (get_or_default block.1 (k + 1) no_trip d below) linked);
    pull_out = (right 0 is.some_trip).pull_out refl;
    pull_in = ((pieces_exist p).back block.0.0 (last_of block.1)).0 (some_from_test _ (clear_when _ _ parts.1));
  }
    where
      parts : Clear (trips_faults p b block.0 block.1) × Clear (return_faults p b block.0 block.1)
      parts = empty.both_none _ _ clear

      right : (k : ℕ) → k < length block.1 → IsRight p b block.0 block.1 k
      right k within =
          right_from_clear p b block.0 block.1 k
          (empty.number_none (place_faults p b block.0 block.1) 0 (length block.1) parts.0 k (omega arith)
          (omega arith))

  -- a block has no fault
  pub clear_from_block : IsBlock p block.0 block.1 → Clear (block_faults p b block)
  clear_from_block is =
      empty.none-append _ _
      (empty.none_numbers (place_faults p b block.0 block.1) 0 (length block.1)
      (λ k from within. place k (omega arith)))
      (when_clear _ _ (test_from_some _ (((pieces_exist p).back block.0.0 (last_of block.1)).1 is.pull_in)))
    where
      place : (k : ℕ) → k < length block.1 → Clear (place_faults p b block.0 block.1 k)
      place k within = clear_from_right p b block.0 block.1 k (record {
        permitted = is.permitted k no_trip within;
        pull_out = λ at. subst (λ (n : ℕ). HasPullOut p block.0.0 (trip_at block.1 n)) (sym at) is.pull_out;
        connected = λ later.
            let again : k - 1 + 1 ≡ k = omega arith in
            subst (λ (n : ℕ). Connects p (trip_at block.1 (k - 1)) (trip_at block.1 n)) again
            (is.connected (k - 1) no_trip (omega arith));
      })

-- nothing is wrong, part by part
pub record IsFaultless (p : Problem) (blocks : List LayerBlock) : Type 0 where
  pub blocks_clear : Clear (blocks_faults p blocks)
  pub cover_clear : Clear (cover_faults p blocks)
  pub fleets_clear : Clear (fleet_faults p blocks)

module _ (p : Problem) (blocks : List LayerBlock) where
  time_at : (i : ℕ) → i < length p.trips → get_or (times_of p blocks) i 0 ≡ times_run blocks i
  time_at i within = get_or-map-range_with_len (times_run blocks) 0 (length p.trips) i i 0 within (omega arith)

  times_size : length (times_of p blocks) ≡ length p.trips
  times_size = length-map-range_with_len (times_run blocks) 0 (length p.trips)

  -- blocks of the instance without a fault are a plan
  pub plan_from_faultless : All (IsOfInstance p) blocks → IsFaultless p blocks → IsPlan p blocks
  plan_from_faultless are none = record {
    each_block = λ k d within.
        block_from_clear p k (get_or blocks k d) (are k d within)
        (empty.each_none (block_faults p) 0 blocks none.blocks_clear k k d within (omega arith));
    once = λ i within.
        let parts = empty.both_none _ _ none.cover_clear in
        let inside : i < length (times_of p blocks) = omega (arith, times_size) in
        let often =
        ltb-false _ _
        (clear_when _ _ (empty.each_none twice 0 (times_of p blocks) parts.0 i i 0 inside (omega arith))) in
        let some =
        eqb-false _ _
        (clear_when _ _ (empty.each_none uncovered 0 (times_of p blocks) parts.1 i i 0 inside (omega arith))) in
        sym (time_at i within) ∙ omega (arith, often, some);
    fleet = λ l within.
        ltb-false _ _
        (clear_when _ _
        (empty.number_none (layer_faults p blocks) 0 (length p.layers) none.fleets_clear l (omega arith)
        (omega arith)));
  }

  -- a plan has no fault
  pub faultless_from_plan : IsPlan p blocks → IsFaultless p blocks
  faultless_from_plan plan = record {
    blocks_clear =
        empty.none_each (block_faults p) 0 blocks
        (λ k j d within is. clear_from_block p j (get_or blocks k d) (plan.each_block k d within));
    cover_clear = empty.none-append _ _
        (empty.none_each twice 0 (times_of p blocks)
        (λ k j d within is. when_clear _ _ (le-ltb 1 _ (omega (arith, once k d within)))))
        (empty.none_each uncovered 0 (times_of p blocks)
        (λ k j d within is. when_clear _ _ (ne_eqb _ 0 (λ none. omega (arith, once k d within, none)))));
    fleets_clear =
        empty.none_numbers (layer_faults p blocks) 0 (length p.layers)
        (λ l from within. when_clear _ _ (le-ltb _ _ (plan.fleet l (omega arith))));
  }
    where
      once : (k : ℕ) (d : ℕ) → k < length (times_of p blocks) → get_or (times_of p blocks) k d ≡ 1
      once k d within =
          let inside : k < length p.trips = omega (arith, times_size) in
          get_or_default (times_of p blocks) k d 0 within ∙ time_at k inside ∙ plan.once k inside

  -- a plan has an empty list of faults
  pub faults_of-plan : IsPlan p blocks → faults_of p blocks ≡ []
  faults_of-plan plan =
      let none = faultless_from_plan plan in
      empty.none-append _ _ none.blocks_clear (empty.none-append _ _ none.cover_clear none.fleets_clear)

  -- a first fault refutes that the blocks are a plan
  pub refuses : (fault : PlanFault) → first (faults_of p blocks) ≡ Some fault → ¬ (IsPlan p blocks)
  refuses fault is plan = none-some fault (sym (ap first (faults_of-plan plan)) ∙ is)

  -- an empty list of faults has nothing wrong in any part
  pub faultless_from_none : faults_of p blocks ≡ [] → IsFaultless p blocks
  faultless_from_none none =
      let parts = empty.both_none _ _ none in
      let both = empty.both_none _ _ parts.1 in
      record { blocks_clear = parts.0; cover_clear = both.0; fleets_clear = both.1 }

  -- no first fault is none at all
  pub faultless : first (faults_of p blocks) ≡ None → IsFaultless p blocks
  faultless none = faultless_from_none (none_from_first (faults_of p blocks) none)
