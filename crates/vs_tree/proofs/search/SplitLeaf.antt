-- The parts of a search once a leaf was split.
use Rattle.std.proofs.Common.{◌≡◌, ◌≢◌, ℕ, ◌+◌, ◌*◌, ◌<◌, Bool, cond, List, [], ◌∷◌, ◌++◌, length, set, get_or, refl, sym, ap, ◌∙◌, subst, arith, inl, inr, length-set, length-append, sum_by, Option, Some, None}
use Rattle.std.proofs.lemmas.Bool.{cases_eq}
use Rattle.vs_types.specs.declared.layer_set.LayerSet.{LayerSet}
use Rattle.vs_types.specs.declared.numbers.TripNo.{TripNo}
use Rattle.vs_plan.specs.CheckedPlan.{Checked}
use Rattle.vs_prices.specs.declared.bound.Bound.{Bound}
use Rattle.vs_prices.specs.declared.bound.Bound.TheVariants.{NoPlan}
use Rattle.vs_tree.specs.declared.entry.Entry.{Entry}
use Rattle.vs_tree.specs.declared.calls.Hand.{Hand}
use Rattle.vs_tree.specs.declared.calls.Hand.TheVariants.{Idle, Has}
use Rattle.vs_tree.specs.declared.spot.Spot.{Spot}
use Rattle.vs_tree.specs.declared.spot.Spot.TheVariants.{Inner, Free, Held}
use Rattle.vs_tree.specs.Cuts.{part_at, split_at}
use Rattle.vs_tree.specs.Free.{Entries, entry_at, with_parts}
use Rattle.vs_tree.specs.History.{FullStep, Split, Opening, Place, State, IsHeldBy, IsHistory, IsLeaf, IsLeafWorth, MaySplit, after, first_state, is_held, is_inner, no_place, place_at, prices_at, sets_at, spot_at, state_of, table_of}
use Rattle.vs_tree.specs.Prices.{AreWorth, Prices, no_prices}
use Rattle.vs_tree.specs.Search.{ArePartsOf, IsHandOf, IsSearch, Parts, free_entry, hand_at, is_busy, is_gone, offers_left, steps_left, worth_at}
use Rattle.vs_tree.specs.Sound.{IsSound}
use Rattle.vs_prices.specs.Tree.{right_of, with_set}
use Rattle.vs_tree.proofs.Spots.{leaf_within}
use Rattle.std.proofs.lemmas.List.{get_or_past}
use Rattle.vs_tree.proofs.search.ClosedLeaf.{counted}
use Rattle.vs_tree.proofs.search.Facts.{history-last, is_sound, state-last}
use Rattle.vs_tree.proofs.search.GivingBack.{hand_has, worker_inside}
use Rattle.vs_tree.proofs.search.Hands.{IsAlike, hands-after, sum-after}
use Rattle.vs_tree.proofs.search.Released.{unfinished}
use Rattle.vs_tree.proofs.search.TwoMore.{length-more, more-first, more-other, more-second}
use Rattle.vs_tree.proofs.sound.Closed.{last-prices}
use Rattle.vs_tree.proofs.sound.Grown.{length-split, split, other, lower, upper, nowhere, where_is}
use Rattle.vs_tree.proofs.sound.Relabelled.{prices-kept, same-worth}
use Rattle.vs_tree.proofs.sound.Split as parts

module _ (o : Opening) (a : Parts) (is : IsSearch o a) (worker leaf number : ℕ) (trip : TripNo) (left : LayerSet)
    (prices : Prices) (may : MaySplit o (state_of o a.log.steps) worker leaf number trip left prices)
    (lower_worth upper_worth : Bound)
    (on_left : AreWorth o.problem (with_set (sets_at (state_of o a.log.steps) leaf) trip left) prices lower_worth)
    (on_right : AreWorth o.problem
    (with_set (sets_at (state_of o a.log.steps) leaf) trip (right_of (sets_at (state_of o a.log.steps) leaf) trip left))
    prices upper_worth)
    (b : Parts) (steps : b.log.steps ≡ a.log.steps ++ Split worker leaf number trip left prices ∷ [])
    (tables : b.log.tables ≡ a.log.tables ++ prices ∷ []) (plans : b.log.plans ≡ a.log.plans)
    (step_room : b.log.step_room ≡ a.log.step_room) (table_room : b.log.table_room ≡ a.log.table_room)
    (plan_room : b.log.plan_room ≡ a.log.plan_room)
    (places : b.places.places
    ≡ split_at a.places.places leaf trip left (right_of (place_at a.places.places leaf).sets trip left) number)
    (room : b.places.room ≡ a.places.room) (hands : b.hands ≡ set a.hands worker Idle)
    (frees : b.free ≡ with_parts a.free (length a.places.places) lower_worth upper_worth)
    (worths : b.worths
    ≡ set (set a.worths (length a.places.places) lower_worth) (length a.places.places + 1) upper_worth)
    (finished : b.finished ≡ a.finished + 1) (sets : length b.sets ≡ length a.sets) where
  abbrev s : State
  s = state_of o a.log.steps

  abbrev step : FullStep
  step = Split worker leaf number trip left prices

  abbrev n : State
  n = after s step

  abbrev size : ℕ
  size = length s.places

  abbrev m : ℕ
  m = length a.places.places

  same_size : size ≡ m
  same_size = ap (λ (x : List Place). length x) is.parts.places

  sound : IsSound o s
  sound = is_sound o a is

  held : IsHeldBy s worker leaf
  held = may.holds

  inside : worker < length a.hands
  inside = worker_inside o a is worker leaf held

  abbrev has : (offered : Bool) × (hand_at a.hands worker ≡ Has leaf offered)
  has = hand_has o a is worker leaf held

  within : leaf < size
  within = leaf_within s.places leaf (ap is_inner held.1)

  -- there is room for two more
  two_fit : m + 1 < 2 * o.budget + 1
  two_fit = let more = unfinished o a is worker leaf held in omega (arith, more, is.parts.few_places)

  at_leaf : spot_at n leaf ≡ Inner trip left size (size + 1)
  at_leaf =
      ap (λ (q : Place). q.spot) (parts.at_leaf o s worker leaf number trip left prices may is.opening.instance sound)

  spot_other : (j : ℕ) → j ≢ leaf → j < size → spot_at n j ≡ spot_at s j
  spot_other = parts.spot_other o s worker leaf number trip left prices may is.opening.instance sound

  spot_lower : (j : ℕ) → j ≡ size → spot_at n j ≡ Free number
  spot_lower j here =
      ap (λ (q : Place). q.spot) (parts.at_lower o s worker leaf number trip left prices may is.opening.instance
      sound j here)

  spot_upper : (j : ℕ) → j ≡ size + 1 → spot_at n j ≡ Free number
  spot_upper j here =
      ap (λ (q : Place). q.spot) (parts.at_upper o s worker leaf number trip left prices may is.opening.instance
      sound j here)

  before : (w j : ℕ) → IsHeldBy n w j → IsHeldBy s w j
  before = parts.before o s worker leaf number trip left prices may is.opening.instance sound

  hands_size : length b.hands ≡ length a.hands
  hands_size = ap (λ (x : List Hand). length x) hands ∙ length-set a.hands worker Idle

  now_sum : (f : Hand → ℕ) → sum_by f b.hands + f (Has leaf has.0) ≡ sum_by f a.hands + f Idle
  now_sum f =
      let sum = sum-after f a.hands worker (Has leaf has.0) Idle inside has.1 in
      let same = ap (λ (x : List Hand). sum_by f x) hands in
      omega (arith, sum, same)

  -- the worker holds nothing now, and the others what they held
  mine : IsHandOf n worker Idle
  mine = (
    λ k now.
        let same : k ≡ leaf = sound.one_leaf worker k leaf (before worker k now) held in
        let at : Inner trip left size (size + 1) ≡ Held worker now.0 = sym at_leaf ∙ ap (spot_at n)
        (sym same) ∙ now.1 in
        absurd cc,
    λ among. sound.gone worker leaf among held,
  )

  others : (w : ℕ) → w ≢ worker → IsAlike s n w
  others w apart = record {
    forth = λ k theirs. elim (cases_eq k leaf) [
      | inl same ↦
          let at : Held worker held.0 ≡ Held w theirs.0 = sym held.1 ∙ ap (spot_at s) (sym same) ∙ theirs.1 in
          let alike : w ≡ worker = cc in
          absurd (apart alike)
      | inr aside ↦
          (theirs.0, spot_other k aside (leaf_within s.places k (ap is_inner theirs.1)) ∙ theirs.1)
    ];
    back = λ k now. before w k now;
    gone = λ among. among;
    stays = λ among. among;
    offered = λ among. among;
    offers = λ among. among;
  }

  abbrev first_entry : Option Entry
  first_entry = Some (record { worth = lower_worth; leaf = m })

  abbrev second_entry : Option Entry
  second_entry = Some (record { worth = upper_worth; leaf = m + 1 })

  free_size : length b.free ≡ length a.free
  free_size = ap (λ (x : Entries). length x) frees ∙ length-more a.free m first_entry second_entry None

  worths_size : length b.worths ≡ length a.worths
  worths_size = ap (λ (x : List Bound). length x) worths ∙ length-more a.worths m lower_worth upper_worth NoPlan

  entry_other : (k : ℕ) → k ≢ m → k ≢ m + 1 → entry_at b.free k ≡ entry_at a.free k
  entry_other k first second =
      ap (λ (x : Entries). entry_at x k) frees ∙ more-other a.free m first_entry second_entry None k first second

  entry_first : entry_at b.free m ≡ first_entry
  entry_first =
      ap (λ (x : Entries). entry_at x m) frees
      ∙ more-first a.free m first_entry second_entry None (omega (arith, two_fit, is.parts.free_size))

  entry_second : entry_at b.free (m + 1) ≡ second_entry
  entry_second =
      ap (λ (x : Entries). entry_at x (m + 1)) frees
      ∙ more-second a.free m first_entry second_entry None (omega (arith, two_fit, is.parts.free_size))

  worth_other : (k : ℕ) → k ≢ m → k ≢ m + 1 → worth_at b.worths k ≡ worth_at a.worths k
  worth_other k first second =
      ap (λ (x : List Bound). worth_at x k) worths
      ∙ more-other a.worths m lower_worth upper_worth NoPlan k first second

  worth_first : worth_at b.worths m ≡ lower_worth
  worth_first =
      ap (λ (x : List Bound). worth_at x m) worths
      ∙ more-first a.worths m lower_worth upper_worth NoPlan (omega (arith, two_fit, is.parts.worths_size))

  worth_second : worth_at b.worths (m + 1) ≡ upper_worth
  worth_second =
      ap (λ (x : List Bound). worth_at x (m + 1)) worths
      ∙ more-second a.worths m lower_worth upper_worth NoPlan (omega (arith, two_fit, is.parts.worths_size))

  -- where there was no free leaf and is none, there is no entry
  no_entry : (k : ℕ) → k ≢ m → k ≢ m + 1 → k < length b.free → free_entry (spot_at s k) (worth_at a.worths k) k ≡ None
      → free_entry (spot_at n k) (worth_at b.worths k) k ≡ None
      → entry_at b.free k ≡ free_entry (spot_at n k) (worth_at b.worths k) k
  no_entry k first second below then now =
      entry_other k first second ∙ is.parts.free k (omega (arith, below, free_size)) ∙ then ∙ sym now

  entry_of : Spot → ℕ → Option Entry
  entry_of spot k = free_entry spot (worth_at b.worths k) k

  now_free : (k : ℕ) → k < length b.free → entry_at b.free k ≡ free_entry (spot_at n k) (worth_at b.worths k) k
  now_free k below =
      elim (where_is size leaf k) [
        | split here ↦
            no_entry k (λ e. omega (arith, e, here, within, same_size))
            (λ e. omega (arith, e, here, within, same_size)) below
            (ap (λ (j : ℕ). free_entry (spot_at s j) (worth_at a.worths j) j) here
            ∙ ap (λ (x : Spot). free_entry x (worth_at a.worths leaf) leaf) held.1)
            (ap (λ (j : ℕ). free_entry (spot_at n j) (worth_at b.worths j) j) here
            ∙ ap (λ (x : Spot). free_entry x (worth_at b.worths leaf) leaf) at_leaf)
        | other apart inside_old ↦
            let first : k ≢ m = λ e. omega (arith, e, inside_old, same_size) in
            let second : k ≢ m + 1 = λ e. omega (arith, e, inside_old, same_size) in
            entry_other k first second ∙ is.parts.free k (omega (arith, below, free_size))
            ∙ ap (λ (x : Spot). free_entry x (worth_at a.worths k) k) (sym (spot_other k apart inside_old))
            ∙ ap (λ (x : Bound). free_entry (spot_at n k) x k) (sym (worth_other k first second))
        | lower here ↦
            let at : entry_at b.free m ≡ free_entry (spot_at n m) (worth_at b.worths m) m =
            entry_first ∙ ap (λ (x : Bound). free_entry (Free number) x m) (sym worth_first)
            ∙ ap (λ (x : Spot). free_entry x (worth_at b.worths m) m) (sym (spot_lower m (sym same_size))) in
            subst (λ (j : ℕ). entry_at b.free j ≡ free_entry (spot_at n j) (worth_at b.worths j) j)
            (sym (here ∙ same_size)) at
        | upper here ↦
            let at : entry_at b.free (m + 1) ≡ free_entry (spot_at n (m + 1)) (worth_at b.worths (m + 1)) (m + 1) =
            entry_second ∙ ap (λ (x : Bound). free_entry (Free number) x (m + 1)) (sym worth_second)
            ∙ ap (λ (x : Spot). free_entry x (worth_at b.worths (m + 1)) (m + 1))
            (sym (spot_upper (m + 1) (omega (arith, same_size)))) in
            subst (λ (j : ℕ). entry_at b.free j ≡ free_entry (spot_at n j) (worth_at b.worths j) j)
            (sym (here ∙ ap (λ (x : ℕ). x + 1) same_size)) at
        | nowhere past ↦
            let none : place_at s.places k ≡ no_place = get_or_past s.places k no_place (omega (arith, past)) in
            no_entry k (λ e. omega (arith, e, past, same_size)) (λ e. omega (arith, e, past, same_size)) below
            (ap (λ (q : Place). free_entry q.spot (worth_at a.worths k) k) none)
            (ap (λ (q : Place). free_entry q.spot (worth_at b.worths k) k)
            (parts.at_nowhere o s worker leaf number trip left prices may is.opening.instance sound k past))
      ]

  -- a part has the new table
  part_prices : (k : ℕ) → spot_at n k ≡ Free number → prices_at n k ≡ prices
  part_prices k free =
      ap (λ (x : Spot). get_or n.tables (table_of x) no_prices) free
      ∙ last-prices s.tables prices number may.gives.number

  part_worth : (k : ℕ) (layers : List LayerSet) (worth : Bound) → sets_at n k ≡ layers → spot_at n k ≡ Free number
      → worth_at b.worths k ≡ worth → AreWorth o.problem layers prices worth
      → IsLeafWorth o.problem n k (worth_at b.worths k)
  part_worth k layers worth at free is_worth given =
      subst (λ (x : Bound). AreWorth o.problem (sets_at n k) (prices_at n k) x) (sym is_worth)
      (subst (λ (x : List LayerSet). AreWorth o.problem x (prices_at n k) worth) (sym at)
      (subst (λ (x : Prices). AreWorth o.problem layers x worth) (sym (part_prices k free)) given))

  now_worths : (k : ℕ) → IsLeaf n k → IsLeafWorth o.problem n k (worth_at b.worths k)
  now_worths k leaf_k =
      elim (where_is size leaf k) [
        | split here ↦
            absurd (parts.leaf_no_more o s worker leaf number trip left prices may is.opening.instance sound k
            here leaf_k)
        | other apart inside_old ↦
            let was : IsLeaf s k = ap is_inner (sym (spot_other k apart inside_old)) ∙ leaf_k in
            let kept = prices-kept s n k (prices ∷ []) refl (sound.numbers k was) (spot_other k apart inside_old) in
            let layers = parts.sets_other o s worker leaf number trip left prices may is.opening.instance sound k apart
            inside_old in
            subst (λ (x : Bound). IsLeafWorth o.problem n k x)
            (sym (worth_other k (λ e. omega (arith, e, inside_old, same_size))
            (λ e. omega (arith, e, inside_old, same_size))))
            (same-worth o.problem n s k (worth_at a.worths k) (sym layers) (sym kept) (is.parts.worths k was))
        | lower here ↦
            part_worth k _ lower_worth (ap (λ (q : Place). q.sets)
            (parts.at_lower o s worker leaf number trip left prices may is.opening.instance sound k here))
            (spot_lower k here) (ap (λ (j : ℕ). worth_at b.worths j) (here ∙ same_size) ∙ worth_first) on_left
        | upper here ↦
            part_worth k _ upper_worth (ap (λ (q : Place). q.sets)
            (parts.at_upper o s worker leaf number trip left prices may is.opening.instance sound k here))
            (spot_upper k here)
            (ap (λ (j : ℕ). worth_at b.worths j) (here ∙ ap (λ (x : ℕ). x + 1) same_size) ∙ worth_second) on_right
        | nowhere past ↦
            absurd (parts.none_past o s worker leaf number trip left prices may is.opening.instance sound k past leaf_k)
      ]

  parts_after : ArePartsOf o n b
  parts_after = record {
    workers = is.parts.workers ∙ sym hands_size;
    places = ap (λ (x : List Place). split_at x leaf trip left (right_of (place_at x leaf).sets trip left) number)
        is.parts.places ∙ sym places;
    tables = ap (λ (x : List Prices). x ++ prices ∷ []) is.parts.tables ∙ sym tables;
    plans = is.parts.plans ∙ sym plans;
    finished = ap (λ (x : ℕ). x + 1) is.parts.finished ∙ sym finished;
    hands = λ w below. subst (λ (x : List Hand). IsHandOf n w (hand_at x w)) (sym hands)
        (hands-after s n a.hands worker Idle inside is.parts.hands mine others w
        (omega (arith, below, hands_size, length-set a.hands worker Idle)));
    workers_hold = λ w k now. elim (cases_eq w worker) [
      | inl same ↦ omega (arith, same, inside, hands_size)
      | inr apart ↦ omega (arith, hands_size, is.parts.workers_hold w k (before w k now))
    ];
    busy =
        let sum = now_sum (λ h. cond (is_busy h) 1 0) in
        let helds = parts.counted o s worker leaf number trip left prices may is.opening.instance sound is_held in
        let one = ap {B = ℕ} (λ (x : Bool). cond x 1 0) (ap is_held held.1) in
        omega (arith, sum, helds, one, is.parts.busy);
    free = now_free;
    worths = now_worths;
    few_places =
        let grown = ap (λ (x : List Place). length x) places in
        let right = right_of (place_at a.places.places leaf).sets trip left in
        let two = length-split a.places.places leaf (Inner trip left m (m + 1))
        (part_at a.places.places leaf trip left number) (part_at a.places.places leaf trip right number)
        (omega (arith, within, same_size)) in
        omega (arith, grown, two, is.parts.few_places, finished);
    few_steps =
        let longer = ap (λ (x : List FullStep). length x) steps in
        let one = length-append a.log.steps (step ∷ []) in
        let kept = now_sum steps_left in
        let busy = now_sum (λ h. cond (is_busy h) 1 0) in
        let gone = now_sum (λ h. cond (is_gone h) 1 0) in
        omega (arith, longer, one, kept, busy, gone, finished, is.parts.few_steps, (counted leaf has.0).steps);
    few_plans =
        let longer = ap (λ (x : List Checked). length x) plans in
        let kept = now_sum offers_left in
        let busy = now_sum (λ h. cond (is_busy h) 1 0) in
        let gone = now_sum (λ h. cond (is_gone h) 1 0) in
        omega (arith, longer, kept, busy, gone, finished, is.parts.few_plans, (counted leaf has.0).plans);
    places_room = room ∙ is.parts.places_room;
    steps_room = step_room ∙ is.parts.steps_room;
    tables_room = table_room ∙ is.parts.tables_room;
    plans_room = plan_room ∙ is.parts.plans_room;
    free_size = free_size ∙ is.parts.free_size;
    worths_size = worths_size ∙ is.parts.worths_size;
    sets_size = sets ∙ is.parts.sets_size;
  }

  pub split_search : IsSearch o b
  split_search =
      let reached : state_of o b.log.steps ≡ n =
      ap (state_of o) steps ∙ state-last (first_state o) a.log.steps step in
      record {
        opening = is.opening;
        few_leaves = is.few_leaves;
        few_workers = is.few_workers;
        history = subst (λ (x : List FullStep). IsHistory o x) (sym steps)
            (history-last o (first_state o) a.log.steps step is.history may);
        parts = subst (λ (x : State). ArePartsOf o x b) (sym reached) parts_after;
      }
