-- The parts of a search once a leaf was closed.
use Rattle.std.proofs.Common.{◌≡◌, ◌≢◌, ℕ, ◌+◌, ◌<◌, Bool, true, false, List, [], ◌∷◌, ◌++◌, length, set, refl, sym, ap, ◌∙◌, subst, arith, None, Option}
use Rattle.std.proofs.lemmas.List.{set-get_or}
use Rattle.vs_types.specs.declared.layer_set.LayerSet.{LayerSet}
use Rattle.vs_prices.specs.declared.bound.Bound.{Bound}
use Rattle.vs_tree.specs.declared.entry.Entry.{Entry}
use Rattle.vs_tree.specs.declared.calls.Hand.TheVariants.{Idle, Has}
use Rattle.vs_tree.specs.declared.spot.Spot.{Spot}
use Rattle.vs_tree.specs.declared.spot.Spot.TheVariants.{Held, Closed as ClosedSpot}
use Rattle.vs_tree.specs.Free.{entry_at}
use Rattle.vs_tree.specs.History.{Closed, Opening, State, IsHeldBy, IsLeafWorth, MayClose, after, is_held, is_inner, prices_at, sets_at, spot_at, state_of, with_spot}
use Rattle.vs_tree.specs.Prices.{AreWorth, Prices}
use Rattle.vs_tree.specs.Search.{IsHandOf, IsSearch, Parts, free_entry, hand_at, worth_at}
use Rattle.vs_tree.proofs.Spots.{leaf_within}
use Rattle.vs_tree.proofs.search.Facts.{is_sound, leaf_is, places_within}
use Rattle.vs_tree.proofs.search.GivingBack.{alike-others, hand_has, worker_inside}
use Rattle.vs_tree.proofs.search.Stepping.{IsCounted, stepped_search}
use Rattle.vs_tree.proofs.sound.Closed.{given}
use Rattle.vs_tree.proofs.sound.Relabelled.{count-less, held-before, sets-kept, spot-here, spot-there}

-- a worker that finishes its leaf makes the last of its steps
pub counted : (leaf : ℕ) (offered : Bool) → IsCounted 1 (Has leaf offered) Idle
counted leaf true = record { steps = omega arith; plans = omega arith }
counted leaf false = record { steps = omega arith; plans = omega arith }

module _ (o : Opening) (a : Parts) (is : IsSearch o a) (worker leaf number : ℕ) (prices : Prices)
    (may : MayClose o (state_of o a.log.steps) worker leaf number prices) (least : Bound)
    (worth : AreWorth o.problem (sets_at (state_of o a.log.steps) leaf) prices least) where
  abbrev s : State
  s = state_of o a.log.steps

  abbrev n : State
  n = after s (Closed worker leaf number prices)

  abbrev spot : Spot
  spot = ClosedSpot number

  held : IsHeldBy s worker leaf
  held = may.holds

  inside : worker < length a.hands
  inside = worker_inside o a is worker leaf held

  abbrev has : (offered : Bool) × (hand_at a.hands worker ≡ Has leaf offered)
  has = hand_has o a is worker leaf held

  was : is_inner (spot_at s leaf) ≡ false
  was = ap is_inner held.1

  within : leaf < length s.places
  within = leaf_within s.places leaf was

  elsewhere : (j : ℕ) → j ≢ leaf → spot_at n j ≡ spot_at s j
  elsewhere = spot-there s n leaf spot within refl

  here : spot_at n leaf ≡ spot
  here = spot-here s n leaf spot within refl

  before : (w k : ℕ) → IsHeldBy n w k → IsHeldBy s w k
  before = held-before s n leaf spot within refl refl

  -- the worker holds nothing now
  mine : IsHandOf n worker Idle
  mine = (
    λ k now.
        let same : k ≡ leaf = (is_sound o a is).one_leaf worker k leaf (before worker k now) held in
        let at : spot ≡ Held worker now.0 = sym here ∙ ap (spot_at n) (sym same) ∙ now.1 in
        absurd cc,
    λ among. (is_sound o a is).gone worker leaf among held,
  )

  is_worth : IsLeafWorth o.problem n leaf least
  is_worth =
      let sets = sets-kept s n leaf spot within refl leaf in
      let table = given o s worker leaf number prices may (is_sound o a is) in
      subst (λ (x : List LayerSet). AreWorth o.problem x (prices_at n leaf) least) (sym sets)
      (subst (λ (x : Prices). AreWorth o.problem (sets_at s leaf) x least) (sym table) worth)

  -- the leaf was held, so it has no entry among the free ones
  no_entry : set a.free leaf None ≡ a.free
  no_entry =
      let below = leaf_is o a is leaf was in
      let few = places_within o a is in
      let none : entry_at a.free leaf ≡ None =
      is.parts.free leaf (omega (arith, below, few, is.parts.free_size))
      ∙ ap (λ (x : Spot). free_entry x (worth_at a.worths leaf) leaf) held.1 in
      ap (λ (x : Option Entry). set a.free leaf x) (sym none) ∙ set-get_or a.free leaf None

  pub closed_search : (b : Parts)
      → (b.log.steps ≡ a.log.steps ++ Closed worker leaf number prices ∷ [])
      → (b.log.tables ≡ a.log.tables ++ prices ∷ []) → (b.log.plans ≡ a.log.plans)
      → (b.log.step_room ≡ a.log.step_room) → (b.log.table_room ≡ a.log.table_room)
      → (b.log.plan_room ≡ a.log.plan_room)
      → (b.places.places ≡ with_spot a.places.places leaf spot) → (b.places.room ≡ a.places.room)
      → (b.hands ≡ set a.hands worker Idle) → (b.free ≡ a.free)
      → (b.worths ≡ set a.worths leaf least) → (b.finished ≡ a.finished + 1) → (length b.sets ≡ length a.sets)
      → IsSearch o b
  closed_search b steps tables plans step_room table_room plan_room places room hands frees worths finished sets =
      let less = count-less s n leaf spot within refl is_held (ap is_held held.1) refl in
      stepped_search o a b is worker leaf 1 (Closed worker leaf number prices) may spot (Has leaf has.0) Idle least
      (prices ∷ []) refl refl refl refl was refl inside has.1 mine
      (alike-others s n worker leaf held elsewhere before (λ w apart among. among) (λ w apart among. among) refl)
      (counted leaf has.0) (omega (arith, less)) is_worth
      steps tables plans step_room table_room plan_room places room hands (frees ∙ sym no_entry) worths finished sets
