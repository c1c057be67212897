-- When a leaf may be finished so.
use Rattle.std.proofs.Common.{◌≡◌, ℕ, ◌<◌, List, length, refl, sym, ap, subst}
use Rattle.vs_types.specs.declared.layer_set.LayerSet.{LayerSet}
use Rattle.vs_types.specs.declared.numbers.TripNo.{TripNo}
use Rattle.vs_types.specs.Parts.{IsProperPart}
use Rattle.vs_instance.specs.Problem.{Problem}
use Rattle.vs_instance.specs.Restriction.{IsRestriction, set_of}
use Rattle.vs_prices.specs.Bounds.{IsBelow, IsNoLess}
use Rattle.vs_prices.specs.Table.{Fits, HoldingTable}
use Rattle.vs_prices.specs.Worth.{IsWorth}
use Rattle.vs_prices.specs.declared.bound.Bound.{Bound}
use Rattle.vs_prices.specs.declared.table.Table.{Table}
use Rattle.vs_tree.specs.Calls.{finishing}
use Rattle.vs_tree.specs.History.{FullStep, Opening, State, IsHeldBy, IsLeafWorth, MayCome, MayFollow, MayGive, first_state, is_inner, known, prices_at, sets_at, state_of}
use Rattle.vs_tree.specs.Prices.{AreWorth, prices_of}
use Rattle.vs_tree.specs.Sound.{IsOpening}
use Rattle.vs_tree.specs.declared.calls.Next.{Next}
use Rattle.vs_tree.specs.declared.calls.Next.TheVariants.{Close, Split}
use Rattle.vs_tree.proofs.CallerLemmas.{histories_are_sound, leaf_within, one_worth, lawful_holds}
use Rattle.vs_replay.proofs.MadeSteps.{is_lawful}

-- the sets of a leaf of a history, for a problem that is its own
pub leaf_restriction : (o : Opening) → IsOpening o → (steps : List FullStep) → MayFollow o (first_state o) steps
    → (w leaf : ℕ) (p : Problem) (sets : List LayerSet) → o.problem ≡ p → sets ≡ sets_at (state_of o steps) leaf
    → IsHeldBy (state_of o steps) w leaf → IsRestriction p sets
leaf_restriction o opening steps may w leaf p sets same are held =
    let s = state_of o steps in
    let sound = histories_are_sound o steps opening may in
    let within = leaf_within s.places leaf (ap is_inner held.1) in
    subst (λ (q : Problem). IsRestriction q sets) same
    (subst (λ (xs : List LayerSet). IsRestriction o.problem xs) (sym are) (sound.restrictions leaf within))

-- what a table is worth there
pub leaf_worth : (o : Opening) (s : State) (leaf : ℕ) (p : Problem) (sets : List LayerSet) (table : Table)
    (worth : Bound) → o.problem ≡ p → sets ≡ sets_at s leaf → IsWorth p sets table worth
    → IsWorth o.problem (sets_at s leaf) table worth
leaf_worth o s leaf p sets table worth same are is =
    subst (λ (xs : List LayerSet). IsWorth o.problem xs table worth) are
    (subst (λ (q : Problem). IsWorth q sets table worth) (sym same) is)

module _ (o : Opening) (s : State) (w leaf : ℕ) (table : Table) where
  abbrev sets : List LayerSet
  sets = sets_at s leaf

  -- the step by which the leaf is finished so
  abbrev Comes : Next → Type 0
  Comes next = MayCome o s (finishing s w leaf (prices_of table) next)

  -- what is known of a leaf that may be finished
  pub finishes_held : (next : Next) → Comes next → IsHeldBy s w leaf
  finishes_held Close may = may.holds
  finishes_held (Split trip left) may = may.holds

  pub finishes_with : (next : Next) → Comes next → MayGive o.problem s leaf (length s.tables) (prices_of table)
  finishes_with Close may = may.gives
  finishes_with (Split trip left) may = may.gives

  pub finishes_holding : (next : Next) → Comes next → HoldingTable o.problem table
  finishes_holding next may = lawful_holds o.problem table (finishes_with next may).lawful

  module _ (worth least : Bound) (is_worth : IsWorth o.problem sets table worth)
      (is_least : IsLeafWorth o.problem s leaf least) where
    worth_is : AreWorth o.problem sets (prices_of table) worth
    worth_is = record { table = table; listed = refl; worth = is_worth }

    -- it is worth no less than the leaf was
    pub finishes_no_less : (next : Next) → Comes next → IsNoLess worth least
    finishes_no_less next may = (finishes_with next may).no_less worth least worth_is is_least

    -- and closes it where there is no room for a cheaper plan
    pub closes_done : Comes Close → ¬ (IsBelow worth (known s))
    closes_done may = may.done worth worth_is

    module _ (held : IsHeldBy s w leaf) (fits : Fits o.problem table) (holds : HoldingTable o.problem table)
        (no_less : IsNoLess worth least) where
      gives : MayGive o.problem s leaf (length s.tables) (prices_of table)
      gives = record {
        number = refl;
        lawful = is_lawful o.problem table fits holds;
        no_less = λ other less other_is less_is.
            let one = one_worth o.problem sets (prices_of table) worth other worth_is other_is in
            let two = one_worth o.problem sets (prices_at s leaf) least less is_least less_is in
            subst (λ (b : Bound). IsNoLess b less) one (subst (λ (b : Bound). IsNoLess worth b) two no_less);
      }

      pub may_close : ¬ (IsBelow worth (known s)) → Comes Close
      may_close done = record {
        holds = held;
        gives = gives;
        done = λ other other_is below.
            let one = one_worth o.problem sets (prices_of table) worth other worth_is other_is in
            done (subst (λ (b : Bound). IsBelow b (known s)) (sym one) below);
      }

      pub may_split : (trip : TripNo) (left : LayerSet) → trip.0 < length o.problem.trips
          → IsProperPart left (set_of sets trip.0) → Comes (Split trip left)
      may_split trip left inside part = record {
        holds = held;
        gives = gives;
        of_instance = inside;
        part = part;
      }
