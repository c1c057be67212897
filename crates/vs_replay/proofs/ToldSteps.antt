-- The steps that a trace tells of a search may come as the search's own, and lead to the same state but for prices that
-- aren't told and for offers that weren't accepted.
use Rattle.std.proofs.Common.{◌≡◌, ℕ, zero, suc, ◌==◌, not, List, [], ◌∷◌, ◌++◌, length, refl, sym, ap, ◌∙◌, subst, append-nil, Option, Some, None, ℤ}
use Rattle.std.specs.Prelude.{filter, IfSome}
use Rattle.std.specs.List.{AllZip}
use Rattle.std.proofs.lemmas.List.Elements.{AllZip-get_or, AllZip-push, length_all_zip}
use Rattle.vs_types.specs.declared.layer_set.LayerSet.{LayerSet}
use Rattle.vs_types.specs.declared.numbers.TripNo.{TripNo}
use Rattle.vs_instance.specs.Problem.{Problem}
use Rattle.vs_instance.specs.Restriction.{IsRestriction}
use Rattle.vs_plan.specs.CheckedPlan.{Checked}
use Rattle.vs_prices.specs.declared.bound.Bound.{Bound}
use Rattle.vs_tree.specs.History.{FullStep, Opening, Place, State, Took, Split, Closed, Offered, GaveBack, IsAmong, IsFree, IsHeldBy, IsHistory, IsLeaf, IsLeafWorth, MayClose, MayCome, MayFollow, MayGive, MayOffer, MaySplit, MayTake, after, first_state, is_inner, prices_at, sets_at, spot_at, state_after, state_of, table_of}
use Rattle.vs_tree.specs.Prices.{Prices, no_prices, zero_prices}
use Rattle.vs_tree.specs.Sound.{IsOpening, IsPlanOf, IsSound}
use Rattle.vs_tree.specs.Takes.{held_leaves}
use Rattle.vs_tree.proofs.CallerLemmas.{among-filter, first_sound, leaf_within, step_sound, zeros_lawful, filter-among}
use Rattle.vs_trace.specs.Told.{told_of}
use Rattle.vs_trace.specs.Traces.{told_opening, told_steps}
use Rattle.vs_trace.specs.declared.trace.Trace.{Trace}
use Rattle.vs_replay.specs.Alike.{AreAlike, IsAlike, IsTold, SameStates, ToldHistoriesComeBack}
use Rattle.vs_replay.specs.Replays.{Replays}
use Rattle.vs_replay.proofs.AgreeingPrices.{alike_self, also_lawful, turned, worth_alike}

-- the same state with other tables, and in which others have offered
abbrev pub with_told : State → List Prices → List ℕ → State
with_told s tables offered = record {
  places = s.places;
  tables = tables;
  accepted = s.accepted;
  finished = s.finished;
  gone = s.gone;
  offered = offered;
}

-- a state that is the same as another is so
pub same_is : (p : Problem) (s u : State) → SameStates p s u → u ≡ with_told s u.tables u.offered
same_is p s u is =
    ap (λ (places : List Place). record u { places = places }) is.places
    ∙ ap (λ (plans : List Checked). record u { places = s.places; accepted = plans }) is.accepted
    ∙ ap (λ (n : ℕ). record u { places = s.places; accepted = s.accepted; finished = n }) is.finished
    ∙ ap (λ (gone : List ℕ). record (with_told s u.tables u.offered) { gone = gone }) is.gone

-- who stands among those that are kept of some stands among those that are kept of more
kept_among : (w : ℕ) (few many : List ℕ) → ((v : ℕ) → IsAmong v few → IsAmong v many) → (v : ℕ)
    → IsAmong v (filter (λ other. not (other == w)) few) → IsAmong v (filter (λ other. not (other == w)) many)
kept_among w few many within v among =
    let found = among-filter (λ other. not (other == w)) v few among in
    filter-among (λ other. not (other == w)) v many found.1 (within v found.0)

cons_among : (w : ℕ) (few many : List ℕ) → ((v : ℕ) → IsAmong v few → IsAmong v many) → (v : ℕ)
    → IsAmong v (w ∷ few) → IsAmong v (w ∷ many)
cons_among w few many within v (zero, is) = (zero, is)
cons_among w few many within v (suc k, is) = let found = within v (k, is) in (suc found.0, found.1)

later_among : (w v : ℕ) (many : List ℕ) → IsAmong v many → IsAmong v (w ∷ many)
later_among w v many among = (suc among.0, among.1)

module _ (o : Opening) (opening : IsOpening o) where
  abbrev p : Problem
  p = o.problem

  -- these tables agree with the state's, and only workers that have offered there have offered
  pub record AreTold (s : State) (ts : List Prices) (os : List ℕ) : Type 0 where
    pub tables : AllZip (AreAlike p) s.tables ts
    pub offered : (w : ℕ) → IsAmong w os → IsAmong w s.offered

  -- a step may come there, and leads to such a state again
  pub record Follows (n u : State) (step : FullStep) : Type 0 where
    pub may : MayCome o u step
    pub tables : List Prices
    pub offered : List ℕ
    pub is : after u step ≡ with_told n tables offered
    pub told : AreTold n tables offered

  pub record AllFollow (n u : State) (steps : List FullStep) : Type 0 where
    pub may : MayFollow o u steps
    pub tables : List Prices
    pub offered : List ℕ
    pub is : state_after u steps ≡ with_told n tables offered
    pub told : AreTold n tables offered

  module _ (s : State) (tables : List Prices) (offered : List ℕ) (sound : IsSound o s)
      (told : AreTold s tables offered) where
    abbrev u : State
    u = with_told s tables offered

    count : length s.tables ≡ length tables
    count = length_all_zip (AreAlike p) s.tables tables told.tables

    -- the prices of a leaf say the same in both
    prices_alike : (k : ℕ) → IsLeaf s k → AreAlike p (prices_at s k) (prices_at u k)
    prices_alike k leaf =
        AllZip-get_or (AreAlike p) s.tables tables (table_of (spot_at s k)) no_prices no_prices told.tables
        (sound.numbers k leaf)

    restricted : (k : ℕ) → IsLeaf s k → IsRestriction p (sets_at s k)
    restricted k leaf = sound.restrictions k (leaf_within s.places k leaf)

    pub worth_there : (k : ℕ) (worth : Bound) → IsLeaf s k → IsLeafWorth p s k worth → IsLeafWorth p u k worth
    worth_there k worth leaf is =
        worth_alike p (prices_at s k) (prices_at u k) opening.instance (sets_at s k) (restricted k leaf)
        (prices_alike k leaf) worth is

    pub worth_here : (k : ℕ) (worth : Bound) → IsLeaf s k → IsLeafWorth p u k worth → IsLeafWorth p s k worth
    worth_here k worth leaf is =
        worth_alike p (prices_at u k) (prices_at s k) opening.instance (sets_at s k) (restricted k leaf)
        (turned p (prices_at s k) (prices_at u k) (prices_alike k leaf)) worth is

    free_leaf : (k : ℕ) → IsFree s k → IsLeaf s k
    free_leaf k free = ap is_inner free.1

    held_leaf : (w k : ℕ) → IsHeldBy s w k → IsLeaf s k
    held_leaf w k held = ap is_inner held.1

    may_take : (w leaf : ℕ) → MayTake o s w leaf → MayTake o u w leaf
    may_take w leaf may =
        let next = may.next in
        record {
          is_worker = may.is_worker;
          idle = may.idle;
          stays = may.stays;
          room = may.room;
          next = record {
            free = next.free;
            worth = next.worth;
            is_worth = worth_there leaf next.worth (free_leaf leaf next.free) next.is_worth;
            below = next.below;
            least = λ j other free is. next.least j other free (worth_here j other (free_leaf j free) is);
            first = λ j other free is less. next.first j other free (worth_here j other (free_leaf j free) is) less;
          };
        }

    may_give : (leaf number : ℕ) (a b : Prices) → IsLeaf s leaf → AreAlike p a b → MayGive p s leaf number a
        → MayGive p u leaf number b
    may_give leaf number a b is alike gives = record {
      number = gives.number ∙ count;
      lawful = also_lawful p a b alike gives.lawful;
      no_less = λ worth least one other. gives.no_less worth least
          (worth_alike p b a opening.instance (sets_at s leaf) (restricted leaf is) (turned p a b alike) worth one)
          (worth_here leaf least is other);
    }

    may_split : (w leaf number : ℕ) (trip : TripNo) (left : LayerSet) (a b : Prices) → AreAlike p a b
        → MaySplit o s w leaf number trip left a → MaySplit o u w leaf number trip left b
    may_split w leaf number trip left a b alike may = record {
      holds = may.holds;
      gives = may_give leaf number a b (held_leaf w leaf may.holds) alike may.gives;
      of_instance = may.of_instance;
      part = may.part;
    }

    may_close : (w leaf number : ℕ) (a b : Prices) → AreAlike p a b → MayClose o s w leaf number a
        → MayClose o u w leaf number b
    may_close w leaf number a b alike may = record {
      holds = may.holds;
      gives = may_give leaf number a b (held_leaf w leaf may.holds) alike may.gives;
      done = λ worth is. may.done worth
          (worth_alike p b a opening.instance (sets_at s leaf) (restricted leaf (held_leaf w leaf may.holds))
          (turned p a b alike) worth is);
    }

    may_offer : (w : ℕ) (cost : ℤ) (number : Option ℕ) (added : Option Checked)
        → MayOffer o s w cost number added → MayOffer o u w cost number added
    may_offer w cost number added may = record {
      leaf = may.leaf;
      holds = may.holds;
      first_time = λ among. may.first_time (told.offered w among);
      accepted = λ cheaper. let is = may.accepted cheaper in record {
        plan = is.plan;
        adds = is.adds;
        next = is.next;
        checked = is.checked;
        of_instance = is.of_instance;
        costs = is.costs;
      };
      refused = may.refused;
    }

    -- a table that agrees comes behind the others
    one_table : (a b : Prices) → AreAlike p a b → AllZip (AreAlike p) (s.tables ++ a ∷ []) (tables ++ b ∷ [])
    one_table a b alike = AllZip-push (AreAlike p) s.tables tables a b told.tables alike

    pub step_told : (x y : FullStep) → MayCome o s x → IsAlike p x y → Follows (after s x) u y
    step_told (Took w leaf) y may same =
        subst (Follows (after s (Took w leaf)) u) (sym same) (record {
          may = may_take w leaf may;
          tables = tables;
          offered = filter (λ other. not (other == w)) offered;
          is = refl;
          told = record {
            tables = told.tables;
            offered = kept_among w offered s.offered told.offered;
          };
        })
    step_told (Split w leaf number trip left a) y may same =
        let b = same.0 in
        subst (Follows (after s (Split w leaf number trip left a)) u) (sym same.1) (record {
          may = may_split w leaf number trip left a b same.2 may;
          tables = tables ++ b ∷ [];
          offered = offered;
          is = refl;
          told = record { tables = one_table a b same.2; offered = told.offered };
        })
    step_told (Closed w leaf number a) y may same =
        let b = same.0 in
        subst (Follows (after s (Closed w leaf number a)) u) (sym same.1) (record {
          may = may_close w leaf number a b same.2 may;
          tables = tables ++ b ∷ [];
          offered = offered;
          is = refl;
          told = record { tables = one_table a b same.2; offered = told.offered };
        })
    step_told (Offered w cost number added) y may same =
        subst (Follows (after s (Offered w cost number added)) u) (sym same) (record {
          may = may_offer w cost number added may;
          tables = tables;
          offered = w ∷ offered;
          is = refl;
          told = record { tables = told.tables; offered = cons_among w offered s.offered told.offered };
        })
    step_told (GaveBack w leaf) y may same =
        subst (Follows (after s (GaveBack w leaf)) u) (sym same) (record {
          may = may;
          tables = tables;
          offered = offered;
          is = refl;
          told = record { tables = told.tables; offered = told.offered };
        })

    -- an offer that wasn't accepted changes nothing but who has offered
    pub unaccepted : (w : ℕ) (cost : ℤ) (number : Option ℕ)
        → AreTold (after s (Offered w cost number None)) tables offered
    unaccepted w cost number = record {
      tables = told.tables;
      offered = λ v among. later_among w v s.offered (told.offered v among);
    }

    pub unaccepted_is : (w : ℕ) (cost : ℤ) (number : Option ℕ)
        → with_told (after s (Offered w cost number None)) tables offered ≡ u
    unaccepted_is w cost number =
        ap (λ (plans : List Checked). with_told (record s { accepted = plans }) tables offered)
        (append-nil s.accepted)

  -- a step and those behind it
  one_and_more : (n m u : State) (y : FullStep) (ys : List FullStep) → Follows n u y
      → ((tables : List Prices) (offered : List ℕ) → AreTold n tables offered
      → AllFollow m (with_told n tables offered) ys) → AllFollow m u (y ∷ ys)
  one_and_more n m u y ys one more =
      let rest = more one.tables one.offered one.told in
      record {
        may = (one.may, subst (λ (z : State). MayFollow o z ys) (sym one.is) rest.may);
        tables = rest.tables;
        offered = rest.offered;
        is = ap (λ (z : State). state_after z ys) one.is ∙ rest.is;
        told = rest.told;
      }

  pub all_told : (s : State) (tables : List Prices) (offered : List ℕ) (xs ys : List FullStep) → IsSound o s
      → AreTold s tables offered → MayFollow o s xs → AllZip (IsAlike p) (told_of xs) ys
      → AllFollow (state_after s xs) (with_told s tables offered) ys
  all_told s tables offered [] [] sound told may alike =
      record { may = tt; tables = tables; offered = offered; is = refl; told = told }
  all_told s tables offered [] (y ∷ ys) sound told may alike = absurd alike
  all_told s tables offered (Offered w cost number None ∷ xs) ys sound told may alike =
      let n = after s (Offered w cost number None) in
      let rest = all_told n tables offered xs ys (step_sound o opening s (Offered w cost number None) may.0 sound)
      (unaccepted s tables offered sound told w cost number) may.1 alike in
      subst (λ (z : State). AllFollow (state_after n xs) z ys)
      (unaccepted_is s tables offered sound told w cost number) rest
  all_told s tables offered (Offered w cost number (Some plan) ∷ xs) [] sound told may alike = absurd alike
  all_told s tables offered (Offered w cost number (Some plan) ∷ xs) (y ∷ ys) sound told may alike =
      let x = Offered w cost number (Some plan) in
      one_and_more (after s x) (state_after (after s x) xs) (with_told s tables offered) y ys
      (step_told s tables offered sound told x y may.0 alike.0)
      (λ ts os then. all_told (after s x) ts os xs ys (step_sound o opening s x may.0 sound) then may.1 alike.1)
  all_told s tables offered (Took w leaf ∷ xs) [] sound told may alike = absurd alike
  all_told s tables offered (Took w leaf ∷ xs) (y ∷ ys) sound told may alike =
      let x = Took w leaf in
      one_and_more (after s x) (state_after (after s x) xs) (with_told s tables offered) y ys
      (step_told s tables offered sound told x y may.0 alike.0)
      (λ ts os then. all_told (after s x) ts os xs ys (step_sound o opening s x may.0 sound) then may.1 alike.1)
  all_told s tables offered (Split w leaf number trip left a ∷ xs) [] sound told may alike = absurd alike
  all_told s tables offered (Split w leaf number trip left a ∷ xs) (y ∷ ys) sound told may alike =
      let x = Split w leaf number trip left a in
      one_and_more (after s x) (state_after (after s x) xs) (with_told s tables offered) y ys
      (step_told s tables offered sound told x y may.0 alike.0)
      (λ ts os then. all_told (after s x) ts os xs ys (step_sound o opening s x may.0 sound) then may.1 alike.1)
  all_told s tables offered (Closed w leaf number a ∷ xs) [] sound told may alike = absurd alike
  all_told s tables offered (Closed w leaf number a ∷ xs) (y ∷ ys) sound told may alike =
      let x = Closed w leaf number a in
      one_and_more (after s x) (state_after (after s x) xs) (with_told s tables offered) y ys
      (step_told s tables offered sound told x y may.0 alike.0)
      (λ ts os then. all_told (after s x) ts os xs ys (step_sound o opening s x may.0 sound) then may.1 alike.1)
  all_told s tables offered (GaveBack w leaf ∷ xs) [] sound told may alike = absurd alike
  all_told s tables offered (GaveBack w leaf ∷ xs) (y ∷ ys) sound told may alike =
      let x = GaveBack w leaf in
      one_and_more (after s x) (state_after (after s x) xs) (with_told s tables offered) y ys
      (step_told s tables offered sound told x y may.0 alike.0)
      (λ ts os then. all_told (after s x) ts os xs ys (step_sound o opening s x may.0 sound) then may.1 alike.1)

-- where some steps are a history, so are steps that are alike, without the offers that weren't accepted
pub alike_history : (o : Opening) (steps ys : List FullStep) → IsOpening o → IsHistory o steps
    → AllZip (IsAlike o.problem) (told_of steps) ys → IsHistory o ys
alike_history o steps ys opening history alike =
    let start : AreTold o opening (first_state o) (first_state o).tables [] =
    record {
      tables = (alike_self o.problem (zero_prices o.problem) (zeros_lawful o.problem opening.instance), tt);
      offered = λ w among. among;
    } in
    let all = all_told o opening (first_state o) (first_state o).tables [] steps ys (first_sound o opening) start
    history alike in
    all.may

-- the law
module _ (o : Opening) (steps : List FullStep) (t : Trace) (opening : IsOpening o) (history : IsHistory o steps)
    (is : IsTold o steps t) where
  abbrev told : List FullStep
  told = told_steps o.problem t

  start : AreTold o opening (first_state o) (first_state o).tables []
  start = record {
    tables = (alike_self o.problem (zero_prices o.problem) (zeros_lawful o.problem opening.instance), tt);
    offered = λ w among. among;
  }

  all : AllFollow o opening (state_of o steps) (first_state o) told
  all = all_told o opening (first_state o) (first_state o).tables [] steps told (first_sound o opening) start history
      is.steps

  state_is : state_of (told_opening o.problem t) told ≡ with_told (state_of o steps) all.tables all.offered
  state_is = ap (λ (x : Opening). state_of x told) is.opening ∙ all.is

  pub comes_back : held_leaves (state_of o steps) ≡ 0
      → Replays o.problem t × SameStates o.problem (state_of o steps) (state_of (told_opening o.problem t) told)
  comes_back none = (
    record {
      first = subst (λ (x : Opening). IfSome x.first (IsPlanOf o.problem)) (sym is.opening) opening.first;
      history = subst (λ (x : Opening). IsHistory x told) (sym is.opening) all.may;
      none_held = ap held_leaves state_is ∙ none;
    },
    subst (SameStates o.problem (state_of o steps)) (sym state_is) (record {
      places = refl;
      tables = all.told.tables;
      accepted = refl;
      finished = refl;
      gone = refl;
      offered = all.told.offered;
    }),
  )

pub told_histories_come_back : ToldHistoriesComeBack
told_histories_come_back o steps t opening history none is = comes_back o steps t opening history is none
