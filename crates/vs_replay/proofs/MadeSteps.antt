-- When a step of a trace may come, and that it is then made.
use Rattle.std.proofs.Common.{◌≡◌, ℕ, ◌<◌, ◌↔◌, Bool, true, false, not, ◌==◌, length, refl, sym, ap, ◌∙◌, subst, inl, inr, arith, Some}
use Rattle.std.specs.Prelude.{IsTrue}
use Rattle.std.proofs.lemmas.Bool.{eq-eqb, eqb-true, false≢true}
use Rattle.vs_instance.specs.Problem.{Problem}
use Rattle.vs_prices.specs.Table.{Fits, HoldingTable}
use Rattle.vs_prices.specs.declared.table.Table.{Table}
use Rattle.vs_tree.specs.Calls.{offering, with_step}
use Rattle.vs_plan.specs.CheckedPlan.{Checked}
use Rattle.vs_tree.specs.History.{FullStep, Opening, State, Offered, Took, IsAmong, IsCheaper, IsFree, IsHeldBy, IsNextLeaf, MayCome, MayOffer, MayTake, is_inner, known, prices_at, spot_at, table_of}
use Rattle.vs_tree.specs.Prices.{AreLawful, Prices, no_prices, prices_of}
use Rattle.vs_tree.specs.Search.{IsHandOf, Search, state}
use Rattle.vs_tree.specs.Sound.{IsPlanOf, IsSound}
use Rattle.vs_tree.specs.Takes.{IsRoomLeft, IsSized}
use Rattle.vs_tree.specs.declared.calls.Hand.{Hand}
use Rattle.vs_tree.specs.declared.calls.Hand.TheVariants.{Idle, Has, Gone}
use Rattle.vs_tree.proofs.CallerLemmas.{cheaper_or_not, lawful_fits}
use Rattle.vs_replay.specs.Making.{IsMade, MayOfferSome}

pub not_made : (old new : Search) (step : FullStep) → ¬ (MayCome old.opening (state old) step)
    → IsMade old new step false
not_made old new step not = record {
  may = (λ t. absurd (false≢true t), λ may. absurd (not may));
  is_made = λ t. absurd (false≢true t);
}

pub is_made : (old new : Search) (step : FullStep) → MayCome old.opening (state old) step → new ≡ with_step old step
    → IsMade old new step true
is_made old new step may same = record { may = (λ t. may, λ m. refl); is_made = λ t. same }

-- one leaf is the next
pub one_next : (p : Problem) (s : State) (a b : ℕ) → IsNextLeaf p s a → IsNextLeaf p s b → a ≡ b
one_next p s a b x y =
    let to = x.first b y.worth y.free y.is_worth (y.least a x.worth x.free x.is_worth) in
    let back = y.first a x.worth x.free x.is_worth (x.least b y.worth y.free y.is_worth) in
    omega (arith, to, back)

-- a table of a leaf's prices has their size
pub sized_at : (o : Opening) (s : State) → IsSound o s → (leaf : ℕ) → IsFree s leaf → (table : Table)
    → prices_of table ≡ prices_at s leaf → IsSized o.problem table
sized_at o s sound leaf free table same =
    let lawful = sound.tables (table_of (spot_at s leaf)) no_prices (sound.numbers leaf (ap is_inner free.1)) in
    let fits = lawful_fits o.problem table (subst (λ (x : Prices). AreLawful o.problem x) (sym same) lawful) in
    record { into = fits.into_size; from = fits.from_size; fleet = fits.fleet_size }

-- a table that fits and holds has lawful prices
pub is_lawful : (p : Problem) (table : Table) → Fits p table → HoldingTable p table → AreLawful p (prices_of table)
is_lawful p table fits holds = record { table = table; listed = refl; fits = fits; holds = holds }

-- a worker with a leaf in hand may offer a plan where it offered none
pub hand_may_offer : (s : State) (w leaf : ℕ) (offered : Bool) → IsHandOf s w (Has leaf offered)
    → (not offered ≡ true) ↔ MayOfferSome s w
hand_may_offer s w leaf true is = (λ t. absurd (false≢true t), λ may. absurd (may.first_time is.1))
hand_may_offer s w leaf false is = (λ t. record { holds = (leaf, is.0); first_time = is.1 }, λ may. refl)

-- one with none may not
pub hand_may_not : (o : Opening) (s : State) → IsSound o s → (w : ℕ) (hand : Hand) → IsHandOf s w hand
    → ((leaf : ℕ) (offered : Bool) → hand ≡ Has leaf offered → ⊥) → ¬ (MayOfferSome s w)
hand_may_not o s sound w Idle is none may = is.0 may.holds.0 may.holds.1
hand_may_not o s sound w (Has leaf offered) is none may = none leaf offered refl
hand_may_not o s sound w Gone is none may = sound.gone w may.holds.0 is may.holds.1

-- the leaf that a worker was given is the one that it may take, or it may take none
pub took : (old new : Search) (w next leaf : ℕ) (room : IsRoomLeft old.opening (state old))
    → IsNextLeaf old.opening.problem (state old) next → w < old.opening.workers
    → ((k : ℕ) → ¬ (IsHeldBy (state old) w k)) → ¬ (IsAmong w (state old).gone)
    → new ≡ with_step old (Took w next) → IsMade old new (Took w leaf) (next == leaf)
took old new w next leaf room is worker idle stays adds = record {
  may = (
    λ t.
        subst (λ (k : ℕ). MayTake old.opening (state old) w k) (eqb-true next leaf t)
        (record { is_worker = worker; idle = idle; stays = stays; room = room; next = is }),
    λ may. eq-eqb next leaf (one_next old.opening.problem (state old) next leaf is may.next),
  );
  is_made = λ t. adds ∙ ap (λ (k : ℕ). with_step old (Took w k)) (eqb-true next leaf t);
}

-- an offer may come where the worker may offer something, and the plan is cheaper and one of the instance
module _ (o : Opening) (s : State) (w : ℕ) (told : Checked) where
  abbrev Comes : Type 0
  Comes = MayOffer o s w told.cost (Some (length s.accepted)) (Some told)

  pub may_offer : MayOfferSome s w → IsCheaper told.cost (known s) → IsPlanOf o.problem told → Comes
  may_offer may cheaper is = record {
    leaf = may.holds.0;
    holds = may.holds.1;
    first_time = may.first_time;
    accepted = λ _. record {
      plan = told;
      adds = refl;
      next = refl;
      checked = is.0;
      of_instance = is.1;
      costs = refl;
    };
    refused = λ dear. absurd (dear cheaper);
  }

  pub offers_some : Comes → MayOfferSome s w
  offers_some may = record { holds = (may.leaf, may.holds); first_time = may.first_time }

  pub offers_cheaper : Comes → IsCheaper told.cost (known s)
  offers_cheaper may = elim (cheaper_or_not told.cost (known s)) [
    | inl cheaper ↦ cheaper
    | inr dear ↦ let none = (may.refused dear).0 in absurd cc
  ]

  pub offers_plan : Comes → IsPlanOf o.problem told
  offers_plan may =
      let is = may.accepted (offers_cheaper may) in
      let same : told ≡ is.plan = let adds = is.adds in cc in
      subst (λ (c : Checked). IsPlanOf o.problem c) (sym same) (is.checked, is.of_instance)

-- a plan that is offered is accepted where it is cheaper
pub offered_made : (old new : Search) (w : ℕ) (told checked : Checked) (made : Bool) → checked ≡ told
    → MayOfferSome (state old) w → IsCheaper told.cost (known (state old)) → IsPlanOf old.opening.problem told
    → (IsTrue made ↔ IsCheaper checked.cost (known (state old)))
    → new ≡ with_step old (offering (state old) w checked made)
    → IsMade old new (Offered w told.cost (Some (length (state old).accepted)) (Some told)) made
offered_made old new w told checked true same some cheaper is answer adds =
    is_made old new (Offered w told.cost (Some (length (state old).accepted)) (Some told))
    (may_offer old.opening (state old) w told some cheaper is)
    (adds ∙ ap (λ (x : Checked). with_step old (offering (state old) w x true)) same)
offered_made old new w told checked false same some cheaper is answer adds =
    absurd (false≢true (answer.1 (subst (λ (x : Checked). IsCheaper x.cost (known (state old))) (sym same) cheaper)))
