use Rattle.std.proofs.Common.{ℕ, ◌<◌, List, length, Option, None, inl, inr, sym, subst, arith, ℤ, pos, ◌≤ℤ◌}
use Rattle.std.specs.Prelude.{IsSome, IfSome}
use Rattle.std.proofs.lemmas.Bool.{cases_lt}
use Rattle.std.proofs.lemmas.List.{get_or_past}
use Rattle.vs_instance.specs.Dearest.{most_multiplier}
use Rattle.vs_instance.specs.Ways.{Permitted}
use Rattle.vs_instance.specs.declared.limits.TheConstants.{MAX_MULTIPLIER}
use Rattle.vs_types.proofs.CallerLemmas.{pushed-more}
use Rattle.vs_circ.specs.Offers.{IsOffered}
use Rattle.test_engine.proofs.circulations.offers.offers_of.Goals as goal

-- what is offered is one of the trips
offered-inside : (offers : List (Option ℤ)) (i : ℕ) → IsOffered offers i → i < length offers
offered-inside offers i offered =
    elim (cases_lt i (length offers)) [
      | inl inside ↦ inside
      | inr past ↦
          let none = subst (λ (o : Option ℤ). IsSome o) (get_or_past offers i None past) offered in cc
    ]

pub loop-i-preserved : goal.loop-i-preserved
loop-i-preserved c =
    pushed-more {X = Option ℤ} None (λ (i : ℕ) (o : Option ℤ). (IsSome o → Permitted c.args.instance.now 0 i)
    × IfSome o (λ m. (pos 0 ≤ℤ m) × (m ≤ℤ MAX_MULTIPLIER))
    × IfSome o (λ m. m ≤ℤ pos (most_multiplier (length c.args.instance.now.trips))))
    c.loop-i.offers.items c.push.new.self.items c.loop-i.i c.offer_of.result c.in_ok-push.ensures.items
    c.loop-i.invariant (c.offer_of.ensures.permitted, c.offer_of.ensures.within, c.offer_of.ensures.payable)

pub returns-clause-offers : goal.returns-clause-offers
returns-clause-offers c =
    let offers = c.loop-i.offers.items in
    let inv = c.loop-i.invariant in
    record {
      each_trip = omega (arith, inv.size);
      permitted = λ i offered. (inv.each i (omega (arith, inv.size, offered-inside offers i offered))).0 offered;
      within = λ i.
          elim (cases_lt i c.loop-i.i) [
            | inl inside ↦ (inv.each i inside).1
            | inr past ↦
                let Is : Option ℤ → Type 0 = λ o. IfSome o (λ m. (pos 0 ≤ℤ m) × (m ≤ℤ MAX_MULTIPLIER)) in
                subst Is (sym (get_or_past offers i None (omega (arith, inv.size)))) tt
          ];
      payable = λ i.
          elim (cases_lt i c.loop-i.i) [
            | inl inside ↦ (inv.each i inside).2
            | inr past ↦
                let Is : Option ℤ → Type 0 =
                λ o. IfSome o (λ m. m ≤ℤ pos (most_multiplier (length c.args.instance.now.trips))) in
                subst Is (sym (get_or_past offers i None (omega (arith, inv.size)))) tt
          ];
    }
