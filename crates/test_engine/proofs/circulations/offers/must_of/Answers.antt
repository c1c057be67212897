use Rattle.std.proofs.Common.{◌≡◌, ℕ, Bool, true, false, inl, inr, arith}
use Rattle.std.proofs.lemmas.Bool.{cases_lt}
use Rattle.std.proofs.lemmas.List.{get_or_past}
use Rattle.vs_instance.specs.Ways.{Permitted}
use Rattle.vs_types.proofs.CallerLemmas.{pushed-more}
use Rattle.test_engine.proofs.circulations.offers.must_of.Goals as goal

pub loop-i-preserved : goal.loop-i-preserved
loop-i-preserved c =
    pushed-more false (λ (i : ℕ) (b : Bool). b ≡ true → Permitted c.args.instance.now 0 i) c.loop-i.must.items
    c.push.new.self.items c.loop-i.i c.has_to_run.result c.in_ok-push.ensures.items c.loop-i.invariant
    c.has_to_run.ensures

pub returns-clause-must : goal.returns-clause-must
returns-clause-must c =
    let must = c.loop-i.must.items in
    record {
      each_trip = omega (arith, c.loop-i.invariant.size);
      permitted = λ i run.
          elim (cases_lt i c.loop-i.i) [
            | inl inside ↦ c.loop-i.invariant.each i inside run
            | inr past ↦
                let never = get_or_past must i false (omega (arith, c.loop-i.invariant.size)) in cc
          ];
    }
