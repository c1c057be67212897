use Rattle.std.proofs.Common.{arith}
use Rattle.vs_cuts.proofs.CallerLemmas.{kept_trips}
use Rattle.vs_weights.proofs.layer_cuts.LayerCuts.mix.Goals as goal

pub invariant_of-self : goal.invariant_of-self
invariant_of-self c =
    let self = c.args.self.now in
    record {
      few_trips = self.few_trips;
      some = self.some;
      few = self.few;
      each = kept_trips _ _ _ _ _ _ c.mix_last.ensures c.deref_mut.ensures.value (omega arith) (omega arith) self.each;
      each_standing = self.each_standing;
      each_noted = self.each_noted;
      each_place = self.each_place;
    }
