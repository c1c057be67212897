-- Sets of one layer each.
use Rattle.std.proofs.Common.{ℕ, List, refl, sym, ◌∙◌, subst, arith}
use Rattle.vs_types.specs.declared.layer_set.LayerSet.{LayerSet}
use Rattle.vs_types.proofs.CallerLemmas.{members-some}
use Rattle.vs_instance.specs.Problem.{Problem}
use Rattle.vs_instance.specs.Restriction.{IsRestriction, set_of}
use Rattle.vs_instance.specs.Ways.{Permitted}
use Rattle.vs_node.specs.ChosenLayers.{AreSingle}
use Rattle.vs_walk.specs.Penalties.{AreGiven}

module _ (p : Problem) (runs chosen : List LayerSet) (are : AreGiven p runs chosen) where
  -- they are a restriction
  pub given-restrict : IsRestriction p chosen
  given-restrict = record {
    each_trip = are.each_trip;
    some_layer = λ i inside. let one = are.given i inside in
        members-some (set_of chosen i) one.layer one.few ((one.alone one.layer).1 refl);
    permitted = λ i l inside has. let one = are.given i inside in
        subst (λ (k : ℕ). Permitted p k i) (sym ((one.alone l).0 has)) one.permitted;
  }

  -- in which no trip has two layers
  pub given-single : AreSingle chosen
  given-single i k m inside first second =
      let one = are.given i (omega (arith, inside, are.each_trip)) in
      (one.alone k).0 first ∙ sym ((one.alone m).0 second)
