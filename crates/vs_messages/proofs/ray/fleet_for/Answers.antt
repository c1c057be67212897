use Rattle.std.proofs.Common.{◌≤◌, sym, subst}
use Rattle.vs_instance.specs.declared.layer.Layer.{Layer}
use Rattle.vs_instance.specs.declared.limits.TheConstants.{MAX_FLEET}
use Rattle.vs_instance.proofs.CallerLemmas.{layer_of-IsLayer}
use Rattle.vs_messages.proofs.ray.fleet_for.Goals as goal

pub returns-then-may_run_some-clause-few : goal.returns-then-may_run_some-clause-few
returns-then-may_run_some-clause-few c =
    subst (λ (layer : Layer). layer.fleet ≤ MAX_FLEET) (sym c.layer.ensures)
    (layer_of-IsLayer c.args.instance.now c.layers.ensures.instance c.args.l.0 c.requires.layer).fleet
