use Rattle.std.proofs.Common.{ℕ, ◌≤◌, refl, sym, ap, ◌∙◌, subst, rules}
use Rattle.std.specs.Prelude.{All}
use Rattle.vs_instance.specs.declared.layer.Layer.{Layer}
use Rattle.vs_instance.specs.Problem.{Problem}
use Rattle.vs_instance.specs.Instance.{IsInstance}
use Rattle.vs_instance.specs.Misfits.{deadheads_of}
use Rattle.vs_reader.specs.Drafts.{declared_of}
use Rattle.vs_reader.proofs.declaring.DeclaredParts.{are_parts}
use Rattle.vs_reader.proofs.reading.made.Goals as goal

pub new-requires : goal.new-requires
new-requires c =
    are_parts c.args.version
    (record {
      stops = c.stops.result;
      deadheads = c.args.draft.deadheads;
      layers = c.args.draft.layers;
      trips =
          c.args.draft.trips;
      most = c.most.result;
    }) c.args.draft.names c.most.ensures c.stops.ensures.count c.requires.few c.requires.sound

pub returns-in-Ok-clause-found : goal.returns-in-Ok-clause-found
returns-in-Ok-clause-found c =
    let made = c.in-Ok.ensures.made in
    let of_stops : ℕ → Problem = λ n. record {
      stops = n;
      deadheads = deadheads_of c.args.draft.deadheads.items;
      layers = c.args.draft.layers.items;
      trips = c.args.draft.trips.items;
    } in (
      record {
        once = made.once;
        fleets = subst (λ (n : ℕ). All (λ (layer : Layer). layer.fleet ≤ n) c.args.draft.layers.items) c.most.ensures
            made.fleets;
        problem = c.in-Ok.ensures.parts ∙ ap of_stops c.stops.ensures.count;
        instance = subst IsInstance (sym c.in-Ok.ensures.parts) made.instance;
      },
      refl,
    )

pub returns-in-Err-Misfit-clause-refused : goal.returns-in-Err-Misfit-clause-refused
returns-in-Err-Misfit-clause-refused c = λ records all numbers. record {
  declared = declared_of c.args.draft;
  declares = all;
  parts = record {
    stops = c.stops.result;
    deadheads = c.args.draft.deadheads;
    layers = c.args.draft.layers;
    trips =
        c.args.draft.trips;
    most = c.most.result;
  };
  parts_are = record {
    stops = c.stops.ensures.count;
    deadheads = refl;
    layers = refl;
    trips = refl;
    most = c.most.ensures;
  };
  misfit = c.in-Err-Misfit.misfit;
  first = search rules;
  why_is = refl;
  row_is = c.from.ensures ∙ c.of_misfit.ensures records numbers;
}
