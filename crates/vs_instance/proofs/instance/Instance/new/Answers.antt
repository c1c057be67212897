use Rattle.std.proofs.Common.{◌≡◌, ◌≤◌, ℕ, List, length, sym, ap, ◌∙◌, subst}
use Rattle.std.specs.FinMap as map
use Rattle.std.specs.Option.{IfSome}
use Rattle.std.proofs.lemmas.Result.{err_from_is_err_and}
use Rattle.vs_instance.specs.declared.layer.Layer.{Layer}
use Rattle.vs_instance.specs.declared.parts.Deadhead.{Deadhead}
use Rattle.vs_instance.specs.declared.trip.Trip.{Trip}
use Rattle.vs_instance.specs.Instance.{IsInstance}
use Rattle.vs_instance.specs.Misfits.{IsFirstOf, first_misfit, layers_misfits, deadheads_misfits, trips_misfits, closure_misfits, deadheads_of}
use Rattle.vs_instance.specs.declared.limits.TheConstants.{MAX_MINUTES, MAX_METRES}
use Rattle.vs_instance.proofs.deadheads.Gathered.{Map}
use Rattle.vs_instance.proofs.misfits.Judged.{all_short, at_layers, at_deadheads, at_trips, at_closure, refuses, refuses_error, made}
use Rattle.vs_instance.proofs.instance.Instance.new.Goals as goal

-- what was judged are the layers and trips of the parts
layers_are : (most : ℕ) (ts us : List Trip) (ls ms : List Layer) → ts ≡ us → ls ≡ ms
    → first_misfit (layers_misfits most (length ts) ls) ≡ first_misfit (layers_misfits most (length us) ms)
layers_are most ts us ls ms trips layers = λ i. first_misfit (layers_misfits most (length (trips i)) (layers i))

pub returns-in-Some-clause-refused : goal.returns-in-Some-clause-refused
returns-in-Some-clause-refused c =
    let first =
    at_layers c.args.parts c.in-Some.misfit
    (c.in-Some.ensures ∙ layers_are c.args.parts.most _ _ _ _ c.as_slice-trips.ensures.value
    c.as_slice-layers.ensures.value) in
    λ _. refuses c.args.parts c.in-Some.misfit first

pub returns-in_err-ways-clause-misfit : goal.returns-in_err-ways-clause-misfit
returns-in_err-ways-clause-misfit c =
    let p = err_from_is_err_and c.from_residual.result c.from_residual.ensures.1 in
    let told : IsFirstOf (deadheads_misfits c.as_slice-deadheads.result.now) p.0 =
    rw p.2 c.in_err-ways.ensures.misfit in
    let h = at_deadheads c.args.parts p.0
    (c.in_default.ensures ∙ layers_are c.args.parts.most _ _ _ _ c.as_slice-trips.ensures.value
    c.as_slice-layers.ensures.value)
    (subst (λ (ds : List Deadhead). IsFirstOf (deadheads_misfits ds) p.0) c.as_slice-deadheads.ensures.value told) in
    rw p.1 h

pub returns-in_err-ways-clause-refused : goal.returns-in_err-ways-clause-refused
returns-in_err-ways-clause-refused c =
    let p = err_from_is_err_and c.from_residual.result c.from_residual.ensures.1 in
    let told : IsFirstOf (deadheads_misfits c.as_slice-deadheads.result.now) p.0 =
    rw p.2 c.in_err-ways.ensures.misfit in
    let h = at_deadheads c.args.parts p.0
    (c.in_default.ensures ∙ layers_are c.args.parts.most _ _ _ _ c.as_slice-trips.ensures.value
    c.as_slice-layers.ensures.value)
    (subst (λ (ds : List Deadhead). IsFirstOf (deadheads_misfits ds) p.0) c.as_slice-deadheads.ensures.value told) in
    rw p.1 (refuses_error c.args.parts p.0 h)

pub returns-in-Some-trips_misfit-clause-misfit : goal.returns-in-Some-trips_misfit-clause-misfit
returns-in-Some-trips_misfit-clause-misfit c =
    at_trips c.args.parts c.in-Some-trips_misfit.misfit
    (c.in_default.ensures ∙ layers_are c.args.parts.most _ _ _ _ c.as_slice-trips.ensures.value
    c.as_slice-layers.ensures.value)
    (sym (ap deadheads_misfits c.as_slice-deadheads.ensures.value) ∙ c.in_ok-ways.ensures.fit)
    (c.in-Some-trips_misfit.ensures ∙ ap (λ (ts : List Trip). first_misfit (trips_misfits ts))
    c.as_slice-trips.ensures.value)

pub returns-in-Some-trips_misfit-clause-refused : goal.returns-in-Some-trips_misfit-clause-refused
returns-in-Some-trips_misfit-clause-refused c =
    let first = at_trips c.args.parts c.in-Some-trips_misfit.misfit
    (c.in_default.ensures ∙ layers_are c.args.parts.most _ _ _ _ c.as_slice-trips.ensures.value
    c.as_slice-layers.ensures.value)
    (sym (ap deadheads_misfits c.as_slice-deadheads.ensures.value) ∙ c.in_ok-ways.ensures.fit)
    (c.in-Some-trips_misfit.ensures
    ∙ ap (λ (ts : List Trip). first_misfit (trips_misfits ts)) c.as_slice-trips.ensures.value) in
    λ _. refuses c.args.parts c.in-Some-trips_misfit.misfit first

pub closure_misfit-requires : goal.closure_misfit-requires
closure_misfit-requires c = record {
  each = λ k s.
      subst (λ (given : Map). IfSome (map.get given (k, s))
      (λ w. (w.minutes ≤ MAX_MINUTES) × (w.metres ≤ MAX_METRES)))
      (sym (c.in_ok-ways.ensures.given.1 ∙ ap deadheads_of c.as_slice-deadheads.ensures.value))
      (all_short c.args.parts.deadheads.items (sym (ap deadheads_misfits c.as_slice-deadheads.ensures.value)
      ∙ c.in_ok-ways.ensures.fit) k s);
}

pub returns-in-Some-detour-clause-misfit : goal.returns-in-Some-detour-clause-misfit
returns-in-Some-detour-clause-misfit c =
    let given : c.in_ok-ways.ways.given ≡ deadheads_of c.args.parts.deadheads.items =
    c.in_ok-ways.ensures.given.1 ∙ ap deadheads_of c.as_slice-deadheads.ensures.value in
    at_closure c.args.parts c.in-Some-detour.misfit
    (c.in_default.ensures ∙ layers_are c.args.parts.most _ _ _ _ c.as_slice-trips.ensures.value
    c.as_slice-layers.ensures.value)
    (sym (ap deadheads_misfits c.as_slice-deadheads.ensures.value) ∙ c.in_ok-ways.ensures.fit)
    (c.in_default-trips_misfit.ensures
    ∙ ap (λ (ts : List Trip). first_misfit (trips_misfits ts)) c.as_slice-trips.ensures.value)
    (sym c.in-Some-detour.is ∙ c.in_ok-detour.ensures
    ∙ (λ i. first_misfit (closure_misfits (c.in_ok-ways.ensures.given.0 i) (given i))))

pub returns-in-Some-detour-clause-refused : goal.returns-in-Some-detour-clause-refused
returns-in-Some-detour-clause-refused c =
    let given : c.in_ok-ways.ways.given ≡ deadheads_of c.args.parts.deadheads.items =
    c.in_ok-ways.ensures.given.1 ∙ ap deadheads_of c.as_slice-deadheads.ensures.value in
    let first = at_closure c.args.parts c.in-Some-detour.misfit
    (c.in_default.ensures ∙ layers_are c.args.parts.most _ _ _ _ c.as_slice-trips.ensures.value
    c.as_slice-layers.ensures.value)
    (sym (ap deadheads_misfits c.as_slice-deadheads.ensures.value) ∙ c.in_ok-ways.ensures.fit)
    (c.in_default-trips_misfit.ensures
    ∙ ap (λ (ts : List Trip). first_misfit (trips_misfits ts)) c.as_slice-trips.ensures.value)
    (sym c.in-Some-detour.is ∙ c.in_ok-detour.ensures
    ∙ (λ i. first_misfit (closure_misfits (c.in_ok-ways.ensures.given.0 i) (given i)))) in
    λ _. refuses c.args.parts c.in-Some-detour.misfit first

pub invariant_of-result : goal.invariant_of-result
invariant_of-result c =
    let given : c.in_ok-ways.ways.given ≡ deadheads_of c.args.parts.deadheads.items =
    c.in_ok-ways.ensures.given.1 ∙ ap deadheads_of c.as_slice-deadheads.ensures.value in
    let whole = made c.args.parts c.requires
    (c.in_default.ensures ∙ layers_are c.args.parts.most _ _ _ _ c.as_slice-trips.ensures.value
    c.as_slice-layers.ensures.value)
    (sym (ap deadheads_misfits c.as_slice-deadheads.ensures.value) ∙ c.in_ok-ways.ensures.fit)
    (c.in_default-trips_misfit.ensures
    ∙ ap (λ (ts : List Trip). first_misfit (trips_misfits ts)) c.as_slice-trips.ensures.value)
    (sym c.in_default-detour.is ∙ c.in_ok-detour.ensures
    ∙ (λ i. first_misfit (closure_misfits (c.in_ok-ways.ensures.given.0 i) (given i)))) in
    subst IsInstance
    (λ i. record {
      stops = sym c.in_ok-ways.ensures.given.0 i;
      deadheads = sym given i;
      layers = c.args.parts.layers.items;
      trips = c.args.parts.trips.items;
    })
    whole.instance

pub returns-clause-made : goal.returns-clause-made
returns-clause-made c =
    let given : c.in_ok-ways.ways.given ≡ deadheads_of c.args.parts.deadheads.items =
    c.in_ok-ways.ensures.given.1 ∙ ap deadheads_of c.as_slice-deadheads.ensures.value in
    made c.args.parts c.requires
    (c.in_default.ensures ∙ layers_are c.args.parts.most _ _ _ _ c.as_slice-trips.ensures.value
    c.as_slice-layers.ensures.value)
    (sym (ap deadheads_misfits c.as_slice-deadheads.ensures.value) ∙ c.in_ok-ways.ensures.fit)
    (c.in_default-trips_misfit.ensures
    ∙ ap (λ (ts : List Trip). first_misfit (trips_misfits ts)) c.as_slice-trips.ensures.value)
    (sym c.in_default-detour.is ∙ c.in_ok-detour.ensures
    ∙ (λ i. first_misfit (closure_misfits (c.in_ok-ways.ensures.given.0 i) (given i))))
