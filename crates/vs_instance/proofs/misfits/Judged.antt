-- Parts without a misfit make an instance, and those of an instance have none.
use Rattle.std.proofs.Common.{◌≡◌, ℕ, ◌<◌, ◌≤◌, List, ◌++◌, length, get_or, refl, sym, ap, ◌∙◌, arith}
use Rattle.std.specs.FinMap as map
use Rattle.std.specs.Option.{IfSome}
use Rattle.std.specs.declared.option.Option.{Option}
use Rattle.std.specs.declared.option.Option.TheVariants as option
use Rattle.std.proofs.lemmas.Option.{MatchOption-at_some, none-some}
use Rattle.vs_instance.specs.declared.layer.Layer.{Layer}
use Rattle.vs_instance.specs.declared.parts.Deadhead.{Deadhead}
use Rattle.vs_instance.specs.declared.misfit.Misfit.{Misfit}
use Rattle.vs_instance.specs.declared.misfit.NewError.{NewError}
use Rattle.vs_instance.specs.declared.misfit.NewError.TheVariants as error
use Rattle.vs_instance.specs.declared.parts.Parts.{Parts}
use Rattle.vs_instance.specs.declared.way.Way.{Way}
use Rattle.vs_instance.specs.declared.limits.TheConstants.{MAX_MINUTES, MAX_METRES}
use Rattle.vs_instance.specs.Problem.{pair_cmp}
use Rattle.vs_instance.specs.Instance.{IsDeadhead}
use Rattle.vs_instance.specs.Misfits.{AreParts, MakeInstance, problem_of, deadheads_of, has_twin_before, misfits_of, IsFirstOf, IsFirstMisfit, IsMisfit, first_misfit, layer_misfits, trip_misfits, layers_misfits, deadheads_misfits, trips_misfits, closure_misfits}
use Rattle.vs_instance.proofs.misfits.Firsts.{first-skip, first-stop, none_from_first}
use Rattle.vs_instance.proofs.misfits.Empty.{None, none-append, each_none, none_each}
use Rattle.vs_instance.proofs.misfits.WithinLimits.{fleet_fits, layer_fits, none_of_layer, none_of_trip, payable_fits, trip_fits}
use Rattle.vs_instance.proofs.misfits.Given.{IsFit, deadhead_fits, none_of_deadhead, given_all, own_way, once_from, none_before}
use Rattle.vs_instance.proofs.misfits.Closed.{closed_from_none, none_of_closed}
use Rattle.vs_instance.proofs.deadheads.Gathered.{nth_misfits}

if_some : {X : Type 0} (P : X → Type 0) (o : Option X) → ((x : X) → o ≡ option.Some x → P x) → IfSome o P
if_some P option.None each = tt
if_some P (option.Some x) each = each x refl

-- nothing is wrong, part by part
pub record NoMisfits (parts : Parts) : Type 0 where
  pub layers : None (layers_misfits parts.most (length parts.trips.items) parts.layers.items)
  pub deadheads : None (deadheads_misfits parts.deadheads.items)
  pub trips : None (trips_misfits parts.trips.items)
  pub closure : None (closure_misfits parts.stops (deadheads_of parts.deadheads.items))

fit_layers : (parts : Parts) → NoMisfits parts → (l : ℕ) (layer : Layer) → l < length parts.layers.items
    → None (layer_misfits parts.most (length parts.trips.items) l (get_or parts.layers.items l layer))
fit_layers parts none l layer within =
    each_none (layer_misfits parts.most (length parts.trips.items)) 0 parts.layers.items none.layers l l layer within
    (omega arith)

fit_deadheads : (parts : Parts) → NoMisfits parts → (n : ℕ) (d : Deadhead) → n < length parts.deadheads.items
    → IsFit (has_twin_before parts.deadheads.items n (get_or parts.deadheads.items n d))
    (get_or parts.deadheads.items n d)
fit_deadheads parts none n d within =
    deadhead_fits _ n _
    (each_none (nth_misfits parts.deadheads.items) 0 parts.deadheads.items none.deadheads n n d within
    (omega arith))

-- deadheads without a misfit are no longer than the limits
pub all_short : (ds : List Deadhead) → None (deadheads_misfits ds) → (k s : ℕ)
    → IfSome (map.get (deadheads_of ds) (k, s)) (λ w. (w.minutes ≤ MAX_MINUTES) × (w.metres ≤ MAX_METRES))
all_short ds none k s =
    if_some (λ w. (w.minutes ≤ MAX_MINUTES) × (w.metres ≤ MAX_METRES)) (map.get (deadheads_of ds) (k, s)) (λ w is.
    given_all (λ q v. (v.minutes ≤ MAX_MINUTES) × (v.metres ≤ MAX_METRES)) map.empty ds
    (λ q v here. absurd (none-some v (sym (map.get-empty pair_cmp q) ∙ here)))
    (λ n d within.
    let fit = deadhead_fits _ n _ (each_none (nth_misfits ds) 0 ds none n n d within (omega arith)) in
    (fit.minutes, fit.metres)) (k, s) w is)

all_deadheads : (parts : Parts) → AreParts parts → NoMisfits parts → (q : ℕ × ℕ) (w : Way)
    → map.get (deadheads_of parts.deadheads.items) q ≡ option.Some w → IsDeadhead (problem_of parts) q.0 q.1 w
all_deadheads parts are none =
    given_all (λ q w. IsDeadhead (problem_of parts) q.0 q.1 w) map.empty parts.deadheads.items
    (λ q w is. absurd (none-some w (sym (map.get-empty pair_cmp q) ∙ is)))
    (λ k d within.
    let fit = fit_deadheads parts none k d within in
    let stops = are.deadheads k d within in
    record {
      from = stops.0;
      to = stops.1;
      apart = fit.apart;
      some_minutes = fit.some_minutes;
      minutes = fit.minutes;
      metres = fit.metres;
    })

pub makes_instance : (parts : Parts) → AreParts parts → NoMisfits parts → MakeInstance parts
makes_instance parts are none =
    let given = all_deadheads parts are none in
    record {
      once = once_from parts.deadheads.items (λ n d within. (fit_deadheads parts none n d within).once);
      fleets = λ l layer within.
          fleet_fits parts.most (length parts.trips.items) l (get_or parts.layers.items l layer)
          (fit_layers parts none l layer within);
      instance = record {
        few_stops = are.few_stops;
        few_layers = are.few_layers;
        few_trips = omega (arith, are.few_trips, are.most);
        layers = λ l layer within.
            layer_fits (problem_of parts) parts.most (length parts.trips.items) l _ (omega (arith, are.most))
            (are.layers l layer within) (fit_layers parts none l layer within);
        payable = λ l layer within.
            payable_fits parts.most (length parts.trips.items) l (get_or parts.layers.items l layer)
            (fit_layers parts none l layer within);
        deadheads =
            λ k s. if_some (IsDeadhead (problem_of parts) k s) (map.get (deadheads_of parts.deadheads.items) (k, s))
            (given (k, s));
        trips = λ i trip within.
            let stops = are.trip_stops i trip within in
            let layers = are.trip_layers i trip within in
            trip_fits (problem_of parts) i _ stops.0 stops.1 (are.trip_times i trip within).1 layers.0 layers.1
            (each_none trip_misfits 0 parts.trips.items none.trips i i trip within (omega arith));
        closed = closed_from_none parts.stops (deadheads_of parts.deadheads.items)
            (λ k s w is. let d = given (k, s) w is in (d.from, d.to, d.apart)) none.closure;
      };
    }

-- the parts of an instance have no misfit
pub no_misfits : (parts : Parts) → MakeInstance parts → NoMisfits parts
no_misfits parts made =
    let q = made.instance in
    record {
      layers = none_each (layer_misfits parts.most (length parts.trips.items)) 0 parts.layers.items
          (λ k j layer within is. none_of_layer (problem_of parts) parts.most (length parts.trips.items) j _
          (q.layers k layer within) (made.fleets k layer within) (q.payable k layer within));
      deadheads = none_each (nth_misfits parts.deadheads.items) 0 parts.deadheads.items (λ k j d within is.
          let own = own_way map.empty parts.deadheads.items made.once k d within in
          let here =
          MatchOption-at_some _
          (IsDeadhead (problem_of parts) (get_or parts.deadheads.items k d).from.0
          (get_or parts.deadheads.items k d).to.0) _ own
          (q.deadheads (get_or parts.deadheads.items k d).from.0 (get_or parts.deadheads.items k d).to.0) in
          let at : k ≡ j = omega arith in
          none_of_deadhead _ j _ (record {
            apart = here.apart;
            some_minutes = here.some_minutes;
            minutes = here.minutes;
            metres = here.metres;
            once = ap (λ (n : ℕ). has_twin_before parts.deadheads.items n (get_or parts.deadheads.items k d)) (sym at)
                ∙ none_before parts.deadheads.items made.once k d within;
          }));
      trips = none_each trip_misfits 0 parts.trips.items
          (λ k j trip within is. none_of_trip (problem_of parts) j _ (q.trips k trip within));
      closure = none_of_closed parts.stops (deadheads_of parts.deadheads.items) q.closed;
    }

pub none_of_all : (parts : Parts) → MakeInstance parts → None (misfits_of parts)
none_of_all parts made =
    let none = no_misfits parts made in
    none-append _ _ (none-append _ _ (none-append _ _ none.layers none.deadheads) none.trips) none.closure

-- a first misfit refutes that the parts make an instance
pub refuses : (parts : Parts) (m : Misfit) → first_misfit (misfits_of parts) ≡ option.Some m → ¬ (MakeInstance parts)
refuses parts m is made = none-some m (sym (ap first_misfit (none_of_all parts made)) ∙ is)

-- the first misfit of four lists in a row, once those before have none
module _ (ls ds ts cs : List Misfit) where
  at_first : (m : Misfit) → first_misfit ls ≡ option.Some m → first_misfit (((ls ++ ds) ++ ts) ++ cs) ≡ option.Some m
  at_first m is = first-stop ((ls ++ ds) ++ ts) cs m (first-stop (ls ++ ds) ts m (first-stop ls ds m is))

  at_second : (m : Misfit) → first_misfit ls ≡ option.None → first_misfit ds ≡ option.Some m
      → first_misfit (((ls ++ ds) ++ ts) ++ cs) ≡ option.Some m
  at_second m none is = first-stop ((ls ++ ds) ++ ts) cs m (first-stop (ls ++ ds) ts m (first-skip ls ds none ∙ is))

  at_third : (m : Misfit) → first_misfit ls ≡ option.None → first_misfit ds ≡ option.None
      → first_misfit ts ≡ option.Some m
      → first_misfit (((ls ++ ds) ++ ts) ++ cs) ≡ option.Some m
  at_third m none none' is =
      first-stop ((ls ++ ds) ++ ts) cs m (first-skip (ls ++ ds) ts (first-skip ls ds none ∙ none') ∙ is)

  at_fourth : (m : Misfit) → first_misfit ls ≡ option.None → first_misfit ds ≡ option.None
      → first_misfit ts ≡ option.None
      → first_misfit cs ≡ option.Some m → first_misfit (((ls ++ ds) ++ ts) ++ cs) ≡ option.Some m
  at_fourth m none none' none'' is =
      first-skip ((ls ++ ds) ++ ts) cs (first-skip (ls ++ ds) ts (first-skip ls ds none ∙ none') ∙ none'') ∙ is

module _ (parts : Parts) where
  pub at_layers : (m : Misfit)
      → option.Some m ≡ first_misfit (layers_misfits parts.most (length parts.trips.items) parts.layers.items)
      → first_misfit (misfits_of parts) ≡ option.Some m
  at_layers m is =
      at_first (layers_misfits parts.most (length parts.trips.items) parts.layers.items)
      (deadheads_misfits parts.deadheads.items)
      (trips_misfits parts.trips.items)
      (closure_misfits parts.stops (deadheads_of parts.deadheads.items)) m (sym is)

  pub at_deadheads : (e : NewError)
      → option.None ≡ first_misfit (layers_misfits parts.most (length parts.trips.items) parts.layers.items)
      → IsFirstOf (deadheads_misfits parts.deadheads.items) e → IsFirstMisfit parts e
  at_deadheads (error.Misfit m) none is =
      at_second (layers_misfits parts.most (length parts.trips.items) parts.layers.items)
      (deadheads_misfits parts.deadheads.items)
      (trips_misfits parts.trips.items) (closure_misfits parts.stops (deadheads_of parts.deadheads.items)) m
      (sym none) is
  at_deadheads error.Memory none is = tt

  pub at_trips : (m : Misfit)
      → option.None ≡ first_misfit (layers_misfits parts.most (length parts.trips.items) parts.layers.items)
      → None (deadheads_misfits parts.deadheads.items)
      → option.Some m ≡ first_misfit (trips_misfits parts.trips.items) → first_misfit (misfits_of parts) ≡ option.Some m
  at_trips m none none' is =
      at_third (layers_misfits parts.most (length parts.trips.items) parts.layers.items)
      (deadheads_misfits parts.deadheads.items)
      (trips_misfits parts.trips.items) (closure_misfits parts.stops (deadheads_of parts.deadheads.items)) m
      (sym none) (ap first_misfit none') (sym is)

  pub at_closure : (m : Misfit)
      → option.None ≡ first_misfit (layers_misfits parts.most (length parts.trips.items) parts.layers.items)
      → None (deadheads_misfits parts.deadheads.items)
      → option.None ≡ first_misfit (trips_misfits parts.trips.items)
      → option.Some m ≡ first_misfit (closure_misfits parts.stops (deadheads_of parts.deadheads.items))
      → first_misfit (misfits_of parts) ≡ option.Some m
  at_closure m none none' none'' is =
      at_fourth (layers_misfits parts.most (length parts.trips.items) parts.layers.items)
      (deadheads_misfits parts.deadheads.items)
      (trips_misfits parts.trips.items) (closure_misfits parts.stops (deadheads_of parts.deadheads.items)) m
      (sym none) (ap first_misfit none') (sym none'') (sym is)

  pub refuses_error : (e : NewError) → IsFirstMisfit parts e → IsMisfit e → ¬ (MakeInstance parts)
  refuses_error (error.Misfit m) is misfit = refuses parts m is
  refuses_error error.Memory is misfit = absurd misfit

  -- nothing was found, part by part
  pub made : AreParts parts
      → option.None ≡ first_misfit (layers_misfits parts.most (length parts.trips.items) parts.layers.items)
      → None (deadheads_misfits parts.deadheads.items)
      → option.None ≡ first_misfit (trips_misfits parts.trips.items)
      → option.None ≡ first_misfit (closure_misfits parts.stops (deadheads_of parts.deadheads.items))
      → MakeInstance parts
  made are layers deadheads trips closure =
      makes_instance parts are (record {
        layers = none_from_first _ (sym layers);
        deadheads = deadheads;
        trips = none_from_first _ (sym trips);
        closure = none_from_first _ (sym closure);
      })
