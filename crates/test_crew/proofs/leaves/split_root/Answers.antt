use Rattle.std.proofs.Common.{◌≡◌, List, [], ◌∷◌, length, refl, sym, ap, ◌∙◌, subst, arith}
use Rattle.vs_types.specs.declared.layer_set.LayerSet.{LayerSet}
use Rattle.vs_instance.specs.Instance.{IsInstance}
use Rattle.vs_instance.specs.Problem.{Problem}
use Rattle.vs_instance.specs.Ways.{trip_of}
use Rattle.vs_instance.proofs.CallerLemmas.{set_of-permitted_sets}
use Rattle.vs_instance.specs.Restriction.{permitted_sets, set_of}
use Rattle.vs_instance.specs.declared.trip.Trip.{Trip}
use Rattle.vs_prices.specs.Bounds.{IsNoLess}
use Rattle.vs_prices.specs.declared.bound.Bound.{Bound}
use Rattle.vs_prices.proofs.CallerLemmas.{no_less-refl}
use Rattle.vs_tree.specs.History.{FullStep, MaySplit, Opening, Took, state_of}
use Rattle.vs_tree.specs.Prices.{AreLawful, AreWorth, Prices, prices_of, zero_prices}
use Rattle.vs_tree.specs.Search.{Search, state}
use Rattle.vs_types.specs.Parts.{IsProperPart}
use Rattle.vs_tree.proofs.CallerLemmas.{one_worth, zeros_lawful}
use Rattle.test_crew.proofs.leaves.split_root.Goals as goal

-- a search whose root was taken by worker 0 may be split with the table of zeros
may_split : (n : Search) (left : LayerSet) (prices : Prices) → IsInstance n.opening.problem
    → length n.opening.problem.trips ≡ 1 → n.steps ≡ Took 0 0 ∷ [] → prices ≡ zero_prices n.opening.problem
    → IsProperPart left (set_of (permitted_sets n.opening.problem) 0)
    → MaySplit n.opening (state n) 0 0 (length (state n).tables) (record { 0 = 0 }) left prices
may_split n left prices instance trips root zero part =
    let o : Opening = n.opening in
    subst (λ (l : List FullStep). MaySplit o (state_of o l) 0 0 (length (state_of o l).tables)
    (record { 0 = 0 }) left prices)
    (sym root)
    (record {
      holds = (0, refl);
      gives = record {
        number = refl;
        lawful = subst (AreLawful o.problem) (sym zero) (zeros_lawful o.problem instance);
        no_less = λ worth least is was.
            let here : AreWorth o.problem (permitted_sets o.problem) (zero_prices o.problem) worth =
            subst (λ (x : Prices). AreWorth o.problem (permitted_sets o.problem) x worth) zero is in
            let same = one_worth o.problem (permitted_sets o.problem) (zero_prices o.problem) worth least here was in
            subst (λ (x : Bound). IsNoLess worth x) same (no_less-refl worth);
      };
      of_instance = omega (arith, trips);
      part = part;
    })

pub finish-requires : goal.finish-requires
finish-requires c =
    let n = c.take_root.new.tree in
    let opening = c.take_root.ensures.opening in
    let trips : length n.opening.problem.trips ≡ 1 =
    ap (λ (o : Opening). length o.problem.trips) opening ∙ c.requires.trips in
    let zero : prices_of c.take_root.new.table ≡ zero_prices n.opening.problem =
    c.if-not-take_root.ensures.prices refl ∙ ap (λ (o : Opening). zero_prices o.problem) (sym opening) in
    let instance : IsInstance n.opening.problem = c.instance.ensures.opening.instance in
    let at : c.trip.result.now.layers ≡ set_of (permitted_sets n.opening.problem) 0 =
    ap (λ (t : Trip). t.layers) c.trip.ensures
    ∙ (ap (λ (p : Problem). (trip_of p 0).layers) c.instance.ensures.value
    ∙ sym (set_of-permitted_sets n.opening.problem 0 (omega (arith, trips)))) in
    may_split n c.in-Some.left (prices_of c.take_root.new.table) instance trips
    (c.if-not-take_root.ensures.took refl) zero
    (subst (IsProperPart c.in-Some.left) at c.in-Some.ensures)
