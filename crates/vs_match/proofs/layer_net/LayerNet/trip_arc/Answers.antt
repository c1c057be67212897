use Rattle.std.proofs.Common.{◌≡◌, ℕ, List, Option, None, ap, sym, subst, ◌∙◌, length, get_or, arith}
use Rattle.std.proofs.lemmas.Bool.{ltb-true, ltb-false}
use Rattle.std.proofs.lemmas.List.{get_or_default, get_or_past}
use Rattle.vs_match.specs.declared.arc_kind.ArcKind.{ArcKind}
use Rattle.vs_match.specs.LayerGraph.{LayerGraph}
use Rattle.vs_match.specs.TripIndex.{IsTripAt}
use Rattle.vs_match.proofs.layer_net.LayerNet.trip_arc.Goals as goal

pub returns-in-Some : goal.returns-in-Some
returns-in-Some c =
    let i = c.args.i.0 in
    let index = c.self.inside.trip_arcs.items in
    let list = c.deref.ensures.value in
    let within = ltb-true i (length c.deref.result.now) (sym c.in-Some.ensures.lookup.0) in
    let read : get_or index i None ≡ c.in-Some.arc.now =
    ap (λ (xs : List (Option ℕ)). get_or xs i None) (sym list)
    ∙ get_or_default c.deref.result.now i None c.in-Some.arc.now within ∙ sym c.in-Some.ensures.lookup.1 in
    let kinds = ap (λ (g : LayerGraph). g.kinds) c.self.view_is in
    let P : List ArcKind → Type 0 = λ ks. IsTripAt ks i c.in-Some.arc.now in
    let Q : Option ℕ → Type 0 = λ o. IsTripAt c.self.inside.kinds.items i o in
    subst P kinds (subst Q read (c.self.invariant.trips i))

pub returns-in-None : goal.returns-in-None
returns-in-None c =
    let i = c.args.i.0 in
    let index = c.self.inside.trip_arcs.items in
    let past = ltb-false i (length c.deref.result.now) (sym c.in-None.ensures.lookup.0) in
    let read : get_or index i None ≡ None =
    get_or_past index i None (omega (arith, past, ap length c.deref.ensures.value)) in
    let kinds = ap (λ (g : LayerGraph). g.kinds) c.self.view_is in
    let P : List ArcKind → Type 0 = λ ks. IsTripAt ks i None in
    let Q : Option ℕ → Type 0 = λ o. IsTripAt c.self.inside.kinds.items i o in
    subst P kinds (subst Q read (c.self.invariant.trips i))
