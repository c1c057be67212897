use Rattle.std.proofs.Common.{◌≡◌, ◌∙◌, ◌<◌, sym, subst, arith, length, false}
use Rattle.std.proofs.lemmas.List.{get_or_default}
use Rattle.vs_prices.specs.declared.bound.Bound.{Bound}
use Rattle.vs_prices.specs.declared.bound.Bound.TheVariants.{NoPlan}
use Rattle.vs_tree.specs.History.{IsLeafWorth, is_inner, spot_at, state_of}
use Rattle.vs_tree.specs.Search.{Search, state, worth_at}
use Rattle.vs_tree.proofs.search.Facts.{leaf_is, places_within}
use Rattle.vs_tree.proofs.search.Inside.{opening_of, parts_of}
use Rattle.vs_tree.proofs.tree.Tree.leaf_worth.Goals as goal

pub index-requires : goal.index-requires
index-requires c =
    let i = c.self.inside in
    let o = opening_of i in
    let a = parts_of i in
    let is = c.self.invariant in
    let k = c.args.k in
    let leaf = subst (λ (t : Search). is_inner (spot_at (state t) k) ≡ false) (sym c.self.view_is) c.requires in
    let inside = leaf_is o a is k leaf in
    let few = places_within o a is in
    omega (arith, inside, few, is.parts.worths_size, i.worths.ok.0)

pub returns : goal.returns
returns c =
    let i = c.self.inside in
    let o = opening_of i in
    let a = parts_of i in
    let is = c.self.invariant in
    let k = c.args.k in
    let leaf = subst (λ (t : Search). is_inner (spot_at (state t) k) ≡ false) (sym c.self.view_is) c.requires in
    let below = leaf_is o a is k leaf in
    let few = places_within o a is in
    let inside : k < length i.worths.items = omega (arith, below, few, is.parts.worths_size) in
    let at : worth_at i.worths.items k ≡ c.index.result.now =
    sym (c.index.ensures ∙ get_or_default i.worths.items k c.index.result.now NoPlan inside) in
    subst (λ (t : Search). IsLeafWorth t.opening.problem (state t) k c.index.result.now) c.self.view_is
    (subst (λ (b : Bound). IsLeafWorth o.problem (state_of o a.log.steps) k b) at (is.parts.worths k leaf))
