-- A document that holds proves what it claims.
use Rattle.std.proofs.Common.{◌≡◌, ℕ, ◌≤◌, Bool, true, false, cond, List, [], get_or, refl, sym, ◌∙◌, subst, arith, Option, Some, None as nothing, ℤ, pos, ◌≤ℤ◌}
use Rattle.std.specs.Prelude.{IfSome, IfNone, MatchOption}
use Rattle.std.specs.List.{All, slice_get}
use Rattle.std.specs.Ordering.{int_eq}
use Rattle.std.proofs.lemmas.Option.{get_or_from_slice_get, slice_get_within}
use Rattle.std.proofs.lemmas.Bool.Decides.{Decides-int_eq}
use Rattle.std.proofs.lemmas.Int.{ints}
use Rattle.vs_instance.specs.Problem.{Problem}
use Rattle.vs_instance.specs.Instance.{IsInstance}
use Rattle.vs_instance.specs.Plan.{IsPlan, LayerBlock, plan_cost}
use Rattle.vs_instance.specs.Restriction.{IsRestriction, permitted_sets}
use Rattle.vs_instance.proofs.CallerLemmas.{permitted_sets-IsRestriction, plans_lie_within}
use Rattle.vs_plan.specs.Blocks.{blocks_of}
use Rattle.vs_prices.specs.Table.{Fits, HoldingTable}
use Rattle.vs_prices.specs.Worth.{IsBoundOn, Reaches}
use Rattle.vs_prices.specs.declared.bound.Bound.{Bound}
use Rattle.vs_prices.specs.declared.bound.Bound.TheVariants.{AtLeast, NoPlan}
use Rattle.vs_prices.specs.declared.table.Table.{Table}
use Rattle.vs_prices.proofs.CallerLemmas.{bounds_plans, leaves_restrict, lies_in_one}
use Rattle.vs_prices.specs.Tree.{LeafPlace, leaves}
use Rattle.vs_prices.specs.declared.claim.Claim.TheVariants.{Optimal, Infeasible, StillOpen}
use Rattle.vs_rows.specs.declared.document.Document.{Document}
use Rattle.vs_check.specs.HoldingDocument.{HoldingDocument, IsStrongLeaf}
use Rattle.vs_prices.specs.Claims.{claim_found}
use Rattle.vs_check.specs.Laws.{HoldingDocumentsProveTheirClaims}

-- what a printed bound says of a plan's cost
abbrev IsBelow : Option ℤ → ℕ → Type 0
IsBelow (Some bound) cost = bound ≤ℤ pos cost
IsBelow nothing cost = ⊥

below : (worth : Bound) (bound : Option ℤ) (cost : ℕ) → Reaches worth bound → IsBoundOn worth cost → IsBelow bound cost
below NoPlan bound cost reaches none = absurd none
below (AtLeast n) nothing cost reaches least = absurd reaches
below (AtLeast n) (Some bound) cost reaches least = omega (arith, ints)

plan_at : (p : Problem) (blocks : List LayerBlock) (cost : Option ℤ)
    → MatchOption cost (blocks ≡ []) (λ c. IsPlan p blocks × (c ≡ pos (plan_cost p blocks)))
    → IfSome cost (λ c. IsPlan p blocks × (c ≡ pos (plan_cost p blocks)))
plan_at p blocks nothing is = tt
plan_at p blocks (Some c) is = is

-- the claims that cost and bound make
both_same : (cost bound : ℤ) → claim_found (Some cost) (Some bound) ≡ Optimal → cost ≡ bound
both_same cost bound is = by_test (int_eq cost bound) refl is
  where
    by_test : (b : Bool) → int_eq cost bound ≡ b → cond b Optimal StillOpen ≡ Optimal → cost ≡ bound
    by_test true e is = (Decides-int_eq cost bound).0 e
    by_test false e is = cc

not_infeasible : (b : Bool) → cond b Optimal StillOpen ≡ Infeasible → ⊥
not_infeasible true is = cc
not_infeasible false is = cc

module _ (p : Problem) (blocks : List LayerBlock) where
  abbrev IsPlanAt : Option ℤ → Type 0
  IsPlanAt cost = IfSome cost (λ c. IsPlan p blocks × (c ≡ pos (plan_cost p blocks)))

  abbrev Bounds : Option ℤ → Type 0
  Bounds bound = (others : List LayerBlock) → IsPlan p others → IsBelow bound (plan_cost p others)

  optimal_plan : (cost bound : Option ℤ) → IsPlanAt cost → claim_found cost bound ≡ Optimal → IsPlan p blocks
  optimal_plan (Some cost) (Some bound) plan is = plan.0
  optimal_plan (Some cost) nothing plan is = cc
  optimal_plan nothing (Some bound) plan is = cc
  optimal_plan nothing nothing plan is = cc

  optimal : (cost bound : Option ℤ) → IsPlanAt cost → Bounds bound → claim_found cost bound ≡ Optimal
      → (others : List LayerBlock) → IsPlan p others → plan_cost p blocks ≤ plan_cost p others
  optimal (Some cost) (Some bound) plan bounds is others other =
      let same = both_same cost bound is in
      let least = bounds others other in
      let own = plan.1 in
      omega (arith, ints)
  optimal (Some cost) nothing plan bounds is others other = cc
  optimal nothing (Some bound) plan bounds is others other = cc
  optimal nothing nothing plan bounds is others other = cc

  no_plan : (cost bound : Option ℤ) → Bounds bound → claim_found cost bound ≡ Infeasible
      → (others : List LayerBlock) → ¬ (IsPlan p others)
  no_plan cost nothing bounds is others other = bounds others other
  no_plan (Some cost) (Some bound) bounds is others other = not_infeasible (int_eq cost bound) is
  no_plan nothing (Some bound) bounds is others other = cc

  bound_of : (bound : Option ℤ) → Bounds bound
      → IfSome bound (λ b. (others : List LayerBlock) → IsPlan p others → b ≤ℤ pos (plan_cost p others))
  bound_of nothing bounds = tt
  bound_of (Some b) bounds = bounds

  none_of : (bound : Option ℤ) → Bounds bound → IfNone bound ((others : List LayerBlock) → ¬ (IsPlan p others))
  none_of nothing bounds = bounds
  none_of (Some b) bounds = tt

table_named : (p : Problem) (tables : List Table) (t : ℕ) (table : Table)
    → All (λ x. Fits p x × HoldingTable p x) tables
    → slice_get tables t ≡ Some table → Fits p table × HoldingTable p table
table_named p tables t table each is =
    subst (λ (x : Table). Fits p x × HoldingTable p x) (get_or_from_slice_get tables t table table is)
    (each t table (slice_get_within tables t table is))

-- the printed bound is one on every plan of the instance, since the plan lies in a leaf
bounds_all : (p : Problem) (d : Document) → IsInstance p → HoldingDocument p d → (others : List LayerBlock)
    → IsPlan p others → IsBelow d.bound (plan_cost p others)
bounds_all p d instance holds others plan =
    let root = permitted_sets-IsRestriction p instance in
    let tree = holds.tree.tree in
    let strong = holds.tree.strong in
    let places = leaves (permitted_sets p) tree in
    let lies = (lies_in_one others p instance plan (permitted_sets p) tree root strong.splits
    (plans_lie_within p others plan)) in
    let place = lies.lies.place in
    let is : get_or places lies.leaf place ≡ place = get_or_from_slice_get places lies.leaf place place lies.lies.is in
    let inside = slice_get_within places lies.leaf place lies.lies.is in
    let leaf : IsStrongLeaf p d.tables.items d.bound place =
    subst (IsStrongLeaf p d.tables.items d.bound) is (strong.leaves lies.leaf place inside) in
    let restriction : IsRestriction p place.sets =
    subst (λ (x : LeafPlace). IsRestriction p x.sets) is
    (leaves_restrict p (permitted_sets p) tree root strong.splits lies.leaf place inside) in
    let fine : Fits p leaf.table × HoldingTable p leaf.table =
    table_named p d.tables.items place.table leaf.table holds.tables leaf.table_is in
    let reaches = leaf.reaches in
    below reaches.0 d.bound (plan_cost p others) reaches.2
    (bounds_plans p place.sets leaf.table reaches.0 instance restriction fine.0 fine.1 reaches.1 others plan
    lies.lies.within)

pub prove_their_claims : HoldingDocumentsProveTheirClaims
prove_their_claims p d instance holds =
    let blocks = blocks_of d.plan in
    let plan = plan_at p blocks d.cost holds.plan in
    let bounds = bounds_all p d instance holds in
    record {
      plan = plan;
      bound = bound_of p blocks d.bound bounds;
      no_plan = none_of p blocks d.bound bounds;
      optimal = λ is others other. optimal p blocks d.cost d.bound plan bounds (sym holds.claim ∙ is) others other;
      has_plan = λ is. optimal_plan p blocks d.cost d.bound plan (sym holds.claim ∙ is);
      infeasible = λ is. no_plan p blocks d.cost d.bound bounds (sym holds.claim ∙ is);
    }
