-- What a document that holds prints shows its bound leaf by leaf, and so does what it leads to.
use Rattle.std.proofs.Common.{◌≡◌, ℕ, List, [], ◌∷◌, map, slice_get, Option, Some, None, IfSome, inl, inr, refl, sym, ap, ◌∙◌, subst, arith, ℤ, pos, ◌≤ℤ◌}
use Rattle.std.specs.Prelude.{IfNone, MatchOption, slice_index_or}
use Rattle.std.specs.List.{All}
use Rattle.std.specs.Option.{option_map}
use Rattle.std.proofs.lemmas.Int.{ints}
use Rattle.std.proofs.lemmas.List.Elements.{All-nil, All-cons, All-head, All-tail, All-append}
use Rattle.std.proofs.lemmas.Option.{get_or_from_slice_get, slice_get-map}
use Rattle.vs_types.specs.declared.layer_set.LayerSet.{LayerSet}
use Rattle.vs_types.specs.declared.numbers.TripNo.{TripNo}
use Rattle.vs_instance.specs.Plan.{IsPlan, LayerBlock, plan_cost}
use Rattle.vs_instance.specs.Problem.{Problem}
use Rattle.vs_instance.specs.Restriction.{permitted_sets}
use Rattle.vs_plan.specs.Blocks.{blocks_of}
use Rattle.vs_prices.specs.Worth.{IsWorth, Reaches}
use Rattle.vs_prices.specs.declared.bound.Bound.{Bound}
use Rattle.vs_prices.specs.declared.bound.Bound.TheVariants.{AtLeast, NoPlan}
use Rattle.vs_prices.specs.declared.table.Table.{Table}
use Rattle.vs_prices.specs.Tree.{Leaf, LeafPlace, Split, Tree, leaves, right_of, with_set}
use Rattle.vs_rows.specs.declared.document.Document.{Document}
use Rattle.vs_rows.proofs.CallerLemmas.{tree_once}
use Rattle.vs_check.specs.HoldingDocument.{HoldingDocument, IsStrongLeaf, ProvesItsClaim}
use Rattle.vs_tree.specs.Prices.{Prices, no_prices, prices_of}
use Rattle.vs_cert.specs.StateDocument.{IsRenumbered, first_times, tables_named}
use Rattle.vs_cert.specs.Answers.{AreWorths, IsAmong, IsBoundOf, leaf_places}
use Rattle.vs_resume.specs.Standing.{IsPrinted, IsWrittenFor, Standing, leaves_of}
use Rattle.mdvsp.proofs.carried.Strong.{AreStrong, IsStrong, reaches_by}
use Rattle.mdvsp.proofs.carried.StrongTurns.{all-left, all-right}

module _ (p : Problem) (bound : Option ℤ) where
  -- the leaves of a tree that reaches the bound
  strong_leaves : (tables : List Table) (places : List LeafPlace) → All (IsStrongLeaf p tables bound) places
      → AreStrong p bound (map prices_of tables) places
  strong_leaves tables [] strong = All-nil (IsStrong p bound (map prices_of tables))
  strong_leaves tables (leaf ∷ places) strong =
      let first = All-head (IsStrongLeaf p tables bound) leaf places strong in
      let listed : slice_get (map prices_of tables) leaf.table ≡ Some (prices_of first.table) =
      slice_get-map prices_of tables leaf.table ∙ ap (option_map prices_of) first.table_is in
      All-cons (IsStrong p bound (map prices_of tables)) leaf places (
        first.reaches.0,
        (prices_of first.table, listed, record { table = first.table; listed = refl; worth = first.reaches.1 }),
        first.reaches.2,
      )
      (strong_leaves tables places (All-tail (IsStrongLeaf p tables bound) leaf places strong))

  -- the table that a leaf names reaches it, if it names one
  abbrev ReachesIfNamed : List Table → LeafPlace → Type 0
  ReachesIfNamed tables leaf = (table : Table) (worth : Bound) → slice_get tables leaf.table ≡ Some table
      → IsWorth p leaf.sets table worth → Reaches worth bound

  -- leaves with other numbers for the same tables
  renumbered_reaches : (old : List Prices) (tables : List Table) (numbers : List ℕ) (sets : List LayerSet)
      (tree shape : Tree) → map prices_of tables ≡ map (λ n. slice_index_or old n no_prices) numbers
      → IsRenumbered numbers tree shape → AreStrong p bound old (leaves sets tree)
      → All (ReachesIfNamed tables) (leaves sets shape)
  renumbered_reaches old tables numbers sets (Leaf n) (Leaf place) same renumbered strong =
      let leaf : LeafPlace = record { sets = sets; table = n } in
      let first = All-head (IsStrong p bound old) leaf [] strong in
      All-cons (ReachesIfNamed tables) (record { sets = sets; table = place }) []
      (λ table worth listed is_worth.
      let here = sym (slice_get-map prices_of tables place)
      ∙ ap (λ (xs : List Prices). slice_get xs place) same
      ∙ slice_get-map (λ (m : ℕ). slice_index_or old m no_prices) numbers place in
      let there = ap (option_map prices_of) listed in
      let number = ap (option_map (λ (m : ℕ). slice_index_or old m no_prices)) renumbered in
      let prices : prices_of table ≡ slice_index_or old n no_prices = cc in
      let found = get_or_from_slice_get old n first.1.0 no_prices first.1.1 in
      reaches_by p bound old leaf worth first
      (first.1.0, first.1.1, record { table = table; listed = prices ∙ found; worth = is_worth }))
      (All-nil (ReachesIfNamed tables))
  renumbered_reaches old tables numbers sets (Leaf n) (Split trip left lower upper) same renumbered strong =
      absurd renumbered
  renumbered_reaches old tables numbers sets (Split trip left lower upper) (Leaf place) same renumbered strong =
      absurd renumbered
  renumbered_reaches old tables numbers sets (Split trip left lower upper) (Split also part first second) same
      renumbered strong =
      let xs : List LeafPlace = leaves (with_set sets trip left) lower in
      let ys : List LeafPlace = leaves (with_set sets trip (right_of sets trip left)) upper in
      let low = renumbered_reaches old tables numbers (with_set sets trip left) lower first same renumbered.2
      (all-left (IsStrong p bound old) xs ys strong) in
      let high = renumbered_reaches old tables numbers (with_set sets trip (right_of sets trip left)) upper second same
      renumbered.3 (all-right (IsStrong p bound old) xs ys strong) in
      let both = All-append (ReachesIfNamed tables) _ _ low high in
      subst (λ (t : TripNo). All (ReachesIfNamed tables) (leaves sets (Split t part first second)))
      (sym renumbered.0)
      (subst (λ (l : LayerSet). All (ReachesIfNamed tables) (leaves sets (Split trip l first second)))
      (sym renumbered.1) both)

  -- and so do the worths of all leaves
  worths_reach : (d : Document) (places : List LeafPlace) (worths : List Bound) → AreWorths p d places worths
      → All (ReachesIfNamed d.tables.items) places → All (λ worth. Reaches worth bound) worths
  worths_reach d [] [] are reach = All-nil (λ (worth : Bound). Reaches worth bound)
  worths_reach d [] (w ∷ worths) are reach = absurd are
  worths_reach d (leaf ∷ places) [] are reach = absurd are
  worths_reach d (leaf ∷ places) (w ∷ worths) are reach =
      All-cons (λ (worth : Bound). Reaches worth bound) w worths
      (All-head (ReachesIfNamed d.tables.items) leaf places reach are.0 w are.1 are.2)
      (worths_reach d places worths are.3 (All-tail (ReachesIfNamed d.tables.items) leaf places reach))

-- what a document that holds prints
pub printed_strong : (p : Problem) (d : Document) (s : Standing) → HoldingDocument p d → IsPrinted d s
    → AreStrong p d.bound s.tables (leaves_of p s)
printed_strong p d s holds printed =
    let tree : s.tree ≡ holds.tree.tree =
    tree_once s.tree holds.tree.tree (sym printed.rows ∙ holds.tree.shape_is) in
    subst (λ (t : Tree). AreStrong p d.bound s.tables (leaves (permitted_sets p) t)) (sym tree)
    (subst (λ (tables : List Prices). AreStrong p d.bound tables (leaves (permitted_sets p) holds.tree.tree))
    (sym printed.tables)
    (strong_leaves p d.bound d.tables.items (leaves (permitted_sets p) holds.tree.tree) holds.tree.strong.leaves))

-- and one that holds and is written for strong leaves
pub written_reaches : (p : Problem) (bound : Option ℤ) (s : Standing) (e : Document) (worths : List Bound)
    (holds : HoldingDocument p e) → IsWrittenFor s e → AreWorths p e (leaf_places p e holds) worths
    → AreStrong p bound s.tables (leaves_of p s) → All (λ worth. Reaches worth bound) worths
written_reaches p bound s e worths holds written are strong =
    let tree : written.shape ≡ holds.tree.tree =
    tree_once written.shape holds.tree.tree (sym written.rows ∙ holds.tree.shape_is) in
    worths_reach p bound e (leaf_places p e holds) worths are
    (subst (λ (t : Tree). All (ReachesIfNamed p bound e.tables.items) (leaves (permitted_sets p) t)) tree
    (renumbered_reaches p bound s.tables e.tables.items (first_times (tables_named s.tree)) (permitted_sets p) s.tree
    written.shape written.tables written.renumbered strong))

-- the cost, if any, is no less than the bound
abbrev pub CostReaches : Option ℤ → Option ℤ → Type 0
CostReaches cost bound = IfSome cost (λ c. Reaches (AtLeast c) bound)

-- no number among the cost and worths that reach a bound is less
among_reaches : (bound cost : Option ℤ) (worths : List Bound) (n : ℤ) → CostReaches cost bound
    → All (λ worth. Reaches worth bound) worths → IsAmong cost worths n → Reaches (AtLeast n) bound
among_reaches bound (Some c) [] n reaches all among =
    subst (λ (m : ℤ). Reaches (AtLeast m) bound) (sym among) reaches
among_reaches bound None [] n reaches all among = absurd among
among_reaches bound (Some c) (AtLeast w ∷ worths) n reaches all among = elim among [
  | inl same ↦ subst (λ (m : ℤ). Reaches (AtLeast m) bound) (sym same)
      (All-head (λ (worth : Bound). Reaches worth bound) (AtLeast w) worths all)
  | inr other ↦ among_reaches bound (Some c) worths n reaches
      (All-tail (λ (worth : Bound). Reaches worth bound) (AtLeast w) worths all) other
]
among_reaches bound None (AtLeast w ∷ worths) n reaches all among = elim among [
  | inl same ↦ subst (λ (m : ℤ). Reaches (AtLeast m) bound) (sym same)
      (All-head (λ (worth : Bound). Reaches worth bound) (AtLeast w) worths all)
  | inr other ↦ among_reaches bound None worths n reaches
      (All-tail (λ (worth : Bound). Reaches worth bound) (AtLeast w) worths all) other
]
among_reaches bound (Some c) (NoPlan ∷ worths) n reaches all among =
    among_reaches bound (Some c) worths n reaches
    (All-tail (λ (worth : Bound). Reaches worth bound) NoPlan worths all) among
among_reaches bound None (NoPlan ∷ worths) n reaches all among =
    among_reaches bound None worths n reaches
    (All-tail (λ (worth : Bound). Reaches worth bound) NoPlan worths all) among

-- so the bound of such worths and of such a cost is no lower
pub bound_no_lower : (was now cost : Option ℤ) (worths : List Bound) → CostReaches cost was
    → All (λ worth. Reaches worth was) worths → IsBoundOf cost worths now
    → MatchOption was (now ≡ None) (λ a. IfSome now (λ b. a ≤ℤ b))
bound_no_lower None None cost worths reaches all is = refl
bound_no_lower None (Some b) cost worths reaches all is = absurd (among_reaches None cost worths b reaches all is.0)
bound_no_lower (Some a) None cost worths reaches all is = tt
bound_no_lower (Some a) (Some b) cost worths reaches all is =
    among_reaches (Some a) cost worths b reaches all is.0

-- the cost of a plan is no less than a bound that a document proves
cost_by : (p : Problem) (blocks : List LayerBlock) (cost bound : Option ℤ)
    → IfSome cost (λ c. IsPlan p blocks × (c ≡ pos (plan_cost p blocks)))
    → IfSome bound (λ b. (others : List LayerBlock) → IsPlan p others → b ≤ℤ pos (plan_cost p others))
    → IfNone bound ((others : List LayerBlock) → ¬ (IsPlan p others)) → CostReaches cost bound
cost_by p blocks None bound plan least none = tt
cost_by p blocks (Some c) None plan least none = absurd (none blocks plan.0)
cost_by p blocks (Some c) (Some b) plan least none =
    let low = least blocks plan.0 in let same = plan.1 in omega (arith, ints)

pub proven_cost_reaches : (p : Problem) (d e : Document) → ProvesItsClaim p d → ProvesItsClaim p e
    → CostReaches e.cost d.bound
proven_cost_reaches p d e proves also =
    cost_by p (blocks_of e.plan) e.cost d.bound also.plan proves.bound proves.no_plan
