-- The document of a state of a search holds.
use Rattle.std.proofs.Common.{◌≡◌, ℕ, ◌<◌, List, [], ◌++◌, length, get_or, refl, sym, ap, ◌∙◌, subst, Option, Some, None, option_map, MatchOption, ℤ, pos}
use Rattle.std.specs.List.{All, slice_get}
use Rattle.std.proofs.lemmas.List.Elements.{All-append, All-cons, All-nil}
use Rattle.std.proofs.lemmas.Option.{get_or_from_slice_get, slice_get-get_or, slice_get-map, slice_get_within}
use Rattle.vs_types.specs.declared.layer_set.LayerSet.{LayerSet}
use Rattle.vs_types.specs.declared.numbers.TripNo.{TripNo}
use Rattle.vs_instance.specs.HoldingTable.{HoldsInLayer, price_of}
use Rattle.vs_instance.specs.Plan.{IsPlan, LayerBlock, plan_cost}
use Rattle.vs_instance.specs.Problem.{Problem}
use Rattle.vs_instance.specs.Restriction.{permitted_sets, set_of}
use Rattle.vs_plan.specs.Blocks.{blocks_of}
use Rattle.vs_plan.specs.CheckedPlan.{Checked}
use Rattle.vs_prices.specs.Bounds.{IsNoLess}
use Rattle.vs_prices.specs.Table.{Fits, HoldingTable, prices_in}
use Rattle.vs_prices.specs.Worth.{IsWorth, Reaches, worth_of}
use Rattle.vs_prices.specs.declared.bound.Bound.{Bound}
use Rattle.vs_prices.specs.declared.bound.Bound.TheVariants.{AtLeast, NoPlan}
use Rattle.vs_prices.specs.declared.table.Table.{Table}
use Rattle.vs_prices.proofs.CallerLemmas.{worth_of-IsWorth}
use Rattle.vs_prices.specs.Claims.{claim_found}
use Rattle.vs_tree.specs.History.{Opening, State, incumbent, prices_at, sets_at, state_of}
use Rattle.vs_tree.specs.Prices.{AreLawful, AreWorth, Prices, no_prices, prices_of}
use Rattle.vs_tree.specs.Report.{bound_of}
use Rattle.vs_tree.specs.Sound.{IsPlanOf, IsSound}
use Rattle.vs_tree.specs.StateTree.{IsTreeAt}
use Rattle.vs_prices.specs.Tree.{Tree, Leaf, Split, IsGoodTree, leaves, right_of, with_set}
use Rattle.vs_types.specs.Parts.{IsProperPart}
use Rattle.vs_tree.proofs.CallerLemmas.{histories_are_sound, last-is, lawful_fits}
use Rattle.vs_cert.proofs.states.TreeTables.{named_within}
use Rattle.vs_cert.specs.StateDocument.{IsDocumentOf, IsRenumbered, first_times, known_blocks, tables_named}
use Rattle.vs_rows.specs.declared.document.Document.{Document}
use Rattle.vs_check.specs.HoldingDocument.{HasPlan, HoldingDocument, IsStrongLeaf}
use Rattle.vs_cert.specs.AnswerLaws.{DocumentsOfStatesHold}

-- a tree is as good where its leaves name their tables otherwise
pub renumbered_good : (numbers : List ℕ) (t u : Tree) (sets : List LayerSet) → IsRenumbered numbers t u
    → IsGoodTree sets t
    → IsGoodTree sets u
renumbered_good numbers (Leaf table) (Leaf place) sets same good = tt
renumbered_good numbers (Leaf table) (Split also part first second) sets same good = absurd same
renumbered_good numbers (Split trip left lower upper) (Leaf place) sets same good = absurd same
renumbered_good numbers (Split trip left lower upper) (Split also part first second) sets same good =
    let Good : TripNo → LayerSet → Type 0 =
    λ i set. (i.0 < length sets) × IsProperPart set (set_of sets i.0) × IsGoodTree (with_set sets i set) first
    × IsGoodTree (with_set sets i (right_of sets i set)) second in
    subst (λ (i : TripNo). Good i part) (sym same.0)
    (subst (λ (set : LayerSet). Good trip set) (sym same.1) (
      good.0,
      good.1,
      renumbered_good numbers lower first (with_set sets trip left) same.2 good.2,
      renumbered_good numbers upper second (with_set sets trip (right_of sets trip left)) same.3 good.3,
    ))

-- a table of lawful prices fits and holds
lawful_table : (p : Problem) (t : Table) (prices : Prices) → AreLawful p prices → prices_of t ≡ prices
    → Fits p t × HoldingTable p t
lawful_table p t prices lawful listed =
    let same : prices_of lawful.table ≡ prices_of t = lawful.listed ∙ sym listed in (
      lawful_fits p t (subst (AreLawful p) (sym listed) lawful),
      λ l inside. subst (λ (x : Prices). HoldsInLayer p l x.ray (prices_in p l x.into) (prices_in p l x.from)
          (price_of x.fleet l)) same (lawful.holds l inside),
    )

-- a worth that is no less than a printed bound reaches it
pub reaches : (worth : Bound) (bound : Option ℤ) → IsNoLess worth (bound_of bound) → Reaches worth bound
reaches NoPlan bound no_less = tt
reaches (AtLeast n) (Some m) no_less = no_less
reaches (AtLeast n) None no_less = absurd no_less

module _ (o : Opening) (s : State) (sound : IsSound o s) (d : Document) (is : IsDocumentOf o s d) where
  abbrev p : Problem
  p = o.problem

  abbrev pub numbers : List ℕ
  numbers = first_times (tables_named is.tree)

  abbrev pub prices_in_state : ℕ → Prices
  prices_in_state n = get_or s.tables n no_prices

  abbrev pub tables : List Table
  tables = d.tables.items

  numbers_are : All (λ n. n < length s.tables) numbers
  numbers_are = named_within o s sound is.tree is.is_tree

  -- what the tables of the document are, place by place
  listed : (k : ℕ) → option_map prices_of (slice_get tables k) ≡ option_map prices_in_state (slice_get numbers k)
  listed k =
      sym (slice_get-map prices_of tables k) ∙ ap (λ (xs : List Prices). slice_get xs k) is.tables
      ∙ slice_get-map prices_in_state numbers k

  -- where a number stands, so does a table of the state's prices of that number
  pub table_at : (k n : ℕ) → slice_get numbers k ≡ Some n
      → (t : Table) × (slice_get tables k ≡ Some t) × (prices_of t ≡ prices_in_state n)
  table_at k n at = by_table (slice_get tables k) refl
    where
      by_table : (found : Option Table) → slice_get tables k ≡ found
          → (t : Table) × (slice_get tables k ≡ Some t) × (prices_of t ≡ prices_in_state n)
      by_table None here =
          let both : None ≡ Some (prices_in_state n) =
          ap (option_map prices_of) (sym here) ∙ listed k ∙ ap (option_map prices_in_state) at in
          absurd cc
      by_table (Some t) here =
          let both : Some (prices_of t) ≡ Some (prices_in_state n) =
          ap (option_map prices_of) (sym here) ∙ listed k ∙ ap (option_map prices_in_state) at in
          (t, here, cc)

  -- and where a table stands, so does a number
  number_at : (k : ℕ) (t : Table) → slice_get tables k ≡ Some t
      → (n : ℕ) × (n < length s.tables) × (prices_of t ≡ prices_in_state n)
  number_at k t at = by_number (slice_get numbers k) refl
    where
      by_number : (found : Option ℕ) → slice_get numbers k ≡ found
          → (n : ℕ) × (n < length s.tables) × (prices_of t ≡ prices_in_state n)
      by_number None here =
          let both : Some (prices_of t) ≡ None =
          ap (option_map prices_of) (sym at) ∙ listed k ∙ ap (option_map prices_in_state) here in
          absurd cc
      by_number (Some n) here =
          let both : Some (prices_of t) ≡ Some (prices_in_state n) =
          ap (option_map prices_of) (sym at) ∙ listed k ∙ ap (option_map prices_in_state) here in
          let read = get_or_from_slice_get numbers k n n here in
          (n, subst (λ (m : ℕ). m < length s.tables) read (numbers_are k n (slice_get_within numbers k n here)), cc)

  pub tables_hold : All (λ t. Fits p t × HoldingTable p t) tables
  tables_hold k t inside =
      let table = get_or tables k t in
      let found = number_at k table (slice_get-get_or tables k t inside) in
      lawful_table p table (prices_in_state found.0) (sound.tables found.0 no_prices found.1) found.2

  -- a leaf of the state is one of the document, and reaches its bound
  strong_leaf : (k : ℕ) (sets : List LayerSet) (table place : ℕ) (spots : List ℕ)
      → IsTreeAt s.places k sets (Leaf table) spots → slice_get numbers place ≡ Some table
      → IsStrongLeaf p tables d.bound (record { sets = sets; table = place })
  strong_leaf k sets table place spots at named_so =
      let found = table_at place table named_so in
      let worth = worth_of p sets found.0 in
      let is_worth = worth_of-IsWorth p sets found.0 in
      let of_leaf : AreWorth p (sets_at s k) (prices_at s k) worth =
      record {
        table = found.0;
        listed = found.2 ∙ ap prices_in_state at.table_is;
        worth = subst (λ (some : List LayerSet). IsWorth p some found.0 worth) at.sets_are is_worth;
      } in
      let no_less = is.is_report.bound.leaves k worth at.leaf of_leaf in
      record {
        table = found.0;
        table_is = found.1;
        reaches = (
          worth,
          is_worth,
          reaches worth d.bound (subst (λ (b : Option ℤ). IsNoLess worth (bound_of b)) (sym is.bound) no_less),
        );
      }

  pub strong_leaves : (t u : Tree) (k : ℕ) (sets : List LayerSet) (spots : List ℕ) → IsTreeAt s.places k sets t spots
      → IsRenumbered numbers t u → All (IsStrongLeaf p tables d.bound) (leaves sets u)
  strong_leaves (Leaf table) (Leaf place) k sets spots at same =
      All-cons (IsStrongLeaf p tables d.bound) (record { sets = sets; table = place }) []
      (strong_leaf k sets table place spots at same) (All-nil (IsStrongLeaf p tables d.bound))
  strong_leaves (Leaf table) (Split also part first second) k sets spots at same = absurd same
  strong_leaves (Split trip left lower upper) (Leaf place) k sets spots at same = absurd same
  strong_leaves (Split trip left lower upper) (Split also part first second) k sets spots at same =
      let Strong : TripNo → LayerSet → Type 0 =
      λ i set. All (IsStrongLeaf p tables d.bound)
      (leaves (with_set sets i set) first ++ leaves (with_set sets i (right_of sets i set)) second) in
      subst (λ (i : TripNo). Strong i part) (sym same.0)
      (subst (λ (set : LayerSet). Strong trip set) (sym same.1)
      (All-append (IsStrongLeaf p tables d.bound) (leaves (with_set sets trip left) first)
      (leaves (with_set sets trip (right_of sets trip left)) second)
      (strong_leaves lower first at.lower (with_set sets trip left) at.first at.is_lower same.2)
      (strong_leaves upper second at.upper (with_set sets trip (right_of sets trip left)) at.second
      at.is_upper same.3)))

  -- the blocks are the cheapest plan's
  pub has_plan : HasPlan p d
  has_plan = by_plan (incumbent s) refl
    where
      Has : Option ℤ → List LayerBlock → Type 0
      Has cost blocks =
          MatchOption cost (blocks ≡ []) (λ n. IsPlan p blocks × (n ≡ pos (plan_cost p blocks)))

      cost_is : d.cost ≡ option_map (λ (plan : Checked). plan.cost) (incumbent s)
      cost_is = is.cost ∙ is.is_report.cost

      by_plan : (best : Option Checked) → incumbent s ≡ best → HasPlan p d
      by_plan None here =
          let cost = cost_is ∙ ap (option_map (λ (plan : Checked). plan.cost)) here in
          subst (λ (c : Option ℤ). Has c (blocks_of d.plan)) (sym cost) (is.blocks ∙ ap known_blocks here)
      by_plan (Some plan) here =
          let cost = cost_is ∙ ap (option_map (λ (plan : Checked). plan.cost)) here in
          let of = last-is (IsPlanOf p) None s.accepted plan sound.plans (λ other none. absurd cc) here in
          let blocks : blocks_of d.plan ≡ plan.blocks = is.blocks ∙ ap known_blocks here in
          let At : Problem → Type 0 = λ q. IsPlan q plan.blocks × (plan.cost ≡ pos (plan_cost q plan.blocks)) in
          subst (λ (c : Option ℤ). Has c (blocks_of d.plan)) (sym cost)
          (subst (λ (some : List LayerBlock). Has (Some plan.cost) some) (sym blocks)
          (subst At of.1 (of.0.plan, of.0.cost)))

  -- so it holds
  abbrev pub document_holds : HoldingDocument p d
  document_holds = record {
    plan = has_plan;
    tables = tables_hold;
    tree = record {
      tree = is.shape;
      shape_is = is.rows_are;
      strong = record {
        splits = renumbered_good numbers is.tree is.shape (permitted_sets p) is.renumbered is.is_tree.good;
        leaves = strong_leaves is.tree is.shape 0 (permitted_sets p) is.is_tree.spots is.is_tree.is_tree is.renumbered;
      };
    };
    claim = is.claim ∙ is.is_report.claim ∙ ap (λ (c : Option ℤ). claim_found c is.report.bound) (sym is.cost)
        ∙ ap (claim_found d.cost) (sym is.bound);
  }

-- the law
pub documents_of_states_hold : DocumentsOfStatesHold
documents_of_states_hold o steps d opening history is =
    document_holds o (state_of o steps) (histories_are_sound o steps opening history) d is
