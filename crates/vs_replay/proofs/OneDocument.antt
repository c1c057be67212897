-- The documents of a state are written in one way.
use Rattle.std.proofs.Common.{◌≡◌, ℕ, zero, suc, ◌<◌, ◌==◌, Bool, true, not, List, [], ◌∷◌, ◌++◌, length, get_or, map, filter, sym, ap, ◌∙◌, subst, arith, inl, inr, Option, Some, ℤ}
use Rattle.std.specs.Prelude.{slice_get}
use Rattle.std.specs.List.{All, AllPairs, enumerate_from, flat_map}
use Rattle.std.proofs.lemmas.Bool.{cases_order, eq-eqb, false≢true}
use Rattle.std.proofs.lemmas.List.Elements.{All-weaker, filter_passes}
use Rattle.std.proofs.lemmas.List.Kept.{AllPairs-filter}
use Rattle.vs_types.specs.declared.layer_set.LayerSet.{LayerSet}
use Rattle.vs_types.specs.declared.numbers.TripNo.{TripNo}
use Rattle.vs_instance.specs.Plan.{LayerBlock}
use Rattle.vs_instance.specs.Problem.{Problem}
use Rattle.vs_instance.specs.Restriction.{permitted_sets}
use Rattle.vs_plan.specs.Blocks.{blocks_of}
use Rattle.vs_prices.specs.Claims.{claim_found}
use Rattle.vs_prices.specs.Tree.{Tree, Leaf, Split, right_of, with_set}
use Rattle.vs_prices.specs.declared.claim.Claim.{Claim}
use Rattle.vs_prices.proofs.CallerLemmas.{no_less-both}
use Rattle.vs_cert.specs.StateDocument.{IsDocumentOf, IsRenumbered, first_times, tables_named}
use Rattle.vs_cert.specs.TreeText.{prices_rows}
use Rattle.vs_cert.proofs.CallerLemmas.{tables_rows-prices}
use Rattle.vs_reader.specs.Names.{NameLists}
use Rattle.vs_reader.specs.Rows.{Row}
use Rattle.vs_rows.specs.DocumentRows.{BlockRow, DocumentRow, EndRow, document_rows, head_of, shape_row, tables_rows, written_rows}
use Rattle.vs_rows.specs.Shapes.{preorder}
use Rattle.vs_rows.specs.declared.document.Document.{Document}
use Rattle.vs_rows.specs.declared.document.Shape.{Shape}
use Rattle.vs_tree.specs.declared.calls.Report.{Report}
use Rattle.vs_tree.specs.declared.spot.Spot.TheVariants.{Inner}
use Rattle.vs_tree.specs.History.{Opening, Place, State, is_inner}
use Rattle.vs_tree.specs.Prices.{Prices, prices_of}
use Rattle.vs_tree.specs.Report.{IsReport, bound_of}
use Rattle.vs_tree.specs.StateTree.{IsTreeAt}
use Rattle.vs_tree.proofs.CallerLemmas.{lesser-no_less, same_bound}

module _ (p : Problem) (s : State) where
  -- a state has one report
  one_bound : (r q : Report) → IsReport p s r → IsReport p s q → r.bound ≡ q.bound
  one_bound r q one other =
      same_bound r.bound q.bound
      (no_less-both (bound_of r.bound) (bound_of q.bound)
      (lesser-no_less p s (bound_of r.bound) (bound_of q.bound) one.bound other.bound)
      (lesser-no_less p s (bound_of q.bound) (bound_of r.bound) other.bound one.bound))

  one_claim : (r q : Report) → IsReport p s r → IsReport p s q → r.claim ≡ q.claim
  one_claim r q one other =
      one.claim ∙ ap (λ (c : Option ℤ). claim_found c r.bound) (one.cost ∙ sym other.cost)
      ∙ ap (λ (b : Option ℤ). claim_found q.cost b) (one_bound r q one other) ∙ sym other.claim

-- a spot was split in one way
same_split : (t u : TripNo) (l r : LayerSet) (a b c d : ℕ) → Inner t l a b ≡ Inner u r c d
    → (t ≡ u) × (l ≡ r) × (a ≡ c) × (b ≡ d)
same_split t u l r a b c d e = (cc, cc, cc, cc)

-- so the spots make one tree
one_tree : (places : List Place) (k : ℕ) (sets : List LayerSet) (a b : Tree) (x y : List ℕ)
    → IsTreeAt places k sets a x → IsTreeAt places k sets b y → a ≡ b
one_tree places k sets (Leaf m) (Leaf n) x y one two = ap Leaf (one.table_is ∙ sym two.table_is)
one_tree places k sets (Leaf m) (Split t l lower upper) x y one two =
    absurd (false≢true (sym one.leaf ∙ ap is_inner two.inner))
one_tree places k sets (Split t l lower upper) (Leaf n) x y one two =
    absurd (false≢true (sym two.leaf ∙ ap is_inner one.inner))
one_tree places k sets (Split t l lower upper) (Split u r first second) x y one two =
    let same = same_split t u l r one.lower one.upper two.lower two.upper (sym one.inner ∙ two.inner) in
    let left : lower ≡ first =
    one_tree places two.lower (with_set sets u r) lower first one.first two.first
    (subst (λ (j : ℕ). IsTreeAt places j (with_set sets u r) lower one.first) same.2
    (subst (λ (v : LayerSet). IsTreeAt places one.lower (with_set sets u v) lower one.first) same.1
    (subst (λ (v : TripNo). IsTreeAt places one.lower (with_set sets v l) lower one.first) same.0 one.is_lower)))
    two.is_lower in
    let right : upper ≡ second =
    one_tree places two.upper (with_set sets u (right_of sets u r)) upper second one.second two.second
    (subst (λ (j : ℕ). IsTreeAt places j (with_set sets u (right_of sets u r)) upper one.second) same.3
    (subst (λ (v : LayerSet). IsTreeAt places one.upper (with_set sets u (right_of sets u v)) upper one.second) same.1
    (subst (λ (v : TripNo). IsTreeAt places one.upper (with_set sets v (right_of sets v l)) upper one.second) same.0
    one.is_upper))) two.is_upper in
    ap (λ (v : TripNo). Split v l lower upper) same.0 ∙ ap (λ (v : LayerSet). Split u v lower upper) same.1
    ∙ ap (λ (v : Tree). Split u r v upper) left ∙ ap (λ (v : Tree). Split u r first v) right

abbrev AreApart : List ℕ → Type 0
AreApart xs = AllPairs (λ a b. ¬ (a ≡ b)) xs

apart-cons : (n : ℕ) (xs : List ℕ) → All (λ m. ¬ (n ≡ m)) xs → AreApart xs → AreApart (n ∷ xs)
apart-cons n xs others apart zero zero d lt within = absurd (omega (arith, lt))
apart-cons n xs others apart zero (suc j) d lt within = others j d (omega (arith, within))
apart-cons n xs others apart (suc i) zero d lt within = absurd (omega (arith, lt))
apart-cons n xs others apart (suc i) (suc j) d lt within = apart i j d (omega (arith, lt)) (omega (arith, within))

not_same : (n m : ℕ) → not (m == n) ≡ true → ¬ (n ≡ m)
not_same n m passes same =
    false≢true (sym (ap not (eq-eqb m n (sym same))) ∙ passes)

-- the first times of numbers are apart
first_apart : (xs : List ℕ) → AreApart (first_times xs)
first_apart [] = λ i j d lt within. absurd (omega (arith, within))
first_apart (n ∷ rest) =
    let test : ℕ → Bool = λ m. not (m == n) in
    apart-cons n (filter test (first_times rest))
    (All-weaker (λ (m : ℕ). test m ≡ true) (λ (m : ℕ). ¬ (n ≡ m)) (not_same n) (filter test (first_times rest))
    (filter_passes test (first_times rest)))
    (AllPairs-filter (λ a b. ¬ (a ≡ b)) test (first_times rest) (first_apart rest))

found : (xs : List ℕ) (i n : ℕ) → slice_get xs i ≡ Some n → (i < length xs) × (get_or xs i n ≡ n)
found [] i n is = absurd cc
found (x ∷ xs) zero n is = (omega arith, cc)
found (x ∷ xs) (suc i) n is = let later = found xs i n is in (omega (arith, later.0), later.1)

one_place : (xs : List ℕ) (i j n : ℕ) → AreApart xs → slice_get xs i ≡ Some n → slice_get xs j ≡ Some n → i ≡ j
one_place xs i j n apart one two =
    let a = found xs i n one in
    let b = found xs j n two in
    elim (cases_order i j) [
      | inl same ↦ same
      | inr other ↦ elim other [
        | inl less ↦ absurd (apart i j n less b.0 (a.1 ∙ sym b.1))
        | inr more ↦ absurd (apart j i n more a.0 (b.1 ∙ sym a.1))
      ]
    ]

-- a tree is renumbered in one way
one_shape : (numbers : List ℕ) (tree a b : Tree) → AreApart numbers → IsRenumbered numbers tree a
    → IsRenumbered numbers tree b → a ≡ b
one_shape numbers (Leaf n) (Leaf i) (Leaf j) apart one two = ap Leaf (one_place numbers i j n apart one two)
one_shape numbers (Leaf n) (Leaf i) (Split t l x y) apart one two = absurd two
one_shape numbers (Leaf n) (Split t l x y) b apart one two = absurd one
one_shape numbers (Split t l x y) (Leaf i) b apart one two = absurd one
one_shape numbers (Split t l x y) (Split u r c d) (Leaf j) apart one two = absurd two
one_shape numbers (Split t l x y) (Split u r c d) (Split v q e f) apart one two =
    ap (λ (z : TripNo). Split z r c d) (one.0 ∙ sym two.0) ∙ ap (λ (z : LayerSet). Split v z c d) (one.1 ∙ sym two.1)
    ∙ ap (λ (z : Tree). Split v q z d) (one_shape numbers x c e apart one.2 two.2)
    ∙ ap (λ (z : Tree). Split v q e z) (one_shape numbers y d f apart one.3 two.3)

-- the documents of a state have the same rows
pub one_document : (o : Opening) (s : State) (names : NameLists) (d e : Document) → IsDocumentOf o s d
    → IsDocumentOf o s e → document_rows o.problem names d ≡ document_rows o.problem names e
one_document o s names d e one two =
    let p = o.problem in
    let tree : one.tree ≡ two.tree =
    one_tree s.places 0 (permitted_sets p) one.tree two.tree one.is_tree.spots two.is_tree.spots one.is_tree.is_tree
    two.is_tree.is_tree in
    let numbers : Tree → List ℕ = λ t. first_times (tables_named t) in
    let shape : one.shape ≡ two.shape =
    one_shape (numbers two.tree) two.tree one.shape two.shape (first_apart (tables_named two.tree))
    (subst (λ (t : Tree). IsRenumbered (numbers t) t one.shape) tree one.renumbered) two.renumbered in
    let claim : d.claim ≡ e.claim =
    one.claim ∙ one_claim p s one.report two.report one.is_report two.is_report ∙ sym two.claim in
    let cost : d.cost ≡ e.cost =
    one.cost ∙ one.is_report.cost ∙ sym two.is_report.cost ∙ sym two.cost in
    let bound : d.bound ≡ e.bound =
    one.bound ∙ one_bound p s one.report two.report one.is_report two.is_report ∙ sym two.bound in
    let nodes : d.nodes ≡ e.nodes = one.nodes ∙ sym two.nodes in
    let blocks : blocks_of d.plan ≡ blocks_of e.plan = one.blocks ∙ sym two.blocks in
    let prices : map prices_of d.tables.items ≡ map prices_of e.tables.items =
    one.tables ∙ ap (λ (t : Tree). map (λ n. get_or s.tables n _) (numbers t)) tree ∙ sym two.tables in
    let tables : tables_rows p d.tables.items ≡ tables_rows p e.tables.items =
    tables_rows-prices p 1 d.tables.items
    ∙ ap (λ (xs : List Prices). flat_map (prices_rows p) (enumerate_from 1 xs)) prices
    ∙ sym (tables_rows-prices p 1 e.tables.items) in
    let shapes : d.shape.items ≡ e.shape.items =
    one.rows_are ∙ ap preorder shape ∙ sym two.rows_are in
    let rows : Claim → Option ℤ → Option ℤ → ℕ → List LayerBlock → List DocumentRow → List Shape → List Row =
    λ c m b n bs ts ss. written_rows names (head_of c m b n ++ map BlockRow bs ++ ts ++ map shape_row ss
    ++ EndRow ∷ []) in
    ap (λ (x : Claim). rows x d.cost d.bound d.nodes (blocks_of d.plan) (tables_rows p d.tables.items) d.shape.items)
    claim
    ∙ ap (λ (x : Option ℤ). rows e.claim x d.bound d.nodes (blocks_of d.plan) (tables_rows p d.tables.items)
    d.shape.items) cost
    ∙ ap (λ (x : Option ℤ). rows e.claim e.cost x d.nodes (blocks_of d.plan) (tables_rows p d.tables.items)
    d.shape.items) bound
    ∙ ap (λ (x : ℕ). rows e.claim e.cost e.bound x (blocks_of d.plan) (tables_rows p d.tables.items) d.shape.items)
    nodes
    ∙ ap (λ (x : List LayerBlock). rows e.claim e.cost e.bound e.nodes x (tables_rows p d.tables.items) d.shape.items)
    blocks
    ∙ ap (λ (x : List DocumentRow). rows e.claim e.cost e.bound e.nodes (blocks_of e.plan) x d.shape.items) tables
    ∙ ap (λ (x : List Shape). rows e.claim e.cost e.bound e.nodes (blocks_of e.plan) (tables_rows p e.tables.items) x)
    shapes
