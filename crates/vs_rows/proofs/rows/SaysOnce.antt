-- A row says one thing.
use Rattle.std.proofs.Common.{◌≡◌, ℕ, ◌<◌, ◌≤◌, Bool, true, false, List, [], ◌∷◌, length, get_or, map, drop, refl, sym, ap, ◌∙◌, subst, inl, inr, arith, All, Option, Some, None, ℤ, pos, negsuc, codes}
use Rattle.std.specs.Fmt.{signed_decimal}
use Rattle.std.specs.Int.{bit_at}
use Rattle.std.proofs.lemmas.Bool.{cases_eq}
use Rattle.std.proofs.lemmas.Int.{ints}
use Rattle.std.proofs.lemmas.List.Elements.{All-tail, All-head, All-from_get_or, Contains-get_or}
use Rattle.std.proofs.lemmas.Nat.Bits.{same_from_bits, bit_at-lt}
use Rattle.vs_types.specs.LayerSet.{Has}
use Rattle.vs_types.specs.declared.layer_set.LayerSet.{LayerSet}
use Rattle.vs_types.specs.declared.numbers.LayerNo.{LayerNo}
use Rattle.vs_types.specs.declared.numbers.TripNo.{TripNo}
use Rattle.vs_instance.specs.Plan.{LayerBlock}
use Rattle.vs_prices.specs.declared.claim.Claim.{Claim}
use Rattle.vs_prices.specs.declared.claim.Claim.TheVariants.{Optimal, Infeasible, StillOpen}
use Rattle.vs_reader.specs.Rows.{Field, Row, field_of}
use Rattle.vs_reader.specs.Names.{NameLists, name_of}
use Rattle.vs_reader.specs.NameRules.{AreNames}
use Rattle.vs_rows.specs.declared.limits.TheConstants.{MAX_BOUND, MAX_PRINTED_PRICE}
use Rattle.vs_rows.specs.DocumentRows.{AreLayersOf, DocumentRow, ClaimRow, CostRow, BoundRow, NodesRow, BlockRow, TableRow, FleetRow, PriceRow, SplitRow, LeafRow, EndRow, HasForm, IsWithin, Says, claim_field, kind_field, number_field, written_row}
use Rattle.vs_rows.proofs.words.Names.{name_once, same_trips}
use Rattle.vs_rows.proofs.words.Numbers.{digit_of, same_number, same_signed, starts}

-- the word with which a row begins
abbrev pub word_of : DocumentRow → Field
word_of (ClaimRow claim) = codes "result"
word_of (CostRow cost) = codes "cost"
word_of (BoundRow bound) = codes "bound"
word_of (NodesRow n) = codes "nodes"
word_of (BlockRow b) = codes "block"
word_of (TableRow n ray) = codes "table"
word_of (FleetRow l price) = codes "fleet"
word_of (PriceRow l i into from) = codes "price"
word_of (SplitRow trip left) = codes "split"
word_of (LeafRow n) = codes "leaf"
word_of EndRow = codes "end"

pub first_word : (names : NameLists) (row : Row) (said : DocumentRow) → Says names row said
    → field_of row 0 ≡ word_of said
first_word names row (SplitRow trip left) says = ap (λ (r : Row). get_or r 0 []) says.written.2
first_word names row (ClaimRow claim) says = ap (λ (r : Row). get_or r 0 []) says.written
first_word names row (CostRow cost) says = ap (λ (r : Row). get_or r 0 []) says.written
first_word names row (BoundRow bound) says = ap (λ (r : Row). get_or r 0 []) says.written
first_word names row (NodesRow n) says = ap (λ (r : Row). get_or r 0 []) says.written
first_word names row (BlockRow b) says = ap (λ (r : Row). get_or r 0 []) says.written
first_word names row (TableRow n ray) says = ap (λ (r : Row). get_or r 0 []) says.written
first_word names row (FleetRow l price) says = ap (λ (r : Row). get_or r 0 []) says.written
first_word names row (PriceRow l i into from) says = ap (λ (r : Row). get_or r 0 []) says.written
first_word names row (LeafRow n) says = ap (λ (r : Row). get_or r 0 []) says.written
first_word names row EndRow says = ap (λ (r : Row). get_or r 0 []) says.written

-- `none` is no number
pub none_is_no_number : (n : ℤ) → IsWithin MAX_BOUND n → codes "none" ≡ signed_decimal n → ⊥
none_is_no_number (pos n) range e =
    let few : n ≤ 1000000000000000000000 = omega (arith, ints, range.1) in
    omega (arith, digit_of n 0 few (starts n few).some, ap (λ (bs : List ℕ). get_or bs 0 0) e)
none_is_no_number (negsuc n) range e = absurd (omega (arith, ap (λ (bs : List ℕ). get_or bs 0 0) e))

same_claims : (c d : Claim) → claim_field c ≡ claim_field d → c ≡ d
same_claims Optimal Optimal e = refl
same_claims Optimal Infeasible e = absurd (omega (arith, ap length e))
same_claims Optimal StillOpen e = absurd (omega (arith, ap length e))
same_claims Infeasible Optimal e = absurd (omega (arith, ap length e))
same_claims Infeasible Infeasible e = refl
same_claims Infeasible StillOpen e = absurd (omega (arith, ap length e))
same_claims StillOpen Optimal e = absurd (omega (arith, ap length e))
same_claims StillOpen Infeasible e = absurd (omega (arith, ap length e))
same_claims StillOpen StillOpen e = refl

same_amounts : (a b : Option ℤ) → ((n : ℤ) → a ≡ Some n → IsWithin MAX_BOUND n)
    → ((n : ℤ) → b ≡ Some n → IsWithin MAX_BOUND n) → number_field a ≡ number_field b → a ≡ b
same_amounts None None p q e = refl
same_amounts None (Some z) p q e = absurd (none_is_no_number z (q z refl) e)
same_amounts (Some y) None p q e = absurd (none_is_no_number y (p y refl) (sym e))
same_amounts (Some y) (Some z) p q e = ap Some (same_signed y z (p y refl) (q z refl) e)

cost_within : (cost : Option ℤ) (names : NameLists) → HasForm names (CostRow cost) → (n : ℤ) → cost ≡ Some n
    → IsWithin MAX_BOUND n
cost_within None names form n e = absurd (cc)
cost_within (Some m) names form n e =
    let P : ℤ → Type 0 = λ x. IsWithin MAX_BOUND x in
    let same : m ≡ n = cc in
    subst P same (omega (arith, ints, form.0), omega (arith, ints, form.1))

bound_within : (bound : Option ℤ) (names : NameLists) → HasForm names (BoundRow bound) → (n : ℤ) → bound ≡ Some n
    → IsWithin MAX_BOUND n
bound_within None names form n e = absurd (cc)
bound_within (Some m) names form n e =
    let P : ℤ → Type 0 = λ x. IsWithin MAX_BOUND x in
    let same : m ≡ n = cc in
    subst P same form

same_printed : (y z : ℤ) → IsWithin MAX_PRINTED_PRICE y → IsWithin MAX_PRINTED_PRICE z
    → signed_decimal y ≡ signed_decimal z → y ≡ z
same_printed y z p q e = same_signed y z (omega (arith, ints, p.0), omega (arith, ints, p.1))
    (omega (arith, ints, q.0), omega (arith, ints, q.1)) e

same_kinds : (a b : Bool) → kind_field a ≡ kind_field b → a ≡ b
same_kinds true true e = refl
same_kinds true false e = absurd (omega (arith, ap length e))
same_kinds false true e = absurd (omega (arith, ap length e))
same_kinds false false e = refl

-- names stand for one list of numbers
same_layers : (names : List Field) (ls ms : List ℕ) → AreNames names → All (λ l. l < length names) ls
    → All (λ l. l < length names) ms → map (name_of names) ls ≡ map (name_of names) ms → ls ≡ ms
same_layers names [] [] are a b e = refl
same_layers names [] (m ∷ ms) are a b e = absurd (omega (arith, ap length e))
same_layers names (l ∷ ls) [] are a b e = absurd (omega (arith, ap length e))
same_layers names (l ∷ ls) (m ∷ ms) are a b e =
    let first : l ≡ m =
    name_once names l m are (All-head (λ x. x < length names) l ls a) (All-head (λ x. x < length names) m ms b)
    (ap (λ (fs : List Field). get_or fs 0 []) e) in
    let rest =
    same_layers names ls ms are (All-tail (λ x. x < length names) l ls a) (All-tail (λ x. x < length names) m ms b)
    (ap (drop 1) e) in
    ap (λ (x : ℕ). x ∷ ls) first ∙ ap (λ (xs : List ℕ). m ∷ xs) rest

-- sets of the same layers are equal
bits_agree : (a b : LayerSet) → ((l : ℕ) → Has a l → Has b l) → ((l : ℕ) → Has b l → Has a l) → (l : ℕ)
    → bit_at a.0 l ≡ bit_at b.0 l
bits_agree a b to back l = elim (cases_eq (bit_at a.0 l) 1) [
  | inl has ↦ has ∙ sym (to l has)
  | inr none ↦ elim (cases_eq (bit_at b.0 l) 1) [
    | inl has ↦ absurd (none (back l has))
    | inr neither ↦ omega (arith, none, neither, bit_at-lt a.0 l, bit_at-lt b.0 l)
  ]
]

same_sets : (a b : LayerSet) → ((l : ℕ) → Has a l → Has b l) → ((l : ℕ) → Has b l → Has a l) → a ≡ b
same_sets a b to back =
    let bits : a.0 ≡ b.0 = same_from_bits a.0 b.0 (bits_agree a b to back) in
    ap (λ (n : ℕ). record { 0 = n }) bits

same_trip : (t u : TripNo) → t.0 ≡ u.0 → t ≡ u
same_trip t u e = ap (λ (n : ℕ). record { 0 = n }) e

all_layers : (n : ℕ) (left : LayerSet) (layers : List ℕ) → AreLayersOf left layers
    → ((l : ℕ) → Has left l → l < n) → All (λ l. l < n) layers
all_layers n left layers are few =
    All-from_get_or (λ l. l < n) layers 0 (λ k within. few _ ((are.members _).0 (Contains-get_or layers k 0 within)))

module _ (names : NameLists) (row : Row) (layers : AreNames names.layers) (trips : AreNames names.trips) where
  same_block : (b c : LayerBlock) → Says names row (BlockRow b) → Says names row (BlockRow c) → b ≡ c
  same_block b c p q =
      let e : written_row names (BlockRow b) ≡ written_row names (BlockRow c) = sym p.written ∙ q.written in
      let layer : b.0.0 ≡ c.0.0 =
      name_once names.layers b.0.0 c.0.0 layers p.form.layer q.form.layer (ap (λ
      (fs : List Field). get_or fs 1 []) e) in
      let one : b.0 ≡ c.0 = ap (λ (n : ℕ). record { 0 = n }) layer in
      let rest : b.1 ≡ c.1 = same_trips names.trips b.1 c.1 trips p.form.trips q.form.trips (ap (drop 2) e) in
      ap (λ (x : LayerNo). (x, b.1)) one ∙ ap (λ (xs : List TripNo). (c.0, xs)) rest

  same_split : (t u : TripNo) (a b : LayerSet) → Says names row (SplitRow t a) → Says names row (SplitRow u b)
      → SplitRow t a ≡ SplitRow u b
  same_split t u a b p q =
      let e = sym p.written.2 ∙ q.written.2 in
      let trip : t ≡ u =
      same_trip t u (name_once names.trips t.0 u.0 trips p.form.0 q.form.0 (ap (λ (r : Row). get_or r 1 []) e)) in
      let same : p.written.0 ≡ q.written.0 =
      same_layers names.layers p.written.0 q.written.0 layers
      (all_layers (length names.layers) a p.written.0 p.written.1 p.form.2)
      (all_layers (length names.layers) b q.written.0 q.written.1 q.form.2) (ap (drop 2) e) in
      let A : List ℕ → Type 0 = λ ls. AreLayersOf a ls in
      let among = subst A same p.written.1 in
      let sets : a ≡ b =
      same_sets a b (λ l has. (q.written.1.members l).0 ((among.members l).1 has))
      (λ l has. (among.members l).0 ((q.written.1.members l).1 has)) in
      ap (λ (x : TripNo). SplitRow x a) trip ∙ ap (λ (x : LayerSet). SplitRow u x) sets

  same_price : (l i m j : ℕ) (x y v w : ℤ) → Says names row (PriceRow l i x y) → Says names row (PriceRow m j v w)
      → PriceRow l i x y ≡ PriceRow m j v w
  same_price l i m j x y v w p q =
      let e = sym p.written ∙ q.written in
      let layer : l ≡ m = name_once names.layers l m layers p.form.0 q.form.0 (ap (λ (r : Row). get_or r 1 []) e) in
      let trip : i ≡ j = name_once names.trips i j trips p.form.1 q.form.1 (ap (λ (r : Row). get_or r 2 []) e) in
      let into : x ≡ v = same_printed x v p.form.2 q.form.2 (ap (λ (r : Row). get_or r 3 []) e) in
      let from : y ≡ w = same_printed y w p.form.3 q.form.3 (ap (λ (r : Row). get_or r 4 []) e) in
      cc

  same_fleet : (l m : ℕ) (x y : ℤ) → Says names row (FleetRow l x) → Says names row (FleetRow m y)
      → FleetRow l x ≡ FleetRow m y
  same_fleet l m x y p q =
      let e = sym p.written ∙ q.written in
      let layer : l ≡ m = name_once names.layers l m layers p.form.0 q.form.0 (ap (λ (r : Row). get_or r 1 []) e) in
      let price : x ≡ y = same_printed x y p.form.1 q.form.1 (ap (λ (r : Row). get_or r 2 []) e) in
      cc

  same_table : (m n : ℕ) (a b : Bool) → Says names row (TableRow m a) → Says names row (TableRow n b)
      → TableRow m a ≡ TableRow n b
  same_table m n a b p q =
      let e = sym p.written ∙ q.written in
      let number : m ≡ n =
      same_number m n (omega (arith, p.form)) (omega (arith, q.form)) (ap (λ (r : Row). get_or r 1 []) e) in
      let kind : a ≡ b = same_kinds a b (ap (λ (r : Row). get_or r 2 []) e) in
      cc

  -- a row doesn't begin with two words
  apart : (a b : DocumentRow) → Says names row a → Says names row b
      → (get_or (word_of a) 0 0 ≡ get_or (word_of b) 0 0 → get_or (word_of a) 1 0 ≡ get_or (word_of b) 1 0 → ⊥) → a ≡ b
  apart a b p q other =
      let e = sym (first_word names row a p) ∙ first_word names row b q in
      absurd (other (ap (λ (bs : List ℕ). get_or bs 0 0) e) (ap (λ (bs : List ℕ). get_or bs 1 0) e))

  pub says_once : (a b : DocumentRow) → Says names row a → Says names row b → a ≡ b
  says_once (ClaimRow x) (ClaimRow y) p q =
      ap ClaimRow (same_claims x y (ap (λ (r : Row). get_or r 2 []) (sym p.written ∙ q.written)))
  says_once (CostRow x) (CostRow y) p q =
      ap CostRow (same_amounts x y (cost_within x names p.form) (cost_within y names q.form)
      (ap (λ (r : Row). get_or r 1 []) (sym p.written ∙ q.written)))
  says_once (BoundRow x) (BoundRow y) p q =
      ap BoundRow (same_amounts x y (bound_within x names p.form) (bound_within y names q.form)
      (ap (λ (r : Row). get_or r 1 []) (sym p.written ∙ q.written)))
  says_once (NodesRow m) (NodesRow n) p q =
      ap NodesRow (same_number m n (omega (arith, p.form)) (omega (arith, q.form))
      (ap (λ (r : Row). get_or r 1 []) (sym p.written ∙ q.written)))
  says_once (BlockRow b) (BlockRow c) p q = ap BlockRow (same_block b c p q)
  says_once (TableRow m a) (TableRow n b) p q = same_table m n a b p q
  says_once (FleetRow l x) (FleetRow m y) p q = same_fleet l m x y p q
  says_once (PriceRow l i x y) (PriceRow m j v w) p q = same_price l i m j x y v w p q
  says_once (SplitRow t a) (SplitRow u b) p q = same_split t u a b p q
  says_once (LeafRow m) (LeafRow n) p q =
      ap LeafRow (same_number m n (omega (arith, p.form)) (omega (arith, q.form))
      (ap (λ (r : Row). get_or r 1 []) (sym p.written ∙ q.written)))
  says_once EndRow EndRow p q = refl
  says_once (ClaimRow x) b p q = apart (ClaimRow x) b p q (λ e f. omega arith)
  says_once (CostRow x) b p q = apart (CostRow x) b p q (λ e f. omega arith)
  says_once (BoundRow x) b p q = apart (BoundRow x) b p q (λ e f. omega arith)
  says_once (NodesRow n) b p q = apart (NodesRow n) b p q (λ e f. omega arith)
  says_once (BlockRow c) b p q = apart (BlockRow c) b p q (λ e f. omega arith)
  says_once (TableRow n ray) b p q = apart (TableRow n ray) b p q (λ e f. omega arith)
  says_once (FleetRow l x) b p q = apart (FleetRow l x) b p q (λ e f. omega arith)
  says_once (PriceRow l i x y) b p q = apart (PriceRow l i x y) b p q (λ e f. omega arith)
  says_once (SplitRow t left) b p q = apart (SplitRow t left) b p q (λ e f. omega arith)
  says_once (LeafRow n) b p q = apart (LeafRow n) b p q (λ e f. omega arith)
  says_once EndRow b p q = apart EndRow b p q (λ e f. omega arith)
