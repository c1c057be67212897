-- What stands in a strict order stands in it in one way.
use Rattle.std.proofs.Common.{◌≡◌, ℕ, zero, suc, ◌<◌, ◌≤◌, List, length, get_or, sym, ap, ◌∙◌, subst, arith}
use Rattle.std.specs.Prelude.{AllPairs, Contains}
use Rattle.std.proofs.lemmas.List.{ext_get_or, get_or_default}

-- a strict order, in which no two are before each other
pub record IsStrict {X : Type 0} (R : X → X → Type 0) : Type 0 where
  pub one_way : (x y : X) → R x y → R y x → ⊥

-- the first n values of f stand in it
abbrev pub AreInOrder : {X : Type 0} → (X → X → Type 0) → ℕ → (ℕ → X) → Type 0
AreInOrder R n f = (j k : ℕ) → j < k → k < n → R (f j) (f k)

-- the first m values of f are among the first n of g
abbrev pub AreAmong : {X : Type 0} → ℕ → (ℕ → X) → ℕ → (ℕ → X) → Type 0
AreAmong m f n g = (k : ℕ) → k < m → (i : ℕ) × (i < n) × (g i ≡ f k)

module _ {X : Type 0} (R : X → X → Type 0) (strict : IsStrict R) where
  -- an order has each value once
  once : (n : ℕ) (f : ℕ → X) (j k : ℕ) → AreInOrder R n f → j < n → k < n → f j ≡ f k → j ≡ k
  once n f j k ordered j_within k_within same =
      let not_before : j < k → ⊥ =
      λ less. let r = ordered j k less k_within in
      let itself : R (f k) (f k) = subst (λ (x : X). R x (f k)) same r in
      strict.one_way (f k) (f k) itself itself in
      let not_after : k < j → ⊥ =
      λ less. let r = ordered k j less j_within in
      let itself : R (f k) (f k) = subst (R (f k)) same r in
      strict.one_way (f k) (f k) itself itself in
      omega arith

  module _ (m n : ℕ) (f g : ℕ → X) (f_ordered : AreInOrder R m f) (g_ordered : AreInOrder R n g)
      (among : AreAmong m f n g) where
    -- where f's values stand among g's, they stand in the same order
    rises : (j k i h : ℕ) → j < k → k < m → i < n → h < n → g i ≡ f j → g h ≡ f k → i < h
    rises j k i h less within i_within h_within at_i at_h =
        let before : R (g i) (g h) =
        subst (λ (x : X). R x (g h)) (sym at_i) (subst (R (f j)) (sym at_h) (f_ordered j k less within)) in
        let not_after : h < i → ⊥ =
        λ after. strict.one_way (g i) (g h) before (g_ordered h i after i_within) in
        let not_same : h ≡ i → ⊥ =
        λ same. let itself : R (g i) (g i) = subst (R (g i)) (ap g same) before in
        strict.one_way (g i) (g i) itself itself in
        omega arith

    -- and none before its own place
    far : (k : ℕ) (within : k < m) → k ≤ (among k within).0
    far zero within = omega arith
    far (suc k) within =
        let earlier : k < m = omega arith in
        let a = among k earlier in
        let b = among (suc k) within in
        let up = rises k (suc k) a.0 b.0 (omega arith) within a.1 b.1 a.2 b.2 in
        let rest = far k earlier in
        omega arith

    no_more : m ≤ n
    no_more =
        let none : n < m → ⊥ =
        λ more. let last = far n more in let within = (among n more).1 in omega arith in
        omega arith

  -- two orders of the same values are as long, and have each value at the same place
  pub same_length : (m n : ℕ) (f g : ℕ → X) → AreInOrder R m f → AreInOrder R n g → AreAmong m f n g
      → AreAmong n g m f → m ≡ n
  same_length m n f g f_ordered g_ordered f_in_g g_in_f =
      let a = no_more m n f g f_ordered g_ordered f_in_g in
      let b = no_more n m g f g_ordered f_ordered g_in_f in
      omega arith

  pub same_value : (m n : ℕ) (f g : ℕ → X) → AreInOrder R m f → AreInOrder R n g → AreAmong m f n g
      → AreAmong n g m f → (k : ℕ) → k < m → f k ≡ g k
  same_value m n f g f_ordered g_ordered f_in_g g_in_f k within =
      let there = f_in_g k within in
      let back = g_in_f there.0 there.1 in
      let same : back.0 ≡ k = once m f back.0 k f_ordered back.1 within (back.2 ∙ there.2) in
      let up = far m n f g f_ordered g_ordered f_in_g k within in
      let down = far n m g f g_ordered f_ordered g_in_f there.0 there.1 in
      let here : there.0 ≡ k = omega arith in
      sym there.2 ∙ ap g here

-- lists in order with the same elements are one
pub one_list : {X : Type 0} (R : X → X → Type 0) (d : X) (xs ys : List X) → IsStrict R → AllPairs R xs → AllPairs R ys
    → ((x : X) → Contains xs x → Contains ys x) → ((x : X) → Contains ys x → Contains xs x) → xs ≡ ys
one_list {X} R d xs ys strict xs_ordered ys_ordered only every =
    let f : ℕ → X = λ k. get_or xs k d in
    let g : ℕ → X = λ k. get_or ys k d in
    let f_in_g : AreAmong (length xs) f (length ys) g =
    λ k within. let c = only (f k) (k, within, get_or_default xs k (f k) d within) in
    (c.0, c.1, get_or_default ys c.0 d (f k) c.1 ∙ c.2) in
    let g_in_f : AreAmong (length ys) g (length xs) f =
    λ k within. let c = every (g k) (k, within, get_or_default ys k (g k) d within) in
    (c.0, c.1, get_or_default xs c.0 d (g k) c.1 ∙ c.2) in
    ext_get_or d xs ys
    (same_length R strict (length xs) (length ys) f g (λ j k. xs_ordered j k d) (λ j k. ys_ordered j k d) f_in_g g_in_f)
    (same_value R strict (length xs) (length ys) f g (λ j k. xs_ordered j k d) (λ j k. ys_ordered j k d) f_in_g g_in_f)
