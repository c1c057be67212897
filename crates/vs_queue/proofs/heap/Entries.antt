-- Entries of a heap: which there are once one was put in or taken out, and which comes first.
use Rattle.std.proofs.Common.{◌≡◌, ℕ, suc, List, ◌∷◌, refl, sym, subst, arith, inr, ℤ, ◌≤ℤ◌, ◌<ℤ◌, Bool, true, false}
use Rattle.std.proofs.lemmas.Cmp.{int_ranked}
use Rattle.std.proofs.lemmas.Int.{ints}
use Rattle.std.proofs.lemmas.List.Elements.{All-contains, All-from_recursion}
use Rattle.std.proofs.lemmas.List.Sorted.{Contains-permutation, IsPermutation-sym}
use Rattle.std.specs.BinaryHeap.{IsHeap, IsUpperBound, KeepsHeap, lt_by_cmp}
use Rattle.std.specs.List.{Contains}
use Rattle.std.specs.List.Sorted.{IsPermutation}
use Rattle.std.specs.declared.cmp.Ordering.{Ordering}
use Rattle.std.specs.declared.cmp.Ordering.TheVariants.{Less, Equal, Greater}
use Rattle.std.specs.Ordering.{MatchOrdering, int_cmp, is_lt, ordering_then}
use Rattle.vs_types.proofs.CallerLemmas.{Contains-cons_cases}
use Rattle.vs_queue.specs.declared.queue.Entry.{Entry}
use Rattle.vs_queue.specs.Queues.{ArePut, entry, entry_cmp}

pub cons-in : {X : Type 0} (x : X) (xs : List X) (e : X) → Contains xs e → Contains (x ∷ xs) e
cons-in x xs e (k, within, is) = (suc k, omega arith, is)

pub first-in : {X : Type 0} (x : X) (xs : List X) → Contains (x ∷ xs) x
first-in x xs = (0, omega arith, refl)

-- an entry is put into the heap
put-in : (old new : List Entry) (v : ℕ) (key : ℤ) → IsPermutation (entry key v ∷ old) new
    → KeepsHeap entry_cmp old new → ArePut old new true true v key
put-in old new v key same order = record {
  order = order;
  kept = λ e is. Contains-permutation (entry key v ∷ old) new e same (cons-in (entry key v) old e is);
  only = λ e is.
      Contains-cons_cases (entry key v) old e
      (Contains-permutation new (entry key v ∷ old) e (IsPermutation-sym (entry key v ∷ old) new same) is);
  was = λ e. e;
  put = λ e. Contains-permutation (entry key v ∷ old) new (entry key v) same (first-in (entry key v) old);
}

not-less : (a b : ℤ) (o : Ordering) → is_lt (ordering_then (int_cmp b a) o) ≡ false → a ≤ℤ b
not-less a b o = go (int_cmp b a) (int_ranked b a (int_cmp b a) refl)
  where
    go : (r : Ordering) → MatchOrdering r (b <ℤ a) (b ≡ a) (a <ℤ b) → is_lt (ordering_then r o) ≡ false → a ≤ℤ b
    go Less ranked e = absurd (cc)
    go Equal ranked e = omega (arith, ints, ranked)
    go Greater ranked e = omega (arith, ints, ranked)

-- the first entry of a heap has no greater key than any
pub first-least : (far : List Entry) (x e : Entry) → IsUpperBound entry_cmp x far → Contains far e
    → x.key.0 ≤ℤ e.key.0
first-least far x e bound is =
    let P : Entry → Type 0 = λ y. lt_by_cmp entry_cmp x y ≡ false in
    not-less x.key.0 e.key.0 _ (All-contains P far e (All-from_recursion P far bound) is)

-- an entry is put into the heap where there was memory for it
pub put-where : (old new : List Entry) (complete done all : Bool) (v : ℕ) (key : ℤ)
    → (done ≡ true → IsPermutation (entry key v ∷ old) new × KeepsHeap entry_cmp old new) → (done ≡ false → new ≡ old)
    → (all ≡ true → (complete ≡ true) × (done ≡ true)) → ArePut old new complete all v key
put-where old new complete true all v key there else_same both =
    let put = put-in old new v key (there refl).0 (there refl).1 in
    record {
      order = put.order;
      kept = put.kept;
      only = put.only;
      was = λ e. (both e).0;
      put = λ e. put.put refl;
    }
put-where old new complete false all v key there else_same both =
    let same = else_same refl in
    record {
      order = λ order. let P : List Entry → Type 0 = IsHeap entry_cmp in subst P (sym same) order;
      kept = λ e is. let P : List Entry → Type 0 = λ es. Contains es e in subst P (sym same) is;
      only = λ e is. let P : List Entry → Type 0 = λ es. Contains es e in inr (subst P same is);
      was = λ e. (both e).0;
      put = λ e. let wrong = (both e).1 in absurd (cc);
    }
