-- What the orders of points, nodes and arcs answer.
use Rattle.std.proofs.Common.{◌≡◌, ℕ, suc, ◌+◌, ◌<◌, false, List, get_or, Option, Some, None, refl, sym, ap, ◌∙◌, subst, inl, inr, arith}
use Rattle.std.specs.Prelude.{◌⊎◌, AllPairs}
use Rattle.std.specs.declared.cmp.Ordering.{Ordering}
use Rattle.std.specs.declared.cmp.Ordering.TheVariants.{Less, Equal, Greater}
use Rattle.std.specs.Ordering.{nat_cmp, ordering_then, ordering_index, is_lt}
use Rattle.std.specs.Cmp.{nat_cmp_is, tied_itself, IsTotalOrder, then_total, on_total, nat_cmp_total}
use Rattle.std.specs.List.Sorted.{IsSortedBy, IsNonDecreasingBy}
use Rattle.std.proofs.lemmas.Bool.{cases_order}
use Rattle.std.proofs.lemmas.List.Sorted.{searchable_from_sorted}
use Rattle.std.specs.Option.{option_cmp}
use Rattle.vs_types.specs.declared.numbers.StopNo.{StopNo}
use Rattle.vs_match.specs.declared.event.Point.{Point}
use Rattle.vs_match.specs.Events.{IsBefore, stop_rank}

-- what a number compares as
pub compared : (a b : ℕ) → ((nat_cmp a b ≡ Less) × (a < b))
    ⊎ (((nat_cmp a b ≡ Equal) × (a ≡ b)) ⊎ ((nat_cmp a b ≡ Greater) × (b < a)))
compared a b = elim (cases_order a b) [
  | inl same ↦ inr (inl (sym (nat_cmp_is a b Equal same), same))
  | inr more ↦
      elim more [
        | inl up ↦ inl (sym (nat_cmp_is a b Less up), up)
        | inr down ↦
            inr (inr (sym (nat_cmp_is a b Greater down), down))
      ]
]

-- a comparison by a number and then by another test
pub less-then : (a b : ℕ) (o : Ordering) → ordering_then (nat_cmp a b) o ≡ Less → (a < b) ⊎ ((a ≡ b) × (o ≡ Less))
less-then a b o is = elim (compared a b) [
  | inl up ↦ inl up.1
  | inr more ↦ elim more [
    | inl same ↦ inr (same.1, sym (ap (λ (c : Ordering). ordering_then c o) same.0) ∙ is)
    | inr down ↦ let no : Greater ≡ Less = sym (ap (λ (c : Ordering). ordering_then c o) down.0) ∙ is in cc
  ]
]

pub equal-then : (a b : ℕ) (o : Ordering) → ordering_then (nat_cmp a b) o ≡ Equal → (a ≡ b) × (o ≡ Equal)
equal-then a b o is = elim (compared a b) [
  | inl up ↦ let no : Less ≡ Equal = sym (ap (λ (c : Ordering). ordering_then c o) up.0) ∙ is in cc
  | inr more ↦ elim more [
    | inl same ↦ (same.1, sym (ap (λ (c : Ordering). ordering_then c o) same.0) ∙ is)
    | inr down ↦ let no : Greater ≡ Equal = sym (ap (λ (c : Ordering). ordering_then c o) down.0) ∙ is in cc
  ]
]

pub less : (a b : ℕ) → nat_cmp a b ≡ Less → a < b
less a b is = elim (compared a b) [
  | inl up ↦ up.1
  | inr more ↦ elim more [
    | inl same ↦ let no : Equal ≡ Less = sym same.0 ∙ is in cc
    | inr down ↦ let no : Greater ≡ Less = sym down.0 ∙ is in cc
  ]
]

pub equal : (a b : ℕ) → nat_cmp a b ≡ Equal → a ≡ b
equal a b is = elim (compared a b) [
  | inl up ↦ let no : Less ≡ Equal = sym up.0 ∙ is in cc
  | inr more ↦ elim more [
    | inl same ↦ same.1
    | inr down ↦ let no : Greater ≡ Equal = sym down.0 ∙ is in cc
  ]
]

-- the depot before all stops, and the stops by their numbers
abbrev pub stop_cmp : Option StopNo → Option StopNo → Ordering
stop_cmp = option_cmp (λ x y. nat_cmp x.0 y.0)

stop_cmp-is : (a b : Option StopNo) → stop_cmp a b ≡ nat_cmp (stop_rank a) (stop_rank b)
stop_cmp-is None None = nat_cmp_is 0 0 Equal refl
stop_cmp-is None (Some b) = nat_cmp_is 0 (suc b.0) Less (omega arith)
stop_cmp-is (Some a) None = nat_cmp_is (suc a.0) 0 Greater (omega arith)
stop_cmp-is (Some a) (Some b) = elim (compared a.0 b.0) [
  | inl up ↦ up.0 ∙ nat_cmp_is (suc a.0) (suc b.0) Less (omega (arith, up.1))
  | inr more ↦ elim more [
    | inl same ↦ same.0 ∙ nat_cmp_is (suc a.0) (suc b.0) Equal (ap suc same.1)
    | inr down ↦ down.0 ∙ nat_cmp_is (suc a.0) (suc b.0) Greater (omega (arith, down.1))
  ]
]

-- points, by minute and then by stop
abbrev pub point_cmp : Point → Point → Ordering
point_cmp a b = ordering_then (nat_cmp a.minute b.minute) (stop_cmp a.stop b.stop)

-- the same by the ranks of the stops
abbrev rank_cmp : Point → Point → Ordering
rank_cmp a b = ordering_then (nat_cmp a.minute b.minute) (nat_cmp (stop_rank a.stop) (stop_rank b.stop))

point_cmp-is : (a b : Point) → point_cmp a b ≡ rank_cmp a b
point_cmp-is a b = ap (λ (o : Ordering). ordering_then (nat_cmp a.minute b.minute) o) (stop_cmp-is a.stop b.stop)

rank_cmp-total : IsTotalOrder rank_cmp
rank_cmp-total =
    then_total (on_total (λ (x : Point). x.minute) nat_cmp_total)
    (on_total (λ (x : Point). stop_rank x.stop) nat_cmp_total)

pub point_cmp-total : IsTotalOrder point_cmp
point_cmp-total =
    let same : rank_cmp ≡ point_cmp = λ i a b. sym (point_cmp-is a b) i in
    subst (λ (c : Point → Point → Ordering). IsTotalOrder c) same rank_cmp-total

-- stops of the same rank are one
pub stop_of_rank : (a b : Option StopNo) → stop_rank a ≡ stop_rank b → a ≡ b
stop_of_rank None None same = refl
stop_of_rank None (Some b) same = absurd (omega (arith, same))
stop_of_rank (Some a) None same = absurd (omega (arith, same))
stop_of_rank (Some a) (Some b) same =
    let number : a.0 ≡ b.0 = omega (arith, same) in ap (λ (n : ℕ). Some (record { 0 = n })) number

-- a point of the same minute and stop
pub point_of_both : (a b : Point) → a.minute ≡ b.minute → stop_rank a.stop ≡ stop_rank b.stop → a ≡ b
point_of_both a b minute rank =
    let stop = stop_of_rank a.stop b.stop rank in λ i. record { minute = minute i; stop = stop i }

pub point_before : (a b : Point) → point_cmp a b ≡ Less → IsBefore a b
point_before a b is =
    elim (less-then a.minute b.minute _ (sym (point_cmp-is a b) ∙ is)) [
      | inl up ↦ inl up
      | inr both ↦ inr (both.0, less (stop_rank a.stop) (stop_rank b.stop) both.1)
    ]

pub point_same : (a b : Point) → point_cmp a b ≡ Equal → a ≡ b
point_same a b is =
    let both = equal-then a.minute b.minute (nat_cmp (stop_rank a.stop) (stop_rank b.stop))
    (sym (point_cmp-is a b) ∙ is) in
    point_of_both a b both.0 (equal (stop_rank a.stop) (stop_rank b.stop) both.1)

not_less : (a b : Point) → IsBefore a b → (o : Ordering) → point_cmp b a ≡ o → is_lt o ≡ false
not_less a b before Less is =
    absurd (elim (point_before b a is) [
      | inl up ↦ elim before [ inl up' ↦ omega (arith, up, up') | inr both ↦ omega (arith, up, both.0) ]
      | inr both ↦ elim before [ inl up' ↦ omega (arith, both.0, up') | inr both' ↦ omega (arith, both.1, both'.1) ]
    ])
not_less a b before Equal is = refl
not_less a b before Greater is = refl

sorted_points : (points : List Point) → AllPairs IsBefore points → IsSortedBy (λ a b. is_lt (point_cmp a b)) points
sorted_points points ordered k d low within =
    not_less (get_or points k d) (get_or points (k + 1) d) (ordered k (k + 1) d (omega arith) within)
    (point_cmp (get_or points (k + 1) d) (get_or points k d)) refl

-- points in order can be searched
pub searchable_points : (points : List Point) (x : Point) → AllPairs IsBefore points
    → IsNonDecreasingBy (λ y. ordering_index (point_cmp y x)) points
searchable_points points x ordered =
    searchable_from_sorted point_cmp-total (λ (y : Point). y) points x (sorted_points points ordered)

pub point_cmp-itself : (x : Point) → point_cmp x x ≡ Equal
point_cmp-itself x = tied_itself point_cmp-total x
