-- Products of the first places of a row.
use Rattle.std.proofs.Common.{ℕ, ◌≤◌, List, get_or, take, subst, sym, inl, inr, arith, ℤ, pos, w64, to_z, of_z}
use Rattle.std.proofs.lemmas.Bool.{cases_lt}
use Rattle.std.proofs.lemmas.Int.{ints}
use Rattle.std.proofs.lemmas.List.{get_or-take, get_or_past, length-take}
use Rattle.vs_cuts.specs.Numbers.{AreProducts, IsProduct}
use Rattle.vs_cuts.specs.declared.products.TheConstants.{MOST_PRODUCT}

-- nothing is a product
no_product : (most : ℕ) → IsProduct most (pos 0)
no_product most = (omega (arith, ints), omega (arith, ints))

-- where those of a row are, so are those of its first places
pub take_products : (most n : ℕ) (row : List ℤ) → AreProducts most row → AreProducts most (take n row)
take_products most n row each k =
    elim (cases_lt k n) [
      | inl inside ↦ subst (IsProduct most) (sym (get_or-take n row k (pos 0) inside)) (each k)
      | inr past ↦
          subst (IsProduct most) (sym (get_or_past (take n row) k (pos 0) (omega (arith, length-take n row))))
          (no_product most)
    ]

-- what is a product where so many may be is one where more may be, also as it is read
as_read : (most more : ℕ) (a : ℤ) → most ≤ more → more ≤ MOST_PRODUCT → IsProduct most a
    → IsProduct more (to_z w64 (of_z w64 a))
as_read most more a le few h = (omega (arith, ints), omega (arith, ints))

-- the same of an entry among the first places of a row
pub entry_read : (most more n k : ℕ) (row : List ℤ) → most ≤ more → more ≤ MOST_PRODUCT → AreProducts most row
    → IsProduct more (to_z w64 (of_z w64 (get_or (take n row) k (pos 0))))
entry_read most more n k row le few each = as_read most more _ le few (take_products most n row each k)
