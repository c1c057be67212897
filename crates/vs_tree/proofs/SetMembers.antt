-- What sets of layers have.
use Rattle.std.proofs.Common.{ℕ, ◌<◌, eqb, length, get_or, sym, subst, arith}
use Rattle.std.specs.Int.{bit_at}
use Rattle.std.specs.List.{All, range_with_len}
use Rattle.std.proofs.lemmas.Bool.{eqb-true}
use Rattle.std.proofs.lemmas.List.Elements.{All-filter, All-from_get_or, filter_passes}
use Rattle.std.proofs.lemmas.List.FromFn.{get_or-range_with_len, length-range_with_len}
use Rattle.vs_types.specs.LayerSet.{Has, members, layer_numbers}
use Rattle.vs_types.specs.declared.layer_set.LayerSet.{LayerSet}
use Rattle.vs_types.proofs.CallerLemmas.{layer_numbers-range}

layer_numbers-below : All (λ l. l < 16) layer_numbers
layer_numbers-below =
    subst (All (λ (l : ℕ). l < 16)) (sym layer_numbers-range)
    (All-from_get_or (λ (l : ℕ). l < 16) (range_with_len 0 16) 0
    (λ i inside. let is = get_or-range_with_len 0 16 i 0 (omega (arith, length-range_with_len 0 16)) in
    omega (arith, length-range_with_len 0 16)))

-- a member stands in the set, and has a number below 16
pub member : (set : LayerSet) (k d : ℕ) → k < length (members set)
    → Has set (get_or (members set) k d) × (get_or (members set) k d < 16)
member set k d inside = (
  eqb-true (bit_at set.0 (get_or (members set) k d)) 1
      (filter_passes (λ l. eqb (bit_at set.0 l) 1) layer_numbers k d inside),
  All-filter (λ l. eqb (bit_at set.0 l) 1) (λ (l : ℕ). l < 16) layer_numbers layer_numbers-below k d inside,
)
