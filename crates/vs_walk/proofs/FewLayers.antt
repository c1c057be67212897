-- How many layers a set has.
use Rattle.std.proofs.Common.{◌≡◌, ℕ, ◌≤◌, ◌==◌, length, arith}
use Rattle.std.specs.Int.{bit_at}
use Rattle.std.proofs.lemmas.List.Sums.{count_by-le-length, length-filter}
use Rattle.vs_types.specs.LayerSet.{layer_numbers, members}
use Rattle.vs_types.specs.declared.layer_set.LayerSet.{LayerSet}
use Rattle.vs_types.specs.declared.numbers.TheConstants.{MAX_LAYERS}

-- no more than there are
pub few_layers : (n : ℕ) (set : LayerSet) → n ≡ length (members set) → n ≤ MAX_LAYERS
unfolding layer_numbers
few_layers n set are =
    let IsIn = λ (l : ℕ). bit_at set.0 l == 1 in
    omega (arith, length-filter {X = ℕ} IsIn layer_numbers, count_by-le-length {X = ℕ} IsIn layer_numbers)
