-- How many trips are run by no layer, and by several.
use Rattle.std.specs.Prelude.{◌≡◌, ℕ, ◌≤◌, ◌==◌, nat_lt, List, length, count_by}
use Rattle.vs_types.specs.LayerSet.{members}
use Rattle.vs_types.specs.declared.layer_set.LayerSet.{LayerSet}

-- how many of the sets have no layer
abbrev pub none_in : List LayerSet → ℕ
none_in runs = count_by (λ set. length (members set) == 0) runs

-- how many have two or more
abbrev pub many_in : List LayerSet → ℕ
many_in runs = count_by (λ set. nat_lt 1 (length (members set))) runs

-- each trip is run, and no more than so many by several layers
abbrev pub AreAgreed : ℕ → List LayerSet → Type 0
AreAgreed few runs = (none_in runs ≡ 0) × (many_in runs ≤ few)
