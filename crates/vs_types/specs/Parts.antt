-- What a set of layers leaves of another, and which sets are parts of another.
use Rattle.std.specs.Prelude.{◌≢◌, ℕ, ◌^◌, ◌==◌, ◌&&◌, nat_lt, not, Bool, if◌then◌else◌, [], length, sum_by}
use Rattle.std.specs.Int.{bit_at}
use Rattle.vs_types.specs.LayerSet.{Has, layer_numbers, members}
use Rattle.vs_types.specs.declared.layer_set.LayerSet.{LayerSet}

-- layer l stands in the set
abbrev pub has : LayerSet → ℕ → Bool
has set l = bit_at set.0 l == 1

-- the set whose members are those of the whole that aren't members of the part
abbrev pub rest_of : LayerSet → LayerSet → LayerSet
rest_of whole part = record { 0 = sum_by (λ l. if has whole l && not (has part l) then 2 ^ l else 0) layer_numbers }

-- some of the whole's layers, and not all of them
pub record IsProperPart (part whole : LayerSet) : Type 0 where
  pub some : members part ≢ []
  pub within : (l : ℕ) → Has part l → Has whole l
  pub others : members (rest_of whole part) ≢ []

-- the test for it
abbrev pub is_proper_part : LayerSet → LayerSet → Bool
is_proper_part part whole = nat_lt 0 (length (members part)) && (length (members (rest_of part whole)) == 0)
    && nat_lt 0 (length (members (rest_of whole part)))
