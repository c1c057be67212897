-- Keys by which nodes are taken, the least first.
use Rattle.std.specs.Prelude.{◌≡◌, ℕ, List, slice_index_or, ℤ, ◌≤ℤ◌, ◌<ℤ◌, Option, Some, None}

-- the key of each node, none where it isn't waiting
abbrev pub Keys : Type 0
Keys = List (Option ℤ)

abbrev pub key_at : Keys → ℕ → Option ℤ
key_at keys v = slice_index_or keys v None

-- no node is waiting
abbrev pub IsEmpty : Keys → Type 0
IsEmpty keys = (v : ℕ) → key_at keys v ≡ None

-- the node has the key, and no node a lesser one
pub record IsLeast (keys : Keys) (v : ℕ) (key : ℤ) : Type 0 where
  pub has : key_at keys v ≡ Some key
  pub least : (w : ℕ) (other : ℤ) → key_at keys w ≡ Some other → key ≤ℤ other

-- a key is less than one that may be there
abbrev pub IsBelow : ℤ → Option ℤ → Type 0
IsBelow key known = (other : ℤ) → known ≡ Some other → key <ℤ other
