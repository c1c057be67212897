-- What a call does to the bytes that a source has left and that a sink has taken, where they are told.
use Rattle.std.specs.Prelude.{◌≡◌, ℕ, ◌<◌, Option, IfSome, List, [], ◌++◌, length}
use Rattle.std.specs.Option.{option_map}

-- these bytes were the first of those left, and are gone
abbrev pub Takes : Option (List ℕ) → Option (List ℕ) → List ℕ → Type 0
Takes old new gone = old ≡ option_map (λ rest. gone ++ rest) new

-- these bytes now follow those taken before
abbrev pub Appends : Option (List ℕ) → Option (List ℕ) → List ℕ → Type 0
Appends old new bytes = new ≡ option_map (λ before. before ++ bytes) old

-- a first part of these bytes, and not all of them, now follows those taken before
abbrev pub AppendsPrefix : Option (List ℕ) → Option (List ℕ) → List ℕ → Type 0
AppendsPrefix old new bytes =
    (front : List ℕ) × (back : List ℕ) × (bytes ≡ front ++ back) × (0 < length back) × Appends old new front

-- these bytes were all that was left, and nothing is left now
abbrev pub TakesAll : Option (List ℕ) → Option (List ℕ) → List ℕ → Type 0
TakesAll old new bytes = IfSome old (λ left. left ≡ bytes) × (new ≡ option_map (λ _. []) old)
