-- The entries of a kept value, and which of them a seat made. An entry is a list of numbers.
use Rattle.std.specs.Prelude.{◌≡◌, ℕ, ◌<◌, Bool, true, false, ◌||◌, ◌==◌, if◌then◌else◌, nat_lt, List, [], ◌∷◌, ◌++◌, length, drop, slice_index}
use Rattle.std.proofs.Common.{suc}

-- the maker of an entry is its first number
abbrev pub maker : List ℕ → ℕ
maker entry = slice_index entry 0

-- the ticket is one of these
abbrev pub has_ticket : List ℕ → ℕ → Bool
has_ticket [] t = false
has_ticket (u ∷ us) t = (u == t) || has_ticket us t

-- the entries whose maker is one of the tickets, each with its position. The first entry stands at `at`
abbrev pub calls_from : ℕ → List ℕ → List (List ℕ) → List (ℕ × List ℕ)
calls_from at tickets [] = []
calls_from at tickets (e ∷ es) =
    if has_ticket tickets (maker e) then (at, e) ∷ calls_from (suc at) tickets es
    else calls_from (suc at) tickets es

-- the calls of a seat with these tickets. What the value brought along, before `since`, is nobody's call
abbrev pub calls_of : List ℕ → ℕ → List (List ℕ) → List (ℕ × List ℕ)
calls_of tickets since entries = calls_from since tickets (drop since entries)

-- each of these entries has one of the tickets as its maker
abbrev pub AreCalls : List ℕ → List (List ℕ) → Type 0
AreCalls tickets [] = Unit {0}
AreCalls tickets (e ∷ es) = (has_ticket tickets (maker e) ≡ true) × AreCalls tickets es

-- none of these entries has one of the tickets as its maker
abbrev pub NoCalls : List ℕ → List (List ℕ) → Type 0
NoCalls tickets [] = Unit {0}
NoCalls tickets (e ∷ es) = (has_ticket tickets (maker e) ≡ false) × NoCalls tickets es

-- the makers of these entries are below n
abbrev pub AreMadeBelow : ℕ → List (List ℕ) → Type 0
AreMadeBelow n [] = Unit {0}
AreMadeBelow n (e ∷ es) = (maker e < n) × AreMadeBelow n es

-- the entries go on from those before, and each new one is a call of the seat with these tickets
pub record GoOn (tickets : List ℕ) (before after : List (List ℕ)) : Type 0 where
  pub new : List (List ℕ)
  pub begins : before ++ new ≡ after
  pub calls : AreCalls tickets new

-- entries with their positions, from `at` on
abbrev pub numbered : ℕ → List (List ℕ) → List (ℕ × List ℕ)
numbered at [] = []
numbered at (e ∷ es) = (at, e) ∷ numbered (suc at) es

-- the entries after those that were found, as calls of the seat that made them
abbrev pub new_calls : List (List ℕ) → List (List ℕ) → List (ℕ × List ℕ)
new_calls found entries = numbered (length found) (drop (length found) entries)

-- a call put in its place among calls in rising order
abbrev pub insert_call : ℕ × List ℕ → List (ℕ × List ℕ) → List (ℕ × List ℕ)
insert_call c [] = c ∷ []
insert_call c (d ∷ ds) = if nat_lt c.0 d.0 then c ∷ d ∷ ds else d ∷ insert_call c ds

-- the calls of two seats, in the order of their positions
abbrev pub merged_calls : List (ℕ × List ℕ) → List (ℕ × List ℕ) → List (ℕ × List ℕ)
merged_calls [] ds = ds
merged_calls (c ∷ cs) ds = insert_call c (merged_calls cs ds)

-- the longer of two lists of entries
abbrev pub longer : List (List ℕ) → List (List ℕ) → List (List ℕ)
longer xs ys = if nat_lt (length xs) (length ys) then ys else xs
