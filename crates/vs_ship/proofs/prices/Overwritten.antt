-- A list whose elements are written one after the other.
use Rattle.std.proofs.Common.{◌≡◌, ◌≢◌, ℕ, ◌+◌, ◌<◌, ◌≤◌, ◌∙◌, List, length, get_or, set, arith, get_or-set_other}
use Rattle.vs_types.proofs.CallerLemmas.{place_filled}

-- so many elements are what they should be at their places, and the others as they were
pub record AreWritten {X : Type 0} (blank : X) (Is : ℕ → X → Type 0) (old new : List X) (count : ℕ) : Type 0 where
  pub done : (v : ℕ) → v < count → Is v (get_or new v blank)
  pub kept : (v : ℕ) → count ≤ v → get_or new v blank ≡ get_or old v blank

-- one more that is what it should be, and the others as they were
pub written-more : {X : Type 0} (blank : X) (Is : ℕ → X → Type 0) (old new : List X) (count : ℕ) (x : X)
    → count < length new → AreWritten blank Is old new count → Is count x
    → AreWritten blank Is old (set new count x) (count + 1)
written-more blank Is old new count x within so_far here = record {
  done = place_filled blank Is new count x within so_far.done here;
  kept = λ v past.
      let apart : v ≢ count = λ same. omega arith in
      get_or-set_other new count v x blank apart ∙ so_far.kept v (omega arith);
}
