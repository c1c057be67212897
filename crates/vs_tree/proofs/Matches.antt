-- What a match at an inner place of a tournament changes, and who wins at its root.
use Rattle.std.proofs.Common.{◌≡◌, ◌≢◌, ℕ, zero, suc, ◌+◌, ◌-◌, ◌*◌, ◌/◌, ◌<◌, ◌≤◌, length, set, drop, refl, sym, ◌∙◌, ap, subst, arith, inl, inr, Option, Some, None}
use Rattle.std.proofs.lemmas.Bool.{cases_eq, cases_lt}
use Rattle.std.proofs.lemmas.List.{get_or-set_same, get_or-set_other, get_or-drop, get_or_past}
use Rattle.vs_prices.proofs.CallerLemmas.{no_less-refl, no_less-trans}
use Rattle.vs_tree.specs.declared.entry.Entry.{Entry}
use Rattle.vs_tree.specs.Free.{Entries, IsEmpty, IsFirst, IsFirstOf, IsNotAfter, IsPlayed, IsTournament, entry_at}

not_after-refl : (a : Option Entry) → IsNotAfter a a
not_after-refl None = tt
not_after-refl (Some a) = (no_less-refl a.worth, λ same. omega arith)

not_after-trans : (a b c : Option Entry) → IsNotAfter a b → IsNotAfter b c → IsNotAfter a c
not_after-trans None None None ab bc = tt
not_after-trans (Some a) None None ab bc = tt
not_after-trans None (Some b) c ab bc = absurd ab
not_after-trans None None (Some c) ab bc = absurd bc
not_after-trans (Some a) None (Some c) ab bc = absurd bc
not_after-trans (Some a) (Some b) None ab bc = tt
not_after-trans (Some a) (Some b) (Some c) ab bc = (
  no_less-trans c.worth b.worth a.worth bc.0 ab.0,
  λ same.
      let first = ab.1 (no_less-trans a.worth c.worth b.worth same bc.0) in
      let second = bc.1 (no_less-trans b.worth a.worth c.worth ab.0 same) in
      omega (arith, first, second),
)

first-none : (a : Option Entry) → IsNotAfter a None
first-none None = tt
first-none (Some a) = tt

-- a match stands where its three places are as before
pub played-same : (old new : Entries) (k : ℕ) → entry_at new k ≡ entry_at old k
    → entry_at new (2 * k) ≡ entry_at old (2 * k)
    → entry_at new (2 * k + 1) ≡ entry_at old (2 * k + 1) → IsPlayed old k → IsPlayed new k
played-same old new k here left right played = rw (here, left, right) played

-- once the match at a place is played, only the one above it may be wrong
pub played-more : (entries : Entries) (count place : ℕ) (first : Option Entry) → 0 < place → place < count
    → length entries ≡ 2 * count
    → IsFirstOf first (entry_at entries (2 * place)) (entry_at entries (2 * place + 1))
    → ((k : ℕ) → 0 < k → k < count → k ≢ place → IsPlayed entries k)
    → (k : ℕ) → 0 < k → k < count → k ≢ place / 2 → IsPlayed (set entries place first) k
played-more entries count place first some inner size is_first played k pos within apart =
    let new = set entries place first in
    let other : (i : ℕ) → i ≢ place → entry_at new i ≡ entry_at entries i =
    λ i ne. get_or-set_other entries place i first None (λ e. ne e) in
    elim (cases_eq k place) [
      | inl same ↦
          let here : entry_at new place ≡ first = get_or-set_same entries place first None (omega arith) in
          let left : entry_at new (2 * place) ≡ entry_at entries (2 * place) = other (2 * place) (λ e. omega arith) in
          let right : entry_at new (2 * place + 1) ≡ entry_at entries (2 * place + 1) =
          other (2 * place + 1) (λ e. omega arith) in
          rw (same, here, left, right) is_first
      | inr ne ↦
          played-same entries new k (other k ne) (other (2 * k) (λ e. omega arith))
          (other (2 * k + 1) (λ e. omega arith))
          (played k pos within ne)
    ]

-- a leaf that changes leaves all matches but the one above it
pub played-leaf : (entries : Entries) (count place : ℕ) (entry : Option Entry) → count ≤ place
    → ((k : ℕ) → 0 < k → k < count → IsPlayed entries k)
    → (k : ℕ) → 0 < k → k < count → k ≢ place / 2 → IsPlayed (set entries place entry) k
played-leaf entries count place entry leaf played k pos within apart =
    let new = set entries place entry in
    let other : (i : ℕ) → i ≢ place → entry_at new i ≡ entry_at entries i =
    λ i ne. get_or-set_other entries place i entry None (λ e. ne e) in
    played-same entries new k (other k (λ e. omega arith)) (other (2 * k) (λ e. omega arith))
    (other (2 * k + 1) (λ e. omega arith)) (played k pos within)

-- the entry at a place is taken no later than those at the places below it
below-first : (entries : Entries) (count half k : ℕ) → IsTournament count entries → 0 < half → half < count
    → k / 2 ≡ half → IsNotAfter (entry_at entries half) (entry_at entries k)
below-first entries count half k t pos inner is_half =
    let played : IsPlayed entries half = t.played half pos inner in
    let P : ℕ → Type 0 = λ i. IsNotAfter (entry_at entries half) (entry_at entries i) in
    elim (cases_eq k (2 * half)) [
      | inl even ↦ subst P (sym even) played.before_left
      | inr odd ↦ let e : 2 * half + 1 ≡ k = omega arith in subst P e played.before_right
    ]

-- the same of the root and any place, gone up to from there step by step
root-first_from : (entries : Entries) (count n k : ℕ) → IsTournament count entries → k < n → 0 < k → k < 2 * count
    → IsNotAfter (entry_at entries 1) (entry_at entries k)
root-first_from entries count zero k t low pos within = absurd (omega arith)
root-first_from entries count (suc n) k t low pos within =
    elim (cases_eq k 1) [
      | inl same ↦ rw same (not_after-refl (entry_at entries 1))
      | inr above ↦
          not_after-trans (entry_at entries 1) (entry_at entries (k / 2)) (entry_at entries k)
          (root-first_from entries count n (k / 2) t (omega arith) (omega arith) (omega arith))
          (below-first entries count (k / 2) k t (omega arith) (omega arith) refl)
    ]

-- the entry at the root is taken no later than that of any spot
root-first : (entries : Entries) (count v : ℕ) → IsTournament count entries
    → IsNotAfter (entry_at entries 1) (entry_at (drop count entries) v)
root-first entries count v t =
    elim (cases_lt v count) [
      | inl inside ↦
          rw get_or-drop
          (root-first_from entries count (suc (count + v)) (count + v) t (omega arith) (omega (arith, t.some))
          (omega arith))
      | inr past ↦
          let none : entry_at entries (count + v) ≡ None = get_or_past entries (count + v) None
          (omega (arith, t.size)) in
          rw (get_or-drop, none) (first-none (entry_at entries 1))
    ]

-- where the root has no entry, no spot has one
pub root-none : (entries : Entries) (count : ℕ) → IsTournament count entries → entry_at entries 1 ≡ None
    → IsEmpty (drop count entries)
root-none entries count t none v =
    go (entry_at (drop count entries) v)
    (let P : Option Entry → Type 0 = λ a. IsNotAfter a (entry_at (drop count entries) v) in
    subst P none (root-first entries count v t))
  where
    go : (b : Option Entry) → IsNotAfter None b → b ≡ None
    go None h = refl
    go (Some b) h = absurd h

-- the entry at a place stands at a spot too, which is found by going down to the winner's place
stands-below : (entries : Entries) (count n k : ℕ) → IsTournament count entries → 2 * count ≤ k + n → 0 < k
    → k < 2 * count → (v : ℕ) × (entry_at (drop count entries) v ≡ entry_at entries k)
stands-below entries count zero k t near pos within = absurd (omega arith)
stands-below entries count (suc n) k t near pos within =
    elim (cases_lt k count) [
      | inl inner ↦
          elim (t.played k pos inner).one [
            | inl left ↦
                let below = stands-below entries count n (2 * k) t (omega arith) (omega arith) (omega arith) in
                (below.0, below.1 ∙ sym left)
            | inr right ↦
                let below = stands-below entries count n (2 * k + 1) t (omega arith) (omega arith) (omega arith) in
                (below.0, below.1 ∙ sym right)
          ]
      | inr leaf ↦
          let place : count + (k - count) ≡ k = omega (arith, leaf) in
          (k - count, get_or-drop count entries (k - count) None ∙ ap (entry_at entries) place)
    ]

-- the entry at the root is the first of all
pub root-is_first : (entries : Entries) (count : ℕ) (entry : Entry) → IsTournament count entries
    → entry_at entries 1 ≡ Some entry → IsFirst (drop count entries) entry
root-is_first entries count entry t root =
    let found = stands-below entries count (2 * count) 1 t (omega arith) (omega arith) (omega (arith, t.some)) in
    record {
      spot = found.0;
      stands = found.1 ∙ root;
      least = λ w other has.
          let first : IsNotAfter (entry_at entries 1) (entry_at (drop count entries) w) = root-first entries
          count w t in
          let P : Option Entry → Type 0 = λ a. IsNotAfter a (entry_at (drop count entries) w) in
          let Q : Option Entry → Type 0 = λ b. IsNotAfter (Some entry) b in
          subst Q has (subst P root first);
    }
