-- Where no worker holds a leaf, none is held.
use Rattle.std.proofs.Common.{◌≡◌, ℕ, suc, Bool, false, cond, List, [], ◌∷◌, refl, ap, arith}
use Rattle.std.proofs.lemmas.List.Sums.{sum_by-cons}
use Rattle.vs_tree.specs.declared.spot.Spot.{Spot}
use Rattle.vs_tree.specs.declared.spot.Spot.TheVariants.{Inner, Free, Held, Closed}
use Rattle.vs_tree.specs.History.{Place, State, IsHeldBy, count_spots, is_held, place_at, spot_at}
use Rattle.vs_tree.specs.Takes.{held_leaves}

count-none : (places : List Place) → ((k : ℕ) → is_held (place_at places k).spot ≡ false)
    → count_spots is_held places ≡ 0
count-none [] none = refl
count-none (q ∷ places) none =
    let first = ap {B = ℕ} (λ (b : Bool). cond b 1 0) (none 0) in
    let rest = count-none places (λ k. none (suc k)) in
    let sum = sum_by-cons (λ (x : Place). cond (is_held x.spot) 1 0) q places in
    omega (arith, first, rest, sum)

not_held : (s : State) (k : ℕ) → ((worker : ℕ) → ¬ (IsHeldBy s worker k)) → is_held (spot_at s k) ≡ false
not_held s k none = by_spot (spot_at s k) refl
  where
    by_spot : (spot : Spot) → spot_at s k ≡ spot → is_held spot ≡ false
    by_spot (Inner trip left lower upper) at = refl
    by_spot (Free table) at = refl
    by_spot (Held worker table) at = absurd (none worker (table, at))
    by_spot (Closed table) at = refl

pub none_held : (s : State) → ((worker leaf : ℕ) → ¬ (IsHeldBy s worker leaf)) → held_leaves s ≡ 0
none_held s none = count-none s.places (λ k. not_held s k (λ worker. none worker k))
