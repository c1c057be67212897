-- Cuts of which some are changed.
use Rattle.std.proofs.Common.{◌≡◌, ℕ, ◌<◌, All, List, ◌++◌, length, take, subst, sym, ◌∙◌, arith}
use Rattle.std.proofs.Math.Seq.{take-append_seam}
use Rattle.vs_cuts.specs.Cuts.{HaveTripsOf, trips_of}
use Rattle.vs_cuts.specs.declared.cut.Cut.{Cut}

-- where all have theirs among so many trips, all have afterwards
pub kept_trips : (trips n : ℕ) (items old new rest : List Cut) → HaveTripsOf old new → old ≡ items
    → length new ≡ length old → n ≡ length new → All (λ cut. trips_of cut ≡ trips) items
    → All (λ cut. trips_of cut ≡ trips) (take n (new ++ rest))
kept_trips trips n items old new rest same is each count all =
    let front : take n (new ++ rest) ≡ new =
    subst (λ (m : ℕ). take m (new ++ rest) ≡ new) (sym count) (take-append_seam new rest) in
    let before : All (λ cut. trips_of cut ≡ trips) old =
    subst (λ (cuts : List Cut). All (λ cut. trips_of cut ≡ trips) cuts) (sym is) all in
    subst (λ (cuts : List Cut). All (λ cut. trips_of cut ≡ trips) cuts) (sym front)
    (λ k d below.
    let within : k < length old = omega arith in
    same k d within ∙ before k d within)
