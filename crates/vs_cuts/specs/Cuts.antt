-- Among how many trips cuts have theirs.
use Rattle.std.specs.Prelude.{◌≡◌, ℕ, ◌<◌, List, length, slice_index_or, vec_len}
use Rattle.vs_cuts.specs.declared.cut.Cut.{Cut}
use Rattle.vs_cuts.specs.declared.cut.Runs.{Runs}
use Rattle.vs_cuts.specs.declared.cut.Runs.TheVariants.{Trips, Shares}
use Rattle.vs_cuts.specs.declared.found.Found.{Found}

abbrev pub trips_of_runs : Runs → ℕ
trips_of_runs (Trips trips) = trips.set.trips
trips_of_runs (Shares shares) = vec_len shares.each

abbrev pub trips_of : Cut → ℕ
trips_of cut = trips_of_runs cut.runs

abbrev pub trips_of_found : Found → ℕ
trips_of_found found = trips_of found.cut

-- cuts have theirs among as many as those in whose places they stand
abbrev pub HaveTripsOf : List Cut → List Cut → Type 0
HaveTripsOf old new =
    (k : ℕ) (d : Cut) → k < length old → trips_of (slice_index_or new k d) ≡ trips_of (slice_index_or old k d)
