use Rattle.std.proofs.Common.{ℕ, ◌<◌, ◌≤◌, get_or}
use Rattle.vs_types.specs.declared.numbers.TripNo.{TripNo}
use Rattle.vs_instance.specs.declared.limits.TheConstants.{TWO_DAYS}
use Rattle.vs_instance.specs.Ways.{trip_of}
use Rattle.vs_messages.proofs.ray.common_minute.Given as goal

-- the trips so far are under way from the latest start until the earliest end, and at no other minute
abbrev pub invariant-loop-i : goal.invariant-loop-i
invariant-loop-i l = record {
  starts : (k : ℕ) (d : TripNo) → k < l.i-index → (trip_of l.instance (get_or l.trips k d).0).start ≤ l.latest_start;
  ends : (k : ℕ) (d : TripNo) → k < l.i-index → l.earliest_end ≤ (trip_of l.instance (get_or l.trips k d).0).end;
  no_other : (minute : ℕ) → minute < TWO_DAYS
      → ((k : ℕ) (d : TripNo) → k < l.i-index → ((trip_of l.instance (get_or l.trips k d).0).start ≤ minute)
      × (minute < (trip_of l.instance (get_or l.trips k d).0).end))
      → (l.latest_start ≤ minute) × (minute < l.earliest_end);
}
