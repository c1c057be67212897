-- From an arrival to a departure at another stop that can be reached leads a match, of the arrival or of a later one at
-- its stop.
use Rattle.std.proofs.Common.{◌≡◌, ◌≢◌, ℕ, ◌+◌, ◌-◌, ◌<◌, ◌≤◌, length, Some, refl, sym, ap, ◌∙◌, arith}
use Rattle.std.specs.Prelude.{◌⊎◌}
use Rattle.std.proofs.lemmas.Bool.{cases_eq}
use Rattle.vs_types.specs.declared.numbers.StopNo.{StopNo}
use Rattle.vs_instance.specs.declared.way.Way.{Way}
use Rattle.vs_instance.specs.Problem.{Problem}
use Rattle.vs_instance.specs.Ways.{way, no_trip}
use Rattle.vs_instance.specs.Instance.{IsInstance}
use Rattle.vs_match.specs.declared.event.Event.{Event}
use Rattle.vs_match.specs.declared.matching.Matching.{Matching}
use Rattle.vs_match.specs.declared.matching.Matching.TheVariants.{First, Latest}
use Rattle.vs_match.specs.Events.{departure, arrival, MayRun}
use Rattle.vs_match.specs.Matches.{IsMatch, IsFirstMatch, IsLatestFirstMatch}
use Rattle.vs_match.proofs.events.LeastTrips.{least_of, decide_both, decide_le, decide_may_run}
use Rattle.vs_match.proofs.walks.WaitingChains.{same_stop}

-- trip j departs at this stop from this minute on
abbrev LeavesFrom : Problem → ℕ → ℕ → ℕ → ℕ → Type 0
LeavesFrom p l stop minute j = MayRun p l j × (((departure p j).stop.0 ≡ stop) × (minute ≤ (departure p j).minute))

decide_leaves : (p : Problem) (l stop minute j : ℕ) → LeavesFrom p l stop minute j ⊎ (¬ (LeavesFrom p l stop minute j))
decide_leaves p l stop minute j =
    decide_both (decide_may_run p l j)
    (decide_both (cases_eq (departure p j).stop.0 stop) (decide_le minute (departure p j).minute))

-- trip i arrives at this stop, so many minutes before this minute or more
abbrev ComesBy : Problem → ℕ → ℕ → ℕ → ℕ → ℕ → Type 0
ComesBy p l stop minutes minute i =
    MayRun p l i × (((arrival p i).stop.0 ≡ stop) × ((arrival p i).minute + minutes ≤ minute))

decide_comes : (p : Problem) (l stop minutes minute i : ℕ) → ComesBy p l stop minutes minute i
    ⊎ (¬ (ComesBy p l stop minutes minute i))
decide_comes p l stop minutes minute i =
    decide_both (decide_may_run p l i)
    (decide_both (cases_eq (arrival p i).stop.0 stop) (decide_le ((arrival p i).minute + minutes) minute))

-- a match that starts at a's stop no earlier than a, and ends at b's stop no later than b
pub record IsMatchBetween (p : Problem) (l : ℕ) (matching : Matching) (w : Way) (a b : Event) : Type 0 where
  pub since : Event
  pub until : Event
  pub same_start : a.stop ≡ since.stop
  pub no_earlier : a.minute ≤ since.minute
  pub same_end : until.stop ≡ b.stop
  pub no_later : until.minute ≤ b.minute
  pub matched : IsMatch p l matching w since until

module _ (p : Problem) (is : IsInstance p) (l : ℕ) where
  ends_within : (i : ℕ) → MayRun p l i → (arrival p i).minute < 2880
  ends_within i may = (is.trips i no_trip may.0).end

  -- the first departure at b's stop that a reaches
  first_match_of : (w : Way) (i j : ℕ) → MayRun p l i → MayRun p l j → (arrival p i).stop.0 ≢ (departure p j).stop.0
      → way p (arrival p i).stop.0 (departure p j).stop.0 ≡ Some w
      → (arrival p i).minute + w.minutes ≤ (departure p j).minute
      → (m : ℕ) × IsFirstMatch p l w (arrival p i) (departure p m)
      × ((departure p m).stop.0 ≡ (departure p j).stop.0) × ((departure p m).minute ≤ (departure p j).minute)
  first_match_of w i j may may' apart way_is in_time =
      let stop = (departure p j).stop.0 in
      let minute = (arrival p i).minute + w.minutes in
      let least =
      least_of (LeavesFrom p l stop minute) (decide_leaves p l stop minute) (λ k. (departure p k).minute)
      (length p.trips) j may'.0
      (may', (refl, in_time)) in
      let here = least.passes.1.0 in (
        least.i,
        record {
          arrives = (i, may, refl);
          departs = (least.i, least.passes.0, refl);
          apart = λ same. apart (same ∙ here);
          way_is = ap (λ (s : ℕ). way p (arrival p i).stop.0 s) here ∙ way_is;
          in_time = least.passes.1.1;
          first = λ c departs same late.
              let there : (departure p departs.0).stop.0 ≡ stop =
              ap (λ (e : Event). e.stop.0) departs.2 ∙ ap (λ (s : StopNo). s.0) same ∙ here in
              let minutes = ap (λ (e : Event). e.minute) departs.2 in
              omega (
                arith,
                minutes,
                least.least departs.0 departs.1.0 (departs.1, (there, omega (arith, minutes, late))),
              );
        },
        here,
        least.least j may'.0 (may', (refl, in_time)),
      )

  -- the latest arrival at a's stop with this first match
  latest_match_of : (w : Way) (i m : ℕ) → MayRun p l i → IsFirstMatch p l w (arrival p i) (departure p m)
      → (k : ℕ) × IsLatestFirstMatch p l w (arrival p k) (departure p m)
      × ((arrival p k).stop.0 ≡ (arrival p i).stop.0) × ((arrival p i).minute ≤ (arrival p k).minute)
  latest_match_of w i m may match =
      let stop = (arrival p i).stop.0 in
      let minute = (departure p m).minute in
      let least =
      least_of (ComesBy p l stop w.minutes minute) (decide_comes p l stop w.minutes minute)
      (λ k. 2880 - (arrival p k).minute) (length p.trips) i may.0
      (may, (refl, match.in_time)) in
      let k = least.i in
      let here = least.passes.1.0 in
      let later : (arrival p i).minute ≤ (arrival p k).minute =
      omega (
        arith,
        least.least i may.0 (may, (refl, match.in_time)),
        ends_within i may,
        ends_within k least.passes.0,
      ) in (
        k,
        record {
          is_match = record {
            arrives = (k, least.passes.0, refl);
            departs = match.departs;
            apart = λ same. match.apart (sym here ∙ same);
            way_is = ap (λ (s : ℕ). way p s (departure p m).stop.0) here ∙ match.way_is;
            in_time = least.passes.1.1;
            first = λ c departs same late. match.first c departs same (omega (arith, late, later));
          };
          latest = λ c same other.
              let there : (arrival p other.arrives.0).stop.0 ≡ stop =
              ap (λ (e : Event). e.stop.0) other.arrives.2 ∙ ap (λ (s : StopNo). s.0) same ∙ here in
              let minutes = ap (λ (e : Event). e.minute) other.arrives.2 in
              omega (
                arith,
                minutes,
                ends_within other.arrives.0 other.arrives.1,
                ends_within k least.passes.0,
                least.least other.arrives.0 other.arrives.1.0
                    (other.arrives.1, (there, omega (arith, minutes, other.in_time))),
              );
        },
        here,
        later,
      )

  -- an arrival reaches a departure by a match, maybe that of a later arrival, and then waits
  pub match_between : (matching : Matching) (w : Way) (i j : ℕ) → MayRun p l i → MayRun p l j
      → (arrival p i).stop.0 ≢ (departure p j).stop.0
      → way p (arrival p i).stop.0 (departure p j).stop.0 ≡ Some w
      → (arrival p i).minute + w.minutes ≤ (departure p j).minute
      → IsMatchBetween p l matching w (arrival p i) (departure p j)
  match_between First w i j may may' apart way_is in_time =
      let m = first_match_of w i j may may' apart way_is in_time in
      record {
        since = arrival p i;
        until = departure p m.0;
        same_start = refl;
        no_earlier = omega arith;
        same_end = same_stop _ _ m.2;
        no_later = m.3;
        matched = m.1;
      }
  match_between Latest w i j may may' apart way_is in_time =
      let m = first_match_of w i j may may' apart way_is in_time in
      let k = latest_match_of w i m.0 may m.1 in
      record {
        since = arrival p k.0;
        until = departure p m.0;
        same_start = same_stop _ _ (sym k.2);
        no_earlier = k.3;
        same_end = same_stop _ _ m.2;
        no_later = m.3;
        matched = k.1;
      }
