-- What a worker knows when it holds the turn, and what it knows once it lets it go.
use Rattle.std.proofs.Common.{◌≡◌, ℕ, List, [], ◌∷◌, ◌++◌, length, map, drop, refl, sym, ap, ◌∙◌, subst, append_assoc}
use mathlib.Core.List.{IsPrefix}
use Rattle.atomic_table.specs.Seated.{TableId}
use Rattle.vs_turn.specs.Calls.{AreCalls, GoOn, NoCalls}
use Rattle.vs_turn.specs.Seats.{KnowsCalls, SeatModel, released_seat}
use Rattle.vs_tree.specs.Entries.{entry_of, opening_entry}
use Rattle.vs_tree.specs.History.{FullStep, Opening, State, state_of}
use Rattle.vs_tree.specs.Search.{Search, state}
use Rattle.vs_tree.proofs.CallerLemmas.{same_opening}
use Rattle.vs_crew.specs.Sharing.{GoesOnBy, HeldWhenLeft, Knows, Says, Shared, shared_entries, shared_opening}
use Rattle.vs_crew.proofs.others.Histories.{are_called, not_called, steps_begin}

-- what a worker finds when it holds the turn: the search that was handed in has gone on, and what the worker knew was
-- so
-- when it let it go
pub record AtHold (start : Search) (worker : ℕ) (Q : Says) (a : Shared) : Type 0 where
  pub before : a.before ≡ length start.steps
  pub opening : a.search.opening ≡ start.opening
  pub left : HeldWhenLeft worker Q a.search

pub entries-append : (xs ys : List FullStep) → map entry_of (xs ++ ys) ≡ map entry_of xs ++ map entry_of ys
entries-append [] ys = refl
entries-append (x ∷ xs) ys = ap (λ (l : List (List ℕ)). entry_of x ∷ l) (entries-append xs ys)

-- what is left of entries once the first steps' are dropped
entries-drop : (xs ys : List FullStep) → drop (length (map entry_of xs)) (map entry_of (xs ++ ys)) ≡ map entry_of ys
entries-drop [] ys = refl
entries-drop (x ∷ xs) ys = entries-drop xs ys

module _ (turn : TableId) (start : Search) (worker : ℕ) (Q : Says) (seat : SeatModel)
    (knows : Knows turn start worker Q seat) where
  abbrev seen : List FullStep
  seen = start.steps ++ knows.more

  module _ (a : Shared) (opens : shared_opening a ≡ seat.opening) (begins : IsPrefix seat.seen (shared_entries a))
      (unmade : NoCalls seat.tickets (drop (length seat.seen) (shared_entries a))) where
    opening_is : a.search.opening ≡ start.opening
    opening_is =
        let same : a.before ∷ opening_entry a.search.opening ≡ length start.steps ∷ opening_entry start.opening =
        opens ∙ knows.opens in
        same_opening a.search.opening start.opening cc

    before_is : a.before ≡ length start.steps
    before_is =
        let same : a.before ∷ opening_entry a.search.opening ≡ length start.steps ∷ opening_entry start.opening =
        opens ∙ knows.opens in
        cc

    abbrev rest : (rest : List FullStep) × (seen ++ rest ≡ a.search.steps)
    rest =
        steps_begin seen a.search.steps (subst (λ (l : List (List ℕ)). IsPrefix l (shared_entries a)) knows.seen begins)

    nobody : NoCalls (worker ∷ []) (map entry_of rest.0)
    nobody =
        let tickets : NoCalls (worker ∷ []) (drop (length seat.seen) (shared_entries a)) =
        subst (λ (ts : List ℕ). NoCalls ts (drop (length seat.seen) (shared_entries a))) knows.ticket unmade in
        let here : drop (length seat.seen) (shared_entries a) ≡ map entry_of rest.0 =
        ap (λ (l : List (List ℕ)). drop (length l) (shared_entries a)) knows.seen
        ∙ (ap (λ (l : List FullStep). drop (length (map entry_of seen)) (map entry_of l)) (sym rest.1)
        ∙ entries-drop seen rest.0) in
        subst (λ (l : List (List ℕ)). NoCalls (worker ∷ []) l) here tickets

    pub at_hold : AtHold start worker Q a
    at_hold = record {
      before = before_is;
      opening = opening_is;
      left = record {
        steps = seen;
        others = rest.0;
        goes_on = rest.1;
        by_others = not_called worker rest.0 nobody;
        held = subst (λ (o : Opening). Q o (state_of o seen)) (sym opening_is) knows.holds;
      };
    }

  module _ (old new : Shared) (hold : shared_opening old ≡ seat.opening) (goes_on : GoesOnBy worker old new) where
    pub release_opening : shared_opening new ≡ seat.opening
    release_opening =
        (λ i. goes_on.before i ∷ opening_entry (goes_on.opening i)) ∙ hold

    pub release_entries : GoOn seat.tickets (shared_entries old) (shared_entries new)
    release_entries = record {
      new = map entry_of goes_on.added;
      begins = sym (entries-append old.search.steps goes_on.added) ∙ ap (map entry_of) goes_on.goes_on;
      calls = subst (λ (ts : List ℕ). AreCalls ts (map entry_of goes_on.added)) (sym knows.ticket)
          (are_called worker goes_on.added goes_on.by_worker);
    }

    -- the worker has seen its own steps then
    pub released : (R : Says) (found : List (List ℕ)) → IsPrefix seat.seen (shared_entries old)
        → R new.search.opening (state new.search) → KnowsCalls (released_seat seat found (shared_entries new))
        → Knows turn start worker R (released_seat seat found (shared_entries new))
    released R found begins now calls =
        let rest = steps_begin seen old.search.steps
        (subst (λ (l : List (List ℕ)). IsPrefix l (shared_entries old)) knows.seen begins) in
        let opens : old.before ∷ opening_entry old.search.opening ≡ length start.steps ∷ opening_entry start.opening =
        hold ∙ knows.opens in
        let opening : new.search.opening ≡ start.opening =
        goes_on.opening ∙ same_opening old.search.opening start.opening cc in
        let steps : new.search.steps ≡ start.steps ++ (knows.more ++ (rest.0 ++ goes_on.added)) =
        sym goes_on.goes_on ∙ ap (λ (l : List FullStep). l ++ goes_on.added) (sym rest.1)
        ∙ append_assoc seen rest.0 goes_on.added ∙ append_assoc start.steps knows.more (rest.0 ++ goes_on.added) in
        record {
          more = knows.more ++ (rest.0 ++ goes_on.added);
          of_turn = knows.of_turn;
          opens = knows.opens;
          since = knows.since;
          ticket = knows.ticket;
          seen = ap (map entry_of) steps;
          calls = calls;
          holds =
              subst (λ (o : Opening). R o (state_of o (start.steps ++ (knows.more ++ (rest.0 ++ goes_on.added)))))
              opening
              (subst (λ (l : List FullStep). R new.search.opening (state_of new.search.opening l)) steps now);
        }

-- a turn of a worker: what its seat knew, the search that it found, and the search that it leaves
module _ (turn : TableId) (start : Search) (worker : ℕ) (Q : Says) (seat held_seat : SeatModel)
    (found : List (List ℕ)) (a value : Shared) (knows : Knows turn start worker Q seat) (same_seat : held_seat ≡ seat)
    (opens : shared_opening a ≡ seat.opening) (begins : IsPrefix seat.seen (shared_entries a))
    (unmade : NoCalls seat.tickets (drop (length seat.seen) (shared_entries a))) (found_is : found ≡ shared_entries a)
    (value_is : value ≡ a) where
  at : AtHold start worker Q a
  at = at_hold turn start worker Q seat knows a opens begins unmade

  -- what the worker knew was so when it let the search go
  pub turn_left : HeldWhenLeft worker Q value.search
  turn_left = subst (λ (x : Shared). HeldWhenLeft worker Q x.search) (sym value_is) at.left

  pub turn_problem : value.search.opening ≡ start.opening
  turn_problem = ap (λ (x : Shared). x.search.opening) value_is ∙ at.opening

  module _ (new : Shared) (goes_on : GoesOnBy worker value new) where
    goes_on_from : GoesOnBy worker a new
    goes_on_from = subst (λ (x : Shared). GoesOnBy worker x new) value_is goes_on

    -- the turn may be let go
    pub turn_opening : shared_opening new ≡ held_seat.opening
    turn_opening =
        release_opening turn start worker Q seat knows a new opens goes_on_from
        ∙ ap (λ (x : SeatModel). x.opening) (sym same_seat)

    pub turn_entries : GoOn held_seat.tickets found (shared_entries new)
    turn_entries =
        subst (λ (ts : List ℕ). GoOn ts found (shared_entries new)) (ap (λ (x : SeatModel). x.tickets) (sym same_seat))
        (subst (λ (l : List (List ℕ)). GoOn seat.tickets l (shared_entries new)) (sym found_is)
        (release_entries turn start worker Q seat knows a new opens goes_on_from))

    -- and the worker knows then what holds of the search that it leaves
    pub turn_knows : (R : Says) (after : SeatModel) → R new.search.opening (state new.search)
        → after ≡ released_seat held_seat found (shared_entries new) → KnowsCalls after
        → Knows turn start worker R after
    turn_knows R after now is calls =
        let whole = is ∙ ap (λ (x : SeatModel). released_seat x found (shared_entries new)) same_seat in
        subst (Knows turn start worker R) (sym whole)
        (released turn start worker Q seat knows a new opens goes_on_from R found begins now
        (subst KnowsCalls whole calls))

-- a worker that knows something knows what follows from it
pub knows_more : (turn : TableId) (start : Search) (worker : ℕ) (Q R : Says) (seat : SeatModel)
    → Knows turn start worker Q seat → ((s : State) → Q start.opening s → R start.opening s)
    → Knows turn start worker R seat
knows_more turn start worker Q R seat knows follows = record {
  more = knows.more;
  of_turn = knows.of_turn;
  opens = knows.opens;
  since = knows.since;
  ticket = knows.ticket;
  seen = knows.seen;
  calls = knows.calls;
  holds = follows (state_of start.opening (start.steps ++ knows.more)) knows.holds;
}
