-- What the seat knows that two seats became.
use Rattle.std.proofs.Common.{◌≡◌, ℕ, suc, ◌+◌, ◌<◌, ◌≤◌, Bool, true, false, ◌||◌, cond, List, [], ◌∷◌, ◌++◌, length, map, refl, sym, ap, ◌∙◌, subst, arith, inl, inr, append-nil, append_assoc, ◌⊎◌}
use Rattle.std.specs.Prelude.{nat_lt}
use Rattle.std.proofs.lemmas.Bool.{cases_eq}
use mathlib.Core.List.{IsPrefix}
use Rattle.atomic_table.specs.Seated.{TableId}
use Rattle.vs_turn.specs.Calls.{NoCalls, has_ticket}
use Rattle.vs_turn.specs.Seats.{KnowsCalls, SeatModel, both_seats}
use Rattle.vs_turn.specs.Tickets.{merged_tickets}
use Rattle.vs_turn.proofs.CallerLemmas.{next_apart, next_merged, none_of_one, none_unseen}
use Rattle.vs_tree.specs.Entries.{entry_of}
use Rattle.vs_tree.specs.History.{FullStep, Opening, state_of}
use Rattle.vs_tree.specs.Search.{Search}
use Rattle.vs_crew.specs.Sharing.{AreByOthers, HasEnded, IsEnd, Knows, KnowsEnds, WasOver}
use Rattle.vs_crew.proofs.others.Histories.{not_called, steps_begin}
use Rattle.vs_crew.proofs.others.Turns.{entries-append}

-- one of two lists
one_of : (b : Bool) (xs ys : List (List ℕ)) → (cond b ys xs ≡ xs) ⊎ (cond b ys xs ≡ ys)
one_of true xs ys = inr refl
one_of false xs ys = inl refl

others-append : (worker : ℕ) (xs ys : List FullStep) → AreByOthers worker xs → AreByOthers worker ys
    → AreByOthers worker (xs ++ ys)
others-append worker [] ys first second = second
others-append worker (x ∷ xs) ys first second = (first.0, others-append worker xs ys first.1 second)

module _ (stops : Type 0) where
  -- the same of steps that others went on with
  ended-later : (worker : ℕ) (o : Opening) (steps rest later : List FullStep) → steps ++ rest ≡ later
      → AreByOthers worker rest → HasEnded stops worker o steps → HasEnded stops worker o later
  ended-later worker o steps rest later goes_on others end = record {
    first = end.first;
    rest = end.rest ++ rest;
    goes_on = sym (append_assoc end.first end.rest rest)
        ∙ (ap (λ (l : List FullStep). l ++ rest) end.goes_on ∙ goes_on);
    by_others = others-append worker end.rest rest end.by_others others;
    over = end.over;
    is_end = end.is_end;
  }

  over-later : (o : Opening) (steps rest later : List FullStep) → steps ++ rest ≡ later → WasOver o steps ⊎ stops
      → WasOver o later ⊎ stops
  over-later o steps rest later goes_on (inl was) =
      inl (record {
        first = was.first;
        rest = was.rest ++ rest;
        goes_on = sym (append_assoc was.first was.rest rest)
            ∙ (ap (λ (l : List FullStep). l ++ rest) was.goes_on ∙ goes_on);
        over = was.over;
      })
  over-later o steps rest later goes_on (inr may) = inr may

  -- a worker's own end
  own_end : (o : Opening) (worker : ℕ) (over : Bool) (steps : List FullStep)
      → IsEnd stops over worker o (state_of o steps) → HasEnded stops worker o steps
  own_end o worker over steps is = record {
    first = steps;
    rest = [];
    goes_on = append-nil steps;
    by_others = tt;
    over = over;
    is_end = is;
  }

  own_over : (o : Opening) (worker : ℕ) (over : Bool) (steps : List FullStep)
      → IsEnd stops over worker o (state_of o steps) → over ≡ true → WasOver o steps ⊎ stops
  own_over o worker true steps (inl over) told =
      inl (record { first = steps; rest = []; goes_on = append-nil steps; over = over })
  own_over o worker true steps (inr stopped) told = inr stopped.0
  own_over o worker false steps is told = absurd cc

  -- the first seat of the workers that have ended
  pub one_ends : (turn : TableId) (start : Search) (worker : ℕ) (over : Bool) (seat : SeatModel)
      → Knows turn start worker (IsEnd stops over worker) seat → KnowsEnds stops turn start worker 1 over seat
  one_ends turn start worker over seat knows = record {
    more = knows.more;
    of_turn = knows.of_turn;
    opens = knows.opens;
    since = knows.since;
    tickets = knows.ticket;
    seen = knows.seen;
    calls = knows.calls;
    ended = λ other from below.
        let same : worker ≡ other = omega (arith, from, below) in
        subst (λ (w : ℕ). HasEnded stops w start.opening (start.steps ++ knows.more)) same
        (own_end start.opening worker over (start.steps ++ knows.more) knows.holds);
    over = own_over start.opening worker over (start.steps ++ knows.more) knows.holds;
  }

module _ (stops : Type 0) (turn : TableId) (start : Search) (worker many : ℕ) (over told : Bool)
    (a b both : SeatModel) (mine : Knows turn start worker (IsEnd stops over worker) a)
    (theirs : KnowsEnds stops turn start (suc worker) many told b) (is : both ≡ both_seats a b)
    (count : length both.mine ≡ length a.mine + length b.mine) (knows : KnowsCalls both)
    (a_begins : IsPrefix a.seen both.seen) (b_begins : IsPrefix b.seen both.seen) where
  -- what both have seen are the entries of some steps of the search
  both_more : (more : List FullStep) × (both.seen ≡ map entry_of (start.steps ++ more))
  both_more =
      elim (one_of (nat_lt (length a.seen) (length b.seen)) a.seen b.seen) [
        | inl same ↦ (mine.more, ap (λ (x : SeatModel). x.seen) is ∙ (same ∙ mine.seen))
        | inr same ↦ (theirs.more, ap (λ (x : SeatModel). x.seen) is ∙ (same ∙ theirs.seen))
      ]

  abbrev steps : List FullStep
  steps = start.steps ++ both_more.0

  abbrev own : List FullStep
  own = start.steps ++ mine.more

  abbrev other_steps : List FullStep
  other_steps = start.steps ++ theirs.more

  mine_later : (rest : List FullStep) × (own ++ rest ≡ steps)
  mine_later =
      steps_begin own steps
      (subst (λ (l : List (List ℕ)). IsPrefix l (map entry_of steps)) mine.seen
      (subst (λ (l : List (List ℕ)). IsPrefix a.seen l) both_more.1 a_begins))

  theirs_later : (rest : List FullStep) × (other_steps ++ rest ≡ steps)
  theirs_later =
      steps_begin other_steps steps
      (subst (λ (l : List (List ℕ)). IsPrefix l (map entry_of steps)) theirs.seen
      (subst (λ (l : List (List ℕ)). IsPrefix b.seen l) both_more.1 b_begins))

  -- the rest of what both have seen
  rest_of : (seen : List (List ℕ)) (first rest : List FullStep) → seen ≡ map entry_of first → first ++ rest ≡ steps
      → seen ++ map entry_of rest ≡ both.seen
  rest_of seen first rest seen_is goes_on =
      ap (λ (l : List (List ℕ)). l ++ map entry_of rest) seen_is
      ∙ (sym (entries-append first rest) ∙ (ap (map entry_of) goes_on ∙ sym both_more.1))

  apart : (t : ℕ) → has_ticket a.tickets t ≡ true → has_ticket b.tickets t ≡ false
  apart t has =
      ap (λ (ts : List ℕ). has_ticket ts t) theirs.tickets
      ∙ next_apart worker many t (ap (λ (ts : List ℕ). has_ticket ts t) (sym mine.ticket) ∙ has)

  unseen : NoCalls a.tickets (map entry_of mine_later.0) × NoCalls b.tickets (map entry_of theirs_later.0)
  unseen =
      none_unseen a b both mine.calls theirs.calls knows is (mine.since ∙ sym theirs.since) apart count
      (map entry_of mine_later.0) (map entry_of theirs_later.0)
      (rest_of a.seen own mine_later.0 mine.seen mine_later.1)
      (rest_of b.seen other_steps theirs_later.0 theirs.seen theirs_later.1)

  mine_others : AreByOthers worker mine_later.0
  mine_others =
      not_called worker mine_later.0
      (subst (λ (ts : List ℕ). NoCalls ts (map entry_of mine_later.0)) mine.ticket unseen.0)

  theirs_others : (other : ℕ) → suc worker ≤ other → other < suc worker + many → AreByOthers other theirs_later.0
  theirs_others other from below =
      not_called other theirs_later.0
      (none_of_one (suc worker) many other (map entry_of theirs_later.0) from below
      (subst (λ (ts : List ℕ). NoCalls ts (map entry_of theirs_later.0)) theirs.tickets unseen.1))

  ended_both : (other : ℕ) → worker ≤ other → other < worker + suc many → HasEnded stops other start.opening steps
  ended_both other from before =
      elim (cases_eq worker other) [
        | inl same ↦
            subst (λ (w : ℕ). HasEnded stops w start.opening steps) same
            (ended-later stops worker start.opening own mine_later.0 steps mine_later.1 mine_others
            (own_end stops start.opening worker over own mine.holds))
        | inr apart_from ↦
            let behind : suc worker ≤ other = omega (arith, from, apart_from) in
            let below : other < suc worker + many = omega (arith, before) in
            ended-later stops other start.opening other_steps theirs_later.0 steps theirs_later.1
            (theirs_others other behind below) (theirs.ended other behind below)
      ]

  over_both : (x y : Bool) → (x ≡ true → WasOver start.opening own ⊎ stops)
      → (y ≡ true → WasOver start.opening other_steps ⊎ stops) → (x || y) ≡ true
      → WasOver start.opening steps ⊎ stops
  over_both true y first second is =
      over-later stops start.opening own mine_later.0 steps mine_later.1 (first refl)
  over_both false y first second is =
      over-later stops start.opening other_steps theirs_later.0 steps theirs_later.1 (second is)

  -- all of them have ended
  pub both_end : KnowsEnds stops turn start worker (suc many) (over || told) both
  both_end = record {
    more = both_more.0;
    of_turn = ap (λ (x : SeatModel). x.turn) is ∙ mine.of_turn;
    opens = ap (λ (x : SeatModel). x.opening) is ∙ mine.opens;
    since = ap (λ (x : SeatModel). x.since) is ∙ mine.since;
    tickets = ap (λ (x : SeatModel). x.tickets) is
        ∙ ((λ i. merged_tickets (mine.ticket i) (theirs.tickets i)) ∙ next_merged worker many);
    seen = both_more.1;
    calls = knows;
    ended = ended_both;
    over = over_both over told (own_over stops start.opening worker over own mine.holds) theirs.over;
  }
