-- Of two seats that were joined, neither made an entry that it hadn't seen.
use Rattle.std.proofs.Common.{◌≡◌, ℕ, zero, suc, ◌+◌, ◌<◌, ◌≤◌, Bool, true, false, ◌||◌, List, [], ◌∷◌, ◌++◌, length, drop, length-append, refl, sym, ap, ◌∙◌, subst, arith, inl, inr, ne_eqb}
use Rattle.std.proofs.lemmas.Bool.{cases_eq}
use Rattle.vs_turn.specs.Calls.{NoCalls, calls_from, calls_of, has_ticket}
use Rattle.vs_turn.specs.Seats.{KnowsCalls, SeatModel, both_seats}
use Rattle.vs_turn.specs.Tickets.{merged_tickets, tickets_from}
use Rattle.vs_turn.proofs.TicketLists.{full_tickets, length-tickets_from, risen, tickets_from-rise, tickets_from_below, true_not_false, true_or_false}
use Rattle.vs_turn.proofs.CallLists.{E, calls_of-append, fewer_calls, no_calls_back}
use Rattle.vs_turn.proofs.MergedCalls.{calls_from-merged, length-merged_calls}
use Rattle.vs_turn.proofs.MergedTickets.{insert_before}

-- one ticket is that ticket
only_ticket : (u t : ℕ) → has_ticket (u ∷ []) t ≡ true → u ≡ t
only_ticket u t has =
    elim (cases_eq u t) [
      | inl same ↦ same
      | inr apart ↦ absurd (true_not_false has (ap (λ (b : Bool). b || false) (ne_eqb u t apart)))
    ]

-- the tickets in a row are these numbers
has_from : (k n t : ℕ) → k ≤ t → t < k + n → has_ticket (tickets_from k n) t ≡ true
has_from k n t from below =
    full_tickets k n (tickets_from k n) (tickets_from-rise k n) (length-tickets_from k n) (tickets_from_below k n)
    t from below

-- a ticket and the tickets in a row behind it have nothing in common
pub next_apart : (k n : ℕ) (t : ℕ) → has_ticket (k ∷ []) t ≡ true → has_ticket (tickets_from (suc k) n) t ≡ false
next_apart k n t has =
    let same = only_ticket k t has in
    elim (true_or_false (has_ticket (tickets_from (suc k) n) t)) [
      | inl among ↦
          absurd (let low = risen (suc k) t (tickets_from (suc k) n) (tickets_from-rise (suc k) n) among in
          omega (arith, same, low))
      | inr none ↦ none
    ]

-- together they are the tickets from it on
pub next_merged : (k n : ℕ) → merged_tickets (k ∷ []) (tickets_from (suc k) n) ≡ tickets_from k (suc n)
next_merged k zero = refl
next_merged k (suc n) = insert_before k (suc k) (tickets_from (suc (suc k)) n) (omega arith)

-- what tickets in a row have not made, none of them has
pub none_of_one : (k n t : ℕ) (es : List E) → k ≤ t → t < k + n → NoCalls (tickets_from k n) es → NoCalls (t ∷ []) es
none_of_one k n t es from below none =
    let among = has_from k n t from below in
    fewer_calls (tickets_from k n) (t ∷ []) es
    (λ u has. subst (λ (x : ℕ). has_ticket (tickets_from k n) x ≡ true) (only_ticket t u has) among)
    none

no_more : {A : Type 0} (xs : List A) → length xs ≡ 0 → xs ≡ []
no_more [] is = refl
no_more (x ∷ xs) is = absurd (omega (arith, is))

module _ (a b both : SeatModel) (knows_a : KnowsCalls a) (knows_b : KnowsCalls b) (knows : KnowsCalls both)
    (is : both ≡ both_seats a b) (since : a.since ≡ b.since)
    (apart : (t : ℕ) → has_ticket a.tickets t ≡ true → has_ticket b.tickets t ≡ false)
    (count : length both.mine ≡ length a.mine + length b.mine) where
  -- both seats' calls are those of the one and those of the other
  counted : length both.mine
      ≡ length (calls_of a.tickets a.since both.seen) + length (calls_of b.tickets a.since both.seen)
  counted =
      ap (λ calls. length calls) (sym knows.calls)
      ∙ ((λ i. length (calls_of (is i).tickets (is i).since both.seen))
      ∙ (ap (λ calls. length calls) (calls_from-merged a.since a.tickets b.tickets (drop a.since both.seen) apart)
      ∙ length-merged_calls (calls_of a.tickets a.since both.seen) (calls_of b.tickets a.since both.seen)))

  -- a seat's calls are those that it made, and those among the rest
  counted_rest : (seat : SeatModel) (rest : List E) → KnowsCalls seat → seat.seen ++ rest ≡ both.seen
      → length (calls_of seat.tickets seat.since both.seen)
      ≡ length seat.mine + length (calls_from (length seat.seen) seat.tickets rest)
  counted_rest seat rest of_seat goes_on =
      ap (λ seen. length (calls_of seat.tickets seat.since seen)) (sym goes_on)
      ∙ (ap (λ calls. length calls) (calls_of-append seat.tickets seat.since seat.seen rest of_seat.begun)
      ∙ (length-append (calls_of seat.tickets seat.since seat.seen) (calls_from (length seat.seen) seat.tickets rest)
      ∙ ap (λ calls. length calls + length (calls_from (length seat.seen) seat.tickets rest)) of_seat.calls))

  pub none_unseen : (rest_a rest_b : List E) → a.seen ++ rest_a ≡ both.seen → b.seen ++ rest_b ≡ both.seen
      → NoCalls a.tickets rest_a × NoCalls b.tickets rest_b
  none_unseen rest_a rest_b goes_a goes_b =
      let of_a = counted_rest a rest_a knows_a goes_a in
      let of_b : length (calls_of b.tickets a.since both.seen)
      ≡ length b.mine + length (calls_from (length b.seen) b.tickets rest_b) =
      ap (λ (n : ℕ). length (calls_of b.tickets n both.seen)) since ∙ counted_rest b rest_b knows_b goes_b in
      let all = counted in
      let none_a : length (calls_from (length a.seen) a.tickets rest_a) ≡ 0 = omega (arith, all, of_a, of_b, count) in
      let none_b : length (calls_from (length b.seen) b.tickets rest_b) ≡ 0 = omega (arith, all, of_a, of_b, count) in (
        no_calls_back (length a.seen) a.tickets rest_a (no_more (calls_from (length a.seen) a.tickets rest_a) none_a),
        no_calls_back (length b.seen) b.tickets rest_b (no_more (calls_from (length b.seen) b.tickets rest_b) none_b),
      )
