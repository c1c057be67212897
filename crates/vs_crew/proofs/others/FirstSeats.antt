-- The seats that the workers begin with.
use Rattle.std.proofs.Common.{◌≡◌, ◌≢◌, ℕ, ◌+◌, ◌-◌, ◌<◌, ◌≤◌, List, [], ◌∷◌, length, map, set, get_or, refl, sym, ap, ◌∙◌, subst, arith, inl, inr, append-nil, length-set, Some}
use Rattle.std.proofs.lemmas.Bool.{cases_eq}
use Rattle.std.proofs.lemmas.List.{get_or-set_other, get_or-set_same}
use Rattle.atomic_table.specs.Seated.{TableId}
use Rattle.vs_instance.specs.Problem.{Problem}
use Rattle.vs_turn.specs.Seats.{KnowsCalls, SeatModel, with_tickets}
use Rattle.vs_turn.specs.Tickets.{only_highest, without_highest}
use Rattle.vs_turn.proofs.CallerLemmas.{only_highest-all, without_highest-all}
use Rattle.vs_tree.specs.Entries.{entry_of, opening_entry}
use Rattle.vs_tree.specs.History.{FullStep, IsAmong, state_of}
use Rattle.vs_tree.specs.Search.{Search, state}
use Rattle.vs_crew.specs.Sharing.{IsIdle, Knows}
use Rattle.vs_crew.specs.Workers.{AreSeated, HasRoom, IsEnlisted, IsFirstSeat, IsFresh, IsSeated}
use Rattle.vs_crew.specs.declared.worker.Worker.{Worker}

module _ (turn : TableId) (start : Search) (workers : ℕ) (fresh : IsFresh workers start) where
  -- each worker is idle in a fresh search
  fresh_idle : (k : ℕ) → k < workers → IsIdle k start.opening (state start)
  fresh_idle k inside = record {
    is_worker = subst (λ (n : ℕ). k < n) (sym fresh.workers_are) inside;
    holds_none = fresh.none_held k;
    stays = λ among. let none : IsAmong k [] = subst (λ (l : List ℕ). IsAmong k l) fresh.none_gone among in absurd cc;
  }

  -- what the worker of one ticket knows by a seat like the first
  knows_first : (k : ℕ) (seat : SeatModel) → k < workers → seat.turn ≡ turn → seat.opening ≡ length start.steps ∷
      opening_entry start.opening → seat.since ≡ length (map entry_of start.steps) → seat.tickets ≡ k ∷ []
      → seat.seen ≡ map entry_of start.steps → KnowsCalls seat → Knows turn start k (IsIdle k) seat
  knows_first k seat inside of_turn opens since ticket seen calls = record {
    more = [];
    of_turn = of_turn;
    opens = opens;
    since = since;
    ticket = ticket;
    seen = seen ∙ ap (map entry_of) (sym (append-nil start.steps));
    calls = calls;
    holds = subst (λ (l : List FullStep). IsIdle k start.opening (state_of start.opening l))
        (sym (append-nil start.steps))
        (fresh_idle k inside);
  }

  -- the seat that is split off
  pub split_off : (k : ℕ) (seat last : SeatModel) → IsFirstSeat turn start (k + 1) seat → k < workers
      → last ≡ with_tickets seat (only_highest seat.tickets) → KnowsCalls last → Knows turn start k (IsIdle k) last
  split_off k seat last first inside is calls =
      knows_first k last inside (ap (λ (s : SeatModel). s.turn) is ∙ first.of_turn)
      (ap (λ (s : SeatModel). s.opening) is ∙ first.opens)
      (ap (λ (s : SeatModel). s.since) is ∙ first.since)
      (ap (λ (s : SeatModel). s.tickets) is ∙ (ap only_highest first.tickets ∙ only_highest-all k))
      (ap (λ (s : SeatModel). s.seen) is ∙ first.seen) calls

  -- the one that is left for the others
  pub left_over : (k : ℕ) (seat rest : SeatModel) → IsFirstSeat turn start (k + 1) seat
      → rest ≡ with_tickets seat (without_highest seat.tickets) → KnowsCalls rest → IsFirstSeat turn start k rest
  left_over k seat rest first is calls = record {
    of_turn = ap (λ (s : SeatModel). s.turn) is ∙ first.of_turn;
    opens = ap (λ (s : SeatModel). s.opening) is ∙ first.opens;
    since = ap (λ (s : SeatModel). s.since) is ∙ first.since;
    tickets = ap (λ (s : SeatModel). s.tickets) is ∙ (ap without_highest first.tickets ∙ without_highest-all k);
    seen = ap (λ (s : SeatModel). s.seen) is ∙ first.seen;
    none_made = ap (λ (s : SeatModel). s.mine) is ∙ first.none_made;
    calls = calls;
  }

  -- and the last one
  pub own_seat : (seat : SeatModel) → IsFirstSeat turn start 1 seat → 0 < workers → Knows turn start 0 (IsIdle 0) seat
  own_seat seat first some =
      knows_first 0 seat some first.of_turn first.opens first.since first.tickets first.seen first.calls

-- a worker that is given such a seat may begin
pub seated : (turn : TableId) (start : Search) (p : Problem) (k : ℕ) (worker : Worker) (seat : SeatModel)
    → start.opening.problem ≡ p → IsEnlisted p k worker → Knows turn start k (IsIdle k) seat
    → IsSeated turn start k (record worker { seat = Some seat })
seated turn start p k worker seat problem enlisted knows = record {
  is_number = enlisted.is_number;
  ready = record {
    seat = seat;
    has = refl;
    idle = subst (λ (n : ℕ). Knows turn start n (IsIdle n) seat) (sym enlisted.is_number) knows;
    room = subst (λ (q : Problem). HasRoom q (record worker { seat = Some seat })) (sym problem)
        (record { sets = enlisted.room.sets; table = enlisted.room.table });
  };
}

-- the workers from k on have their seats, those below are enlisted, and the seat is for these
pub record IsGiven (turn : TableId) (start : Search) (p : Problem) (k : ℕ) (crew : List Worker) (seat : SeatModel)
    : Type 0 where
  pub some : 0 < k
  pub first : IsFirstSeat turn start k seat
  pub have : (j : ℕ) (d : Worker) → k ≤ j → j < length crew → IsSeated turn start j (get_or crew j d)
  pub others : (j : ℕ) (d : Worker) → j < k → IsEnlisted p j (get_or crew j d)

-- what is so of worker i and of those after it
from-set : (P : ℕ → Worker → Type 0) (crew : List Worker) (i : ℕ) (worker : Worker) → i < length crew → P i worker
    → ((j : ℕ) (d : Worker) → i + 1 ≤ j → j < length crew → P j (get_or crew j d))
    → (j : ℕ) (d : Worker) → i ≤ j → j < length (set crew i worker) → P j (get_or (set crew i worker) j d)
from-set P crew i worker within is later j d from inside =
    let size = length-set crew i worker in
    elim (cases_eq j i) [
      | inl same ↦
          subst (λ (n : ℕ). P n (get_or (set crew i worker) n d)) (sym same)
          (subst (P i) (sym (get_or-set_same crew i worker d within)) is)
      | inr apart ↦
          subst (P j) (sym (get_or-set_other crew i j worker d apart))
          (later j d (omega (arith, from, apart)) (omega (arith, inside, size)))
    ]

module _ (turn : TableId) (start : Search) (p : Problem) (crew : List Worker) (fresh : IsFresh (length crew) start)
    (problem : start.opening.problem ≡ p) (seat : SeatModel) (d : Worker) where
  -- where the highest ticket is given away
  pub given_one : (k : ℕ) (rest last : SeatModel) → IsGiven turn start p k crew seat → 1 < k → k ≤ length crew
      → rest ≡ with_tickets seat (without_highest seat.tickets) → last ≡ with_tickets seat (only_highest seat.tickets)
      → KnowsCalls rest × KnowsCalls last
      → IsGiven turn start p (k - 1) (set crew (k - 1) (record (get_or crew (k - 1) d) { seat = Some last })) rest
  given_one k rest last given two few rest_is last_is knows =
      let i = k - 1 in
      let same : k ≡ i + 1 = omega (arith, two) in
      let worker : Worker = record (get_or crew i d) { seat = Some last } in
      let first : IsFirstSeat turn start (i + 1) seat = subst (λ (n : ℕ). IsFirstSeat turn start n seat) same
      given.first in
      let within : i < length crew = omega (arith, same, few) in
      let has : IsSeated turn start i worker =
      seated turn start p i (get_or crew i d) last problem (given.others i d (omega (arith, same)))
      (split_off turn start (length crew) fresh i seat last first within last_is knows.1) in
      record {
        some = omega (arith, two);
        first = left_over turn start (length crew) fresh i seat rest first rest_is knows.0;
        have = from-set (IsSeated turn start) crew i worker within has
            (λ j e from inside. given.have j e (omega (arith, from, same)) inside);
        others = λ j e below.
            let apart : j ≢ i = λ is. omega (arith, below, is) in
            subst (IsEnlisted p j) (sym (get_or-set_other crew i j worker e apart))
            (given.others j e (omega (arith, below, same)));
      }

  -- and once the last one has its own
  pub given_all : (k : ℕ) → IsGiven turn start p k crew seat → k ≤ 1 → 0 < length crew
      → AreSeated turn start (set crew 0 (record (get_or crew 0 d) { seat = Some seat }))
  given_all k given one some =
      let same : k ≡ 1 = omega (arith, given.some, one) in
      let worker : Worker = record (get_or crew 0 d) { seat = Some seat } in
      let first : IsFirstSeat turn start 1 seat = subst (λ (n : ℕ). IsFirstSeat turn start n seat) same given.first in
      let has : IsSeated turn start 0 worker =
      seated turn start p 0 (get_or crew 0 d) seat problem (given.others 0 d given.some)
      (own_seat turn start (length crew) fresh seat first some) in
      λ j e inside.
      from-set (IsSeated turn start) crew 0 worker some has
      (λ i f from within. given.have i f (omega (arith, from, same)) within) j e (omega arith) inside
