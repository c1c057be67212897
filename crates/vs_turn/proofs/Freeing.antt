-- Giving up the turn, with the value put back, keeps the rule.
use Rattle.std.proofs.Common.{◌≡◌, ◌≢◌, ℕ, ◌<◌, ◌≤◌, ⊎_elim, true, List, [], ◌∷◌, ◌++◌, length, get_or, set, drop, refl, sym, ap, ◌∙◌, subst, arith, length-set, get_or-set_same, length-append, append-nil, append_assoc}
use Rattle.std.proofs.lemmas.List.{drop-append-le}
use Rattle.std.proofs.Math.Seq.{drop-append_seam}
use mathlib.Core.Option.{Option as Home, none, some}
use Rattle.std.specs.Prelude.{Option, Some, None}
use Rattle.atomic_table.specs.Seated.{TableId}
use Rattle.atomic_table.specs.Table.{step, gives, Allows}
use Rattle.atomic_table.proofs.Lists.{at_set, set_here}
use Rattle.vs_turn.specs.declared.seat.View.{View}
use Rattle.vs_turn.specs.Calls.{calls_of, AreMadeBelow, GoOn, numbered, new_calls}
use Rattle.vs_turn.specs.Seats.{SeatModel, seat_of, released_seat}
use Rattle.vs_turn.specs.Rule.{Origin, IsAt, Stands, Ruled, IsRuled}
use Rattle.vs_turn.specs.Steps.{released, Freed}
use Rattle.vs_turn.proofs.TicketLists.{true_not_false}
use Rattle.vs_turn.proofs.CallLists.{calls_of-append, all_calls, NoCalls-append, calls_of_another, made_below, AreMadeBelow-append}
use Rattle.vs_turn.proofs.Rules.{tickets_apart, one_has}

-- the calls after a release are those before it, and then the new ones
calls_added : (tickets : List ℕ) (since : ℕ) (before after : List (List ℕ)) → since ≤ length before
    → GoOn tickets before after
    → calls_of tickets since after ≡ calls_of tickets since before ++ new_calls before after
calls_added tickets since before after begun on =
    let new = on.new in
    let rest : new ≡ drop (length before) after =
    sym (drop-append_seam before new) ∙ ap (drop (length before)) on.begins in
    ap (calls_of tickets since) (sym on.begins)
    ∙ (calls_of-append tickets since before new begun
    ∙ ap (λ l. calls_of tickets since before ++ l)
    (all_calls (length before) tickets new on.calls ∙ ap (numbered (length before)) rest))

-- a seat that has given up the turn, as contracts see it
pub seat_released : (z : TableId) (v : View) (entries : List (List ℕ)) → v.since ≤ length v.found
    → calls_of v.tickets v.since v.found ≡ v.mine → GoOn v.tickets v.found entries
    → seat_of z (released v entries) ≡ released_seat (seat_of z v) v.found entries
seat_released z v entries begun mine on =
    let calls : calls_of v.tickets v.since entries ≡ v.mine ++ new_calls v.found entries =
    calls_added v.tickets v.since v.found entries begun on ∙ ap (λ l. l ++ new_calls v.found entries) mine in
    let with : List (ℕ × List ℕ) → SeatModel = λ cs. record {
      turn = z;
      opening = v.opening;
      since = v.since;
      tickets = v.tickets;
      seen = entries;
      mine = cs;
    } in
    ap with calls

module _ {S : Type 0} (opening_of : S → List ℕ) (entries_of : S → List (List ℕ)) (o : Origin) where
  module _ (word : ℕ) (homes : List (Home (Option S))) (views : List View)
      (r : Ruled opening_of entries_of o word homes views) (id : ℕ) (v : View) (here : IsAt views id v)
      (has : v.has_turn ≡ true) (value : S) (same : opening_of value ≡ v.opening)
      (on : GoOn v.tickets v.found (entries_of value)) (wide : 0 < length homes) where
    abbrev st : Stands o r.owner r.log word id v
    st = r.stands id v here

    -- the history goes on with the new entries
    longer_log : r.log ++ on.new ≡ entries_of value
    longer_log = ap (λ l. l ++ on.new) (sym (st.found has)) ∙ on.begins

    log_long : o.since ≤ length r.log
    log_long = let b = st.begun in let l = ap length st.begins in omega (arith, length-append v.seen st.rest)

    leaver : Stands o r.owner (entries_of value) 0 id (released v (entries_of value))
    leaver = record {
      rise = st.rise;
      tickets = st.tickets;
      marked = λ h. absurd (true_not_false h refl);
      only_marked = λ e. absurd (omega arith);
      found = λ h. absurd (true_not_false h refl);
      opening = st.opening;
      since = st.since;
      begun = let l = ap length longer_log in let b = log_long in omega (arith, length-append r.log on.new);
      mine = ap (λ (n : ℕ). calls_of v.tickets n (entries_of value)) (sym st.since);
      rest = [];
      begins = append-nil (entries_of value);
      unmade = tt;
      olds = tt;
    }

    bystander : (j : ℕ) (u : View) → IsAt views j u → j ≢ id → Stands o r.owner (entries_of value) 0 j u
    bystander j u there ne =
        let su = r.stands j u there in
        let not = one_has r here there ne has in
        record {
          rise = su.rise;
          tickets = su.tickets;
          marked = λ h. absurd (true_not_false h not);
          only_marked = λ e. absurd (omega arith);
          found = λ h. absurd (true_not_false h not);
          opening = su.opening;
          since = su.since;
          begun = su.begun;
          mine = su.mine;
          rest = su.rest ++ on.new;
          begins = sym (append_assoc u.seen su.rest on.new) ∙ (ap (λ l. l ++ on.new) su.begins ∙ longer_log);
          unmade = NoCalls-append u.tickets su.rest on.new su.unmade
              (calls_of_another v.tickets u.tickets on.new (tickets_apart r here there ne) on.calls);
          olds = su.olds;
        }

    freed : Ruled opening_of entries_of o 0 (set homes 0 (some (Some value)))
        (set views id (released v (entries_of value)))
    freed = record {
      log = entries_of value;
      owner = r.owner;
      few = r.few;
      in_range = omega arith;
      free = λ _. record {
        value = value;
        at = set_here homes 0 (some (Some value)) wide;
        opening_is = same ∙ st.opening;
        entries_are = refl;
      };
      holder = id;
      taken = λ h. absurd (omega arith);
      stands = λ j u there. ⊎_elim
          (λ t. subst (λ (z : ℕ × View). Stands o r.owner (entries_of value) 0 z.0 z.1) (λ i. (sym t.0 i, t.1 i))
          leaver)
          (λ t. bystander j u record { at = t.1; live = there.live } t.0)
          (at_set views id j (released v (entries_of value)) u there.at);
      made =
          let added = made_below o.seats v.tickets on.new (λ t h. (st.tickets t h).0) on.calls in
          subst (λ l. AreMadeBelow o.seats (drop o.since l)) longer_log
          (subst (AreMadeBelow o.seats) (sym (drop-append-le o.since r.log on.new log_long))
          (AreMadeBelow-append o.seats (drop o.since r.log) on.new r.made added));
    }

  abbrev value_in : S → List (ℕ × Option S) → S
  value_in d [] = d
  value_in d ((k, Some x) ∷ xs) = x
  value_in d ((k, None) ∷ xs) = d

  -- the step itself
  pub frees : (slots id : ℕ) (v : View) (value : S) → 0 < slots → 0 < length v.tickets → v.has_turn ≡ true
      → opening_of value ≡ v.opening → GoOn v.tickets v.found (entries_of value)
      → Allows (IsRuled opening_of entries_of o) slots id (v, (0, Some value) ∷ []) 0 (λ _. 0)
      (λ _. Freed entries_of (step slots 0 0 0 none) (v, (0, Some value) ∷ []) 0)
  frees slots id v value some_slot live has same on s k full at _ =
      let wide = k.0 in
      let w : View = released v (entries_of value) in
      let read : get_or (set s.words 0 0) 0 0 ≡ 0 = get_or-set_same s.words 0 0 0 (omega arith) in
      let here : IsAt s.views id v = record { at = at; live = live } in (
        w,
        gives,
        tt,
        (
          length-set s.words 0 0 ∙ wide,
          subst (λ (z : ℕ). Ruled opening_of entries_of o z (set s.homes 0 (some (Some value))) (set s.views id w))
              (sym read) (freed (get_or s.words 0 0) s.homes s.views k.1 id v here has value same on (omega arith)),
        ),
        λ other e. ap (λ (y : S). (released v (entries_of y), [])) (ap (value_in value) e),
      )
