-- The seat that has all tickets has seen everything, and the value is in its slot.
use Rattle.std.proofs.Common.{◌≡◌, ℕ, ◌+◌, ◌<◌, true, false, List, [], ◌++◌, length, drop, sym, ap, ◌∙◌, subst, arith, append-nil}
use Rattle.std.proofs.lemmas.List.{drop-append-le}
use mathlib.Core.Logic.{dite}
use mathlib.Core.Option.{Option as Home, some}
use native.Mathlib.Decide.{ℕ_discrete}
use lib.ListN.{get_elem?}
use Rattle.std.specs.Prelude.{Option, Some, slice_index}
use Rattle.atomic_table.specs.Table.{Final, Seen}
use Rattle.vs_turn.specs.declared.seat.View.{View}
use Rattle.vs_turn.specs.Calls.{has_ticket, AreMadeBelow}
use Rattle.vs_turn.specs.Tickets.{lowest}
use Rattle.vs_turn.specs.Rule.{Origin, IsAt, Stands, Ruled, IsRuled}
use Rattle.vs_turn.proofs.TicketLists.{has_lowest, full_tickets}
use Rattle.vs_turn.proofs.CallLists.{AreMadeBelow-back, none_left}
use Rattle.vs_turn.proofs.Rules.{not_mine}

module _ {S : Type 0} (opening_of : S → List ℕ) (entries_of : S → List (List ℕ)) (o : Origin) where
  -- the value as the last seat finds it
  pub record Ends (v : View) (slots : List (Option S)) : Type 0 where
    pub value : S
    pub at : get_elem? slots 0 ≡ some (Some value)
    pub made_with : opening_of value ≡ o.opening
    pub opening : opening_of value ≡ v.opening
    pub entries : entries_of value ≡ v.seen

  module _ (word : ℕ) (homes : List (Home (Option S))) (views : List View)
      (r : Ruled opening_of entries_of o word homes views) (id : ℕ) (v : View) (here : IsAt views id v)
      (rests : v.has_turn ≡ false) (all : length v.tickets ≡ o.seats) where
    abbrev st : Stands o r.owner r.log word id v
    st = r.stands id v here

    every_ticket : (t : ℕ) → t < o.seats → has_ticket v.tickets t ≡ true
    every_ticket t h =
        let below : (x : ℕ) → has_ticket v.tickets x ≡ true → x < 0 + o.seats =
        λ x y. let b = (st.tickets x y).0 in omega arith in
        full_tickets 0 o.seats v.tickets st.rise all below t (omega arith) (omega arith)

    -- nobody else has a ticket, so nobody has the turn
    is_free : word ≡ 0
    is_free = dite (ℕ_discrete word 0) (λ e. e) (λ ne.
        let h = r.taken (omega arith) in
        let b = r.stands r.holder h.view h.is_at in
        let low : ℕ = lowest h.view.tickets in
        let mine = every_ticket low (b.tickets low (has_lowest h.view.tickets h.is_at.live)).0 in
        absurd (not_mine r here rests low mine (b.marked h.has_turn)))

    nothing_new : st.rest ≡ []
    nothing_new =
        let made = subst (AreMadeBelow o.seats)
        (ap (drop o.since) (sym st.begins) ∙ drop-append-le o.since v.seen st.rest st.begun) r.made in
        none_left o.seats v.tickets st.rest every_ticket (AreMadeBelow-back o.seats (drop o.since v.seen) st.rest made)
        st.unmade

    seen_all : r.log ≡ v.seen
    seen_all = sym st.begins ∙ (ap (λ l. v.seen ++ l) nothing_new ∙ append-nil v.seen)

    ended : (slots : List (Option S))
        → ((k : ℕ) (y : Option S) → get_elem? homes k ≡ some (some y) → get_elem? slots k ≡ some y) → Ends v slots
    ended slots given = let x = r.free is_free in record {
      value = x.value;
      at = given 0 (Some x.value) x.at;
      made_with = x.opening_is;
      opening = x.opening_is ∙ sym st.opening;
      entries = x.entries_are ∙ seen_all;
    }

  -- what a table is closed with
  pub closes : (id : ℕ) (v : View) (words : List ℕ) (slots : List (Option S)) → 0 < length v.tickets
      → v.has_turn ≡ false → length v.tickets ≡ o.seats
      → Final (Seen (IsRuled opening_of entries_of o) id v) words slots → Ends v slots
  closes id v words slots live rests all f =
      let s = f.0 in
      let here : IsAt s.views id v = record { at = f.1.1; live = live } in
      ended (slice_index s.words 0) s.homes s.views f.1.0.1 id v here rests all slots f.4
