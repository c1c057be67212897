-- Splitting a seat that has made no entry keeps the rule.
use Rattle.std.proofs.Common.{◌≡◌, ◌≢◌, ℕ, zero, suc, ◌+◌, ◌-◌, ◌<◌, ◌≤◌, ◌⊎◌, inl, inr, ⊎_elim, Bool, true, false, cond, List, [], ◌∷◌, ◌++◌, length, set, take, drop, refl, sym, ap, ◌∙◌, subst, arith, length-set, length-take, length-drop}
use mathlib.Core.Option.{Option as Home, some, some-injective, some-ne-none}
use lib.ListN.{get_elem?}
use Rattle.std.specs.Prelude.{Option, slice_index}
use Rattle.atomic_table.specs.Table.{Splits}
use Rattle.atomic_table.proofs.Lists.{at_set, set_else, at_longer}
use Rattle.vs_turn.specs.declared.seat.View.{View}
use Rattle.vs_turn.specs.Calls.{has_ticket, calls_of, NoCalls}
use Rattle.vs_turn.specs.Tickets.{lowest}
use Rattle.vs_turn.specs.Rule.{Origin, IsAt, Stands, Holder, Ruled, IsRuled}
use Rattle.vs_turn.specs.Steps.{keeping, handed}
use Rattle.vs_turn.proofs.TicketLists.{true_or_false, true_not_false, has_lowest, has_take, has_drop, take_drop_apart, rise_take, rise_drop}
use Rattle.vs_turn.proofs.CallLists.{fewer_calls, fewer_calls_of}
use Rattle.vs_turn.proofs.Rules.{one_there, moved, not_mine, tickets_apart}

-- an element of a list that is one longer
at_end : {A : Type 0} (l : List A) (a b : A) (j : ℕ) → get_elem? (l ++ a ∷ []) j ≡ some b
    → (get_elem? l j ≡ some b) ⊎ ((j ≡ length l) × (a ≡ b))
at_end [] a b zero e = inr (refl, some-injective a b e)
at_end [] a b (suc j) e = absurd (some-ne-none b (sym e))
at_end (x ∷ xs) a b zero e = inl e
at_end (x ∷ xs) a b (suc j) e = ⊎_elim (λ p. inl p) (λ p. inr (ap suc p.0, p.1)) (at_end xs a b j e)

module _ {S : Type 0} (opening_of : S → List ℕ) (entries_of : S → List (List ℕ)) (o : Origin)
    (word : ℕ) (homes : List (Home (Option S))) (views : List View)
    (r : Ruled opening_of entries_of o word homes views) (id : ℕ) (v : View) (here : IsAt views id v)
    (two : 2 ≤ length v.tickets) (rests : v.has_turn ≡ false) (none_made : v.mine ≡ []) where
  abbrev st : Stands o r.owner r.log word id v
  st = r.stands id v here

  abbrev last : ℕ
  last = length v.tickets - 1

  -- the highest ticket is the new seat's
  abbrev owner : ℕ → ℕ
  owner t = cond (has_ticket (handed v).tickets t) (length views) (r.owner t)

  owner_handed : (t : ℕ) → has_ticket (handed v).tickets t ≡ true → owner t ≡ length views
  owner_handed t h = ap (λ (b : Bool). cond b (length views) (r.owner t)) h

  owner_other : (t : ℕ) → has_ticket (handed v).tickets t ≡ false → owner t ≡ r.owner t
  owner_other t h = ap (λ (b : Bool). cond b (length views) (r.owner t)) h

  -- what holds of a part of the tickets
  part : (ts : List ℕ) → ((t : ℕ) → has_ticket ts t ≡ true → has_ticket v.tickets t ≡ true) → 0 < length ts
      → (word ≡ 1 + lowest ts → ⊥) × (calls_of ts o.since v.seen ≡ v.mine) × NoCalls ts st.rest
  part ts within some_ticket = (
    not_mine r here rests (lowest ts) (within (lowest ts) (has_lowest ts some_ticket)),
    fewer_calls_of v.tickets ts o.since v.seen within (st.mine ∙ none_made) ∙ sym none_made,
    fewer_calls v.tickets ts st.rest within st.unmade,
  )

  keeper : Stands o owner r.log word id (keeping v)
  keeper =
      let p = part (take last v.tickets) (λ t h. has_take last t v.tickets h)
      (omega (arith, length-take last v.tickets)) in
      record {
        rise = rise_take last 0 v.tickets st.rise;
        tickets = λ t h.
            let a = st.tickets t (has_take last t v.tickets h) in
            (a.0, owner_other t (take_drop_apart last 0 t v.tickets st.rise h) ∙ a.1);
        marked = λ h. absurd (true_not_false h rests);
        only_marked = λ e. absurd (p.0 e);
        found = λ h. absurd (true_not_false h rests);
        opening = st.opening;
        since = st.since;
        begun = st.begun;
        mine = p.1;
        rest = st.rest;
        begins = st.begins;
        unmade = p.2;
        olds = st.olds;
      }

  newcomer : (j : ℕ) → j ≡ length views → Stands o owner r.log word j (handed v)
  newcomer j new =
      let p = part (drop last v.tickets) (λ t h. has_drop last t v.tickets h)
      (omega (arith, length-drop last v.tickets)) in
      record {
        rise = rise_drop last 0 v.tickets st.rise;
        tickets = λ t h. ((st.tickets t (has_drop last t v.tickets h)).0, owner_handed t h ∙ sym new);
        marked = λ h. absurd (true_not_false h rests);
        only_marked = λ e. absurd (p.0 e);
        found = λ h. absurd (true_not_false h rests);
        opening = st.opening;
        since = st.since;
        begun = st.begun;
        mine = p.1;
        rest = st.rest;
        begins = st.begins;
        unmade = p.2;
        olds = st.olds;
      }

  bystander : (j : ℕ) (u : View) → IsAt views j u → j ≢ id → Stands o owner r.log word j u
  bystander j u there ne =
      let su = r.stands j u there in
      record {
        rise = su.rise;
        tickets = λ t h.
            let not_handed : has_ticket (handed v).tickets t ≡ false = ⊎_elim
            (λ y. absurd (true_not_false h (tickets_apart r here there ne t (has_drop last t v.tickets y))))
            (λ f. f)
            (true_or_false (has_ticket (handed v).tickets t)) in
            ((su.tickets t h).0, owner_other t not_handed ∙ (su.tickets t h).1);
        marked = su.marked;
        only_marked = su.only_marked;
        found = su.found;
        opening = su.opening;
        since = su.since;
        begun = su.begun;
        mine = su.mine;
        rest = su.rest;
        begins = su.begins;
        unmade = su.unmade;
        olds = su.olds;
      }

  still_has : Holder views r.holder → Holder (set views id (keeping v) ++ handed v ∷ []) r.holder
  still_has h =
      let ne : r.holder ≢ id = λ e.
      let same = one_there (moved e h.is_at) here in
      true_not_false (ap (λ (u : View). u.has_turn) (sym same) ∙ h.has_turn) rests in
      let kept = set_else views id r.holder (keeping v) ne ∙ h.is_at.at in
      record {
        view = h.view;
        is_at = record {
          at = at_longer (set views id (keeping v)) (handed v ∷ []) r.holder h.view kept;
          live = h.is_at.live;
        };
        has_turn = h.has_turn;
      }

  split : Ruled opening_of entries_of o word homes (set views id (keeping v) ++ handed v ∷ [])
  split = record {
    log = r.log;
    owner = owner;
    few = r.few;
    in_range = r.in_range;
    free = r.free;
    holder = r.holder;
    taken = λ h. still_has (r.taken h);
    stands = λ j u there. ⊎_elim
        (λ old. ⊎_elim
        (λ t. subst (λ (z : ℕ × View). Stands o owner r.log word z.0 z.1) (λ i. (sym t.0 i, t.1 i)) keeper)
        (λ t. bystander j u record { at = t.1; live = there.live } t.0)
        (at_set views id j (keeping v) u old))
        (λ new. subst (Stands o owner r.log word j) new.1 (newcomer j (new.0 ∙ length-set views id (keeping v))))
        (at_end (set views id (keeping v)) (handed v) u j there.at);
    made = r.made;
  }

-- the step itself
pub splits : {S : Type 0} (opening_of : S → List ℕ) (entries_of : S → List (List ℕ)) (o : Origin) (id : ℕ) (v : View)
    → 2 ≤ length v.tickets → v.has_turn ≡ false → v.mine ≡ []
    → Splits (IsRuled opening_of entries_of o) id v (keeping v) (handed v)
splits opening_of entries_of o id v two rests none_made s k at =
    let here : IsAt s.views id v = record { at = at; live = omega arith } in (
      k.0,
      split opening_of entries_of o (slice_index s.words 0) s.homes s.views k.1 id v here two rests none_made,
    )
