-- Taking the turn keeps the rule, and shows the value as the seat finds it.
use Rattle.std.proofs.Common.{◌≡◌, ◌≢◌, ℕ, ◌+◌, ◌<◌, ◌≤◌, ⊎_elim, true, false, eqb, List, ◌++◌, length, get_or, set, drop, refl, sym, ap, ◌∙◌, subst, arith, eq-eqb, ne_eqb, length-set, get_or-set_same, length-append}
use Rattle.std.proofs.Math.Seq.{drop-append_seam}
use mathlib.Core.Logic.{dite}
use mathlib.Core.Option.{Option as Home, none, some}
use native.Mathlib.Decide.{ℕ_discrete}
use lib.ListN.{get_elem?}
use prog.Atomic.{either}
use Rattle.std.specs.Prelude.{Option, Some}
use Rattle.atomic_table.specs.Table.{State, Me, step, takes, keeps, stepped, Allows}
use Rattle.atomic_table.proofs.Lists.{at_set, set_again}
use Rattle.vs_turn.specs.declared.seat.View.{View}
use Rattle.vs_turn.specs.Calls.{has_ticket, calls_of, NoCalls}
use Rattle.vs_turn.specs.Tickets.{lowest}
use Rattle.vs_turn.specs.Rule.{Origin, IsAt, Stands, Rests, Ruled, IsRuled}
use Rattle.vs_turn.specs.Steps.{holding, Finds, Took}
use Rattle.vs_turn.proofs.TicketLists.{true_not_false, has_lowest}
use Rattle.vs_turn.proofs.CallLists.{still_all_calls}
use Rattle.vs_turn.proofs.Rules.{here_set, tickets_apart}

module _ {S : Type 0} (opening_of : S → List ℕ) (entries_of : S → List (List ℕ)) (o : Origin) where
  abbrev R : State (Option S) View → Type 0
  R = IsRuled opening_of entries_of o

  -- a step that changes nothing
  pub unmoved : (s : State (Option S) View) → IsRuled opening_of entries_of o s → (id : ℕ) (me : Me (Option S) View)
      → get_elem? s.views id ≡ some me.0
      → IsRuled opening_of entries_of o (stepped s 0 (get_or s.words 0 0) id me.1 me.0 keeps)
  unmoved s k id me at =
      let wide = k.0 in
      let n : ℕ = get_or s.words 0 0 in
      let word : get_or (set s.words 0 n) 0 0 ≡ n = get_or-set_same s.words 0 n 0 (omega arith) in (
        length-set s.words 0 n ∙ wide,
        subst (λ (z : ℕ × List View). Ruled opening_of entries_of o z.0 s.homes z.1)
            (λ i. (sym word i, sym (set_again s.views id me.0 at) i)) k.1,
      )

  -- the value in the slot, as a seat sees it
  found : {log : List (List ℕ)} {owner : ℕ → ℕ} {word id : ℕ} {v : View} {homes : List (Home (Option S))}
      → Stands o owner log word id v → (x : Rests opening_of entries_of o.opening log homes)
      → Finds opening_of entries_of v x.value
  found {v = v} st x =
      let es : List (List ℕ) = entries_of x.value in
      let same : es ≡ v.seen ++ st.rest = x.entries_are ∙ sym st.begins in
      let begun = st.begun in
      let since = st.since in
      record {
        opening = x.opening_is ∙ sym st.opening;
        begun =
            let l = ap length same in
            let m : v.since ≤ length (v.seen ++ st.rest) = omega (arith, length-append v.seen st.rest) in
            omega arith;
        begins = (st.rest, sym same);
        unmade = subst (λ l. NoCalls v.tickets (drop (length v.seen) l)) (sym same)
            (subst (NoCalls v.tickets) (sym (drop-append_seam v.seen st.rest)) st.unmade);
        mine = ap (λ (n : ℕ). calls_of v.tickets n es) since
            ∙ (ap (calls_of v.tickets o.since) same
            ∙ (still_all_calls v.tickets o.since v.seen st.rest begun st.unmade ∙ st.mine));
      }

  module _ (homes : List (Home (Option S))) (views : List View) (r : Ruled opening_of entries_of o 0 homes views)
      (id : ℕ) (v : View) (here : IsAt views id v) (mark : ℕ) (marks : mark ≡ 1 + lowest v.tickets)
      (x : Rests opening_of entries_of o.opening r.log homes) where
    abbrev w : View
    w = holding v (entries_of x.value)

    taker : Stands o r.owner r.log mark id w
    taker = let st = r.stands id v here in record {
      rise = st.rise;
      tickets = st.tickets;
      marked = λ _. marks;
      only_marked = λ _. refl;
      found = λ _. x.entries_are;
      opening = st.opening;
      since = st.since;
      begun = st.begun;
      mine = st.mine;
      rest = st.rest;
      begins = st.begins;
      unmade = st.unmade;
      olds = st.olds;
    }

    bystander : (j : ℕ) (u : View) → IsAt views j u → j ≢ id → Stands o r.owner r.log mark j u
    bystander j u there ne = let st = r.stands j u there in record {
      rise = st.rise;
      tickets = st.tickets;
      marked = λ h. let e = st.marked h in absurd (omega arith);
      only_marked = λ e.
          let low : lowest u.tickets ≡ lowest v.tickets = omega arith in
          let has : has_ticket u.tickets (lowest v.tickets) ≡ true =
          subst (λ (t : ℕ). has_ticket u.tickets t ≡ true) low (has_lowest u.tickets there.live) in
          absurd (true_not_false has
          (tickets_apart r here there ne (lowest v.tickets) (has_lowest v.tickets here.live)));
      found = λ h. let e = st.marked h in absurd (omega arith);
      opening = st.opening;
      since = st.since;
      begun = st.begun;
      mine = st.mine;
      rest = st.rest;
      begins = st.begins;
      unmade = st.unmade;
      olds = st.olds;
    }

    taken : Ruled opening_of entries_of o mark (set homes 0 none) (set views id w)
    taken = record {
      log = r.log;
      owner = r.owner;
      few = r.few;
      in_range =
          let b = ((r.stands id v here).tickets (lowest v.tickets) (has_lowest v.tickets here.live)).0 in
          omega arith;
      free = λ z. absurd (omega arith);
      holder = id;
      taken = λ _. record {
        view = w;
        is_at = record { at = here_set views id v w here.at; live = here.live };
        has_turn = refl;
      };
      stands = λ j u there. ⊎_elim
          (λ t. subst (λ (z : ℕ × View). Stands o r.owner r.log mark z.0 z.1) (λ i. (sym t.0 i, t.1 i)) taker)
          (λ t. bystander j u record { at = t.1; live = there.live } t.0)
          (at_set views id j w u there.at);
      made = r.made;
    }

  -- the step itself
  pub takes_turn : (slots id : ℕ) (me : Me (Option S) View) (mark : ℕ) → me.0.has_turn ≡ false → 0 < length me.0.tickets
      → mark ≡ 1 + lowest me.0.tickets
      → Allows (IsRuled opening_of entries_of o) slots id me 0 (λ n. either (eqb n 0) mark n)
      (Took opening_of entries_of (step slots 0 0 mark none) me)
  takes_turn slots id me mark rests live marks s k _ at _ =
      let word : ℕ = get_or s.words 0 0 in
      let wide = k.0 in
      let here : IsAt s.views id me.0 = record { at = at; live = live } in
      dite (ℕ_discrete word 0)
      (λ hit.
      let r : Ruled opening_of entries_of o 0 s.homes s.views =
      subst (λ (z : ℕ). Ruled opening_of entries_of o z s.homes s.views) hit k.1 in
      let x : Rests opening_of entries_of o.opening r.log s.homes = r.free refl in
      let w : View = holding me.0 (entries_of x.value) in
      let read : get_or (set s.words 0 mark) 0 0 ≡ mark = get_or-set_same s.words 0 mark 0 (omega arith) in (
        w,
        takes 0 (Some x.value),
        x.at,
        subst (λ b. R (stepped s 0 (either b mark word) id me.1 w (takes 0 (Some x.value))))
            (sym (eq-eqb word 0 hit)) (
              length-set s.words 0 mark ∙ wide,
              subst (λ (z : ℕ). Ruled opening_of entries_of o z (set s.homes 0 none) (set s.views id w)) (sym read)
                  (taken s.homes s.views r id me.0 here mark marks x),
            ),
        (
          (λ _. record { value = x.value; finds = found (r.stands id me.0 here) x; after_is = refl }),
          λ ne. absurd (ne hit),
        ),
      ))
      (λ miss. (
        me.0,
        keeps,
        tt,
        subst (λ b. R (stepped s 0 (either b mark word) id me.1 me.0 keeps)) (sym (ne_eqb word 0 miss))
            (unmoved s k id me at),
        (
          (λ hit. absurd (miss hit)),
          λ _. (refl, let few = k.1.few in let range = k.1.in_range in omega arith),
        ),
      ))
