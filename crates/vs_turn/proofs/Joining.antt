-- Joining two seats keeps the rule, and the look after it tells how what they had seen hangs together.
use Rattle.std.proofs.Common.{◌≡◌, ◌≢◌, ℕ, ◌<◌, ◌≤◌, ⊎_elim, Bool, true, false, cond, List, [], ◌∷◌, ◌++◌, length, set, drop, refl, sym, ap, ◌∙◌, subst, arith, append-nil}
use mathlib.Core.Option.{Option as Home, none}
use mathlib.Core.List.{IsPrefix}
use Rattle.std.specs.Prelude.{Option, nat_lt, slice_index}
use Rattle.std.proofs.lemmas.Bool.{ltb-true, ltb-false}
use Rattle.atomic_table.specs.Table.{Me, step, keeps, Allows, Joins}
use Rattle.atomic_table.proofs.Lists.{at_set, set_else}
use Rattle.vs_turn.specs.declared.seat.View.{View}
use Rattle.vs_turn.specs.Calls.{has_ticket, calls_of, NoCalls, merged_calls, longer}
use Rattle.vs_turn.specs.Tickets.{lowest, merged_tickets}
use Rattle.vs_turn.specs.Rule.{Origin, IsAt, Stands, Holder, Ruled, IsRuled}
use Rattle.vs_turn.specs.Steps.{joined, spent, Learned, Looked}
use Rattle.vs_turn.proofs.TicketLists.{true_or_false, true_not_false, has_lowest, few_tickets}
use Rattle.vs_turn.proofs.CallLists.{NoCalls-front, NoCalls-back, still_all_calls}
use Rattle.vs_turn.proofs.MergedTickets.{length-merged, merged_has, rise-merged}
use Rattle.vs_turn.proofs.MergedCalls.{calls_from-merged, NoCalls-merged}
use Rattle.vs_turn.proofs.Rules.{one_there, moved, not_mine, tickets_apart}
use Rattle.vs_turn.proofs.Taking.{unmoved}

-- two beginnings of one list: the shorter begins the longer
between : {A : Type 0} (xs ys r q : List A) → xs ++ r ≡ ys ++ q → length xs ≤ length ys
    → (m : List A) × (xs ++ m ≡ ys) × (m ++ q ≡ r)
between [] ys r q e h = (ys, refl, sym e)
between (x ∷ xs) [] r q e h = absurd (omega arith)
between (x ∷ xs) (y ∷ ys) r q e h =
    let same : x ≡ y = cc e in
    let rest : xs ++ r ≡ ys ++ q = cc e in
    let b = between xs ys r q rest (omega arith) in
    (b.0, (λ i. same i ∷ b.1 i), b.2)

-- what two seats know together, of whom the second has seen no less
pub record Together (ts us : List ℕ) (since : ℕ) (seen : List (List ℕ)) (mine theirs : List (ℕ × List ℕ))
    (log : List (List ℕ)) (a b : List (List ℕ)) : Type 0 where
  pub begun : since ≤ length seen
  pub calls : calls_of (merged_tickets ts us) since seen ≡ merged_calls mine theirs
  pub rest : List (List ℕ)
  pub begins : seen ++ rest ≡ log
  pub unmade : NoCalls (merged_tickets ts us) rest
  pub first : IsPrefix a seen
  pub second : IsPrefix b seen

-- which of two seats has seen more
longer_second : (xs ys : List (List ℕ)) → nat_lt (length xs) (length ys) ≡ true → longer xs ys ≡ ys
longer_second xs ys h = ap (λ (b : Bool). cond b ys xs) h

longer_first : (xs ys : List (List ℕ)) → nat_lt (length xs) (length ys) ≡ false → longer xs ys ≡ xs
longer_first xs ys h = ap (λ (b : Bool). cond b ys xs) h

module _ (o : Origin) (owner : ℕ → ℕ) (log : List (List ℕ)) (word : ℕ) (i j : ℕ) (v w : View)
    (a : Stands o owner log word i v) (b : Stands o owner log word j w)
    (apart : (t : ℕ) → has_ticket v.tickets t ≡ true → has_ticket w.tickets t ≡ false) where
  both_calls : (seen : List (List ℕ)) → calls_of v.tickets o.since seen ≡ v.mine
      → calls_of w.tickets o.since seen ≡ w.mine
      → calls_of (merged_tickets v.tickets w.tickets) o.since seen ≡ merged_calls v.mine w.mine
  both_calls seen p q = calls_from-merged o.since v.tickets w.tickets (drop o.since seen) apart
      ∙ (λ k. merged_calls (p k) (q k))

  second_longer : length v.seen ≤ length w.seen
      → Together v.tickets w.tickets o.since w.seen v.mine w.mine log v.seen w.seen
  second_longer h =
      let m = between v.seen w.seen a.rest b.rest (a.begins ∙ sym b.begins) h in
      let unmade : NoCalls v.tickets (m.0 ++ b.rest) = subst (NoCalls v.tickets) (sym m.2) a.unmade in
      record {
        begun = b.begun;
        calls = both_calls w.seen
            (ap (calls_of v.tickets o.since) (sym m.1)
            ∙ (still_all_calls v.tickets o.since v.seen m.0 a.begun (NoCalls-front v.tickets m.0 b.rest unmade)
            ∙ a.mine)) b.mine;
        rest = b.rest;
        begins = b.begins;
        unmade = NoCalls-merged v.tickets w.tickets b.rest (NoCalls-back v.tickets m.0 b.rest unmade) b.unmade;
        first = (m.0, m.1);
        second = ([], append-nil w.seen);
      }

  first_longer : length w.seen ≤ length v.seen
      → Together v.tickets w.tickets o.since v.seen v.mine w.mine log v.seen w.seen
  first_longer h =
      let m = between w.seen v.seen b.rest a.rest (b.begins ∙ sym a.begins) h in
      let unmade : NoCalls w.tickets (m.0 ++ a.rest) = subst (NoCalls w.tickets) (sym m.2) b.unmade in
      record {
        begun = a.begun;
        calls = both_calls v.seen a.mine
            (ap (calls_of w.tickets o.since) (sym m.1)
            ∙ (still_all_calls w.tickets o.since w.seen m.0 b.begun (NoCalls-front w.tickets m.0 a.rest unmade)
            ∙ b.mine));
        rest = a.rest;
        begins = a.begins;
        unmade = NoCalls-merged v.tickets w.tickets a.rest a.unmade (NoCalls-back w.tickets m.0 a.rest unmade);
        first = ([], append-nil v.seen);
        second = (m.0, m.1);
      }

  -- what both seats know, whichever has seen more
  pub together : Together v.tickets w.tickets o.since (longer v.seen w.seen) v.mine w.mine log v.seen w.seen
  together =
      let P : List (List ℕ)
      → Type 0 = λ seen. Together v.tickets w.tickets o.since seen v.mine w.mine log v.seen w.seen in
      ⊎_elim
      (λ y. subst P (sym (longer_second v.seen w.seen y))
      (second_longer (let l = ltb-true (length v.seen) (length w.seen) y in omega arith)))
      (λ n. subst P (sym (longer_first v.seen w.seen n))
      (first_longer (ltb-false (length v.seen) (length w.seen) n)))
      (true_or_false (nat_lt (length v.seen) (length w.seen)))

module _ {S : Type 0} (opening_of : S → List ℕ) (entries_of : S → List (List ℕ)) (o : Origin)
    (word : ℕ) (homes : List (Home (Option S))) (views : List View)
    (r : Ruled opening_of entries_of o word homes views)
    (id : ℕ) (v : View) (here : IsAt views id v) (rests : v.has_turn ≡ false)
    (other : ℕ) (w : View) (there : IsAt views other w) (idle : w.has_turn ≡ false) (ne : other ≢ id) where
  -- the tickets of the second become the first one's
  abbrev owner : ℕ → ℕ
  owner t = cond (has_ticket w.tickets t) id (r.owner t)

  owner_theirs : (t : ℕ) → has_ticket w.tickets t ≡ true → owner t ≡ id
  owner_theirs t h = ap (λ (b : Bool). cond b id (r.owner t)) h

  owner_else : (t : ℕ) → has_ticket w.tickets t ≡ false → owner t ≡ r.owner t
  owner_else t h = ap (λ (b : Bool). cond b id (r.owner t)) h

  both : Stands o owner r.log word id (joined v w)
  both =
      let a = r.stands id v here in
      let b = r.stands other w there in
      let apart = tickets_apart r here there ne in
      let k = together o r.owner r.log word id other v w a b apart in
      let ts : List ℕ = merged_tickets v.tickets w.tickets in
      let low : ℕ = lowest ts in
      let count = length-merged v.tickets w.tickets in
      let live = here.live in
      let has : has_ticket ts low ≡ true = has_lowest ts (omega arith) in
      record {
        rise = rise-merged 0 v.tickets w.tickets a.rise b.rise apart;
        tickets = λ t h. ⊎_elim
            (λ p. ((a.tickets t p).0, owner_else t (apart t p) ∙ (a.tickets t p).1))
            (λ p. ((b.tickets t p).0, owner_theirs t p))
            (merged_has v.tickets w.tickets t h);
        marked = λ h. absurd (true_not_false h rests);
        only_marked = λ e. absurd (⊎_elim
            (λ p. not_mine r here rests low p e)
            (λ p. not_mine r there idle low p e)
            (merged_has v.tickets w.tickets low has));
        found = λ h. absurd (true_not_false h rests);
        opening = a.opening;
        since = a.since;
        begun = k.begun;
        mine = k.calls;
        rest = k.rest;
        begins = k.begins;
        unmade = k.unmade;
        olds = (k.first, (k.second, tt));
      }

  bystander : (j : ℕ) (u : View) → IsAt views j u → j ≢ other → Stands o owner r.log word j u
  bystander j u at far =
      let su = r.stands j u at in
      let not_theirs = tickets_apart r at there (λ e. far (sym e)) in
      record {
        rise = su.rise;
        tickets = λ t h. ((su.tickets t h).0, owner_else t (not_theirs t h) ∙ (su.tickets t h).1);
        marked = su.marked;
        only_marked = su.only_marked;
        found = su.found;
        opening = su.opening;
        since = su.since;
        begun = su.begun;
        mine = su.mine;
        rest = su.rest;
        begins = su.begins;
        unmade = su.unmade;
        olds = su.olds;
      }

  apart_from : (h : Holder views r.holder) (k : ℕ) (u : View) → IsAt views k u → u.has_turn ≡ false → r.holder ≢ k
  apart_from h k u at not e =
      let same = one_there (moved e h.is_at) at in
      true_not_false (ap (λ (x : View). x.has_turn) (sym same) ∙ h.has_turn) not

  still_has : Holder views r.holder → Holder (set (set views id (joined v w)) other spent) r.holder
  still_has h = record {
    view = h.view;
    is_at = record {
      at = set_else (set views id (joined v w)) other r.holder spent (apart_from h other w there idle)
          ∙ (set_else views id r.holder (joined v w) (apart_from h id v here rests) ∙ h.is_at.at);
      live = h.is_at.live;
    };
    has_turn = h.has_turn;
  }

  join : Ruled opening_of entries_of o word homes (set (set views id (joined v w)) other spent)
  join = record {
    log = r.log;
    owner = owner;
    few = r.few;
    in_range = r.in_range;
    free = r.free;
    holder = r.holder;
    taken = λ h. still_has (r.taken h);
    stands = λ j u at. ⊎_elim
        (λ gone.
        let none_left : length u.tickets ≡ 0 = ap (λ (x : View). length x.tickets) (sym gone.1) in
        let live = at.live in
        absurd (omega arith))
        (λ t. ⊎_elim
        (λ x. subst (λ (z : ℕ × View). Stands o owner r.log word z.0 z.1) (λ i. (sym x.0 i, x.1 i)) both)
        (λ x. bystander j u record { at = x.1; live = at.live } t.0)
        (at_set views id j (joined v w) u t.1))
        (at_set (set views id (joined v w)) other j spent u at.at);
    made = r.made;
  }

module _ {S : Type 0} (opening_of : S → List ℕ) (entries_of : S → List (List ℕ)) (o : Origin) where
  -- the step itself
  pub joins : (id : ℕ) (v : View) (other : ℕ) (w : View) → 0 < length v.tickets → v.has_turn ≡ false
      → 0 < length w.tickets → w.has_turn ≡ false
      → Joins (IsRuled opening_of entries_of o) id v other w (joined v w) spent
  joins id v other w live rests alive idle s k at ne there =
      let here : IsAt s.views id v = record { at = at; live = live } in
      let beside : IsAt s.views other w = record {
        at = sym (set_else s.views id other (joined v w) ne) ∙ there;
        live = alive;
      } in (
        k.0,
        join opening_of entries_of o (slice_index s.words 0) s.homes s.views k.1 id v here rests other w beside idle ne,
      )

  -- the look after it
  pub looks : (slots id : ℕ) (me : Me (Option S) View) → 0 < length me.0.tickets
      → Allows (IsRuled opening_of entries_of o) slots id me 0 (λ n. n) (Looked (step slots 0 0 0 none) me)
  looks slots id me live s k _ at _ =
      let st = k.1.stands id me.0 record { at = at; live = live } in
      let few = few_tickets 0 o.seats me.0.tickets st.rise (omega arith) (λ t h. (st.tickets t h).0) in
      let seats = k.1.few in
      let since = st.since in
      let begun = st.begun in
      let learned : Learned me.0 = record {
        rise = st.rise;
        few = omega arith;
        begun = omega arith;
        mine = ap (λ (n : ℕ). calls_of me.0.tickets n me.0.seen) since ∙ st.mine;
        olds = st.olds;
      } in
      (me.0, keeps, tt, unmoved opening_of entries_of o s k id me at, (refl, learned))
