-- What the rule of a turn says of two seats, and how a view changes in it.
use Rattle.std.proofs.Common.{◌≡◌, ◌≢◌, ℕ, zero, suc, ◌+◌, ⊎_elim, true, false, List, [], ◌∷◌, set, refl, sym, ap, ◌∙◌, subst, arith}
use mathlib.Core.Option.{Option as Home, some, some-injective, some-ne-none}
use lib.ListN.{get_elem?}
use Rattle.std.specs.Prelude.{Option}
use Rattle.vs_turn.specs.declared.seat.View.{View}
use Rattle.vs_turn.specs.Calls.{has_ticket}
use Rattle.vs_turn.specs.Tickets.{lowest}
use Rattle.vs_turn.specs.Rule.{Origin, IsAt, Ruled}
use Rattle.vs_turn.proofs.TicketLists.{true_or_false, true_not_false, has_lowest}

-- an element that is changed stays where it was
pub here_set : {A : Type 0} (l : List A) (i : ℕ) (a b : A) → get_elem? l i ≡ some a → get_elem? (set l i b) i ≡ some b
here_set [] i a b e = absurd (some-ne-none a (sym e))
here_set (x ∷ xs) zero a b e = refl
here_set (x ∷ xs) (suc i) a b e = here_set xs i a b e

-- at one number there is one view
pub one_there : {views : List View} {id : ℕ} {v w : View} → IsAt views id v → IsAt views id w → v ≡ w
one_there {v = v} {w = w} a b = some-injective v w (sym a.at ∙ b.at)

-- the views of one number and those of another
pub moved : {views : List View} {i j : ℕ} {v : View} → i ≡ j → IsAt views i v → IsAt views j v
moved {views = views} {v = v} e a = subst (λ (x : ℕ). IsAt views x v) e a

module _ {S : Type 0} {opening_of : S → List ℕ} {entries_of : S → List (List ℕ)} {o : Origin} {word : ℕ}
    {homes : List (Home (Option S))} {views : List View} (r : Ruled opening_of entries_of o word homes views) where
  -- a seat that hasn't the turn has no ticket by whose number the word says that it is taken
  pub not_mine : {id : ℕ} {v : View} → IsAt views id v → v.has_turn ≡ false
      → (t : ℕ) → has_ticket v.tickets t ≡ true → word ≢ 1 + t
  not_mine {id = id} {v = v} here rests t mine e =
      let h = r.taken (omega arith) in
      let a = r.stands id v here in
      let b = r.stands r.holder h.view h.is_at in
      let low : t ≡ lowest h.view.tickets = let w = b.marked h.has_turn in omega arith in
      let has : has_ticket h.view.tickets t ≡ true =
      subst (λ (x : ℕ). has_ticket h.view.tickets x ≡ true) (sym low) (has_lowest h.view.tickets h.is_at.live) in
      let same : r.holder ≡ id = sym (b.tickets t has).1 ∙ (a.tickets t mine).1 in
      let view_same : h.view ≡ v = one_there (moved same h.is_at) here in
      true_not_false (ap (λ (u : View). u.has_turn) (sym view_same) ∙ h.has_turn) rests

  -- two seats have no ticket in common
  pub tickets_apart : {i j : ℕ} {v w : View} → IsAt views i v → IsAt views j w → j ≢ i
      → (t : ℕ) → has_ticket v.tickets t ≡ true → has_ticket w.tickets t ≡ false
  tickets_apart {i = i} {j = j} {v = v} {w = w} here there ne t h = ⊎_elim
      (λ y. absurd (ne (sym ((r.stands j w there).tickets t y).1 ∙ ((r.stands i v here).tickets t h).1)))
      (λ n. n)
      (true_or_false (has_ticket w.tickets t))

  -- at most one seat has the turn
  pub one_has : {i j : ℕ} {v w : View} → IsAt views i v → IsAt views j w → j ≢ i
      → v.has_turn ≡ true → w.has_turn ≡ false
  one_has {i = i} {j = j} {v = v} {w = w} here there ne h = ⊎_elim
      (λ y.
      let a = (r.stands i v here).marked h in
      let b = (r.stands j w there).marked y in
      let low : lowest w.tickets ≡ lowest v.tickets = omega arith in
      let has : has_ticket w.tickets (lowest v.tickets) ≡ true =
      subst (λ (x : ℕ). has_ticket w.tickets x ≡ true) low (has_lowest w.tickets there.live) in
      absurd (true_not_false has (tickets_apart here there ne (lowest v.tickets) (has_lowest v.tickets here.live))))
      (λ n. n)
      (true_or_false w.has_turn)
