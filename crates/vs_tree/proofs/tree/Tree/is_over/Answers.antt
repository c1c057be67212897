use Rattle.std.proofs.Common.{◌≡◌, Bool, List, Option, ℤ, ap, sym, ◌∙◌, subst, arith, count_by, inl, inr, not, refl, true, false}
use Rattle.vs_prices.specs.Bounds.{IsBelow}
use Rattle.vs_tree.specs.declared.calls.Hand.{Hand}
use Rattle.vs_tree.specs.History.{known, state_of}
use Rattle.vs_tree.specs.Search.{Search, is_busy, state}
use Rattle.vs_tree.specs.Takes.{IsOver, held_leaves}
use Rattle.vs_tree.proofs.search.Inside.{opening_of, parts_of}
use Rattle.vs_tree.proofs.search.Next.{known-is, next_is_left, next_leaf, none_is_left, nothing_below}
use Rattle.vs_tree.proofs.tree.Tree.is_over.Goals as goal

-- a leaf is held
pub returns-then-busy-gt0 : goal.returns-then-busy-gt0
returns-then-busy-gt0 c =
    let i = c.self.inside in
    let is = c.self.invariant in
    let held : c.busy.result ≡ held_leaves (state_of (opening_of i) (parts_of i).log.steps) =
    c.busy.ensures ∙ ap (λ (x : List Hand). count_by is_busy x) c.deref.ensures.value ∙ is.parts.busy in (
      λ yes. absurd cc,
      λ over.
          let none : held_leaves (state_of (opening_of i) (parts_of i).log.steps) ≡ 0 =
          subst (λ (t : Search). held_leaves (state t) ≡ 0) (sym c.self.view_is) over.none_held in
          absurd (omega (arith, held, none, c.if-busy-gt0.true)),
    )

-- the budget is spent
pub returns-then-self : goal.returns-then-self
returns-then-self c =
    let i = c.self.inside in
    let is = c.self.invariant in
    let held : c.busy.result ≡ held_leaves (state_of (opening_of i) (parts_of i).log.steps) =
    c.busy.ensures ∙ ap (λ (x : List Hand). count_by is_busy x) c.deref.ensures.value ∙ is.parts.busy in
    let none : held_leaves (state_of (opening_of i) (parts_of i).log.steps) ≡ 0 =
    omega (arith, held, c.if-busy-gt0.false) in (
      λ yes. subst (λ (t : Search). IsOver t.opening (state t)) c.self.view_is (record {
        none_held = none;
        no_more = inr (is.parts.finished ∙ c.if-self.true);
      }),
      λ over. refl,
    )

-- the next leaf tells
pub returns-in-Some : goal.returns-in-Some
returns-in-Some c =
    let i = c.self.inside in
    let o = opening_of i in
    let a = parts_of i in
    let is = c.self.invariant in
    let knows : c.known.result ≡ known (state_of o a.log.steps) = c.known.ensures ∙ known-is o a is in
    let held : c.busy.result ≡ held_leaves (state_of o a.log.steps) =
    c.busy.ensures ∙ ap (λ (x : List Hand). count_by is_busy x) c.deref.ensures.value ∙ is.parts.busy in
    let none : held_leaves (state_of o a.log.steps) ≡ 0 = omega (arith, held, c.if-busy-gt0.false) in (
      λ yes.
          let no : c.is_below.result ≡ false = not_true c.is_below.result yes in
          subst (λ (t : Search). IsOver t.opening (state t)) c.self.view_is (record {
            none_held = none;
            no_more = inl (nothing_below o a is c.in-Some.next c.in-Some.ensures
                (λ below. absurd (let yes : c.is_below.result ≡ true = c.is_below.ensures.1
                (subst (λ (q : Option ℤ). IsBelow c.in-Some.next.worth q) (sym knows) below) in cc)));
          }),
      λ over.
          let was : IsOver o (state_of o a.log.steps) =
          subst (λ (t : Search). IsOver t.opening (state t)) (sym c.self.view_is) over in
          not_below c.is_below.result (λ below.
          let left = next_is_left o a is c.in-Some.next.leaf (next_leaf o a is c.in-Some.next c.in-Some.ensures
          (subst (λ (q : Option ℤ). IsBelow c.in-Some.next.worth q) knows (c.is_below.ensures.0 below))) in
          elim was.no_more [
            | inl nothing ↦ nothing left
            | inr spent ↦ c.if-self.false (sym is.parts.finished ∙ spent)
          ]),
    )
  where
    not_true : (b : Bool) → not b ≡ true → b ≡ false
    not_true true e = absurd cc
    not_true false e = refl

    not_below : (b : Bool) → ¬ (b ≡ true) → not b ≡ true
    not_below true never = absurd (never refl)
    not_below false never = refl

-- no leaf is free
pub returns-in-None : goal.returns-in-None
returns-in-None c =
    let i = c.self.inside in
    let o = opening_of i in
    let a = parts_of i in
    let is = c.self.invariant in
    let held : c.busy.result ≡ held_leaves (state_of o a.log.steps) =
    c.busy.ensures ∙ ap (λ (x : List Hand). count_by is_busy x) c.deref.ensures.value ∙ is.parts.busy in
    let none : held_leaves (state_of o a.log.steps) ≡ 0 = omega (arith, held, c.if-busy-gt0.false) in (
      λ yes. subst (λ (t : Search). IsOver t.opening (state t)) c.self.view_is (record {
        none_held = none;
        no_more = inl (none_is_left o a is c.in-None.ensures);
      }),
      λ over. refl,
    )
