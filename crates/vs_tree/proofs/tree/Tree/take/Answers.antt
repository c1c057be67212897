use Rattle.std.proofs.Common.{◌≡◌, ◌<◌, List, ap, sym, ◌∙◌, subst, arith, count_by, Option, ℤ, true}
use Rattle.vs_prices.specs.Bounds.{IsBelow}
use Rattle.vs_tree.specs.declared.calls.Hand.{Hand}
use Rattle.vs_tree.specs.History.{IsNextLeaf, count_spots, is_held, known, state_of}
use Rattle.vs_tree.specs.Search.{Search, is_busy, state}
use Rattle.vs_tree.specs.Takes.{IsRoomLeft, IsWorkLeft, held_leaves}
use Rattle.vs_tree.proofs.search.Facts.{within_budget}
use Rattle.vs_tree.proofs.search.Inside.{opening_of, parts_of}
use Rattle.vs_tree.proofs.search.Next.{known-is, next_is_left, next_leaf, none_is_left, nothing_below}
use Rattle.vs_tree.proofs.tree.Tree.take.Goals as goal
use Rattle.vs_tree.proofs.tree.Tree.take.Goals.{in_default-via-in-Some+else-is_below, in_default-via-in_default}

pub overflow_add-self-inside : goal.overflow_add-self-inside
overflow_add-self-inside c =
    let i = c.self.inside in
    let o = opening_of i in
    let a = parts_of i in
    let is = c.self.invariant in
    let few = within_budget o a is in
    let held = c.busy-held.ensures ∙ ap (λ (x : List Hand). count_by is_busy x) c.deref.ensures.value in
    omega (arith, few, held, is.few_leaves)

pub hold-requires-clause-may : goal.hold-requires-clause-may
hold-requires-clause-may c =
    let i = c.self.inside in
    let o = opening_of i in
    let a = parts_of i in
    let is = c.self.invariant in
    let knows : c.known-known.result ≡ known (state_of o a.log.steps) = c.known-known.ensures ∙ known-is o a is in
    let held : c.busy-held.result ≡ count_spots is_held (state_of o a.log.steps).places =
    c.busy-held.ensures ∙ ap (λ (x : List Hand). count_by is_busy x) c.deref.ensures.value ∙ is.parts.busy in
    let below : IsBelow c.in-Some.next.worth (known (state_of o a.log.steps)) =
    subst (λ (q : Option ℤ). IsBelow c.in-Some.next.worth q) knows (c.is_below.ensures.0 c.if-is_below.true) in
    let next = next_leaf o a is c.in-Some.next c.in-Some.ensures below in
    let room : IsRoomLeft o (state_of o a.log.steps) = omega (arith, held, is.parts.finished, c.if-self-held.true) in
    record {
      is_worker = c.requires.worker;
      idle = c.requires.idle;
      stays = c.requires.stays;
      room = subst (λ (t : Search). IsRoomLeft t.opening (state t)) c.self.view_is room;
      next = subst (λ (t : Search). IsNextLeaf t.opening.problem (state t) c.in-Some.next.leaf) c.self.view_is next;
    }

pub returns-then-self-held-clause-answer : goal.returns-then-self-held-clause-answer
returns-then-self-held-clause-answer c =
    let i = c.self.inside in
    let o = opening_of i in
    let a = parts_of i in
    let is = c.self.invariant in
    let knows : c.known-known.result ≡ known (state_of o a.log.steps) = c.known-known.ensures ∙ known-is o a is in
    let held : c.busy-held.result ≡ count_spots is_held (state_of o a.log.steps).places =
    c.busy-held.ensures ∙ ap (λ (x : List Hand). count_by is_busy x) c.deref.ensures.value ∙ is.parts.busy in
    let below : IsBelow c.in-Some.next.worth (known (state_of o a.log.steps)) =
    subst (λ (q : Option ℤ). IsBelow c.in-Some.next.worth q) knows (c.is_below.ensures.0 c.if-is_below.true) in
    let next = next_leaf o a is c.in-Some.next c.in-Some.ensures below in
    let room : IsRoomLeft o (state_of o a.log.steps) = omega (arith, held, is.parts.finished, c.if-self-held.true) in (
      subst (λ (t : Search). IsRoomLeft t.opening (state t)) c.self.view_is room,
      subst (λ (t : Search). IsNextLeaf t.opening.problem (state t) c.in-Some.next.leaf) c.self.view_is next,
      subst (λ (t : Search). c.known-known.result ≡ known (state t)) c.self.view_is knows,
      c.hold.ensures.sets,
      c.hold.ensures.prices,
    )

pub returns-else-held-gt0-clause-answer : goal.returns-else-held-gt0-clause-answer
returns-else-held-gt0-clause-answer c =
    let i = c.self.inside in
    let o = opening_of i in
    let a = parts_of i in
    let is = c.self.invariant in
    let knows : c.known-known.result ≡ known (state_of o a.log.steps) = c.known-known.ensures ∙ known-is o a is in
    let held : c.busy-held.result ≡ count_spots is_held (state_of o a.log.steps).places =
    c.busy-held.ensures ∙ ap (λ (x : List Hand). count_by is_busy x) c.deref.ensures.value ∙ is.parts.busy in
    let below : IsBelow c.in-Some.next.worth (known (state_of o a.log.steps)) =
    subst (λ (q : Option ℤ). IsBelow c.in-Some.next.worth q) knows (c.is_below.ensures.0 c.if-is_below.true) in
    let next = next_leaf o a is c.in-Some.next c.in-Some.ensures below in
    let none : held_leaves (state_of o a.log.steps) ≡ 0 = omega (arith, held, c.if-held-gt0.false) in
    let few = within_budget o a is in
    let spent : (state_of o a.log.steps).finished ≡ o.budget =
    omega (arith, none, held, few, is.parts.busy, is.parts.finished, c.if-self-held.false) in
    let left = next_is_left o a is c.in-Some.next.leaf next in (
      subst (λ (t : Search). held_leaves (state t) ≡ 0) c.self.view_is none,
      subst (λ (t : Search). IsWorkLeft t.opening.problem (state t)) c.self.view_is left,
      subst (λ (t : Search). (state t).finished ≡ t.opening.budget) c.self.view_is spent,
    )

pub returns-then-held-gt0-clause-answer : goal.returns-then-held-gt0-clause-answer
returns-then-held-gt0-clause-answer c =
    let i = c.self.inside in
    let o = opening_of i in
    let a = parts_of i in
    let is = c.self.invariant in
    let held : c.busy-held.result ≡ count_spots is_held (state_of o a.log.steps).places =
    c.busy-held.ensures ∙ ap (λ (x : List Hand). count_by is_busy x) c.deref.ensures.value ∙ is.parts.busy in
    let some : 0 < held_leaves (state_of o a.log.steps) = omega (arith, held, c.if-held-gt0.true) in
    let full : ¬ (IsRoomLeft o (state_of o a.log.steps)) =
    λ room. omega (arith, held, is.parts.finished, c.if-self-held.false, room) in (
      subst (λ (t : Search). 0 < held_leaves (state t)) c.self.view_is some,
      λ both. subst (λ (t : Search). ¬ (IsRoomLeft t.opening (state t))) c.self.view_is full both.0,
    )

pub returns-else-held-eq0-clause-answer : goal.returns-else-held-eq0-clause-answer
returns-else-held-eq0-clause-answer c =
    let i = c.self.inside in
    let o = opening_of i in
    let a = parts_of i in
    let is = c.self.invariant in
    let knows : c.known-known.result ≡ known (state_of o a.log.steps) = c.known-known.ensures ∙ known-is o a is in
    let held : c.busy-held.result ≡ count_spots is_held (state_of o a.log.steps).places =
    c.busy-held.ensures ∙ ap (λ (x : List Hand). count_by is_busy x) c.deref.ensures.value ∙ is.parts.busy in
    let some : 0 < held_leaves (state_of o a.log.steps) = omega (arith, held, c.if-held-eq0.false) in
    let nothing : ¬ (IsWorkLeft o.problem (state_of o a.log.steps)) = elim c.in_default.branch [
      | in_default-via-in-Some+else-is_below w ↦
          nothing_below o a is w.in-Some.next w.in-Some.ensures
          (λ below. absurd (let yes : w.is_below.result ≡ true = w.is_below.ensures.1
          (subst (λ (q : Option ℤ). IsBelow w.in-Some.next.worth q) (sym knows) below) in cc))
      | in_default-via-in_default w ↦ none_is_left o a is w.in_default.ensures
    ] in (
      subst (λ (t : Search). 0 < held_leaves (state t)) c.self.view_is some,
      λ both. subst (λ (t : Search). ¬ (IsWorkLeft t.opening.problem (state t))) c.self.view_is nothing both.1,
    )

pub returns-then-held-eq0-clause-answer : goal.returns-then-held-eq0-clause-answer
returns-then-held-eq0-clause-answer c =
    let i = c.self.inside in
    let o = opening_of i in
    let a = parts_of i in
    let is = c.self.invariant in
    let knows : c.known-known.result ≡ known (state_of o a.log.steps) = c.known-known.ensures ∙ known-is o a is in
    let held : c.busy-held.result ≡ count_spots is_held (state_of o a.log.steps).places =
    c.busy-held.ensures ∙ ap (λ (x : List Hand). count_by is_busy x) c.deref.ensures.value ∙ is.parts.busy in
    let none : held_leaves (state_of o a.log.steps) ≡ 0 = omega (arith, held, c.if-held-eq0.true) in
    let nothing : ¬ (IsWorkLeft o.problem (state_of o a.log.steps)) = elim c.in_default.branch [
      | in_default-via-in-Some+else-is_below w ↦
          nothing_below o a is w.in-Some.next w.in-Some.ensures
          (λ below. absurd (let yes : w.is_below.result ≡ true = w.is_below.ensures.1
          (subst (λ (q : Option ℤ). IsBelow w.in-Some.next.worth q) (sym knows) below) in cc))
      | in_default-via-in_default w ↦ none_is_left o a is w.in_default.ensures
    ] in (
      subst (λ (t : Search). held_leaves (state t) ≡ 0) c.self.view_is none,
      subst (λ (t : Search). ¬ (IsWorkLeft t.opening.problem (state t))) c.self.view_is nothing,
    )
