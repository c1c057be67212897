use Rattle.std.proofs.Common.{◌≡◌, ℕ, ◌+◌, Bool, true, false, List, [], ◌∷◌, ◌++◌, length, refl, sym, ap, ◌∙◌, subst, arith, length-append}
use mathlib.Core.List.{map, map-append}
use Rattle.std.specs.Prelude.{is_ok, if◌then◌else◌}
use Rattle.vs_turn.specs.Calls.{has_ticket, GoOn, new_calls}
use Rattle.vs_turn.proofs.CallerLemmas.{adds_none, adds_one, new_calls-none, new_calls-one}
use Rattle.vs_turn.specs.Seats.{SeatModel}
use Rattle.test_turn.specs.Tallies.{amounts_after}
use Rattle.test_turn.specs.declared.turns.tally.Tally.{Tally}
use Rattle.test_turn.proofs.turns.add_once.Given.{Over}
use Rattle.test_turn.proofs.turns.add_once.Goals as goal
use Rattle.test_turn.proofs.turns.add_once.Goals.{After-is_ok-added}

abbrev entries : List (ℕ × ℕ) → List (List ℕ)
entries amounts = map (λ a. a.0 ∷ a.1 ∷ []) amounts

-- an amount was added, or none
goes_on : (tickets : List ℕ) (x : ℕ × ℕ) (old : List (ℕ × ℕ)) (b : Bool) → has_ticket tickets x.0 ≡ true
    → GoOn tickets (entries old) (entries (amounts_after b old x))
goes_on tickets x old true mine = adds_one tickets (entries old) _ (x.0 ∷ x.1 ∷ [])
    (sym (map-append (λ a. a.0 ∷ a.1 ∷ []) old (x ∷ []))) mine
goes_on tickets x old false mine = adds_none tickets (entries old) _ refl

counted : (calls : List (ℕ × List ℕ)) (x : ℕ × ℕ) (old : List (ℕ × ℕ)) (b : Bool)
    → length (calls ++ new_calls (entries old) (entries (amounts_after b old x)))
    ≡ length calls + (if b then 1 else 0)
counted calls x old true =
    ap (λ l. length (calls ++ l)) (ap (new_calls (entries old)) (map-append (λ a. a.0 ∷ a.1 ∷ []) old (x ∷ []))
    ∙ new_calls-one (entries old) (x.0 ∷ x.1 ∷ []))
    ∙ length-append calls _
counted calls x old false = ap (λ l. length (calls ++ l)) (new_calls-none (entries old))
    ∙ (length-append calls _ ∙ omega arith)

-- the amounts after the call of `add`
amounts : (g : Over) (c : After-is_ok-added g)
    → c.add.new.self.amounts.items ≡ (if is_ok c.add.result then c.hold-held.result.value.amounts.items ++
    (c.args.maker, 1) ∷ [] else c.hold-held.result.value.amounts.items)
amounts g c = c.add.ensures.amounts
    ∙ ap (λ (t : Tally). amounts_after (is_ok c.add.result) t.amounts.items (c.args.maker, 1))
    c.value.ensures.value

pub release-requires-clause-entries : goal.release-requires-clause-entries
release-requires-clause-entries g c =
    let seat = c.hold-held.ensures.seat in
    let found = c.hold-held.ensures.found in
    let new = amounts g c in
    subst (λ (z : List ℕ × List (List ℕ) × List (ℕ × ℕ)). GoOn z.0 z.1 (entries z.2))
    (λ i. ((sym seat i).tickets, sym found i, sym new i))
    (goes_on c.args.seat.tickets (c.args.maker, 1) c.hold-held.result.value.amounts.items (is_ok c.add.result)
    c.requires.maker)

pub returns-clause-made : goal.returns-clause-made
returns-clause-made g c =
    let seat = c.hold-held.ensures.seat in
    let found = c.hold-held.ensures.found in
    let new = amounts g (goal.at.returns-clause-made g c).After-is_ok-added in
    let calls = c.args.seat.mine in
    ap (λ (s : SeatModel). length s.mine) c.release.ensures.seat
    ∙ ((λ i. length ((seat i).mine ++ new_calls (found i) (entries (new i))))
    ∙ (counted calls (c.args.maker, 1) c.hold-held.result.value.amounts.items (is_ok c.add.result)
    ∙ ap (λ (b : Bool). length calls + (if b then 1 else 0)) (sym c.is_ok-added.ensures.value)))
