use Rattle.std.proofs.Common.{◌≡◌, ℕ, List, replicate, pos, ℤ, refl, sym, subst}
use Rattle.std.specs.List.{All}
use Rattle.std.proofs.lemmas.List.Elements.{All-replicate}
use Rattle.vs_prices.proofs.PricePlaces.{zeros_hold}
use Rattle.vs_prices.proofs.table.Table.zero.Goals as goal

abbrev IsZero : ℤ → Type 0
IsZero n = n ≡ pos 0

zeros : (n : ℕ) (prices : List ℤ) → prices ≡ replicate n (pos 0) → All IsZero prices
zeros n prices is = subst (All IsZero) (sym is) (All-replicate IsZero n (pos 0) refl)

pub returns-clause-holds : goal.returns-clause-holds
returns-clause-holds c = λ l inside.
    zeros_hold c.args.instance.now c.in_ok-into.into.items c.in_ok-from.from.items c.in_ok-fleet.fleet.items
    (zeros _ _ (c.in_ok-into.ensures.items_if_clones_equal (λ y e. e)))
    (zeros _ _ (c.in_ok-from.ensures.items_if_clones_equal (λ y e. e)))
    (zeros _ _ (c.in_ok-fleet.ensures.items_if_clones_equal (λ y e. e))) l
