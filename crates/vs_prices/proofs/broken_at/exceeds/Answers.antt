use Rattle.std.proofs.Common.{◌≡◌, ℕ, Some, None, pos, sym, ◌∙◌, subst}
use Rattle.std.proofs.lemmas.Option.{none-some, same_Some}
use Rattle.vs_instance.specs.HoldingTable.{scaled}
use Rattle.vs_connect.specs.Cost.{IsCost}
use Rattle.vs_prices.proofs.PriceNumbers.{IsScaled, piece_of, passed_cost, scaled-IsScaled, sum_fits, exceeds_by}
use Rattle.vs_prices.proofs.broken_at.exceeds.Goals as goal

at_cost : (c : goal.After-scaled) → IsCost c.in-Some.cost
at_cost c = rw c.in-Some.is at c.requires.cost

scaled_is : (c : goal.After-scaled) (n : ℕ) → c.in-Some.cost ≡ pos n → c.scaled.result ≡ scaled c.args.ray n
scaled_is c n is = c.scaled.ensures n (passed_cost c.in-Some.cost (at_cost c) ∙ is)

within : (c : goal.After-scaled) → IsScaled c.scaled.result
within c =
    let piece = piece_of c.in-Some.cost (at_cost c) in
    subst IsScaled (sym (scaled_is c piece.piece piece.is)) (scaled-IsScaled c.args.ray piece.piece piece.small)

pub overflow_add-result : goal.overflow_add-result
overflow_add-result c = sum_fits c.args.other c.scaled.result c.requires.other (within c)

pub returns-in-Some : goal.returns-in-Some
returns-in-Some c None is = absurd (none-some c.in-Some.cost (sym is ∙ c.in-Some.is))
returns-in-Some c (Some n) is =
    exceeds_by c.args.price c.args.other c.scaled.result (scaled c.args.ray n) c.ranges.price c.requires.other
    (within c)
    (scaled_is c n (same_Some c.in-Some.cost (pos n) (sym c.in-Some.is ∙ is)))
