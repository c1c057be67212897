-- What arcs cost and take where their trips are offered the same.
use Rattle.std.proofs.Common.{◌≡◌, ℤ, List, refl, ap, Option, ◌-ℤ◌}
use Rattle.vs_types.specs.declared.numbers.TripNo.{TripNo}
use Rattle.vs_layer.specs.declared.arc.Arc.{Arc}
use Rattle.vs_match.specs.declared.arc_kind.ArcKind.{ArcKind}
use Rattle.vs_match.specs.declared.arc_kind.ArcKind.TheVariants.{Trip, Waiting, Deadhead, PullOut, PullIn, RestIn, RestWait, RestOut, Return}
use Rattle.vs_circ.specs.Offers.{offer_of, paid}
use Rattle.vs_circ.specs.shipping.Prepared.{offered_cost, offered_room, room_if}

module _ (one two : List (Option ℤ)) where
  -- an arc costs the same
  pub cost-as : (kind : ArcKind) (a : Arc)
      → ((i : TripNo) → kind ≡ Trip i → offer_of one i.0 ≡ offer_of two i.0)
      → offered_cost one kind a ≡ offered_cost two kind a
  cost-as (Trip i) a same = ap (λ (m : Option ℤ). a.cost -ℤ paid m) (same i refl)
  cost-as Waiting a same = refl
  cost-as Deadhead a same = refl
  cost-as PullOut a same = refl
  cost-as PullIn a same = refl
  cost-as RestIn a same = refl
  cost-as RestWait a same = refl
  cost-as RestOut a same = refl
  cost-as Return a same = refl

  -- an arc takes the same
  pub room-as : (kind : ArcKind) (a : Arc)
      → ((i : TripNo) → kind ≡ Trip i → offer_of one i.0 ≡ offer_of two i.0)
      → offered_room one kind a ≡ offered_room two kind a
  room-as (Trip i) a same = ap room_if (same i refl)
  room-as Waiting a same = refl
  room-as Deadhead a same = refl
  room-as PullOut a same = refl
  room-as PullIn a same = refl
  room-as RestIn a same = refl
  room-as RestWait a same = refl
  room-as RestOut a same = refl
  room-as Return a same = refl
