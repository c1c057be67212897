-- What an arc joins to its near end is the greatest of what is joined to its far end, less its cost, or its own worth.
use Rattle.std.proofs.Common.{◌≡◌, ◌≢◌, ◌⊎◌, inl, inr, Bool, Option, Some, None, refl, List, ℤ, ◌+ℤ◌}
use Rattle.vs_match.specs.declared.arc_kind.ArcKind.{ArcKind}
use Rattle.vs_match.specs.declared.arc_kind.ArcKind.TheVariants.{Trip, Waiting, Deadhead, PullOut, PullIn, RestIn, RestWait, RestOut, Return}
use Rattle.vs_match.specs.WalkLaw.{IsMove}
use Rattle.vs_need.specs.declared.aim.Aim.{Aim}
use Rattle.vs_need.specs.declared.aim.Aim.TheVariants as aim
use Rattle.vs_need.specs.Gains.{fare, prize_of}
use Rattle.vs_need.specs.Greatest.{IsGreatest}
use Rattle.vs_need.specs.Reading.{offer_of}
use Rattle.vs_need.proofs.Greatest.{greatest-less, greatest-one, greatest-same}

module _ (into : List ℤ) (ray : Bool) where
  no_prize : (t : Aim) (kind : ArcKind) (cost : ℤ) → IsMove kind → prize_of into ray t kind cost ≡ None
  no_prize aim.Next Waiting cost moves = refl
  no_prize aim.Next Deadhead cost moves = refl
  no_prize aim.Next RestIn cost moves = refl
  no_prize aim.Next RestWait cost moves = refl
  no_prize aim.Next RestOut cost moves = refl
  no_prize aim.PullIn Waiting cost moves = refl
  no_prize aim.PullIn Deadhead cost moves = refl
  no_prize aim.PullIn RestIn cost moves = refl
  no_prize aim.PullIn RestWait cost moves = refl
  no_prize aim.PullIn RestOut cost moves = refl
  no_prize aim.PullOut Waiting cost moves = refl
  no_prize aim.PullOut Deadhead cost moves = refl
  no_prize aim.PullOut RestIn cost moves = refl
  no_prize aim.PullOut RestWait cost moves = refl
  no_prize aim.PullOut RestOut cost moves = refl
  no_prize (aim.After i) Waiting cost moves = refl
  no_prize (aim.After i) Deadhead cost moves = refl
  no_prize (aim.After i) RestIn cost moves = refl
  no_prize (aim.After i) RestWait cost moves = refl
  no_prize (aim.After i) RestOut cost moves = refl
  no_prize t (Trip i) cost moves = absurd moves
  no_prize t PullOut cost moves = absurd moves
  no_prize t PullIn cost moves = absurd moves
  no_prize t Return cost moves = absurd moves

  -- the return arc is never asked for
  pub no_return : (t : Aim) (cost : ℤ) → prize_of into ray t Return cost ≡ None
  no_return aim.Next cost = refl
  no_return aim.PullIn cost = refl
  no_return aim.PullOut cost = refl
  no_return (aim.After i) cost = refl

  -- a worth of an arc of this kind, where those at its far end are such ones
  abbrev pub IsWorth : Aim → ArcKind → ℤ → (ℤ → Type 0) → ℤ → Type 0
  IsWorth t kind cost Far x = (prize_of into ray t kind cost ≡ Some x) ⊎ (IsMove kind × Far (x +ℤ fare ray cost))

  moved : (t : Aim) (kind : ArcKind) (cost : ℤ) (Far : ℤ → Type 0) (value : Option ℤ) → IsMove kind
      → IsGreatest (λ x. Far (x +ℤ fare ray cost)) value → IsGreatest (IsWorth t kind cost Far) value
  moved t kind cost Far value moves is =
      greatest-same (λ x. Far (x +ℤ fare ray cost)) (IsWorth t kind cost Far) value is (λ x far. inr (moves, far))
      (λ x worth. elim worth [
        | inl prize ↦ (let none = no_prize t kind cost moves in absurd (cc))
        | inr far ↦ far.1
      ])

  asked : (t : Aim) (kind : ArcKind) (cost : ℤ) (Far : ℤ → Type 0) → ¬ (IsMove kind)
      → IsGreatest (IsWorth t kind cost Far) (prize_of into ray t kind cost)
  asked t kind cost Far rests =
      greatest-same (λ x. prize_of into ray t kind cost ≡ Some x) (IsWorth t kind cost Far)
      (prize_of into ray t kind cost) (greatest-one (prize_of into ray t kind cost)) (λ x prize. inl prize)
      (λ x worth. elim worth [ inl prize ↦ prize | inr far ↦ absurd (rests far.0) ])

  pub greatest-offer : (t : Aim) (kind : ArcKind) (cost : ℤ) (Far : ℤ → Type 0) (value : Option ℤ)
      → (kind ≢ Return → IsGreatest Far value)
      → IsGreatest (IsWorth t kind cost Far) (offer_of into ray t kind cost value)
  greatest-offer t Waiting cost Far value is =
      moved t Waiting cost Far _ tt (greatest-less Far value (fare ray cost) (is (λ e. cc)))
  greatest-offer t Deadhead cost Far value is =
      moved t Deadhead cost Far _ tt (greatest-less Far value (fare ray cost) (is (λ e. cc)))
  greatest-offer t (Trip i) cost Far value is = asked t (Trip i) cost Far (λ moves. moves)
  greatest-offer t PullOut cost Far value is = asked t PullOut cost Far (λ moves. moves)
  greatest-offer t PullIn cost Far value is = asked t PullIn cost Far (λ moves. moves)
  greatest-offer t RestIn cost Far value is =
      moved t RestIn cost Far _ tt (greatest-less Far value (fare ray cost) (is (λ e. cc)))
  greatest-offer t RestWait cost Far value is =
      moved t RestWait cost Far _ tt (greatest-less Far value (fare ray cost) (is (λ e. cc)))
  greatest-offer t RestOut cost Far value is =
      moved t RestOut cost Far _ tt (greatest-less Far value (fare ray cost) (is (λ e. cc)))
  greatest-offer t Return cost Far value is = asked t Return cost Far (λ moves. moves)
