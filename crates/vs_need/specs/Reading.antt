-- One arc after another, as a pass reads them.
use Rattle.std.specs.Prelude.{ℕ, ◌+◌, ◌-◌, if◌then◌else◌, List, Option, set, option_map, Bool, ℤ, ◌-ℤ◌}
use Rattle.vs_match.specs.declared.arc_kind.ArcKind.{ArcKind}
use Rattle.vs_match.specs.declared.arc_kind.ArcKind.TheVariants.{Trip, Waiting, Deadhead, PullOut, PullIn, RestIn, RestWait, RestOut, Return}
use Rattle.vs_need.specs.declared.aim.Aim.{Aim}
use Rattle.vs_need.specs.Gains.{fare, is_against, prize_of}

-- the arc that is read after so many others
abbrev pub arc_after : Aim → ℕ → ℕ → ℕ
arc_after t count read = if is_against t then count - (read + 1) else read

-- what an arc joins to its near end, where so much is joined to its far end
abbrev pub offer_of : List ℤ → Bool → Aim → ArcKind → ℤ → Option ℤ → Option ℤ
offer_of into ray t Waiting cost value = option_map (λ y. y -ℤ fare ray cost) value
offer_of into ray t Deadhead cost value = option_map (λ y. y -ℤ fare ray cost) value
offer_of into ray t (Trip i) cost value = prize_of into ray t (Trip i) cost
offer_of into ray t PullOut cost value = prize_of into ray t PullOut cost
offer_of into ray t PullIn cost value = prize_of into ray t PullIn cost
offer_of into ray t RestIn cost value = option_map (λ y. y -ℤ fare ray cost) value
offer_of into ray t RestWait cost value = option_map (λ y. y -ℤ fare ray cost) value
offer_of into ray t RestOut cost value = option_map (λ y. y -ℤ fare ray cost) value
offer_of into ray t Return cost value = prize_of into ray t Return cost

-- what is found for a trip is what is joined to the far end of its arc
abbrev pub noted : ArcKind → Option ℤ → List (Option ℤ) → List (Option ℤ)
noted (Trip i) value found = set found i.0 value
noted _ value found = found
