-- How far from 0 the numbers of a pass can be.
use Rattle.std.proofs.Common.{ℕ, ◌+◌, ◌<◌, ◌≤◌, inl, inr, Bool, true, false, cond, eqb, List, length, Option, Some, None, arith, w64, ℤ, pos, neg_ℤ, ◌-ℤ◌, FitsSigned}
use Rattle.std.specs.Prelude.{int_lt}
use Rattle.std.specs.List.{All}
use Rattle.std.proofs.lemmas.Bool.{cases_lt}
use Rattle.std.proofs.lemmas.Int.{ints}
use Rattle.std.proofs.lemmas.List.{get_or_past}
use Rattle.vs_instance.specs.HoldingTable.{price_of}
use Rattle.vs_match.specs.declared.arc_kind.ArcKind.{ArcKind}
use Rattle.vs_match.specs.declared.arc_kind.ArcKind.TheVariants.{Trip, Waiting, Deadhead, PullOut, PullIn, RestIn, RestWait, RestOut, Return}
use Rattle.vs_prices.specs.Table.{IsPrice}
use Rattle.vs_need.specs.declared.aim.Aim.{Aim}
use Rattle.vs_need.specs.declared.aim.Aim.TheVariants as aim
use Rattle.vs_need.specs.Gains.{fare, prize_of}
use Rattle.vs_need.specs.Greatest.{IsWide, IfWide, greater_of}
use Rattle.vs_need.specs.Reading.{offer_of}

wide-≤ : (m m' : ℕ) (x : ℤ) → m ≤ m' → IsWide m x → IsWide m' x
wide-≤ m m' x more wide = let low = wide.low in let high = wide.high in record {
  low = omega (arith, ints);
  high = omega (arith, ints);
}

pub if_wide-≤ : (m m' : ℕ) (a : Option ℤ) → m ≤ m' → IfWide m a → IfWide m' a
if_wide-≤ m m' None more wide = tt
if_wide-≤ m m' (Some x) more wide = wide-≤ m m' x more wide

pub wide-greater : (m : ℕ) (a b : Option ℤ) → IfWide m a → IfWide m b → IfWide m (greater_of a b)
wide-greater m None b wide wide' = wide'
wide-greater m (Some x) None wide wide' = wide
wide-greater m (Some x) (Some y) wide wide' =
    elim (int_lt y x) as (λ c. IsWide m (cond c x y)) [ true ↦ wide | false ↦ wide' ]

wide-none : (m : ℕ) → IsWide m (pos 0)
wide-none m = record { low = omega (arith, ints); high = omega (arith, ints) }

wide-64 : (m : ℕ) (x : ℤ) → FitsSigned w64 x → 0 < m → IsWide m x
wide-64 m x fits some = record { low = omega (arith, ints); high = omega (arith, ints) }

wide-less : (m : ℕ) (ray : Bool) (x cost : ℤ) → FitsSigned w64 cost → IsWide m x
    → IsWide (m + 1) (x -ℤ fare ray cost)
wide-less m true x cost fits wide = let low = wide.low in let high = wide.high in record {
  low = omega (arith, ints);
  high = omega (arith, ints);
}
wide-less m false x cost fits wide = let low = wide.low in let high = wide.high in record {
  low = omega (arith, ints);
  high = omega (arith, ints);
}

wide-neg : (ray : Bool) (cost : ℤ) (m : ℕ) → FitsSigned w64 cost → IsWide (m + 1) (neg_ℤ (fare ray cost))
wide-neg true cost m fits = record { low = omega (arith, ints); high = omega (arith, ints) }
wide-neg false cost m fits = record { low = omega (arith, ints); high = omega (arith, ints) }

-- each price fits, and what stands past the end of the prices
pub price_fits_at : (into : List ℤ) → All IsPrice into → (i : ℕ) → FitsSigned w64 (price_of into i)
price_fits_at into prices i = elim (cases_lt i (length into)) [
  | inl within ↦ (let price = prices i (pos 0) within in omega (arith, ints, price.0, price.1))
  | inr past ↦ rw (get_or_past into i (pos 0) past) (omega (arith, ints))
]

module _ (into : List ℤ) (each : (j : ℕ) → FitsSigned w64 (price_of into j)) (ray : Bool) (m : ℕ) (cost : ℤ)
    (fits : FitsSigned w64 cost) where
  wide-after : (same : Bool) → IfWide (m + 1) (cond same (Some (pos 0)) None)
  wide-after true = wide-none (m + 1)
  wide-after false = tt

  wide-prize : (t : Aim) (kind : ArcKind) → IfWide (m + 1) (prize_of into ray t kind cost)
  wide-prize aim.Next (Trip j) = wide-64 (m + 1) (price_of into j.0) (each j.0) (omega arith)
  wide-prize aim.Next Waiting = tt
  wide-prize aim.Next Deadhead = tt
  wide-prize aim.Next PullOut = tt
  wide-prize aim.Next PullIn = tt
  wide-prize aim.Next RestIn = tt
  wide-prize aim.Next RestWait = tt
  wide-prize aim.Next RestOut = tt
  wide-prize aim.Next Return = tt
  wide-prize aim.PullIn PullIn = wide-neg ray cost m fits
  wide-prize aim.PullIn (Trip j) = tt
  wide-prize aim.PullIn Waiting = tt
  wide-prize aim.PullIn Deadhead = tt
  wide-prize aim.PullIn PullOut = tt
  wide-prize aim.PullIn RestIn = tt
  wide-prize aim.PullIn RestWait = tt
  wide-prize aim.PullIn RestOut = tt
  wide-prize aim.PullIn Return = tt
  wide-prize aim.PullOut PullOut = wide-neg ray cost m fits
  wide-prize aim.PullOut (Trip j) = tt
  wide-prize aim.PullOut Waiting = tt
  wide-prize aim.PullOut Deadhead = tt
  wide-prize aim.PullOut PullIn = tt
  wide-prize aim.PullOut RestIn = tt
  wide-prize aim.PullOut RestWait = tt
  wide-prize aim.PullOut RestOut = tt
  wide-prize aim.PullOut Return = tt
  wide-prize (aim.After i) (Trip j) = wide-after (eqb i.0 j.0)
  wide-prize (aim.After i) Waiting = tt
  wide-prize (aim.After i) Deadhead = tt
  wide-prize (aim.After i) PullOut = tt
  wide-prize (aim.After i) PullIn = tt
  wide-prize (aim.After i) RestIn = tt
  wide-prize (aim.After i) RestWait = tt
  wide-prize (aim.After i) RestOut = tt
  wide-prize (aim.After i) Return = tt

  wide-moved : (value : Option ℤ) → IfWide m value → (t : Aim) → IfWide (m + 1) (offer_of into ray t Waiting cost value)
  wide-moved None wide t = tt
  wide-moved (Some x) wide t = wide-less m ray x cost fits wide

  pub wide-offer : (t : Aim) (kind : ArcKind) (value : Option ℤ) → IfWide m value
      → IfWide (m + 1) (offer_of into ray t kind cost value)
  wide-offer t Waiting value wide = wide-moved value wide t
  wide-offer t Deadhead value wide = wide-moved value wide t
  wide-offer t (Trip i) value wide = wide-prize t (Trip i)
  wide-offer t PullOut value wide = wide-prize t PullOut
  wide-offer t PullIn value wide = wide-prize t PullIn
  wide-offer t RestIn value wide = wide-moved value wide t
  wide-offer t RestWait value wide = wide-moved value wide t
  wide-offer t RestOut value wide = wide-moved value wide t
  wide-offer t Return value wide = wide-prize t Return
