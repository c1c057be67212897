-- What a trip is made of lies within the limits, and how far stops are apart.
use Rattle.std.proofs.Common.{◌≡◌, ◌≢◌, ℕ, ◌+◌, ◌*◌, ◌/◌, ◌%◌, ◌<◌, ◌≤◌, true, false, cond, ltb, eqb, inl, inr, arith}
use Rattle.std.specs.Int.{abs_diff}
use Rattle.std.proofs.lemmas.Bool.{cases_lt}
use Rattle.std.proofs.lemmas.Nat.{mod_below}
use Rattle.vs_make.specs.declared.sequence.Draws.{Draws}
use Rattle.vs_make.specs.Generator.{depot_of, distance, draws, number_at, other_stop}

abs_small : (x y m : ℕ) → x ≤ m → y ≤ m → abs_diff x y ≤ m
abs_small x y m few also = omega arith

abs_triangle : (x y z : ℕ) → abs_diff x z ≤ abs_diff x y + abs_diff y z
abs_triangle x y z = omega arith

same_by_abs : (x y : ℕ) → abs_diff x y ≡ 0 → x ≡ y
same_by_abs x y none = omega arith

-- two stops are at most 5 steps of the grid apart
pub few_steps : (k s : ℕ) → k < 12 → s < 12 → distance k s ≤ 5
few_steps k s from to =
    omega (
      arith,
      abs_small (k % 4) (s % 4) 3 (omega arith) (omega arith),
      abs_small (k / 4) (s / 4) 2 (omega arith) (omega arith),
    )

-- and no way by a third stop has fewer steps
pub no_detour : (k s t : ℕ) → distance k t ≤ distance k s + distance s t
no_detour k s t = omega (arith, abs_triangle (k % 4) (s % 4) (t % 4), abs_triangle (k / 4) (s / 4) (t / 4))

-- distinct stops are some steps apart
pub some_steps : (k s : ℕ) → k ≢ s → 1 ≤ distance k s
some_steps k s apart =
    elim (cases_lt 0 (distance k s)) [
      | inl some ↦ some
      | inr none ↦
          let column : k % 4 ≡ s % 4 = same_by_abs (k % 4) (s % 4) (omega arith) in
          let row : k / 4 ≡ s / 4 = same_by_abs (k / 4) (s / 4) (omega arith) in
          let same : k ≡ s = omega arith in
          absurd (apart same)
    ]

-- what so few steps take is few
pub few_minutes : (steps : ℕ) → steps ≤ 5 → 6 * steps ≤ 30
few_minutes steps few = omega arith

pub few_metres : (steps : ℕ) → steps ≤ 5 → 2500 * steps ≤ 12500
few_metres steps few = omega arith

pub few_driven : (steps : ℕ) → steps ≤ 5 → 3000 * steps ≤ 15000
few_driven steps few = omega arith

pub ends_early : (start steps extra : ℕ) → start < 1380 → steps ≤ 5 → extra < 25
    → start + (6 * steps + extra) < 2880
ends_early start steps extra early few more = omega arith

pub depot_below : (l : ℕ) → depot_of l < 12
depot_below l =
    elim (eqb l 0) as (λ a. cond a 0 (cond (eqb l 1) 3 (cond (eqb l 2) 8 11)) < 12) [
      | true ↦ omega arith
      | false ↦ elim (eqb l 1) as (λ b. cond b 3 (cond (eqb l 2) 8 11) < 12) [
        | true ↦ omega arith
        | false ↦ elim (eqb l 2) as (λ c. cond c 8 11 < 12) [ true ↦ omega arith | false ↦ omega arith ]
      ]
    ]

-- what a trip is made of, within the limits
pub record IsDrawn (d : Draws) : Type 0 where
  pub from : d.from < 12
  pub to : d.to < 12
  pub early : d.start < 1380
  pub some_extra : 5 ≤ d.extra
  pub few_extra : d.extra < 25
  pub some_layer : 1 ≤ d.layers.0
  pub four_layers : d.layers.0 < 16

other_below : (from b : ℕ) → b < 11 → other_stop from b < 12
other_below from b few =
    elim (ltb b from) as (λ t. cond t b (b + 1) < 12) [ true ↦ omega arith | false ↦ omega arith ]

pub all_drawn : (x : ℕ) → IsDrawn (draws x)
all_drawn x = record {
  from = mod_below (number_at x 1) 12 (omega arith);
  to = other_below (number_at x 1 % 12) (number_at x 2 % 11) (mod_below (number_at x 2) 11 (omega arith));
  early = let c = mod_below (number_at x 3) 1080 (omega arith) in omega arith;
  some_extra = omega arith;
  few_extra = let e = mod_below (number_at x 4) 20 (omega arith) in omega arith;
  some_layer = omega arith;
  four_layers = let g = mod_below (number_at x 5) 15 (omega arith) in omega arith;
}
