-- Blocks of one trip alone, and the cheapest of them.
use Rattle.std.proofs.Common.{◌≡◌, ℕ, ◌+◌, ◌*◌, ◌<◌, ◌≤◌, max, [], ◌∷◌, length, refl, sym, ap, ◌∙◌, subst, arith, Option, Some, None, ℤ, pos, ◌+ℤ◌, ◌*ℤ◌, ◌⊎◌, inl, inr, unwrap_or, negsuc, to_z, of_z, w64}
use Rattle.std.specs.Prelude.{option_map, IsSome, IfSome, nat_abs}
use Rattle.std.specs.Int.{int_min}
use Rattle.std.proofs.lemmas.Bool.{cases_lt, false≢true}
use Rattle.std.proofs.Math.Nat.{le-div_iff_mul-le, le-max_right, max-eq_left, max-eq_right}
use Rattle.std.proofs.lemmas.Int.{by_lt_z, clamps, ints}
use Rattle.std.proofs.lemmas.Nat.{mul-le}
use Rattle.std.proofs.lemmas.List.Sums.{sum_by-cons}
use Rattle.vs_types.specs.declared.numbers.LayerNo.{LayerNo}
use Rattle.vs_types.specs.declared.numbers.TripNo.{TripNo}
use Rattle.vs_instance.specs.declared.limits.TheConstants.{MAX_DEAREST_SUM, MAX_MULTIPLIER_SUM, USUAL_TRIPS}
use Rattle.vs_instance.specs.Dearest.{most_multiplier}
use Rattle.vs_instance.specs.Problem.{Problem}
use Rattle.vs_instance.specs.Instance.{IsInstance}
use Rattle.vs_instance.specs.Ways.{Permitted, HasPullOut, HasPullIn}
use Rattle.vs_instance.specs.Pieces.{out_piece, trip_piece, in_piece}
use Rattle.vs_instance.specs.Blocks.{block_cost}
use Rattle.vs_instance.specs.BlockPieces.{cost_of}
use Rattle.vs_instance.specs.Lagrangian.{HasOwnBlock, IsStart}
use Rattle.vs_instance.proofs.CallerLemmas.{blocks_cost_their_pieces}
use Rattle.std.proofs.lemmas.List.Elements.{All-cons, All-nil}
use Rattle.vs_connect.specs.Cost.{IsCost, lesser_of}
use Rattle.vs_connect.proofs.CallerLemmas.{pieces_exist}
use Rattle.vs_multi.specs.Multipliers.{IsOwnCost, IsCheapestAlone, IsLeastOwnCost, IsMultiplier, MayCostAlone}

-- a cost that is looked up is that of a piece that there is
pub piece_found : (cost : ℤ) (piece : Option ℕ) → Some cost ≡ option_map pos piece
    → (n : ℕ) × (piece ≡ Some n) × (cost ≡ pos n)
piece_found cost None e = absurd (false≢true (subst IsSome e refl))
piece_found cost (Some n) e = (n, refl, ap (λ (o : Option ℤ). unwrap_or o (pos 0)) e)

module _ (p : Problem) (l : LayerNo) (i : TripNo) where
  -- a trip that the layer may run is a block where it has a pull-out and a pull-in
  pub own_block : l.0 < length p.layers → i.0 < length p.trips → Permitted p l.0 i.0 → HasPullOut p l.0 i.0
      → HasPullIn p l.0 i.0 → HasOwnBlock p l i
  own_block layer trip permitted out back =
      let of_instance : TripNo → Type 0 = λ j. j.0 < length p.trips in
      let may_run : TripNo → Type 0 = λ j. Permitted p l.0 j.0 in record {
        layer = layer;
        some_trip = omega arith;
        of_instance = All-cons of_instance i [] trip (All-nil of_instance);
        permitted = All-cons may_run i [] permitted (All-nil may_run);
        connected = λ k d within. absurd (omega arith);
        pull_out = out;
        pull_in = back;
      }

  -- its pull-out, the trip and its pull-in are all that it costs
  own_pieces : IsInstance p → HasOwnBlock p l i → block_cost p l (i ∷ [])
      ≡ cost_of (out_piece p l.0 i.0) + trip_piece p l.0 i.0 + cost_of (in_piece p l.0 i.0)
  own_pieces inst block =
      let trips = sum_by-cons (λ (j : TripNo). trip_piece p l.0 j.0) i [] in
      omega (arith, blocks_cost_their_pieces p l (i ∷ []) inst block, trips)

  -- where both moves have a cost, the trip's and theirs together are what it costs alone
  pub own_cost_is : IsInstance p → l.0 < length p.layers → i.0 < length p.trips → Permitted p l.0 i.0
      → (out trip back cost : ℤ) → Some out ≡ option_map pos (out_piece p l.0 i.0)
      → trip ≡ pos (trip_piece p l.0 i.0) → Some back ≡ option_map pos (in_piece p l.0 i.0)
      → cost ≡ (out +ℤ trip) +ℤ back → IsOwnCost p l i (Some cost)
  own_cost_is inst layer of_instance permitted out trip back cost out_is trip_is back_is cost_is =
      let there = piece_found out (out_piece p l.0 i.0) out_is in
      let home = piece_found back (in_piece p l.0 i.0) back_is in
      let pull_out = ((pieces_exist p).out l.0 i.0).0 (subst IsSome (sym there.1) refl) in
      let pull_in = ((pieces_exist p).back l.0 i.0).0 (subst IsSome (sym home.1) refl) in
      let block = own_block layer of_instance permitted pull_out pull_in in
      let out_cost = ap cost_of there.1 in
      let back_cost = ap cost_of home.1 in
      (block, omega (arith, ints, there.2, home.2, trip_is, cost_is, own_pieces inst block, out_cost, back_cost))

-- layers of one number are one
same_layer : (n : ℕ) (m : LayerNo) → m.0 ≡ n → m ≡ (record { 0 = n })
same_layer n m e = ap (λ (k : ℕ). let l : LayerNo = record { 0 = k } in l) e

-- the layers below the one after n
last_layer : (n : ℕ) (m : LayerNo) → m.0 < n + 1 → (m.0 < n) ⊎ (m.0 ≡ n)
last_layer n m below = elim (cases_lt m.0 n) [
  | inl less ↦ inl less
  | inr ge ↦ inr (omega arith)
]

-- a block alone in the layer of number n
block_in : (p : Problem) (n : ℕ) (i : TripNo) (m : LayerNo) → m.0 ≡ n → HasOwnBlock p m i
    → HasOwnBlock p (record { 0 = n }) i
block_in p n i m e block = subst (λ (l : LayerNo). HasOwnBlock p l i) (same_layer n m e) block

cost_in : (p : Problem) (n : ℕ) (i : TripNo) (m : LayerNo) → m.0 ≡ n
    → block_cost p m (i ∷ []) ≡ block_cost p (record { 0 = n }) (i ∷ [])
cost_in p n i m e = ap (λ (l : LayerNo). block_cost p l (i ∷ [])) (same_layer n m e)

-- the cheapest below n, and the one in the layer of number n that costs no less
keep : (p : Problem) (n : ℕ) (i : TripNo) (l : LayerNo) → IsCheapestAlone p n i l
    → (HasOwnBlock p (record { 0 = n }) i
    → block_cost p l (i ∷ []) ≤ block_cost p (record { 0 = n }) (i ∷ []))
    → IsCheapestAlone p (n + 1) i l
keep p n i l before here m below block =
    elim (last_layer n m below) [
      | inl less ↦ before m less block
      | inr e ↦ omega (arith, cost_in p n i m e, here (block_in p n i m e block))
    ]

-- one more layer
pub cheapest_more : (p : Problem) (n : ℕ) (i : TripNo) (least cost : Option ℤ) → IsLeastOwnCost p n i least
    → IsOwnCost p (record { 0 = n }) i cost → IsLeastOwnCost p (n + 1) i (lesser_of least cost)
cheapest_more p n i None None before here = λ m below block.
    elim (last_layer n m below) [
      | inl less ↦ before m less block
      | inr e ↦ here (block_in p n i m e block)
    ]
cheapest_more p n i None (Some cost) before here = (
  record { 0 = n },
  here,
  keep p n i (record { 0 = n }) (λ m less block. absurd (before m less block)) (λ block. omega arith),
)
cheapest_more p n i (Some least) None before here =
    (before.0, before.1, keep p n i before.0 before.2 (λ block. absurd (here block)))
cheapest_more p n i (Some least) (Some cost) before here =
    elim (cases_lt (block_cost p (record { 0 = n }) (i ∷ [])) (block_cost p before.0 (i ∷ []))) [
      | inl less ↦
          let is : cost ≡ int_min least cost = omega (arith, ints, clamps, before.1.1, here.1) in
          subst (λ c. IsLeastOwnCost p (n + 1) i (Some c)) is (
            record { 0 = n },
            here,
            keep p n i (record { 0 = n })
                (λ m below block. omega (arith, before.2 m below block)) (λ block. omega arith),
          )
      | inr le ↦
          let is : least ≡ int_min least cost = omega (arith, ints, clamps, before.1.1, here.1) in
          subst (λ c. IsLeastOwnCost p (n + 1) i (Some c)) is
          (before.0, before.1, keep p n i before.0 before.2 (λ block. le))
    ]

-- of costs within the limits the lesser is too
pub lesser_limits : (trips : ℕ) (least cost : Option ℤ) → IfSome least (MayCostAlone trips)
    → IfSome cost (MayCostAlone trips) → IfSome (lesser_of least cost) (MayCostAlone trips)
lesser_limits trips None cost before here = here
lesser_limits trips (Some a) None before here = before
lesser_limits trips (Some a) (Some b) before here =
    by_lt_z a b
    (λ less. let same : a ≡ int_min a b = omega (arith, ints, clamps, less) in
    subst (MayCostAlone trips) same before)
    (λ no_less. let same : b ≡ int_min a b = omega (arith, ints, clamps, no_less) in
    subst (MayCostAlone trips) same here)

-- the cheapest block in any layer, in 1/1000 of a cost unit
pub start_is : (p : Problem) (i : TripNo) (least : Option ℤ) → IsLeastOwnCost p (length p.layers) i least
    → IsStart p i (pos 1000 *ℤ unwrap_or least (pos 0))
start_is p i None least = inr (λ l block. least l block.layer block, refl)
start_is p i (Some cost) least =
    let product = ap (λ (c : ℤ). pos 1000 *ℤ c) least.1.1 in
    inl (least.0, least.1.0, omega (arith, ints, product), λ m block. least.2 m block.layer block)

-- costs of a pull-out, a trip and a pull-in, added up as the code does
pub sum_is : (a b c : ℤ) → IsCost a → IsCost b → IsCost c
    → to_z w64 (of_z w64 (to_z w64 (of_z w64 (to_z w64 (of_z w64 a) +ℤ to_z w64 (of_z w64 b)))
    +ℤ to_z w64 (of_z w64 c))) ≡ (a +ℤ b) +ℤ c
sum_is a b c first second third = omega (arith, ints, first.0, first.1, second.0, second.1, third.0, third.1)

-- nor do they come to more than a block of one trip may cost
pub sum_limits : (trips : ℕ) (a b c : ℤ) → IsCost a → IsCost b → IsCost c
    → trips * nat_abs a ≤ MAX_DEAREST_SUM → trips * nat_abs b ≤ MAX_DEAREST_SUM → trips * nat_abs c ≤ MAX_DEAREST_SUM
    → MayCostAlone trips ((a +ℤ b) +ℤ c)
sum_limits trips a b c first second third all_a all_b all_c =
    let parts : nat_abs ((a +ℤ b) +ℤ c) ≡ nat_abs a + nat_abs b + nat_abs c =
    omega (arith, ints, first.0, second.0, third.0) in
    let whole : trips * (nat_abs a + nat_abs b + nat_abs c) ≤ 3 * MAX_DEAREST_SUM = omega
    (arith, all_a, all_b, all_c) in (
      omega (arith, ints, first.0, second.0, third.0),
      omega (arith, ints, first.1, second.1, third.1),
      subst (λ (n : ℕ). trips * n ≤ 3 * MAX_DEAREST_SUM) (sym parts) whole,
    )

-- a piece that was found, as often as there are trips
pub found_payable : (trips : ℕ) (cost : ℤ) (n : ℕ) → cost ≡ pos n → trips * n ≤ MAX_DEAREST_SUM
    → trips * nat_abs cost ≤ MAX_DEAREST_SUM
found_payable trips cost n is all = subst (λ (z : ℤ). trips * nat_abs z ≤ MAX_DEAREST_SUM) (sym is) all

-- the least cost, or 0, times SCALE as the code makes it
pub start_value : (trips : ℕ) (least : Option ℤ) (cost : ℤ) → cost ≡ unwrap_or least (pos 0)
    → IfSome least (MayCostAlone trips)
    → to_z w64 (of_z w64 (pos 1000 *ℤ to_z w64 (of_z w64 cost))) ≡ pos 1000 *ℤ unwrap_or least (pos 0)
start_value trips None cost e limits =
    ap (λ (x : ℤ). to_z w64 (of_z w64 (pos 1000 *ℤ to_z w64 (of_z w64 x)))) e
start_value trips (Some (pos n)) cost e limits =
    let inner : to_z w64 (of_z w64 (pos n)) ≡ pos n = omega (arith, ints, limits.1) in
    ap (λ (x : ℤ). to_z w64 (of_z w64 (pos 1000 *ℤ to_z w64 (of_z w64 x)))) e
    ∙ ap (λ (x : ℤ). to_z w64 (of_z w64 (pos 1000 *ℤ x))) inner ∙ omega (arith, ints, limits.1)
start_value trips (Some (negsuc n)) cost e limits = absurd (omega (arith, ints, limits.0))

-- what a block of one trip costs at most is a multiplier
pub start_within : (trips : ℕ) (least : Option ℤ) → IfSome least (MayCostAlone trips)
    → IsMultiplier trips (pos 1000 *ℤ unwrap_or least (pos 0))
start_within trips None limits = (omega (arith, ints), omega (arith, ints), omega (arith, ints))
start_within trips (Some (pos n)) limits =
    let few : n ≤ 60000000000 = omega (arith, ints, limits.1) in
    let usual = mul-le (1000 * n) USUAL_TRIPS 60000000000000 USUAL_TRIPS (omega (arith, few)) (omega arith) in
    let whole : 1000 * n * max trips USUAL_TRIPS ≤ nat_abs MAX_MULTIPLIER_SUM =
    elim (cases_lt trips USUAL_TRIPS) [
      | inl less ↦
          let same = max-eq_right {n = trips} {m = USUAL_TRIPS} (omega arith) in
          subst (λ (m : ℕ). 1000 * n * m ≤ nat_abs MAX_MULTIPLIER_SUM) (sym same) (omega (arith, usual))
      | inr more ↦
          let same = max-eq_left {n = trips} {m = USUAL_TRIPS} more in
          subst (λ (m : ℕ). 1000 * n * m ≤ nat_abs MAX_MULTIPLIER_SUM) (sym same) (omega (arith, limits.2))
    ] in
    let some = le-max_right trips USUAL_TRIPS in
    let limit : 1000 * n ≤ most_multiplier trips =
    (le-div_iff_mul-le {k = max trips USUAL_TRIPS} {x = 1000 * n} {y = nat_abs MAX_MULTIPLIER_SUM}
    (omega (arith, some))).1 whole in
    (omega (arith, ints), omega (arith, ints, few), omega (arith, ints, limit))
start_within trips (Some (negsuc n)) limits = absurd (omega (arith, ints, limits.0))
