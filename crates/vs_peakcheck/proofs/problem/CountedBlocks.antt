-- Blocks of the counting problem are blocks of the layer, and how often a trip stands in them.
use Rattle.std.proofs.Common.{◌≡◌, ℕ, ◌+◌, ◌-◌, ◌<◌, Bool, cond, eqb, List, [], ◌∷◌, ◌++◌, length, get_or, count_by, refl, sym, ap, ◌∙◌, subst, arith, inl, inr}
use Rattle.std.specs.List.{All}
use Rattle.std.proofs.lemmas.Bool.{cases_eq, eq-eqb, ne_eqb}
use Rattle.std.proofs.lemmas.List.{get_or-map, length-map, map-append}
use Rattle.std.proofs.lemmas.List.Elements.{All-append, All-head, All-map, All-nil, All-tail, All-weaker}
use Rattle.std.proofs.lemmas.List.Sums.{sum_by-cons}
use Rattle.vs_types.specs.declared.numbers.LayerNo.{LayerNo}
use Rattle.vs_types.specs.declared.numbers.TripNo.{TripNo}
use Rattle.vs_instance.specs.Problem.{Problem}
use Rattle.vs_instance.specs.Ways.{Connects, HasPullIn, HasPullOut, Permitted}
use Rattle.vs_instance.specs.Blocks.{IsBlock, block_cost, first_of, last_of}
use Rattle.vs_instance.specs.Plan.{LayerBlock, all_trips, times_run}
use Rattle.vs_peakcheck.specs.Counting.{counting_with, numbered, own_blocks, own_number, own_trips, permitted_trips}
use Rattle.vs_peakcheck.proofs.problem.PermittedTrips.{all_permitted, all_within, own_once}
use Rattle.vs_peakcheck.proofs.problem.CountedTrips.{connects_own, connects_there, count_is, in_own, in_there, out_own, out_there, permitted_there}

-- the only layer of the counting problem
abbrev pub only : LayerNo
only = record { 0 = 0 }

-- each of these is a trip of the counting problem
abbrev pub AreCounted : Problem → LayerNo → List TripNo → Type 0
AreCounted p l trips = All (λ k. k.0 < length (permitted_trips p l.0)) trips

module _ (p : Problem) (l : LayerNo) where
  abbrev own : TripNo → TripNo
  own k = numbered (own_number p l.0 k.0)

  own_at : (ks : List TripNo) (j : ℕ) (d e : TripNo) → j < length ks
      → get_or (own_trips p l.0 ks) j e ≡ own (get_or ks j d)
  own_at ks j d e within = get_or-map own ks j d e within

  first_is : (ks : List TripNo) → 0 < length ks → first_of (own_trips p l.0 ks) ≡ own_number p l.0 (first_of ks)
  first_is ks some = ap (λ (t : TripNo). t.0) (own_at ks 0 (numbered 0) (numbered 0) some)

  last_is : (ks : List TripNo) → 0 < length ks → last_of (own_trips p l.0 ks) ≡ own_number p l.0 (last_of ks)
  last_is ks some =
      ap (λ (n : ℕ). (get_or (own_trips p l.0 ks) (n - 1) (numbered 0)).0) (length-map ks own)
      ∙ ap (λ (t : TripNo). t.0) (own_at ks (length ks - 1) (numbered 0) (numbered 0) (omega arith))

  module _ (fleet : ℕ) (ks : List TripNo) (are : AreCounted p l ks) where
    -- a block of the counting problem is one of the layer
    pub block_own : l.0 < length p.layers → IsBlock (counting_with fleet p l.0) only ks
        → IsBlock p l (own_trips p l.0 ks)
    block_own layer is = record {
      layer = layer;
      some_trip = omega (arith, is.some_trip, length-map ks own);
      of_instance = All-map (λ (i : TripNo). i.0 < length p.trips) own ks
          (λ k d at. all_within p l.0 (get_or ks k d).0 0 (are k d at));
      permitted = All-map (λ (i : TripNo). Permitted p l.0 i.0) own ks
          (λ k d at. all_permitted p l.0 (get_or ks k d).0 0 (are k d at));
      connected = λ k d at.
          let next : k + 1 < length ks = omega (arith, at, length-map ks own) in
          let here : k < length ks = omega arith in
          subst (λ (i : TripNo). Connects p i.0 (get_or (own_trips p l.0 ks) (k + 1) d).0)
          (sym (own_at ks k d d here))
          (subst (λ (j : TripNo). Connects p (own (get_or ks k d)).0 j.0) (sym (own_at ks (k + 1) d d next))
          (connects_own fleet p l.0 (get_or ks k d).0 (get_or ks (k + 1) d).0 (are k d here) (are (k + 1) d next)
          (is.connected k d next)));
      pull_out = subst (HasPullOut p l.0) (sym (first_is ks is.some_trip))
          (out_own fleet p l.0 (first_of ks) (are 0 (numbered 0) is.some_trip) is.pull_out);
      pull_in = subst (HasPullIn p l.0) (sym (last_is ks is.some_trip))
          (in_own fleet p l.0 (last_of ks)
          (are (length ks - 1) (numbered 0) (omega (arith, is.some_trip))) is.pull_in);
    }

    -- and the other way round
    pub block_there : IsBlock p l (own_trips p l.0 ks) → IsBlock (counting_with fleet p l.0) only ks
    block_there is =
        let some : 0 < length ks = omega (arith, is.some_trip, length-map ks own) in
        record {
          layer = omega arith;
          some_trip = some;
          of_instance = All-weaker (λ (k : TripNo). k.0 < length (permitted_trips p l.0))
              (λ (k : TripNo). k.0 < length (counting_with fleet p l.0).trips)
              (λ k within. omega (arith, within, count_is fleet p l.0)) ks are;
          permitted = All-weaker (λ (k : TripNo). k.0 < length (permitted_trips p l.0))
              (λ (k : TripNo). Permitted (counting_with fleet p l.0) 0 k.0)
              (λ k within. permitted_there fleet p l.0 k.0 within) ks are;
          connected = λ k d next.
              let here : k < length ks = omega arith in
              let at : k + 1 < length (own_trips p l.0 ks) = omega (arith, next, length-map ks own) in
              connects_there fleet p l.0 (get_or ks k d).0 (get_or ks (k + 1) d).0 (are k d here) (are (k + 1) d next)
              (subst (λ (i : TripNo). Connects p i.0 (own (get_or ks (k + 1) d)).0) (own_at ks k d d here)
              (subst (λ (j : TripNo). Connects p (get_or (own_trips p l.0 ks) k d).0 j.0) (own_at ks (k + 1) d d next)
              (is.connected k d at)));
          pull_out = out_there fleet p l.0 (first_of ks) (are 0 (numbered 0) some)
              (subst (HasPullOut p l.0) (first_is ks some) is.pull_out);
          pull_in = in_there fleet p l.0 (last_of ks) (are (length ks - 1) (numbered 0) (omega (arith, some)))
              (subst (HasPullIn p l.0) (last_is ks some) is.pull_in);
        }

  -- what a block of the counting problem costs
  pub costs_one : (fleet : ℕ) (ks : List TripNo) → block_cost (counting_with fleet p l.0) only ks ≡ 1
  costs_one fleet ks = omega arith

  count-cons : (n : ℕ) (t : TripNo) (ts : List TripNo)
      → count_by (λ x. eqb x.0 n) (t ∷ ts) ≡ cond (eqb t.0 n) 1 0 + count_by (λ x. eqb x.0 n) ts
  count-cons n t ts = sum_by-cons (λ (x : TripNo). cond (eqb x.0 n) 1 0) t ts

  -- a trip stands as often by its own number
  count_own : (xs : List TripNo) (k : ℕ) → AreCounted p l xs → k < length (permitted_trips p l.0)
      → count_by (λ t. eqb t.0 (own_number p l.0 k)) (own_trips p l.0 xs) ≡ count_by (λ t. eqb t.0 k) xs
  count_own [] k are within = refl
  count_own (x ∷ xs) k are within =
      let rest = count_own xs k (All-tail (λ (t : TripNo). t.0 < length (permitted_trips p l.0)) x xs are) within in
      let here = All-head (λ (t : TripNo). t.0 < length (permitted_trips p l.0)) x xs are in
      let one = count-cons (own_number p l.0 k) (own x) (own_trips p l.0 xs) in
      let two = count-cons k x xs in
      let counted : Bool → ℕ = λ b. cond b 1 0 in
      elim (cases_eq x.0 k) [
        | inl same ↦
            let a : counted (eqb (own_number p l.0 x.0) (own_number p l.0 k)) ≡ 1 =
            ap counted (eq-eqb _ _ (ap (own_number p l.0) same)) in
            let b : counted (eqb x.0 k) ≡ 1 = ap counted (eq-eqb x.0 k same) in
            omega (arith, rest, one, two, a, b)
        | inr other ↦
            let a : counted (eqb (own_number p l.0 x.0) (own_number p l.0 k)) ≡ 0 =
            ap counted (ne_eqb _ _ (λ e. other (own_once p l.0 x.0 k here within e))) in
            let b : counted (eqb x.0 k) ≡ 0 = ap counted (ne_eqb x.0 k other) in
            omega (arith, rest, one, two, a, b)
      ]

  trips_own : (blocks : List LayerBlock) → all_trips (own_blocks p l blocks) ≡ own_trips p l.0 (all_trips blocks)
  trips_own [] = refl
  trips_own (b ∷ blocks) =
      ap (λ (xs : List TripNo). own_trips p l.0 b.1 ++ xs) (trips_own blocks)
      ∙ sym (map-append own b.1 (all_trips blocks))

  trips_counted : (blocks : List LayerBlock) → All (λ b. AreCounted p l b.1) blocks → AreCounted p l (all_trips blocks)
  trips_counted [] are = All-nil (λ (k : TripNo). k.0 < length (permitted_trips p l.0))
  trips_counted (b ∷ blocks) are =
      All-append (λ (k : TripNo). k.0 < length (permitted_trips p l.0)) b.1 (all_trips blocks)
      (All-head (λ (c : LayerBlock). AreCounted p l c.1) b blocks are)
      (trips_counted blocks (All-tail (λ (c : LayerBlock). AreCounted p l c.1) b blocks are))

  pub times_own : (blocks : List LayerBlock) (k : ℕ) → All (λ b. AreCounted p l b.1) blocks
      → k < length (permitted_trips p l.0)
      → times_run (own_blocks p l blocks) (own_number p l.0 k) ≡ times_run blocks k
  times_own blocks k are within =
      ap (λ (xs : List TripNo). count_by (λ t. eqb t.0 (own_number p l.0 k)) xs) (trips_own blocks)
      ∙ count_own (all_trips blocks) k (trips_counted blocks are) within
