-- A piece shows its move, and trips that follow each other are a block.
use Rattle.std.proofs.Common.{◌≡◌, ℕ, zero, suc, ◌+◌, ◌-◌, ◌*◌, ◌<◌, ◌≤◌, Bool, true, false, if◌then◌else◌, List, [], ◌∷◌, length, get_or, Option, Some, None, refl, sym, subst, arith}
use Rattle.std.specs.Prelude.{pos, ◌≤ℤ◌, IsSome, IsSomeAnd, nat_le, option_map, option_and_then}
use Rattle.std.specs.List.{All, AllAdjacentBelow}
use Rattle.std.proofs.lemmas.Bool.{leb-true}
use Rattle.std.proofs.lemmas.List.Elements.{All-nil, All-cons, All-weaker}
use Rattle.std.proofs.lemmas.Option.{none-some}
use Rattle.vs_types.specs.declared.numbers.LayerNo.{LayerNo}
use Rattle.vs_types.specs.declared.numbers.TripNo.{TripNo}
use Rattle.vs_layer.specs.Graph.{Graph}
use Rattle.vs_layer.specs.Walks.{IsLeastCost, path_cost}
use Rattle.vs_instance.specs.declared.way.Way.{Way}
use Rattle.vs_instance.specs.Problem.{Problem}
use Rattle.vs_instance.specs.Ways.{trip_of, layer_of, way_out, way_in, way_between, Connects, HasPullOut, HasPullIn, Permitted}
use Rattle.vs_instance.specs.Pieces.{rated, out_piece, rest_piece, no_more_than, link_piece, in_piece}
use Rattle.vs_instance.specs.Blocks.{IsBlock}
use Rattle.vs_instance.proofs.CallerLemmas.{IsChain, last_trip, last_of-is}
use Rattle.vs_match.specs.NetArcs.{at_scale}

-- a way whose piece is there is in time
in_time_of : (in_time : Bool) (cost c : ℕ) → (if in_time then Some cost else None) ≡ Some c → in_time ≡ true
in_time_of true cost c is = refl
in_time_of false cost c is = absurd (none-some c is)

module _ (p : Problem) (l i : ℕ) where
  -- a pull-out, a link and a pull-in that cost something are there
  pub pull_out_of_piece : (c : ℕ) → out_piece p l i ≡ Some c → HasPullOut p l i
  pull_out_of_piece c is = by_way (way_out p l i) is
    where
      by_way : (o : Option Way)
          → option_and_then
          (λ w. if nat_le w.minutes (trip_of p i).start then Some
          ((layer_of p l).fixed + rated p l w.minutes w.metres) else None) o ≡ Some c
          → IsSomeAnd o (λ w. w.minutes ≤ (trip_of p i).start)
      by_way None none = absurd (none-some c none)
      by_way (Some w) some = leb-true _ _ (in_time_of (nat_le w.minutes (trip_of p i).start) _ c some)

  pub connects_of_piece : (j c : ℕ) → link_piece p l i j ≡ Some c → Connects p i j
  connects_of_piece j c is = by_way (way_between p i j) is
    where
      by_time : (w : Way) (t : Bool) → nat_le ((trip_of p i).end + w.minutes) (trip_of p j).start ≡ t
          → option_map (no_more_than (rest_piece p l i j)) (if t then Some
          (rated p l ((trip_of p j).start - (trip_of p i).end) w.metres) else None) ≡ Some c
          → (trip_of p i).end + w.minutes ≤ (trip_of p j).start
      by_time w true early some = leb-true _ _ early
      by_time w false late none = absurd (none-some c none)

      by_way : (o : Option Way)
          → option_map (no_more_than (rest_piece p l i j)) (option_and_then
          (λ w. if nat_le ((trip_of p i).end + w.minutes) (trip_of p j).start then Some
          (rated p l ((trip_of p j).start - (trip_of p i).end) w.metres) else None) o) ≡ Some c
          → IsSomeAnd o (λ w. (trip_of p i).end + w.minutes ≤ (trip_of p j).start)
      by_way None none = absurd (none-some c none)
      by_way (Some w) some = by_time w (nat_le ((trip_of p i).end + w.minutes) (trip_of p j).start) refl some

  pub pull_in_of_piece : (c : ℕ) → in_piece p l i ≡ Some c → HasPullIn p l i
  pull_in_of_piece c is = by_way (way_in p l i) is
    where
      by_way : (o : Option Way) → option_map (λ w. rated p l w.minutes w.metres) o ≡ Some c → IsSome o
      by_way None none = absurd (none-some c none)
      by_way (Some w) some = cc

-- a list of arcs that costs no less than a piece
pub record IsPaid (g : Graph) (piece : Option ℕ) (ks : List ℕ) : Type 0 where
  pub cost : ℕ
  pub is : piece ≡ Some cost
  pub no_dearer : pos (1000 * cost) ≤ℤ path_cost g ks

-- where such lists have a least cost, each of them is
pub paid_of : (g : Graph) (Such : List ℕ → Type 0) (piece : Option ℕ)
    → IsLeastCost g Such (option_map at_scale piece) → (ks : List ℕ) → Such ks → IsPaid g piece ks
paid_of g Such None least ks such = absurd (least ks such)
paid_of g Such (Some c) least ks such = record { cost = c; is = refl; no_dearer = least.1 ks such }

module _ (p : Problem) (l : LayerNo) where
  abbrev IsTripHere : TripNo → Type 0
  IsTripHere i = (i.0 < length p.trips) × Permitted p l.0 i.0

  abbrev Next : TripNo → TripNo → Type 0
  Next i j = Connects p i.0 j.0

  here_of_chain : (trips : List TripNo) → IsChain p l trips → All IsTripHere trips
  here_of_chain [] chain = All-nil IsTripHere
  here_of_chain (i ∷ []) chain = All-cons IsTripHere i [] chain (All-nil IsTripHere)
  here_of_chain (i ∷ j ∷ rest) chain =
      All-cons IsTripHere i (j ∷ rest) (chain.0, chain.1) (here_of_chain (j ∷ rest) chain.3)

  connected_of_chain : (trips : List TripNo) → IsChain p l trips → AllAdjacentBelow Next trips (length trips)
  connected_of_chain [] chain k d within = absurd (omega arith)
  connected_of_chain (i ∷ []) chain k d within = absurd (omega arith)
  connected_of_chain (i ∷ j ∷ rest) chain zero d within = chain.2
  connected_of_chain (i ∷ j ∷ rest) chain (suc k) d within =
      let next : suc k + 1 ≡ suc (k + 1) = omega arith in
      subst (λ (n : ℕ). Next (get_or (j ∷ rest) k d) (get_or (i ∷ j ∷ rest) n d)) (sym next)
      (connected_of_chain (j ∷ rest) chain.3 k d (omega arith))

  -- trips that follow each other, with a pull-out and a pull-in, are a block
  pub block_of_chain : (i : TripNo) (rest : List TripNo) → l.0 < length p.layers → IsChain p l (i ∷ rest)
      → HasPullOut p l.0 i.0 → HasPullIn p l.0 (last_trip i rest).0 → IsBlock p l (i ∷ rest)
  block_of_chain i rest within chain out back =
      let here = here_of_chain (i ∷ rest) chain in
      record {
        layer = within;
        some_trip = omega arith;
        of_instance = All-weaker IsTripHere (λ (t : TripNo). t.0 < length p.trips) (λ t both. both.0) (i ∷ rest) here;
        permitted = All-weaker IsTripHere (λ (t : TripNo). Permitted p l.0 t.0) (λ t both. both.1) (i ∷ rest) here;
        connected = connected_of_chain (i ∷ rest) chain;
        pull_out = out;
        pull_in = subst (λ (n : ℕ). HasPullIn p l.0 n) (sym (last_of-is i rest)) back;
      }
