-- Blocks taken one by one.
use Rattle.std.proofs.Common.{◌≡◌, ℕ, ◌+◌, ◌<◌, ◌≤◌, ◌==◌, ◌^◌, List, [], ◌∷◌, ◌++◌, length, get_or, take, refl, sym, ap, ◌∙◌, subst, arith, count_by, cond, length-append}
use Rattle.std.specs.Prelude.{sum_by}
use Rattle.std.proofs.lemmas.Grind.{flat_map-append}
use Rattle.std.proofs.lemmas.List.{take_all, take_more, append-nil, get_or-map, length-map}
use Rattle.std.proofs.lemmas.List.Sums.{sum_by-cons, sum_by-append, sum_by_more, sum_by_more_le, count_by-le-length}
use Rattle.vs_instance.specs.Blocks.{block_cost}
use Rattle.vs_instance.specs.Plan.{LayerBlock, all_trips, plan_cost, times_run}
use Rattle.vs_instance.specs.Problem.{Problem}
use Rattle.vs_instance.proofs.CallerLemmas.{blocks-le-trips}
use Rattle.vs_plan.specs.Blocks.{CanBeJudged, pair_of, pairs_of}
use Rattle.vs_plan.specs.declared.block.Block.{Block}

-- a block among others, as a pair
pub pair_at : (blocks : List Block) (i : ℕ) (block : Block) (d : LayerBlock) → i < length blocks
    → block ≡ get_or blocks i block
    → get_or (pairs_of blocks) i d ≡ pair_of block
pair_at blocks i block d inside is = get_or-map pair_of blocks i block d inside ∙ ap pair_of (sym is)

all_trips_more : (bs : List LayerBlock) (i : ℕ) (d : LayerBlock) → i < length bs
    → all_trips (take (i + 1) bs) ≡ all_trips (take i bs) ++ (get_or bs i d).1
all_trips_more bs i d inside =
    ap all_trips (take_more bs i d inside)
    ∙ (flat_map-append (λ (b : LayerBlock). b.1) (take i bs) (get_or bs i d ∷ [])
    ∙ ap (λ ts. all_trips (take i bs) ++ ts) (append-nil (get_or bs i d).1))

length-all_trips : (bs : List LayerBlock) → length (all_trips bs) ≡ sum_by (λ b. length b.1) bs
length-all_trips [] = refl
length-all_trips (b ∷ bs) =
    length-append b.1 (all_trips bs)
    ∙ (ap (λ n. length b.1 + n) (length-all_trips bs) ∙ sym (sum_by-cons (λ (x : LayerBlock). length x.1) b bs))

-- one more block
pub record OneMore (p : Problem) (bs : List LayerBlock) (i : ℕ) (b : LayerBlock) : Type 0 where
  pub cost : plan_cost p (take (i + 1) bs) ≡ plan_cost p (take i bs) + block_cost p b.0 b.1
  pub trips : length (all_trips (take (i + 1) bs)) ≡ length (all_trips (take i bs)) + length b.1
  pub within : length (all_trips (take i bs)) + length b.1 ≤ length (all_trips bs)
  pub times : (k : ℕ) → times_run (take (i + 1) bs) k ≡ times_run (take i bs) k + count_by (λ t. t.0 == k) b.1
  pub few_times : (k : ℕ) → times_run (take i bs) k ≤ length (all_trips (take i bs))

one_more_at : (p : Problem) (bs : List LayerBlock) (i : ℕ) (d : LayerBlock) → i < length bs
    → OneMore p bs i (get_or bs i d)
one_more_at p bs i d inside =
    let more = all_trips_more bs i d inside in
    let within = sum_by_more_le (λ (x : LayerBlock). length x.1) bs i d inside in
    record {
      cost = sum_by_more (λ (b : LayerBlock). block_cost p b.0 b.1) bs i d inside;
      trips = ap length more ∙ length-append (all_trips (take i bs)) (get_or bs i d).1;
      within = omega (arith, within, length-all_trips (take i bs), length-all_trips bs);
      times = λ k. ap (count_by (λ t. t.0 == k)) more
          ∙ sum_by-append (λ t. cond (t.0 == k) 1 0) (all_trips (take i bs)) (get_or bs i d).1;
      few_times = λ k. count_by-le-length (λ t. t.0 == k) (all_trips (take i bs));
    }

-- what one more block adds, where blocks are taken one by one
pub one_more : (p : Problem) (blocks : List Block) (i : ℕ) (block : Block) → i < length blocks
    → block ≡ get_or blocks i block
    → OneMore p (pairs_of blocks) i (pair_of block)
one_more p blocks i block inside is =
    let inside' : i < length (pairs_of blocks) = omega (arith, length-map blocks pair_of) in
    subst (OneMore p (pairs_of blocks) i) (pair_at blocks i block (pair_of block) inside is)
    (one_more_at p (pairs_of blocks) i (pair_of block) inside')

-- a place of a block is one of its pair
pub inside_pairs : (blocks : List Block) (i : ℕ) → i < length blocks → i < length (pairs_of blocks)
inside_pairs blocks i inside = omega (arith, length-map blocks pair_of)

-- there are as many pairs as blocks
pub count_pairs : (blocks : List Block) → length (pairs_of blocks) ≡ length blocks
count_pairs blocks = length-map blocks pair_of

-- past the last block all are taken
pub whole_plan : (blocks : List Block) (i : ℕ) → length blocks ≤ i → take i (pairs_of blocks) ≡ pairs_of blocks
whole_plan blocks i past = take_all i (pairs_of blocks) (omega (arith, length-map blocks pair_of))

-- blocks of an instance are no more than their trips
pub few_blocks : (p : Problem) (blocks : List Block) → CanBeJudged p (pairs_of blocks) → length blocks < 2 ^ 32
few_blocks p blocks can =
    let few = can.few_trips in
    let each = blocks-le-trips (pairs_of blocks) (λ k d within. (can.of_instance k d within).some_trip) in
    omega (arith, each, few, length-map blocks pair_of)
