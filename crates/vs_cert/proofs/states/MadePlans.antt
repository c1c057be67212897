-- Plans with vectors of blocks and of trips.
use Rattle.std.proofs.Common.{◌≡◌, ℕ, ◌<◌, ◌≤◌, ◌^◌, List, [], ◌∷◌, length, refl, sym, ap, ◌∙◌, arith, length-append}
use Rattle.std.specs.List.{All}
use Rattle.std.proofs.lemmas.List.{length-map}
use Rattle.std.proofs.lemmas.List.Elements.{All-cons, All-head, All-nil, All-tail, All-weaker}
use Rattle.vs_types.specs.declared.numbers.TripNo.{TripNo}
use Rattle.vs_instance.specs.Blocks.{IsBlock}
use Rattle.vs_instance.specs.Instance.{IsInstance}
use Rattle.vs_instance.specs.Plan.{IsPlan, LayerBlock, all_trips}
use Rattle.vs_instance.specs.Problem.{Problem}
use Rattle.vs_instance.proofs.CallerLemmas.{blocks-le-trips}
use Rattle.vs_plan.specs.Blocks.{blocks_of, pair_of, pairs_of}
use Rattle.vs_plan.specs.declared.block.Block.{Block}
use Rattle.vs_plan.specs.declared.block.Plan.{Plan}
use Rattle.vs_plan.proofs.CallerLemmas.{plan_trips}
use Rattle.vs_cert.proofs.states.TreeDocument.{vec-items, vec_of}

-- no block has more trips than all have together
each_short : (n : ℕ) (blocks : List LayerBlock) → length (all_trips blocks) ≤ n → All (λ b. length b.1 ≤ n) blocks
each_short n [] few = All-nil (λ (b : LayerBlock). length b.1 ≤ n)
each_short n (b ∷ blocks) few =
    let both = length-append b.1 (all_trips blocks) in
    All-cons (λ (x : LayerBlock). length x.1 ≤ n) b blocks (omega (arith, few, both))
    (each_short n blocks (omega (arith, few, both)))

-- blocks with vectors of trips
make_blocks : (blocks : List LayerBlock) → All (λ b. length b.1 < 2 ^ 63) blocks
    → (made : List Block) × (pairs_of made ≡ blocks)
make_blocks [] short = ([], refl)
make_blocks (b ∷ blocks) short =
    let few : length b.1 < 2 ^ 63 = All-head (λ (x : LayerBlock). length x.1 < 2 ^ 63) b blocks short in
    let rest = make_blocks blocks (All-tail (λ (x : LayerBlock). length x.1 < 2 ^ 63) b blocks short) in (
      record { layer = b.0; trips = vec_of b.1 few } ∷ rest.0,
      ap (λ (trips : List TripNo). (b.0, trips) ∷ pairs_of rest.0) (vec-items b.1 few)
          ∙ ap (λ (bs : List LayerBlock). b ∷ bs) rest.1,
    )

module _ (p : Problem) (instance : IsInstance p) where
  -- the blocks of a plan, as a plan that isn't judged
  pub make_plan : (blocks : List LayerBlock) → IsPlan p blocks → (plan : Plan) × (blocks_of plan ≡ blocks)
  make_plan blocks is =
      let size = plan_trips p blocks is in
      let short = All-weaker (λ (b : LayerBlock). length b.1 ≤ length p.trips) (λ (b : LayerBlock). length b.1 < 2 ^ 63)
      (λ b few. omega (arith, few, instance.few_trips)) blocks
      (each_short (length p.trips) blocks (omega (arith, size))) in
      let made = make_blocks blocks short in
      let some = All-weaker (λ (b : LayerBlock). IsBlock p b.0 b.1) (λ (b : LayerBlock). 0 < length b.1)
      (λ b block. block.some_trip) blocks is.each_block in
      let count : length made.0 ≡ length blocks =
      sym (length-map made.0 pair_of) ∙ ap (λ (bs : List LayerBlock). length bs) made.1 in
      let few : length made.0 < 2 ^ 63 = omega (arith, count, blocks-le-trips blocks some, size, instance.few_trips) in
      (record { blocks = vec_of made.0 few }, ap pairs_of (vec-items made.0 few) ∙ made.1)
