-- What is claimed has no flaw exactly where it holds.
use Rattle.std.proofs.Common.{◌≡◌, ℕ, not, List, [], ◌∷◌, length, get_or, map, refl, sym, ap, ◌∙◌, subst, arith, Option, Some, None as nothing, pos}
use Rattle.std.specs.Prelude.{IfSome, option_map}
use Rattle.std.specs.List.{All}
use Rattle.std.proofs.lemmas.Bool.{eq-eqb, eqb-true, not-false}
use Rattle.std.proofs.lemmas.List.{length-map}
use Rattle.vs_types.specs.declared.numbers.LayerNo.{LayerNo}
use Rattle.vs_types.proofs.CallerLemmas.{less_not, not_less}
use Rattle.vs_instance.specs.Firsts.{first}
use Rattle.vs_instance.specs.Problem.{Problem}
use Rattle.vs_instance.specs.Plan.{IsPlan, LayerBlock}
use Rattle.vs_instance.specs.Restriction.{permitted_sets}
use Rattle.vs_instance.proofs.CallerLemmas.{None, both_none, each_none, false_from_none, none-append, none_each, none_from_false, none_from_first}
use Rattle.vs_plan.specs.Blocks.{IsOfInstance, pair_of, pairs_of}
use Rattle.vs_plan.specs.declared.block.Block.{Block}
use Rattle.vs_plan.specs.PlanFaults.{faults_of}
use Rattle.vs_plan.specs.declared.plan_fault.PlanFault.{PlanFault}
use Rattle.vs_plan.proofs.CallerLemmas.{faultless, plan_from_faultless, refuses}
use Rattle.vs_prices.specs.Breaks.{breaks_of}
use Rattle.vs_prices.specs.Worth.{Reaches, worth_of}
use Rattle.vs_prices.specs.declared.bound.Bound.{Bound}
use Rattle.vs_prices.specs.declared.bound.Bound.TheVariants.{AtLeast, NoPlan}
use Rattle.vs_prices.specs.declared.broken_at.BrokenAt.{BrokenAt}
use Rattle.vs_prices.proofs.CallerLemmas.{holds_nowhere_broken, nowhere_broken, worth_is, worth_of-IsWorth}
use Rattle.vs_peakcheck.specs.Counting.{counting}
use Rattle.vs_peakcheck.specs.Claims.{AreClaimed, IsClaimed}
use Rattle.vs_peakcheck.specs.Flaws.{blocks_flaws, broken_flaws, count_flaws, difference, flaws_in, flaws_of, layer_flaws, weakness}
use Rattle.vs_peakcheck.specs.HoldingClaims.{HoldingClaim, HoldingClaims}
use Rattle.vs_peakcheck.specs.declared.claimed.Claimed.{Claimed}
use Rattle.vs_peakcheck.specs.declared.flaw.PeakFlaw.{PeakFlaw}
use Rattle.vs_peakcheck.specs.declared.flaw.PeakFlaw.TheVariants.{Blocks}

broken_none : (at : Option BrokenAt) → None (broken_flaws at) → at ≡ nothing
broken_none nothing none = refl
broken_none (Some at) none = cc

reaches_from_none : (worth : Bound) (count : Option ℕ) → None (weakness worth count)
    → Reaches worth (option_map pos count)
reaches_from_none NoPlan count none = tt
reaches_from_none (AtLeast n) nothing none = cc
reaches_from_none (AtLeast n) (Some count) none = not_less n (pos count) (false_from_none _ _ none)

none_from_reaches : (worth : Bound) (count : Option ℕ) → Reaches worth (option_map pos count)
    → None (weakness worth count)
none_from_reaches NoPlan count reaches = refl
none_from_reaches (AtLeast n) nothing reaches = absurd reaches
none_from_reaches (AtLeast n) (Some count) reaches = none_from_false _ _ (less_not n (pos count) reaches)

module _ (q : Problem) where
  -- a plan has no first fault
  pub no_fault : (blocks : List LayerBlock) → IsPlan q blocks → first (faults_of q blocks) ≡ nothing
  no_fault blocks plan = by_first (first (faults_of q blocks)) refl
    where
      by_first : (f : Option PlanFault) → first (faults_of q blocks) ≡ f → f ≡ nothing
      by_first nothing is = refl
      by_first (Some fault) is = absurd (refuses q blocks fault is plan)

  abbrev AreSoMany : List LayerBlock → Option ℕ → Type 0
  AreSoMany blocks count = IfSome count (λ n. IsPlan q blocks × (length blocks ≡ n))

  blocks_from_none : (blocks : List LayerBlock) → All (IsOfInstance q) blocks → (count : Option ℕ)
      → None (count_flaws q blocks count) → AreSoMany blocks count
  blocks_from_none blocks of_instance nothing none = tt
  blocks_from_none blocks of_instance (Some n) none = by_first (first (faults_of q blocks)) refl
    where
      by_first : (f : Option PlanFault) → first (faults_of q blocks) ≡ f → IsPlan q blocks × (length blocks ≡ n)
      by_first nothing is =
          let here : None (difference n (length blocks)) = sym (ap (blocks_flaws blocks n) is) ∙ none in (
            plan_from_faultless q blocks of_instance (faultless q blocks is),
            sym (eqb-true n (length blocks) (not-false _ (false_from_none _ _ here))),
          )
      by_first (Some fault) is =
          let e : Blocks fault ∷ [] ≡ [] = sym (ap (blocks_flaws blocks n) is) ∙ none in absurd (cc)

  none_from_blocks : (blocks : List LayerBlock) (count : Option ℕ) → AreSoMany blocks count
      → None (count_flaws q blocks count)
  none_from_blocks blocks nothing are = refl
  none_from_blocks blocks (Some n) are =
      ap (blocks_flaws blocks n) (no_fault blocks are.0)
      ∙ none_from_false _ _ (ap not (eq-eqb n (length blocks) (sym are.1)))

  -- what is claimed for the problem holds where it has no flaw
  holds_in : (c : Claimed) → IsClaimed q c → None (flaws_in q c) → HoldingClaim q c
  holds_in c is none =
      let two = both_none _ _ none in
      let one = both_none _ _ two.0 in
      record {
        blocks = blocks_from_none (pairs_of c.blocks.items) is.blocks c.count one.0;
        table = holds_nowhere_broken q c.table (none_from_first (breaks_of q c.table) (broken_none _ one.1));
        reaches = (
          worth_of q (permitted_sets q) c.table,
          worth_of-IsWorth q (permitted_sets q) c.table,
          reaches_from_none _ c.count two.1,
        );
      }

  -- and has none where it holds
  none_in : (c : Claimed) → HoldingClaim q c → None (flaws_in q c)
  none_in c holds =
      let worth = worth_is q (permitted_sets q) c.table holds.reaches.0 holds.reaches.1 in
      none-append _ _
      (none-append _ _ (none_from_blocks (pairs_of c.blocks.items) c.count holds.blocks)
      (ap (λ (bs : List BrokenAt). broken_flaws (first bs)) (nowhere_broken q c.table holds.table)))
      (none_from_reaches _ c.count (subst (λ (b : Bound). Reaches b (option_map pos c.count)) worth holds.reaches.2))

  -- the flaw of blocks that are a plan
  pub count_flaw_of_plan : (blocks : List LayerBlock) (n : ℕ) → IsPlan q blocks
      → count_flaws q blocks (Some n) ≡ difference n (length blocks)
  count_flaw_of_plan blocks n plan = ap (blocks_flaws blocks n) (no_fault blocks plan)

  -- and of others
  pub count_flaw_of_fault : (blocks : List LayerBlock) (n : ℕ) (fault : PlanFault)
      → first (faults_of q blocks) ≡ Some fault → count_flaws q blocks (Some n) ≡ Blocks fault ∷ []
  count_flaw_of_fault blocks n fault is = ap (blocks_flaws blocks n) is

map_none : {A B : Type 0} (f : A → B) (xs : List A) → map f xs ≡ [] → xs ≡ []
map_none f [] none = refl
map_none f (x ∷ xs) none = cc

pub first-map : {A B : Type 0} (f : A → B) (xs : List A) → first (map f xs) ≡ option_map f (first xs)
first-map f [] = refl
first-map f (x ∷ xs) = refl

module _ (p : Problem) where
  -- with the number of the layer
  abbrev pub at_layer : ℕ → PeakFlaw → LayerNo × PeakFlaw
  at_layer l flaw = (record { 0 = l }, flaw)

  -- what is claimed of all layers holds where it has no flaw
  pub holds_from_none : (claimed : List Claimed) → AreClaimed p claimed → None (flaws_of p claimed)
      → HoldingClaims p claimed
  holds_from_none claimed are none l d within =
      let here = each_none (layer_flaws p) 0 claimed none l l d within (omega arith) in
      holds_in (counting p l) (get_or claimed l d) (are.each l d within)
      (map_none (at_layer l) (flaws_in (counting p l) (get_or claimed l d)) here)

  pub none_from_holds : (claimed : List Claimed) → HoldingClaims p claimed → None (flaws_of p claimed)
  none_from_holds claimed holds =
      none_each (layer_flaws p) 0 claimed (λ l j d within is.
      let same : l ≡ j = omega (arith, is) in
      subst (λ (n : ℕ). None (layer_flaws p n (get_or claimed l d))) same
      (ap (map (at_layer l)) (none_in (counting p l) (get_or claimed l d) (holds l d within))))

-- the verdict on blocks that are a plan
pub plan_flaw : (q : Problem) (blocks : List Block) (n : ℕ) → IsPlan q (pairs_of blocks)
    → first (count_flaws q (pairs_of blocks) (Some n)) ≡ first (difference n (length blocks))
plan_flaw q blocks n plan =
    ap first (count_flaw_of_plan q (pairs_of blocks) n plan)
    ∙ ap (λ (m : ℕ). first (difference n m)) (length-map blocks pair_of)
