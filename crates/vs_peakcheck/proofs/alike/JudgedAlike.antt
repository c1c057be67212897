-- Claims that say the same are judged alike.
use Rattle.std.proofs.Common.{◌≡◌, ℕ, ◌+◌, Bool, cond, List, [], ◌∷◌, ◌++◌, length, map, refl, sym, ap, ◌∙◌, Option, ℤ, pos, ◌+ℤ◌, ◌-ℤ◌, ◌*ℤ◌}
use Rattle.std.specs.Prelude.{◌&&◌, int_lt}
use Rattle.std.specs.List.{enumerate_from, flat_map, range_with_len}
use Rattle.vs_types.specs.LayerSet.{members}
use Rattle.vs_types.specs.declared.numbers.LayerNo.{LayerNo}
use Rattle.vs_instance.specs.Firsts.{first, when}
use Rattle.vs_instance.specs.HoldingTable.{price_of, scaled}
use Rattle.vs_instance.specs.Lagrangian.{total}
use Rattle.vs_instance.specs.Pieces.{in_piece, link_piece, out_piece, trip_piece}
use Rattle.vs_instance.specs.Plan.{LayerBlock}
use Rattle.vs_instance.specs.Problem.{Problem}
use Rattle.vs_instance.specs.Restriction.{permitted_sets, set_of}
use Rattle.vs_instance.specs.Ways.{layer_of}
use Rattle.vs_plan.specs.Blocks.{pairs_of}
use Rattle.vs_prices.specs.Breaks.{exceeds, may_run}
use Rattle.vs_prices.specs.Table.{prices_in}
use Rattle.vs_prices.specs.Worth.{least, rounded_up}
use Rattle.vs_prices.specs.declared.bound.Bound.{Bound}
use Rattle.vs_prices.specs.declared.bound.Bound.TheVariants.{AtLeast, NoPlan}
use Rattle.vs_prices.specs.declared.broken_at.BrokenAt.{BrokenAt}
use Rattle.vs_prices.specs.declared.broken_at.BrokenAt.TheVariants.{Fleet, Link, PullIn, PullOut}
use Rattle.vs_peakcheck.specs.Counting.{counting}
use Rattle.vs_peakcheck.specs.Alike.{AreAlike, SaysTheSame}
use Rattle.vs_peakcheck.specs.Flaws.{broken_flaws, count_flaws, flaws_in, flaws_of, layer_flaws, weakness}
use Rattle.vs_peakcheck.specs.Laws.{AlikeClaimsAreJudgedAlike, ClaimsOfRowsAreJudgedAlike}
use Rattle.vs_peakcheck.specs.declared.claimed.Claimed.{Claimed}
use Rattle.vs_peakcheck.specs.declared.flaw.PeakFlaw.{PeakFlaw}
use Rattle.vs_peakcheck.proofs.LayerFlaws.{at_layer, holds_from_none, none_from_holds}
use Rattle.vs_peakcheck.proofs.alike.AlikeClaims.{claims_alike}

module _ (q : Problem) where
  -- where prices break, and what they are worth, by the prices alone
  module _ (ray : Bool) (into from fleet : List ℤ) where
    abbrev entering : ℕ → ℕ → ℤ
    entering l i = price_of (prices_in q l into) i

    abbrev leaving : ℕ → ℕ → ℤ
    leaving l i = price_of (prices_in q l from) i

    abbrev breaks_from : ℕ → ℕ → List BrokenAt
    breaks_from l i =
        flat_map (λ j. when (may_run q l j && exceeds (entering l j) (leaving l i) ray (link_piece q l i j))
        (Link (record { 0 = l }) (record { 0 = i }) (record { 0 = j }))) (range_with_len 0 (length q.trips))

    abbrev breaks_at : ℕ → ℕ → List BrokenAt
    breaks_at l i =
        cond (may_run q l i) (when (exceeds (entering l i) (price_of fleet l) ray (out_piece q l i))
        (PullOut (record { 0 = l }) (record { 0 = i }))
        ++ breaks_from l i
        ++ when (exceeds (pos 0) (leaving l i) ray (in_piece q l i)) (PullIn (record { 0 = l }) (record { 0 = i })))
        []

    abbrev breaks_by : List BrokenAt
    breaks_by =
        flat_map (λ l. when (int_lt (price_of fleet l) (pos 0)) (Fleet (record { 0 = l }))
        ++ flat_map (breaks_at l) (range_with_len 0 (length q.trips))) (range_with_len 0 (length q.layers))

    abbrev pays : ℕ → ℕ → ℤ
    pays i l = entering l i +ℤ scaled ray (trip_piece q l i) -ℤ leaving l i

    abbrev value_by : ℤ
    value_by =
        total (map (λ i. least (map (pays i) (members (set_of (permitted_sets q) i)))) (range_with_len 0
        (length q.trips)))
        -ℤ total (map (λ l. price_of fleet l *ℤ pos (layer_of q l).fleet) (range_with_len 0 (length q.layers)))

    abbrev worth_by : Bound
    worth_by =
        cond ray (cond (int_lt (pos 0) value_by) NoPlan (AtLeast (pos 0))) (AtLeast (rounded_up value_by))

    abbrev flaws_by : Option ℕ → List LayerBlock → List PeakFlaw
    flaws_by count blocks = count_flaws q blocks count ++ broken_flaws (first breaks_by) ++ weakness worth_by count

  same_in : (c d : Claimed) → SaysTheSame c d → flaws_in q c ≡ flaws_in q d
  same_in c d same =
      let blocks = pairs_of c.blocks.items in
      let t = c.table in
      let u = d.table in
      ap (λ (r : Bool). flaws_by r t.into.items t.from.items t.fleet.items c.count blocks) same.ray
      ∙ ap (λ (xs : List ℤ). flaws_by u.ray xs t.from.items t.fleet.items c.count blocks) same.into
      ∙ ap (λ (xs : List ℤ). flaws_by u.ray u.into.items xs t.fleet.items c.count blocks) same.from
      ∙ ap (λ (xs : List ℤ). flaws_by u.ray u.into.items u.from.items xs c.count blocks) same.fleet
      ∙ ap (λ (n : Option ℕ). flaws_by u.ray u.into.items u.from.items u.fleet.items n blocks) same.count
      ∙ ap (λ (bs : List LayerBlock). flaws_by u.ray u.into.items u.from.items u.fleet.items d.count bs) same.blocks

module _ (p : Problem) where
  abbrev flaws_from : ℕ → List Claimed → List (LayerNo × PeakFlaw)
  flaws_from l claimed = flat_map (λ e. layer_flaws p e.0 e.1) (enumerate_from l claimed)

  same_from : (l : ℕ) (claimed others : List Claimed) → AreAlike claimed others
      → flaws_from l claimed ≡ flaws_from l others
  same_from l [] [] alike = refl
  same_from l [] (d ∷ others) alike = absurd alike
  same_from l (c ∷ claimed) [] alike = absurd alike
  same_from l (c ∷ claimed) (d ∷ others) alike =
      ap (λ (fs : List PeakFlaw). map (at_layer p l) fs ++ flaws_from (l + 1) claimed)
      (same_in (counting p l) c d alike.0)
      ∙ ap (λ (fs : List (LayerNo × PeakFlaw)). layer_flaws p l d ++ fs) (same_from (l + 1) claimed others alike.1)

pub judged_alike : AlikeClaimsAreJudgedAlike
judged_alike p claimed others are also alike =
    let flaws : flaws_of p claimed ≡ flaws_of p others = same_from p 0 claimed others alike in
    record {
      flaws = flaws;
      holds = (
        (λ holds. holds_from_none p others also (sym flaws ∙ none_from_holds p claimed holds)),
        (λ holds. holds_from_none p claimed are (flaws ∙ none_from_holds p others holds)),
      );
    }

pub rows_judged_alike : ClaimsOfRowsAreJudgedAlike
rows_judged_alike p names rows claimed others layers trips one two =
    judged_alike p claimed others one.claims two.claims (claims_alike p names rows claimed others layers trips one two)
