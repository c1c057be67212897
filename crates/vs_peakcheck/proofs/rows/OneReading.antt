-- What a row says of a peak is one thing, and the rows of claims lead to the end.
use Rattle.std.proofs.Common.{◌≡◌, ℕ, suc, ◌+◌, ◌<◌, Bool, cond, List, [], ◌∷◌, length, get_or, refl, sym, ap, ◌∙◌, subst, Some, None, Option, ℤ, pos, arith, codes}
use Rattle.std.specs.Prelude.{IfNone, option_map}
use Rattle.std.specs.Fmt.{signed_decimal}
use Rattle.std.specs.List.{All}
use Rattle.std.proofs.lemmas.Bool.{eq-eqb}
use Rattle.std.proofs.lemmas.Int.{ints}
use Rattle.std.proofs.lemmas.List.Elements.{All-head, All-tail}
use Rattle.vs_types.specs.declared.numbers.LayerNo.{LayerNo}
use Rattle.vs_instance.specs.Problem.{Problem}
use Rattle.vs_instance.specs.Plan.{LayerBlock}
use Rattle.vs_instance.specs.HoldingTable.{price_of}
use Rattle.vs_plan.specs.Blocks.{IsOfInstance, pairs_of}
use Rattle.vs_prices.specs.Table.{IsPrice}
use Rattle.vs_reader.specs.Rows.{Field, Row, field_of}
use Rattle.vs_reader.specs.Names.{NameLists, name_of}
use Rattle.vs_reader.specs.NameRules.{AreNames}
use Rattle.vs_rows.specs.DocumentRows.{BlockRow, ClaimRow, CostRow, BoundRow, NodesRow, TableRow, SplitRow, LeafRow, DocumentRow, EndRow, FleetRow, IsWithin, PriceRow, Says, written_row}
use Rattle.vs_rows.specs.declared.limits.TheConstants.{MAX_PRINTED_PRICE}
use Rattle.vs_rows.proofs.CallerLemmas.{LeadsTo, first_word, leads_on, says_once, word_of}
use Rattle.vs_peakcheck.specs.Counting.{counted_fleet, counting, own_blocks, own_trips, permitted_trips}
use Rattle.vs_peakcheck.proofs.problem.CountedTrips.{count_is}
use Rattle.vs_peakcheck.specs.declared.claimed.Claimed.{Claimed}
use Rattle.vs_peakcheck.specs.Claims.{AreClaimed, IsClaimed}
use Rattle.vs_peakcheck.specs.PeakRefusals.{peaks}
use Rattle.vs_peakcheck.specs.PeakRows.{CountRow, IsCount, IsCountRow, PartRow, PeakRow, SaysSo, block_rows, count_field, count_row, layer_rows, layers_rows, peak_rows, price_rows}
use Rattle.vs_peakcheck.specs.Places.{AtBlocks, AtEnd, AtLayer, MayRun, in_prices}
use Rattle.vs_peakcheck.specs.Reading.{IsCountedBlock}
use Rattle.vs_peakcheck.proofs.problem.CountedRows.{may_run_counted}
use Rattle.vs_peakcheck.proofs.rows.PricedRows.{fleet_order, price_order}

module _ (names : NameLists) (row : Row) (layers : AreNames names.layers) (trips : AreNames names.trips) where
  -- two layers of one name are one
  same_layer : (l m : ℕ) → l < length names.layers → m < length names.layers
      → name_of names.layers l ≡ name_of names.layers m → l ≡ m
  same_layer l m of_l of_m same =
      let zero' : ℤ = pos 0 in
      let range : IsWithin MAX_PRINTED_PRICE zero' = (omega (arith, ints), omega (arith, ints)) in
      let one : Says names (written_row names (FleetRow l zero')) (FleetRow l zero') =
      record { form = (of_l, range); written = refl } in
      let two : Says names (written_row names (FleetRow l zero')) (FleetRow m zero') =
      record {
        form = (of_m, range);
        written = ap (λ (name : Field). codes "fleet" ∷ name ∷ signed_decimal zero' ∷ []) same;
      } in
      let e = says_once names (written_row names (FleetRow l zero')) layers trips (FleetRow l zero') (FleetRow m zero')
      one two in cc

  same_option : (a b : Option ℕ) → option_map pos a ≡ option_map pos b → a ≡ b
  same_option None None e = refl
  same_option None (Some n) e = absurd (cc)
  same_option (Some m) None e = absurd (cc)
  same_option (Some m) (Some n) e = let same : pos m ≡ pos n = cc in ap Some (omega (arith, ints, same))

  says_cost : (n : Option ℕ) → IsCount n
      → Says names (codes "cost" ∷ count_field n ∷ []) (CostRow (option_map pos n))
  says_cost None few = record { form = tt; written = refl }
  says_cost (Some n) few = record { form = (omega (arith, ints), omega (arith, ints, few)); written = refl }

  -- two counts that are written alike are one
  same_count : (a b : Option ℕ) → IsCount a → IsCount b → count_field a ≡ count_field b → a ≡ b
  same_count a b few_a few_b same =
      let R : Row → Type 0 = λ r. Says names r (CostRow (option_map pos b)) in
      let other = subst R (ap (λ (field : Field). codes "cost" ∷ field ∷ []) (sym same)) (says_cost b few_b) in
      let e = says_once names (codes "cost" ∷ count_field a ∷ []) layers trips (CostRow (option_map pos a))
      (CostRow (option_map pos b)) (says_cost a few_a) other in
      same_option a b (cc)

  count_word : (l : ℕ) (n : Option ℕ) → IsCountRow names row l n → field_of row 0 ≡ codes "peak"
  count_word l n is = ap (λ (r : Row). get_or r 0 []) is.written

  -- a count is no other row
  apart : (l : ℕ) (n : Option ℕ) (said : DocumentRow) → IsCountRow names row l n → Says names row said → ⊥
  apart l n said count says =
      let e = sym (count_word l n count) ∙ first_word names row said says in
      by_word said (ap (λ (bs : List ℕ). get_or bs 0 0) e) (ap (λ (bs : List ℕ). get_or bs 1 0) e)
    where
      by_word : (said : DocumentRow) → get_or (codes "peak") 0 0 ≡ get_or (word_of said) 0 0
          → get_or (codes "peak") 1 0 ≡ get_or (word_of said) 1 0 → ⊥
      by_word (ClaimRow x) e f = omega arith
      by_word (CostRow x) e f = omega arith
      by_word (BoundRow x) e f = omega arith
      by_word (NodesRow x) e f = omega arith
      by_word (BlockRow x) e f = omega arith
      by_word (TableRow x ray) e f = omega arith
      by_word (FleetRow x price) e f = omega arith
      by_word (PriceRow x i into from) e f = omega arith
      by_word (SplitRow x left) e f = omega arith
      by_word (LeafRow x) e f = omega arith
      by_word EndRow e f = omega arith

  -- a row says one thing
  pub says_so_once : (a b : PeakRow) → SaysSo names row a → SaysSo names row b → a ≡ b
  says_so_once (CountRow l n) (CountRow m k) a b =
      let e : count_row names l n ≡ count_row names m k = sym a.written ∙ b.written in
      let layer : l ≡ m = same_layer l m a.layer b.layer (ap (λ (r : Row). get_or r 1 []) e) in
      let count : n ≡ k = same_count n k a.count b.count (ap (λ (r : Row). get_or r 2 []) e) in
      cc
  says_so_once (CountRow l n) (PartRow said) a b = absurd (apart l n said a b.1)
  says_so_once (PartRow said) (CountRow l n) a b = absurd (apart l n said b a.1)
  says_so_once (PartRow said) (PartRow other) a b = ap PartRow (says_once names row layers trips said other a.1 b.1)

module _ (p : Problem) where
  -- blocks beside a count
  leads_blocks : (l : LayerNo) (count : Option ℕ) (blocks : List LayerBlock)
      → All (IsOfInstance (counting p l.0)) blocks → (count ≡ None → blocks ≡ [])
      → LeadsTo peaks p (AtBlocks l.0 count) (block_rows (own_blocks p l blocks)) (AtBlocks l.0 count)
  leads_blocks l count [] are some = refl
  leads_blocks l None (b ∷ blocks) are some = let e = some refl in absurd (cc)
  leads_blocks l (Some n) (b ∷ blocks) are some =
      let is = All-head (IsOfInstance (counting p l.0)) b blocks are in
      let none : b.0.0 ≡ 0 = let below = is.layer in omega arith in
      let counted : IsCountedBlock p l (l, own_trips p l.0 b.1) b = record {
        of_only = ap (λ (k : ℕ). record { 0 = k }) none;
        of_layer = refl;
        trips = λ k d within.
            let inside = is.trips k d within in omega (arith, inside, count_is (counted_fleet p) p l.0);
        own_is = refl;
      } in
      let may : MayRun p l.0 (l, own_trips p l.0 b.1) = may_run_counted p l (l, own_trips p l.0 b.1) b counted in (
        AtBlocks l.0 (Some n),
        record { suits = tt; order = ap (λ (t : Bool). cond t (Some (AtBlocks l.0 (Some n))) None) may; right = tt },
        leads_blocks l (Some n) blocks (All-tail (IsOfInstance (counting p l.0)) b blocks are)
            (λ e. absurd (cc)),
      )

  leads_prices : (l : ℕ) (trips : List ℕ) (into from : List ℤ) → length into ≡ length trips
      → length from ≡ length trips → All IsPrice into → All IsPrice from
      → LeadsTo peaks p (in_prices l trips) (price_rows l trips into from) (AtLayer (l + 1))
  leads_prices l [] [] [] a b c d = refl
  leads_prices l [] [] (y ∷ from) a b c d = absurd (omega (arith, b))
  leads_prices l [] (x ∷ into) from a b c d = absurd (omega (arith, a))
  leads_prices l (i ∷ trips) [] from a b c d = absurd (omega (arith, a))
  leads_prices l (i ∷ trips) (x ∷ into) [] a b c d = absurd (omega (arith, b))
  leads_prices l (i ∷ trips) (x ∷ into) (y ∷ from) a b c d = (
    in_prices l trips,
    record {
      suits = tt;
      order = price_order p l i l i trips x y refl refl;
      right = (All-head IsPrice x into c, All-head IsPrice y from d);
    },
    leads_prices l trips into from (omega (arith, a)) (omega (arith, b)) (All-tail IsPrice x into c)
        (All-tail IsPrice y from d),
  )

  none_given : (count : Option ℕ) (blocks : List LayerBlock) → IfNone count (blocks ≡ []) → count ≡ None → blocks ≡ []
  none_given None blocks none is = none
  none_given (Some n) blocks none is = absurd (cc)

  -- one layer
  leads_layer : (l : ℕ) (c : Claimed) → IsClaimed (counting p l) c
      → LeadsTo peaks p (AtLayer l) (layer_rows p l c) (AtLayer (l + 1))
  leads_layer l c is =
      let layer : LayerNo = record { 0 = l } in
      let blocks = pairs_of c.blocks.items in
      let rows = block_rows (own_blocks p layer blocks) in
      let trips = permitted_trips p l in
      let price = price_of c.table.fleet.items 0 in
      let prices = price_rows l trips c.table.into.items c.table.from.items in
      let size = count_is (counted_fleet p) p l in
      let one_fleet : 0 < length c.table.fleet.items = let e = is.fits.fleet_size in omega arith in
      let behind_blocks : LeadsTo peaks p (AtBlocks l c.count) (PartRow (FleetRow l price) ∷ prices)
      (AtLayer (l + 1)) = (
        in_prices l trips,
        record { suits = tt; order = fleet_order p l c.count l price refl; right = is.fits.fleet 0 (pos 0) one_fleet },
        leads_prices l trips c.table.into.items c.table.from.items
            (let e = is.fits.into_size in omega (arith, e, size)) (let e = is.fits.from_size in omega (arith, e, size))
            is.fits.into is.fits.from,
      ) in (
        AtBlocks l c.count,
        record {
          suits = tt;
          order = ap (λ (b : Bool). cond b (Some (AtBlocks l c.count)) None) (eq-eqb l l refl);
          right = tt;
        },
        leads_on peaks p (AtBlocks l c.count) (AtBlocks l c.count) (AtLayer (l + 1)) rows
            (PartRow (FleetRow l price) ∷ prices)
            (leads_blocks layer c.count blocks is.blocks (none_given c.count blocks is.no_blocks)) behind_blocks,
      )

  leads_layers : (l : ℕ) (claimed : List Claimed)
      → ((k : ℕ) (d : Claimed) → k < length claimed → IsClaimed (counting p (l + k)) (get_or claimed k d))
      → LeadsTo peaks p (AtLayer l) (layers_rows p l claimed) (AtLayer (l + length claimed))
  leads_layers l [] each = let e : l ≡ l + 0 = omega arith in ap AtLayer e
  leads_layers l (c ∷ claimed) each =
      let here : l + 0 ≡ l = omega arith in
      let P : ℕ → Type 0 = λ n. IsClaimed (counting p n) c in
      let last : l + 1 + length claimed ≡ l + suc (length claimed) = omega arith in
      let Q : ℕ → Type 0 = λ n. LeadsTo peaks p (AtLayer (l + 1)) (layers_rows p (l + 1) claimed) (AtLayer n) in
      leads_on peaks p (AtLayer l) (AtLayer (l + 1)) (AtLayer (l + suc (length claimed))) (layer_rows p l c)
      (layers_rows p (l + 1) claimed) (leads_layer l c (subst P here (each 0 c (omega arith))))
      (subst Q last (leads_layers (l + 1) claimed
      (λ k d within.
      let shift : l + suc k ≡ l + 1 + k = omega arith in
      let R : ℕ → Type 0 = λ n. IsClaimed (counting p n) (get_or claimed k d) in
      subst R shift (each (suc k) d (omega (arith, within))))))

  -- all rows behind the first
  pub leads_text : (claimed : List Claimed) → AreClaimed p claimed
      → LeadsTo peaks p (AtLayer 0) (peak_rows p claimed) AtEnd
  leads_text claimed are =
      let last : 0 + length claimed ≡ length p.layers = omega (arith, are.each_layer) in
      let Q : ℕ → Type 0 = λ n. LeadsTo peaks p (AtLayer 0) (layers_rows p 0 claimed) (AtLayer n) in
      leads_on peaks p (AtLayer 0) (AtLayer (length p.layers)) AtEnd (layers_rows p 0 claimed) (PartRow EndRow ∷ [])
      (subst Q last (leads_layers 0 claimed
      (λ k d within.
      let shift : k ≡ 0 + k = omega arith in
      let R : ℕ → Type 0 = λ n. IsClaimed (counting p n) (get_or claimed k d) in
      subst R shift (are.each k d within)))) (
        AtEnd,
        record {
          suits = tt;
          order = ap (λ (b : Bool). cond b (Some AtEnd) None) (eq-eqb (length p.layers) (length p.layers) refl);
          right = tt;
        },
        refl,
      )
