-- Layers that are read one after another, and the whole text.
use Rattle.std.proofs.Common.{◌≡◌, ◌≢◌, ℕ, suc, ◌+◌, ◌<◌, ◌≤◌, Bool, cond, List, [], ◌∷◌, ◌++◌, length, take, drop, refl, sym, ap, ◌∙◌, subst, inl, inr, arith, append_assoc, ℤ, Some, None, Option}
use Rattle.std.specs.Prelude.{IfNone, is_none}
use Rattle.std.specs.List.{All}
use Rattle.std.proofs.lemmas.Bool.{cases_lt, eq-eqb, ne_eqb}
use Rattle.std.proofs.lemmas.List.{append-nil, drop_all, drop_more, get_or_append_left, get_or_push, length-append, length_push, nil_from_length, take-append-drop}
use Rattle.std.proofs.lemmas.List.Concat.{flat_map-append}
use Rattle.std.proofs.lemmas.List.Elements.{All-cons, All-nil, All-push}
use Rattle.vs_types.specs.declared.numbers.LayerNo.{LayerNo}
use Rattle.vs_instance.specs.Problem.{Problem}
use Rattle.vs_plan.specs.Blocks.{pairs_of}
use Rattle.vs_instance.specs.HoldingTable.{price_of}
use Rattle.vs_prices.specs.Table.{IsPrice}
use Rattle.vs_reader.specs.Rows.{Row, all_fields, row_of}
use Rattle.vs_reader.specs.declared.input.Input.{Input}
use Rattle.vs_rows.specs.DocumentRows.{EndRow, FleetRow}
use Rattle.vs_rows.specs.RowForms.{IsInput}
use Rattle.vs_rows.specs.TableReading.{ReadsFleet}
use Rattle.vs_peakcheck.specs.Counting.{counted_fleet, counting, own_blocks, permitted_trips}
use Rattle.vs_peakcheck.proofs.problem.CountedTrips.{count_is}
use Rattle.vs_peakcheck.specs.declared.claimed.Claimed.{Claimed}
use Rattle.vs_peakcheck.specs.declared.reading.prices.Prices.{Prices}
use Rattle.vs_peakcheck.specs.declared.refused.PeakError.{PeakError}
use Rattle.vs_peakcheck.specs.declared.refused.PeakError.TheVariants as error
use Rattle.vs_peakcheck.specs.declared.refused.PeakWhy.TheVariants.{NoPeak, RowsAfterEnd}
use Rattle.vs_peakcheck.specs.Claims.{CanBeChecked, IsClaimed, IsShort, PeakText}
use Rattle.vs_peakcheck.specs.PeakRefusals.{AreRefused, peaks}
use Rattle.vs_peakcheck.specs.PeakRows.{CountRow, IsCount, PartRow, PeakRow, SayAllSo, SaysPeak, block_rows, head_row, layer_rows, layers_rows, price_rows}
use Rattle.vs_peakcheck.specs.Places.{AtBlocks, AtEnd, AtLayer, behind, in_prices}
use Rattle.vs_peakcheck.specs.Reading.{IsLast, IsRefusalOf, IsRefusedAt, ReadsBlocks, ReadsCount, ReadsLayer, ReadsLayers, ReadsPrices}
use Rattle.vs_peakcheck.proofs.rows.PricedRows.{fleet_reads}
use Rattle.vs_rows.specs.RowReading.{ReadsTo}
use Rattle.vs_rows.proofs.CallerLemmas.{leads_one, read_on, reads_none, reads_one, refused_after_end}

-- the row of a count
module _ (input : Input) (row l : ℕ) (lt : row < length input.rest) (layer : ℕ) (count : Option ℕ)
    (says : SaysPeak input row (CountRow layer count)) where
  pub count_of_another : layer ≢ l
      → behind input.instance (AtLayer l) (CountRow layer count) ≡ None
  count_of_another other = ap (λ (b : Bool). cond b (Some (AtBlocks l count)) None) (ne_eqb layer l other)

  pub count_read : layer ≡ l → ReadsCount input row l count
  count_read same =
      let P : ℕ → Type 0 = λ k. SaysPeak input row (CountRow k count) in
      record {
        few = says.count;
        reads = reads_one peaks input row lt (AtLayer l) (CountRow l count) (subst P same says) (AtBlocks l count)
            (record {
              suits = tt;
              order = ap (λ (b : Bool). cond b (Some (AtBlocks l count)) None) (eq-eqb l l refl);
              right = tt;
            });
      }

-- no more fields than there are stand before a row
fields_before : (rows : List Row) (n : ℕ) → length (all_fields (take n rows)) ≤ length (all_fields rows)
fields_before rows n =
    let parts : length (all_fields rows) ≡ length (all_fields (take n rows)) + length (all_fields (drop n rows)) =
    ap (λ (rs : List Row). length (all_fields rs)) (sym (take-append-drop n rows))
    ∙ ap length (flat_map-append (λ (r : Row). r) (take n rows) (drop n rows))
    ∙ length-append (all_fields (take n rows)) (all_fields (drop n rows)) in
    omega (arith, parts)

module _ (input : Input) (is_input : IsInput input) (at : ℕ) (l : LayerNo) (count : Option ℕ) (fleet_at : ℕ)
    (price : ℤ) (prices : Prices) (c : Claimed) (count_is' : c.count ≡ count)
    (into_is : c.table.into.items ≡ prices.into.items) (from_is : c.table.from.items ≡ prices.from.items)
    (fleet_is : c.table.fleet.items ≡ price ∷ []) (ray_is : c.table.ray ≡ is_none count)
    (counted : ReadsCount input at l.0 count)
    (blocks : ReadsBlocks input (at + 1) l count fleet_at (pairs_of c.blocks.items))
    (fleet : ReadsFleet input fleet_at l.0 price) (priced : ReadsPrices input (fleet_at + 1) l.0 prices) where
  claimed_is : IsClaimed (counting input.instance l.0) c
  claimed_is =
      let size = count_is (counted_fleet input.instance) input.instance l.0 in
      record {
        few = subst IsCount (sym count_is') counted.few;
        no_blocks = subst (λ (o : Option ℕ). IfNone o (pairs_of c.blocks.items ≡ [])) (sym count_is') blocks.no_blocks;
        blocks = blocks.of_instance;
        fits = record {
          into_size = omega (arith, ap length into_is, priced.into_size, size);
          from_size = omega (arith, ap length from_is, priced.from_size, size);
          fleet_size = ap length fleet_is;
          into = subst (All IsPrice) (sym into_is) priced.into_prices;
          from = subst (All IsPrice) (sym from_is) priced.from_prices;
          fleet = subst (All IsPrice) (sym fleet_is)
              (All-cons IsPrice price [] fleet.is_price (All-nil IsPrice));
        };
        ray = ray_is ∙ ap is_none (sym count_is');
      }

  abbrev rows_by : Option ℕ → List ℤ → List ℤ → List ℤ → List PeakRow
  rows_by n into from fleets = CountRow l.0 n ∷ block_rows (own_blocks input.instance l (pairs_of c.blocks.items))
      ++ (PartRow (FleetRow l.0 (price_of fleets 0))
      ∷ price_rows l.0 (permitted_trips input.instance l.0) into from)

  reads_rows : ReadsTo peaks input at (AtLayer l.0) (layer_rows input.instance l.0 c)
      (fleet_at + 1 + length (permitted_trips input.instance l.0)) (AtLayer (l.0 + 1))
  reads_rows =
      let to = fleet_at + 1 + length (permitted_trips input.instance l.0) in
      let trips = permitted_trips input.instance l.0 in
      let own = block_rows (own_blocks input.instance l (pairs_of c.blocks.items)) in
      let of_fleet : List PeakRow = PartRow (FleetRow l.0 price) ∷ [] in
      let of_prices = price_rows l.0 trips prices.into.items prices.from.items in
      let last = read_on peaks input fleet_at (fleet_at + 1) to (AtBlocks l.0 count) (in_prices l.0 trips)
      (AtLayer (l.0 + 1)) of_fleet of_prices (fleet_reads input fleet_at l.0 count price fleet) priced.reads in
      let middle = read_on peaks input (at + 1) fleet_at to (AtBlocks l.0 count) (AtBlocks l.0 count)
      (AtLayer (l.0 + 1)) own (of_fleet ++ of_prices) blocks.reads last in
      let all = read_on peaks input at (at + 1) to (AtLayer l.0) (AtBlocks l.0 count) (AtLayer (l.0 + 1))
      (CountRow l.0 count ∷ []) (own ++ (of_fleet ++ of_prices)) counted.reads middle in
      let Reads : List PeakRow → Type 0 = λ said. ReadsTo peaks input at (AtLayer l.0) said to (AtLayer (l.0 + 1)) in
      subst Reads
      (λ i. rows_by (sym count_is' i) (sym into_is i) (sym from_is i) (sym fleet_is i))
      all

  -- the rows of one layer are read
  pub layer_read : ReadsLayer input at l (fleet_at + 1 + length (permitted_trips input.instance l.0)) c
  layer_read = record {
    claim = claimed_is;
    short = omega (
      arith,
      blocks.few_trips,
      fields_before input.rest fleet_at,
      is_input.counted.few_fields,
    );
    reads = reads_rows;
  }

-- the rows of one layer more
pub layers_more : (p : Problem) (n : ℕ) (claimed : List Claimed) (c : Claimed)
    → layers_rows p n (claimed ++ c ∷ []) ≡ layers_rows p n claimed ++ layer_rows p (n + length claimed) c
layers_more p n [] c =
    let e : n ≡ n + 0 = omega arith in
    append-nil (layer_rows p n c) ∙ ap (λ (k : ℕ). layer_rows p k c) e
layers_more p n (d ∷ claimed) c =
    let e : n + 1 + length claimed ≡ n + suc (length claimed) = omega arith in
    ap (λ (rows : List PeakRow). layer_rows p n d ++ rows) (layers_more p (n + 1) claimed c)
    ∙ sym (append_assoc (layer_rows p n d) (layers_rows p (n + 1) claimed) (layer_rows p (n + 1 + length claimed) c))
    ∙ ap (λ (k : ℕ). (layer_rows p n d ++ layers_rows p (n + 1) claimed) ++ layer_rows p k c) e

module _ (input : Input) where
  pub no_layers : (claimed : List Claimed) → claimed ≡ [] → 1 ≤ length input.rest → ReadsLayers input 0 1 claimed
  no_layers claimed is within =
      let P : List Claimed → Type 0 = λ cs. ReadsLayers input 0 1 cs in
      subst P (sym is)
      (record {
        each_layer = refl;
        each = λ l d inside. absurd (omega (arith, inside));
        short = All-nil IsShort;
        reads = reads_none peaks input 1 (AtLayer 0) within;
      })

  pub one_more_layer : (l next to : ℕ) (claimed new : List Claimed) (c : Claimed) → ReadsLayers input l next claimed
      → ReadsLayer input next (record { 0 = l }) to c → new ≡ claimed ++ c ∷ [] → ReadsLayers input (l + 1) to new
  one_more_layer l next to claimed new c so_far read pushed =
      let P : List Claimed → Type 0 = λ cs. ReadsLayers input (l + 1) to cs in
      let at : 0 + length claimed ≡ l = omega (arith, so_far.each_layer) in
      let rows : layers_rows input.instance 0 (claimed ++ c ∷ [])
      ≡ layers_rows input.instance 0 claimed ++ layer_rows input.instance l c =
      layers_more input.instance 0 claimed c
      ∙ ap (λ (k : ℕ). layers_rows input.instance 0 claimed ++ layer_rows input.instance k c) at in
      let both = read_on peaks input 1 next to (AtLayer 0) (AtLayer l) (AtLayer (l + 1))
      (layers_rows input.instance 0 claimed) (layer_rows input.instance l c) so_far.reads read.reads in
      let S : List PeakRow → Type 0 = λ said. ReadsTo peaks input 1 (AtLayer 0) said to (AtLayer (l + 1)) in
      subst P (sym pushed)
      (record {
        each_layer = omega (arith, length_push claimed c, so_far.each_layer);
        each = λ k d inside. elim (cases_lt k (length claimed)) [
          | inl before ↦
              subst (IsClaimed (counting input.instance k)) (sym (get_or_append_left claimed (c ∷ []) d k before))
              (so_far.each k d before)
          | inr last ↦
              let here : length claimed ≡ k = omega (arith, inside, last, length_push claimed c) in
              let own : l ≡ k = omega (arith, here, so_far.each_layer) in
              let Q : ℕ → Type 0 = λ n. IsClaimed (counting input.instance n) c in
              subst (IsClaimed (counting input.instance k)) (sym (get_or_push claimed c d k here))
              (subst Q own read.claim)
        ];
        short = All-push IsShort claimed c so_far.short read.short;
        reads = subst S (sym rows) both;
      })

  -- the last row
  end_order : behind input.instance (AtLayer (length input.instance.layers)) (PartRow EndRow) ≡ Some AtEnd
  end_order =
      ap (λ (b : Bool). cond b (Some AtEnd) None)
      (eq-eqb (length input.instance.layers) (length input.instance.layers) refl)

  pub rows_behind_end : (row : ℕ) → row + 1 < length input.rest → SaysPeak input row (PartRow EndRow)
      → IsRefusedAt input row (AtLayer (length input.instance.layers))
      (error.Refused (input.before + 1 + (row + 1)) RowsAfterEnd)
  rows_behind_end row more says =
      let lead = leads_one peaks input row (omega arith) (AtLayer (length input.instance.layers)) (PartRow EndRow) says
      AtEnd (record { suits = tt; order = end_order; right = tt }) in
      lead.refused (input.before + 1 + (row + 1)) RowsAfterEnd (refused_after_end peaks input (row + 1) more)

  last_says : (row : ℕ) → IsLast input row → SayAllSo input.names (drop row input.rest) (PartRow EndRow ∷ [])
  last_says row last =
      let P : List Row → Type 0 = λ rows. SayAllSo input.names rows (PartRow EndRow ∷ []) in
      let none : drop (row + 1) input.rest ≡ [] = drop_all (row + 1) input.rest (omega (arith, last.last)) in
      let here : drop row input.rest ≡ row_of input.rest row ∷ [] =
      drop_more input.rest row [] (omega (arith, last.last))
      ∙ ap (λ (rows : List Row). row_of input.rest row ∷ rows) none in
      subst P (sym here) (last.says, tt)

  head_and_rest : 0 < length input.rest → row_of input.rest 0 ≡ head_row
      → input.rest ≡ head_row ∷ drop 1 input.rest
  head_and_rest some is =
      drop_more input.rest 0 [] some ∙ ap (λ (row : Row). row ∷ drop 1 input.rest) is

  -- the whole text is read
  pub text_read : (to : ℕ) (claimed : List Claimed) → 0 < length input.rest → row_of input.rest 0 ≡ head_row
      → ReadsLayers input (length input.instance.layers) to claimed → IsLast input to
      → PeakText input.instance input.names input.rest claimed
  text_read to claimed some is read last = record {
    claims = record { each_layer = read.each_layer; each = read.each };
    behind_head = drop 1 input.rest;
    rows_are = head_and_rest some is;
    say = read.reads.say.say (PartRow EndRow ∷ []) (last_says to last);
  }

  pub can_be_checked : (to : ℕ) (claimed : List Claimed) → ReadsLayers input (length input.instance.layers) to claimed
      → CanBeChecked input.instance claimed
  can_be_checked to claimed read = record {
    claims = record { each_layer = read.each_layer; each = read.each };
    short = read.short;
  }

  -- what is refused behind the first row is refused
  pub refused_behind_head : 0 < length input.rest → row_of input.rest 0 ≡ head_row → (e : PeakError)
      → IsRefusedAt input 1 (AtLayer 0) e → IsRefusalOf input e
  refused_behind_head some is error.Memory refused = tt
  refused_behind_head some is (error.Refused at why) refused =
      let P : List Row → Type 0 = λ rows. AreRefused input.instance input.names input.before rows at why in
      subst P (sym (head_and_rest some is)) (inr (refl, refused))

  -- and where the first row is another
  pub another_head : 0 < length input.rest → row_of input.rest 0 ≢ head_row
      → IsRefusalOf input (error.Refused (input.before + 1 + 0) NoPeak)
  another_head some other =
      let at : input.before + 1 + 0 ≡ input.before + 1 = omega arith in
      let P : List Row → Type 0 = λ rows. AreRefused input.instance input.names input.before rows
      (input.before + 1 + 0) NoPeak in
      subst P (sym (drop_more input.rest 0 [] some)) (inl (other, at, refl))

  pub no_head : length input.rest ≡ 0 → IsRefusalOf input (error.Refused (input.before + 1 + 0) NoPeak)
  no_head none =
      let at : input.before + 1 + 0 ≡ input.before + 1 = omega arith in
      let P : List Row → Type 0 = λ rows. AreRefused input.instance input.names input.before rows
      (input.before + 1 + 0) NoPeak in
      subst P (sym (nil_from_length input.rest none)) (at, refl)
