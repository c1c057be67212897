use Rattle.std.proofs.Common.{◌≡◌, ◌+◌, ◌∷◌, [], ℕ, ℤ, Bool, true, false, not, Option, ap, sym, subst, refl, ◌∙◌, length}
use Rattle.std.specs.Prelude.{is_none}
use Rattle.std.specs.Option.{is_some}
use Rattle.std.proofs.lemmas.List.{length-map}
use Rattle.vs_peakcheck.specs.Counting.{numbered, permitted_trips}
use Rattle.vs_peakcheck.specs.declared.claimed.Claimed.{Claimed}
use Rattle.vs_peakcheck.specs.Places.{AtLayer}
use Rattle.vs_peakcheck.specs.Reading.{IsRefusedAt, ReadsLayer}
use Rattle.vs_rows.proofs.CallerLemmas.{as_word, err_passes}
use Rattle.vs_peakcheck.proofs.rows.PricedRows.{fleet_reads, passes}
use Rattle.vs_peakcheck.proofs.rows.ReadLayers.{layer_read}
use Rattle.vs_peakcheck.proofs.reading.layer.read_layer.Goals as goal

-- a test for none
ray_is : (count : Option ℕ) (b : Bool) → is_some count ≡ not b → b ≡ is_none count
ray_is count true is = sym (ap not is)
ray_is count false is = sym (ap not is)

pub returns-in_err-blocks-clause-refused : goal.returns-in_err-blocks-clause-refused
returns-in_err-blocks-clause-refused c =
    let input = c.args.input.now in
    err_passes _ (IsRefusedAt input c.args.at (AtLayer c.args.l.0)) c.from_residual-in_err-blocks.ensures.1
    (passes input _ c.in_ok-count.ensures.found.reads.lead c.in_err-blocks.ensures.refused)

pub returns-in_err-fleet-clause-refused : goal.returns-in_err-fleet-clause-refused
returns-in_err-fleet-clause-refused c =
    let input = c.args.input.now in
    err_passes _ (IsRefusedAt input c.args.at (AtLayer c.args.l.0)) c.from_residual-in_err-fleet.ensures.1
    (passes input _ c.in_ok-count.ensures.found.reads.lead
    (passes input _ c.in_ok-blocks.ensures.found.reads.lead c.in_err-fleet.ensures.refused))

pub returns-in_err-prices-clause-refused : goal.returns-in_err-prices-clause-refused
returns-in_err-prices-clause-refused c =
    let input = c.args.input.now in
    let fleet = fleet_reads input c.in_ok-blocks.fleet_row c.args.l.0 c.in_ok-count.count c.in_ok-fleet.fleet
    c.in_ok-fleet.ensures.found in
    err_passes _ (IsRefusedAt input c.args.at (AtLayer c.args.l.0)) c.from_residual-in_err-prices.ensures.1
    (passes input _ c.in_ok-count.ensures.found.reads.lead
    (passes input _ c.in_ok-blocks.ensures.found.reads.lead
    (passes input _ fleet.lead c.in_err-prices.ensures.refused)))

pub returns-clause-found : goal.returns-clause-found
returns-clause-found c =
    let input = c.args.input.now in
    let fleet = c.in_ok-fleet.ensures.found in
    let trips : length c.as_slice-trips.result.now ≡ length (permitted_trips input.instance c.args.l.0) =
    ap length (c.as_slice-trips.ensures.value ∙ c.in_ok-of_layer.ensures.trips)
    ∙ length-map (permitted_trips input.instance c.args.l.0) numbered in
    let claimed : Claimed = record {
      count = c.in_ok-count.count;
      blocks = c.in_ok-blocks.blocks;
      table = record {
        into = c.in_ok-prices.prices.into;
        from = c.in_ok-prices.prices.from;
        fleet = c.in_ok-vehicles.vehicles;
        ray = c.is_none.result;
      };
    } in
    let P : ℕ → Type 0 = λ n. ReadsLayer input c.args.at c.args.l (c.in_ok-blocks.fleet_row + 1 + n) claimed in
    subst P (sym trips)
    (layer_read input c.requires.input c.args.at c.args.l c.in_ok-count.count c.in_ok-blocks.fleet_row
    c.in_ok-fleet.fleet c.in_ok-prices.prices claimed refl refl refl
    (c.in_ok-vehicles.ensures.items_if_clones_equal (λ y e. e)
    ∙ ap (λ (x : ℤ). x ∷ []) (as_word c.in_ok-fleet.fleet fleet.is_price))
    (ray_is c.in_ok-count.count c.is_none.result c.is_none.ensures) c.in_ok-count.ensures.found
    c.in_ok-blocks.ensures.found fleet c.in_ok-prices.ensures.found)
