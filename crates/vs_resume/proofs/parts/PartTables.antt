-- The part that these sets leave, and what its widened tables are in the instance.
use Rattle.std.proofs.Common.{◌≡◌, ℕ, ◌*◌, ◌<◌, List, [], ◌∷◌, length, sym, ap, ◌∙◌, subst, arith, slice_index_or}
use Rattle.std.specs.List.{All}
use Rattle.std.proofs.lemmas.List.{ext_get_or, length-map}
use Rattle.std.proofs.lemmas.List.Elements.{All-cons, All-head, All-nil, All-tail}
use Rattle.vs_types.specs.declared.layer_set.LayerSet.{LayerSet}
use Rattle.vs_instance.specs.HoldingTable.{HoldsInLayer, price_of}
use Rattle.vs_instance.specs.Narrowed.{narrowed}
use Rattle.vs_instance.specs.Problem.{Problem}
use Rattle.vs_instance.specs.Restriction.{IsRestriction, permitted_sets}
use Rattle.vs_instance.specs.declared.trip.Trip.{Trip}
use Rattle.vs_instance.proofs.CallerLemmas.{length-narrowed, set_of-permitted_sets, trip_of-narrowed}
use Rattle.vs_prices.specs.Table.{Fits, HoldingTable, prices_in}
use Rattle.vs_prices.specs.declared.table.Table.{Table}
use Rattle.vs_resume.proofs.WidenedTables.{widened_holds}
use Rattle.vs_tree.specs.History.{Opening, State}
use Rattle.vs_tree.specs.Prices.{AreLawful, Prices, no_prices, prices_of}
use Rattle.vs_tree.specs.Sound.{IsSound}
use Rattle.vs_tree.proofs.CallerLemmas.{lawful_fits}
use Rattle.vs_resume.specs.Parts.{AreWidenedTables, IsWidenedFrom}

module _ (p : Problem) (sets : List LayerSet) (restricts : IsRestriction p sets) where
  abbrev part : Problem
  part = narrowed p sets

  -- in the part each trip may be run in the layers of its set
  pub sets_of_part : permitted_sets part ≡ sets
  sets_of_part =
      let size : length (permitted_sets part) ≡ length part.trips = length-map part.trips (λ (t : Trip). t.layers) in
      ext_get_or (record { 0 = 0 }) (permitted_sets part) sets
      (size ∙ length-narrowed p sets ∙ sym restricts.each_trip)
      (λ i below.
      let inside : i < length part.trips = omega (arith, below, size) in
      let own : i < length p.trips = omega (arith, inside, length-narrowed p sets) in
      set_of-permitted_sets part i inside ∙ ap (λ (t : Trip). t.layers) (trip_of-narrowed p sets i own))

  -- a table that fits the part fits the instance
  part_fits : (table : Table) → Fits part table → Fits p table
  part_fits table fits = record {
    into_size = subst (λ (n : ℕ). length table.into.items ≡ length p.layers * n) (length-narrowed p sets)
        fits.into_size;
    from_size = subst (λ (n : ℕ). length table.from.items ≡ length p.layers * n) (length-narrowed p sets)
        fits.from_size;
    fleet_size = fits.fleet_size;
    into = fits.into;
    from = fits.from;
    fleet = fits.fleet;
  }

  -- and so does one of the prices of a number in a search of the part
  pub number_fits : (o : Opening) (s : State) → IsSound o s → o.problem ≡ part → (n : ℕ) (table : Table)
      → n < length s.tables → prices_of table ≡ slice_index_or s.tables n no_prices → Fits p table
  number_fits o s sound of_part n table within listed =
      part_fits table (subst (λ (q : Problem). Fits q table) of_part (lawful_fits o.problem table
      (subst (AreLawful o.problem) (sym listed) (sound.tables n no_prices within))))

  -- a table of lawful prices of the part, widened, fits and holds
  widened_lawful : (prices : Prices) (table : Table) → AreLawful part prices
      → IsWidenedFrom p sets prices table → Fits p table × HoldingTable p table
  widened_lawful prices table lawful from =
      let same : prices_of lawful.table ≡ prices_of from.own = lawful.listed ∙ sym from.listed in
      let holds : HoldingTable part from.own =
      λ l inside. subst (λ (x : Prices). HoldsInLayer part l x.ray (prices_in part l x.into)
      (prices_in part l x.from) (price_of x.fleet l)) same (lawful.holds l inside) in
      (from.fits, widened_holds p sets from.own table restricts from.widened from.fits holds)

  pub tables_lawful : (s : State) (numbers : List ℕ) (tables : List Table)
      → All (λ n. AreLawful part (slice_index_or s.tables n no_prices)) numbers
      → AreWidenedTables p sets s numbers tables → All (λ table. Fits p table × HoldingTable p table) tables
  tables_lawful s [] [] lawful widened = All-nil (λ (table : Table). Fits p table × HoldingTable p table)
  tables_lawful s [] (table ∷ tables) lawful widened = absurd widened
  tables_lawful s (n ∷ numbers) [] lawful widened = absurd widened
  tables_lawful s (n ∷ numbers) (table ∷ tables) lawful widened =
      let IsLawful : ℕ → Type 0 = λ m. AreLawful part (slice_index_or s.tables m no_prices) in
      All-cons (λ (t : Table). Fits p t × HoldingTable p t) table tables
      (widened_lawful (slice_index_or s.tables n no_prices) table (All-head IsLawful n numbers lawful) widened.0)
      (tables_lawful s numbers tables (All-tail IsLawful n numbers lawful) widened.1)
