-- The tables that are written, by the prices of those that are known.
use Rattle.std.proofs.Common.{◌≡◌, ℕ, ◌<◌, List, length, map, get_or, refl, sym, ap, ◌∙◌, subst, arith, Option, Some, None, option_map, slice_get, slice_index_or}
use Rattle.std.specs.List.{All}
use Rattle.std.proofs.lemmas.List.{length-map}
use Rattle.std.proofs.lemmas.Option.{get_or_from_slice_get, slice_get-get_or, slice_get-map}
use Rattle.vs_instance.specs.HoldingTable.{HoldsInLayer, price_of}
use Rattle.vs_instance.specs.Problem.{Problem}
use Rattle.vs_prices.specs.Table.{Fits, HoldingTable, prices_in}
use Rattle.vs_prices.specs.declared.table.Table.{Table}
use Rattle.vs_tree.specs.Prices.{AreLawful, Prices, no_prices, prices_of}
use Rattle.vs_tree.proofs.CallerLemmas.{lawful_fits}

-- a table that fits and holds
abbrev pub IsLawful : Problem → Table → Type 0
IsLawful p table = Fits p table × HoldingTable p table

-- so does another one of its prices
pub same_lawful : (p : Problem) (known table : Table) → prices_of table ≡ prices_of known → IsLawful p known
    → IsLawful p table
same_lawful p known table same lawful =
    let of_prices : AreLawful p (prices_of table) =
    record { table = known; listed = sym same; fits = lawful.0; holds = lawful.1 } in (
      lawful_fits p table of_prices,
      λ l inside. subst (λ (x : Prices). HoldsInLayer p l x.ray (prices_in p l x.into) (prices_in p l x.from)
          (price_of x.fleet l)) (sym same) (lawful.1 l inside),
    )

module _ (known tables : List Table) (numbers : List ℕ)
    (same : map prices_of tables ≡ map (λ n. slice_index_or (map prices_of known) n no_prices) numbers) where
  abbrev prices_at : ℕ → Prices
  prices_at n = slice_index_or (map prices_of known) n no_prices

  -- what the tables are, place by place
  listed : (k : ℕ) → option_map prices_of (slice_get tables k) ≡ option_map prices_at (slice_get numbers k)
  listed k =
      sym (slice_get-map prices_of tables k) ∙ ap (λ (xs : List Prices). slice_get xs k) same
      ∙ slice_get-map prices_at numbers k

  known_prices : (n : ℕ) (old : Table) → slice_get known n ≡ Some old → prices_at n ≡ prices_of old
  known_prices n old at =
      get_or_from_slice_get (map prices_of known) n (prices_of old) no_prices
      (slice_get-map prices_of known n ∙ ap (option_map prices_of) at)

  -- a table with the prices of a known one
  pub record IsKnownAt (k : ℕ) (old : Table) : Type 0 where
    pub table : Table
    pub stands : slice_get tables k ≡ Some table
    pub prices : prices_of table ≡ prices_of old

  -- where the number of a known one stands
  pub table_at : (k n : ℕ) (old : Table) → slice_get numbers k ≡ Some n → slice_get known n ≡ Some old
      → IsKnownAt k old
  table_at k n old at was = by_table (slice_get tables k) refl
    where
      by_table : (found : Option Table) → slice_get tables k ≡ found → IsKnownAt k old
      by_table None here =
          let both : None ≡ Some (prices_at n) =
          ap (option_map prices_of) (sym here) ∙ listed k ∙ ap (option_map prices_at) at in
          absurd cc
      by_table (Some table) here =
          let both : Some (prices_of table) ≡ Some (prices_at n) =
          ap (option_map prices_of) (sym here) ∙ listed k ∙ ap (option_map prices_at) at in
          let prices : prices_of table ≡ prices_at n = cc in
          record { table = table; stands = here; prices = prices ∙ known_prices n old was }

  pub as_many : length tables ≡ length numbers
  as_many =
      sym (length-map tables prices_of) ∙ ap (λ (xs : List Prices). length xs) same ∙ length-map numbers prices_at

  -- they fit and hold as the known ones do
  pub all_lawful : (p : Problem) → All (λ n. n < length known) numbers → All (IsLawful p) known
      → All (IsLawful p) tables
  all_lawful p within lawful k d inside =
      let here : k < length numbers = omega (arith, inside, as_many) in
      let n = get_or numbers k 0 in
      let table = get_or tables k d in
      let below : n < length known = within k 0 here in
      let old = get_or known n table in
      let found = table_at k n old (slice_get-get_or numbers k 0 here) (slice_get-get_or known n table below) in
      let both : Some found.table ≡ Some table = sym found.stands ∙ slice_get-get_or tables k d inside in
      let is : found.table ≡ table = cc in
      subst (IsLawful p) is (same_lawful p old found.table found.prices (lawful n table below))
