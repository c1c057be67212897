-- What a search's parts say of how many there are of each.
use Rattle.std.proofs.Common.{◌≡◌, ℕ, ◌+◌, ◌*◌, ◌<◌, ◌≤◌, List, [], ◌∷◌, ◌++◌, length, refl, sym, ap, ◌∙◌, subst, arith, count_by, get_or, false}
use Rattle.std.proofs.lemmas.List.Sums.{count_by-le-length}
use Rattle.vs_types.specs.declared.layer_set.LayerSet.{LayerSet}
use Rattle.vs_instance.specs.Restriction.{IsRestriction}
use Rattle.vs_prices.specs.Table.{Fits}
use Rattle.vs_prices.specs.declared.table.Table.{Table}
use Rattle.vs_tree.specs.Prices.{AreLawful, Prices, no_prices, prices_of}
use Rattle.vs_tree.proofs.LawfulPrices.{lawful_fits}
use Rattle.vs_tree.proofs.Spots.{leaf_within}
use Rattle.vs_tree.specs.History.{FullStep, Opening, Place, State, MayCome, MayFollow, after, is_inner, place_at, sets_at, spot_at, state_after, state_of, table_of}
use Rattle.vs_tree.specs.Search.{IsSearch, Parts, is_busy, is_gone, taken}
use Rattle.vs_tree.specs.Sound.{IsSound}
use Rattle.vs_tree.proofs.sound.Histories.{histories_are_sound}

-- the state after one step more
pub state-last : (s : State) (steps : List FullStep) (step : FullStep)
    → state_after s (steps ++ step ∷ []) ≡ after (state_after s steps) step
state-last s [] step = refl
state-last s (x ∷ steps) step = state-last (after s x) steps step

-- and behind steps and others
pub state-append : (s : State) (xs ys : List FullStep) → state_after s (xs ++ ys) ≡ state_after (state_after s xs) ys
state-append s [] ys = refl
state-append s (x ∷ xs) ys = state-append (after s x) xs ys

-- a step that may come makes a longer history
pub history-last : (o : Opening) (s : State) (steps : List FullStep) (step : FullStep) → MayFollow o s steps
    → MayCome o (state_after s steps) step → MayFollow o s (steps ++ step ∷ [])
history-last o s [] step may comes = (comes, tt)
history-last o s (x ∷ steps) step may comes = (may.0, history-last o (after s x) steps step may.1 comes)

module _ (o : Opening) (a : Parts) (is : IsSearch o a) where
  abbrev s : State
  s = state_of o a.log.steps

  pub is_sound : IsSound o s
  is_sound = histories_are_sound o a.log.steps is.opening is.history

  -- no more leaves are finished or held than the budget allows
  pub within_budget : a.finished + count_by is_busy a.hands ≤ o.budget
  within_budget = omega (arith, is_sound.budget, is.parts.finished, is.parts.busy)

  -- nor taken than it and the workers that gave one back
  pub few_taken : taken a ≤ o.budget + o.workers
  few_taken =
      let gone = count_by-le-length is_gone a.hands in
      omega (arith, within_budget, gone, is.parts.workers)

  pub places_within : length a.places.places ≤ 2 * o.budget + 1
  places_within = omega (arith, within_budget, is.parts.few_places)

  pub tables_are : length a.log.tables ≡ a.finished + 1
  tables_are =
      let same = ap (λ (x : List Prices). length x) is.parts.tables in
      omega (arith, same, is_sound.count_tables, is.parts.finished)

  pub spot-is : (k : ℕ) → spot_at s k ≡ (place_at a.places.places k).spot
  spot-is k = ap (λ (x : List Place). (place_at x k).spot) is.parts.places

  pub sets-are : (k : ℕ) → sets_at s k ≡ (place_at a.places.places k).sets
  sets-are k = ap (λ (x : List Place). (place_at x k).sets) is.parts.places

  pub leaf_is : (k : ℕ) → is_inner (spot_at s k) ≡ false → k < length a.places.places
  leaf_is k leaf =
      let size = ap (λ (x : List Place). length x) is.parts.places in
      let within = leaf_within s.places k leaf in
      omega (arith, size, within)

  -- the layers at a spot are a restriction
  pub restriction-at : (k : ℕ) → k < length a.places.places → IsRestriction o.problem (place_at a.places.places k).sets
  restriction-at k inside =
      let size = ap (λ (x : List Place). length x) is.parts.places in
      subst (λ (x : List LayerSet). IsRestriction o.problem x) (sets-are k)
      (is_sound.restrictions k (omega (arith, size, inside)))

  -- the number of a leaf's table is one of a table
  pub number-inside : (k number : ℕ) → is_inner (spot_at s k) ≡ false → number ≡ table_of (spot_at s k)
      → number < length a.log.tables
  number-inside k number leaf named =
      let size = ap (λ (x : List Prices). length x) is.parts.tables in
      let inside = is_sound.numbers k leaf in
      omega (arith, size, inside, named)

  -- the table of a number fits
  pub table-fits : (number : ℕ) (t : Table) → number < length a.log.tables
      → prices_of t ≡ get_or a.log.tables number no_prices → Fits o.problem t
  table-fits number t inside listed =
      let size = ap (λ (x : List Prices). length x) is.parts.tables in
      let lawful = is_sound.tables number no_prices (omega (arith, size, inside)) in
      let same : get_or s.tables number no_prices ≡ prices_of t =
      ap (λ (x : List Prices). get_or x number no_prices) is.parts.tables ∙ sym listed in
      lawful_fits o.problem t (subst (λ (x : Prices). AreLawful o.problem x) same lawful)
