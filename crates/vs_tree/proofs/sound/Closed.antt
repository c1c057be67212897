-- A state stays sound where a leaf is closed.
use Rattle.std.proofs.Common.{◌≡◌, ◌≢◌, ℕ, ◌+◌, ◌<◌, false, List, [], ◌∷◌, ◌++◌, length, get_or, refl, sym, ap, ◌∙◌, subst, arith, inl, inr, length-append, pos}
use Rattle.std.specs.List.{All}
use Rattle.std.proofs.lemmas.Bool.{cases_eq}
use Rattle.std.proofs.lemmas.List.{get_or-append-add}
use Rattle.std.proofs.lemmas.List.Elements.{All-append, All-cons, All-nil}
use Rattle.vs_types.specs.declared.layer_set.LayerSet.{LayerSet}
use Rattle.vs_prices.specs.declared.bound.Bound.{Bound}
use Rattle.vs_prices.specs.declared.bound.Bound.TheVariants.{AtLeast}
use Rattle.vs_prices.specs.Bounds.{IsBelow, IsNoLess}
use Rattle.vs_tree.specs.declared.spot.Spot.{Spot}
use Rattle.vs_tree.specs.declared.spot.Spot.TheVariants.{Held, Closed as ClosedSpot}
use Rattle.vs_tree.specs.Prices.{AreLawful, AreWorth, Prices, no_prices}
use Rattle.vs_tree.specs.History.{Opening, State, Closed, IsClosed, IsHeldBy, IsLeaf, IsLeafWorth, MayClose, after, is_closed, is_held, is_inner, known, prices_at, sets_at, spot_at, table_of}
use Rattle.vs_instance.specs.Problem.{Problem}
use Rattle.vs_tree.specs.Sound.{IsSound}
use Rattle.vs_tree.proofs.Spots.{leaf_within}
use Rattle.vs_tree.proofs.sound.Worths.{new_worth}
use Rattle.vs_tree.proofs.sound.Relabelled.{count-less, count-more, count-same, held-before, numbers-kept, prices-kept, restrictions-kept, same-worth, sets-kept, shared-kept, spot-here, spot-there}

-- lawful prices that come to others are lawful together
pub all-more : (p : Problem) (tables : List Prices) (prices : Prices) → All (AreLawful p) tables → AreLawful p prices
    → All (AreLawful p) (tables ++ prices ∷ [])
all-more p tables prices each one =
    All-append (AreLawful p) tables (prices ∷ []) each (All-cons (AreLawful p) prices [] one (All-nil (AreLawful p)))

-- the table that came last
pub last-prices : (tables : List Prices) (prices : Prices) (number : ℕ) → number ≡ length tables
    → get_or (tables ++ prices ∷ []) number no_prices ≡ prices
last-prices tables prices number is =
    let here : number ≡ length tables + 0 = omega arith in
    ap (λ (i : ℕ). get_or (tables ++ prices ∷ []) i no_prices) here
    ∙ get_or-append-add tables (prices ∷ []) 0 no_prices

pub one-more : (tables : List Prices) (prices : Prices) → length (tables ++ prices ∷ []) ≡ length tables + 1
one-more tables prices = length-append tables (prices ∷ [])

module _ (o : Opening) (s : State) (worker leaf table : ℕ) (prices : Prices)
    (may : MayClose o s worker leaf table prices) (sound : IsSound o s) where
  abbrev n : State
  n = after s (Closed worker leaf table prices)

  abbrev spot : Spot
  spot = ClosedSpot table

  holds : spot_at s leaf ≡ Held worker may.holds.0
  holds = may.holds.1

  was : is_inner (spot_at s leaf) ≡ false
  was = ap is_inner holds

  within : leaf < length s.places
  within = leaf_within s.places leaf was

  elsewhere : (j : ℕ) → j ≢ leaf → spot_at n j ≡ spot_at s j
  elsewhere = spot-there s n leaf spot within refl

  here : spot_at n leaf ≡ spot
  here = spot-here s n leaf spot within refl

  -- the leaf's new table is the one that came
  pub given : prices_at n leaf ≡ prices
  given =
      ap (λ (x : Spot). get_or n.tables (table_of x) no_prices) here
      ∙ last-prices s.tables prices table may.gives.number

  -- what it is worth within the leaf's layers
  given_worth : (j : ℕ) (worth : Bound) → j ≡ leaf → IsLeafWorth o.problem n j worth
      → AreWorth o.problem (sets_at s leaf) prices worth
  given_worth j worth same is_worth =
      let at : IsLeafWorth o.problem n leaf worth =
      subst (λ (i : ℕ). IsLeafWorth o.problem n i worth) same is_worth in
      let first : AreWorth o.problem (sets_at s leaf) (prices_at n leaf) worth =
      subst (λ (x : List LayerSet). AreWorth o.problem x (prices_at n leaf) worth)
      (sets-kept s n leaf spot within refl leaf) at in
      subst (λ (x : Prices). AreWorth o.problem (sets_at s leaf) x worth) given first

  -- another leaf has the table that it had
  old_worth : (j : ℕ) (worth : Bound) → j ≢ leaf → IsLeaf s j → IsLeafWorth o.problem n j worth
      → IsLeafWorth o.problem s j worth
  old_worth j worth apart old is_worth =
      same-worth o.problem s n j worth (sets-kept s n leaf spot within refl j)
      (prices-kept s n j (prices ∷ []) refl (sound.numbers j old) (elsewhere j apart)) is_worth

  worths : (j : ℕ) (worth : Bound) → IsLeaf n j → IsLeafWorth o.problem n j worth → IsNoLess worth (AtLeast (pos 0))
  worths j worth is is_worth =
      elim (cases_eq j leaf) [
        | inl same ↦
            new_worth o s leaf table prices was may.gives sound worth (given_worth j worth same is_worth)
        | inr apart ↦
            let old : IsLeaf s j = ap is_inner (sym (elsewhere j apart)) ∙ is in
            sound.worths j worth old (old_worth j worth apart old is_worth)
      ]

  closed : (j : ℕ) (worth : Bound) → IsClosed n j → IsLeafWorth o.problem n j worth → ¬ (IsBelow worth (known s))
  closed j worth (number, is) is_worth =
      elim (cases_eq j leaf) [
        | inl same ↦ may.done worth (given_worth j worth same is_worth)
        | inr apart ↦
            let before : spot_at s j ≡ ClosedSpot number = sym (elsewhere j apart) ∙ is in
            sound.closed j worth (number, before) (old_worth j worth apart (ap is_inner before) is_worth)
      ]

  before : (other j : ℕ) → IsHeldBy n other j → IsHeldBy s other j
  before = held-before s n leaf spot within refl refl

  pub closed_sound : IsSound o n
  closed_sound =
      let more = one-more s.tables prices in
      let inner = count-same s n leaf spot within refl is_inner (ap is_inner holds) in
      let done = count-more s n leaf spot within refl is_closed (ap is_closed holds) refl in
      let less = count-less s n leaf spot within refl is_held (ap is_held holds) refl in
      record {
        shared_out = λ blocks plan.
            shared-kept s n leaf spot within refl was refl blocks (sound.shared_out blocks plan);
        tables = all-more o.problem s.tables prices sound.tables may.gives.lawful;
        restrictions = restrictions-kept s n leaf spot within refl o.problem sound.restrictions;
        numbers = numbers-kept s n leaf spot within refl was refl (prices ∷ []) refl
            (omega (arith, more, may.gives.number)) sound.numbers;
        worths = worths;
        plans = sound.plans;
        cheaper = sound.cheaper;
        closed = closed;
        finished = omega (arith, inner, done, sound.finished);
        count_tables = omega (arith, more, sound.count_tables);
        budget = omega (arith, less, sound.budget);
        one_leaf = λ other i j first second. sound.one_leaf other i j (before other i first) (before other j second);
        gone = λ other j among held. sound.gone other j among (before other j held);
      }
