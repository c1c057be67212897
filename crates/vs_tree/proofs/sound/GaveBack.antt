-- A state stays sound where a worker gives its leaf back.
use Rattle.std.proofs.Common.{◌≡◌, ◌≢◌, ℕ, zero, suc, ◌<◌, false, [], length, refl, sym, ap, ◌∙◌, subst, arith, inl, inr, append-nil, ◌⊎◌, List, ◌∷◌, Option, unwrap_or}
use Rattle.std.proofs.lemmas.Bool.{cases_eq}
use Rattle.vs_prices.specs.declared.bound.Bound.{Bound}
use Rattle.vs_prices.specs.Bounds.{IsBelow}
use Rattle.vs_tree.specs.declared.spot.Spot.{Spot}
use Rattle.vs_tree.specs.declared.spot.Spot.TheVariants.{Free, Held, Closed as ClosedSpot}
use Rattle.vs_tree.specs.History.{Opening, State, GaveBack, IsAmong, IsClosed, IsHeldBy, IsLeafWorth, after, is_closed, is_held, is_inner, known, spot_at, table_of}
use Rattle.vs_tree.specs.Sound.{IsSound}
use Rattle.vs_tree.proofs.Spots.{leaf_within}
use Rattle.vs_tree.proofs.sound.Relabelled.{count-less, count-same, held-before, numbers-kept, prices-kept, restrictions-kept, same-worth, sets-kept, shared-kept, spot-here, spot-there, worths-kept}

-- one of a longer list is the first, or one of the others
pub among-cons : (worker first : ℕ) (others : List ℕ) → IsAmong worker (first ∷ others)
    → (worker ≡ first) ⊎ IsAmong worker others
among-cons worker first others (zero, is) = inl (ap (λ (x : Option ℕ). unwrap_or x first) (sym is))
among-cons worker first others (suc k, is) = inr (k, is)

module _ (o : Opening) (s : State) (worker leaf : ℕ) (may : IsHeldBy s worker leaf) (sound : IsSound o s) where
  abbrev n : State
  n = after s (GaveBack worker leaf)

  abbrev spot : Spot
  spot = Free (table_of (spot_at s leaf))

  holds : spot_at s leaf ≡ Held worker may.0
  holds = may.1

  was : is_inner (spot_at s leaf) ≡ false
  was = ap is_inner holds

  within : leaf < length s.places
  within = leaf_within s.places leaf was

  elsewhere : (j : ℕ) → j ≢ leaf → spot_at n j ≡ spot_at s j
  elsewhere = spot-there s n leaf spot within refl

  closed : (j : ℕ) (worth : Bound) → IsClosed n j → IsLeafWorth o.problem n j worth → ¬ (IsBelow worth (known s))
  closed j worth (table, is) is_worth =
      elim (cases_eq j leaf) [
        | inl here ↦
            let at : spot ≡ ClosedSpot table =
            sym (spot-here s n leaf spot within refl) ∙ ap (spot_at n) (sym here) ∙ is in
            absurd cc
        | inr apart ↦
            let before : spot_at s j ≡ ClosedSpot table = sym (elsewhere j apart) ∙ is in
            let number = sound.numbers j (ap is_inner before) in
            sound.closed j worth (table, before)
            (same-worth o.problem s n j worth (sets-kept s n leaf spot within refl j)
            (prices-kept s n j [] (sym (append-nil s.tables)) number (elsewhere j apart)) is_worth)
      ]

  -- the leaf is held by nobody
  not_here : (other j : ℕ) → IsHeldBy n other j → j ≢ leaf
  not_here other j (table, is) here =
      let at : Free (table_of (spot_at s leaf)) ≡ Held other table =
      sym (spot-here s n leaf spot within refl) ∙ ap (spot_at n) (sym here) ∙ is in
      absurd cc

  before : (other j : ℕ) → IsHeldBy n other j → IsHeldBy s other j
  before = held-before s n leaf spot within refl refl

  gone : (other j : ℕ) → (other ≡ worker) ⊎ IsAmong other s.gone → ¬ (IsHeldBy n other j)
  gone other j (inl same) held =
      let old : IsHeldBy s worker j = subst (λ (w : ℕ). IsHeldBy s w j) same (before other j held) in
      not_here other j held (sound.one_leaf worker j leaf old may)
  gone other j (inr among) held = sound.gone other j among (before other j held)

  pub gave_back_sound : IsSound o n
  gave_back_sound = record {
    shared_out = λ blocks plan. shared-kept s n leaf spot within refl was refl blocks (sound.shared_out blocks plan);
    tables = sound.tables;
    restrictions = restrictions-kept s n leaf spot within refl o.problem sound.restrictions;
    numbers = numbers-kept s n leaf spot within refl was refl [] (sym (append-nil s.tables))
        (sound.numbers leaf was) sound.numbers;
    worths = worths-kept s n leaf spot within refl was refl o.problem refl refl sound.worths;
    plans = sound.plans;
    cheaper = sound.cheaper;
    closed = closed;
    finished =
        let inner = count-same s n leaf spot within refl is_inner (ap is_inner holds) in
        let done = count-same s n leaf spot within refl is_closed (ap is_closed holds) in
        omega (arith, inner, done, sound.finished);
    count_tables = sound.count_tables;
    budget =
        let less = count-less s n leaf spot within refl is_held (ap is_held holds) refl in
        omega (arith, less, sound.budget);
    one_leaf = λ other i j first second. sound.one_leaf other i j (before other i first) (before other j second);
    gone = λ other j among. gone other j (among-cons other worker s.gone among);
  }
