-- A state stays sound where a worker takes a leaf.
use Rattle.std.proofs.Common.{◌≡◌, ◌≢◌, ◌⊎◌, ℕ, ◌<◌, false, [], length, refl, sym, ap, ◌∙◌, subst, arith, inl, inr, append-nil}
use Rattle.std.proofs.lemmas.Bool.{cases_eq}
use Rattle.vs_prices.specs.declared.bound.Bound.{Bound}
use Rattle.vs_prices.specs.Bounds.{IsBelow}
use Rattle.vs_tree.specs.declared.spot.Spot.{Spot}
use Rattle.vs_tree.specs.declared.spot.Spot.TheVariants.{Free, Held, Closed as ClosedSpot}
use Rattle.vs_tree.specs.History.{Opening, State, MayTake, IsAmong, IsClosed, IsHeldBy, IsLeafWorth, Took, after, is_closed, is_held, is_inner, known, spot_at, table_of}
use Rattle.vs_tree.specs.Sound.{IsSound}
use Rattle.vs_tree.proofs.Spots.{leaf_within}
use Rattle.vs_tree.proofs.sound.Relabelled.{count-more, count-same, numbers-kept, prices-kept, restrictions-kept, same-worth, sets-kept, shared-kept, spot-here, spot-there, worths-kept}

module _ (o : Opening) (s : State) (worker leaf : ℕ) (may : MayTake o s worker leaf) (sound : IsSound o s) where
  abbrev n : State
  n = after s (Took worker leaf)

  abbrev spot : Spot
  spot = Held worker (table_of (spot_at s leaf))

  free : spot_at s leaf ≡ Free (may.next.free.0)
  free = may.next.free.1

  was : is_inner (spot_at s leaf) ≡ false
  was = ap is_inner free

  within : leaf < length s.places
  within = leaf_within s.places leaf was

  elsewhere : (j : ℕ) → j ≢ leaf → spot_at n j ≡ spot_at s j
  elsewhere = spot-there s n leaf spot within refl

  -- what a worker holds then is the leaf taken, or it held it before
  held : (other j : ℕ) → IsHeldBy n other j → ((j ≡ leaf) × (other ≡ worker)) ⊎ IsHeldBy s other j
  held other j (table, is) =
      elim (cases_eq j leaf) [
        | inl here ↦
            let at : Held worker (table_of (spot_at s leaf)) ≡ Held other table =
            sym (spot-here s n leaf spot within refl) ∙ ap (spot_at n) (sym here) ∙ is in
            inl (here, cc)
        | inr apart ↦ inr (table, sym (elsewhere j apart) ∙ is)
      ]

  closed : (j : ℕ) (worth : Bound) → IsClosed n j → IsLeafWorth o.problem n j worth → ¬ (IsBelow worth (known s))
  closed j worth (table, is) is_worth =
      elim (cases_eq j leaf) [
        | inl here ↦
            let at : spot ≡ ClosedSpot table =
            sym (spot-here s n leaf spot within refl) ∙ ap (spot_at n) (sym here) ∙ is in
            absurd cc
        | inr apart ↦
            let before : spot_at s j ≡ ClosedSpot table = sym (elsewhere j apart) ∙ is in
            let number = sound.numbers j (ap is_inner before) in
            sound.closed j worth (table, before)
            (same-worth o.problem s n j worth (sets-kept s n leaf spot within refl j)
            (prices-kept s n j [] (sym (append-nil s.tables)) number (elsewhere j apart)) is_worth)
      ]

  pub took_sound : IsSound o n
  took_sound = record {
    shared_out = λ blocks plan. shared-kept s n leaf spot within refl was refl blocks (sound.shared_out blocks plan);
    tables = sound.tables;
    restrictions = restrictions-kept s n leaf spot within refl o.problem sound.restrictions;
    numbers = numbers-kept s n leaf spot within refl was refl [] (sym (append-nil s.tables))
        (sound.numbers leaf was) sound.numbers;
    worths = worths-kept s n leaf spot within refl was refl o.problem refl refl sound.worths;
    plans = sound.plans;
    cheaper = sound.cheaper;
    closed = closed;
    finished =
        let inner = count-same s n leaf spot within refl is_inner (ap is_inner free) in
        let done = count-same s n leaf spot within refl is_closed (ap is_closed free) in
        omega (arith, inner, done, sound.finished);
    count_tables = sound.count_tables;
    budget =
        let more = count-more s n leaf spot within refl is_held (ap is_held free) refl in
        omega (arith, more, may.room);
    one_leaf = λ other i j first second. elim (held other i first) [
      | inl taken ↦
          elim (held other j second) [
            | inl again ↦ taken.0 ∙ sym again.0
            | inr before ↦ absurd (may.idle j (subst (λ (w : ℕ). IsHeldBy s w j) taken.1 before))
          ]
      | inr held_i ↦
          elim (held other j second) [
            | inl taken ↦ absurd (may.idle i (subst (λ (w : ℕ). IsHeldBy s w i) taken.1 held_i))
            | inr held_j ↦ sound.one_leaf other i j held_i held_j
          ]
    ];
    gone = λ other j among is. elim (held other j is) [
      | inl taken ↦ may.stays (subst (λ (w : ℕ). IsAmong w s.gone) taken.1 among)
      | inr before ↦ sound.gone other j among before
    ];
  }
