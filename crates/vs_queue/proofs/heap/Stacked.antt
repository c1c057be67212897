-- Nodes on a stack: what a node put on top or taken from it changes.
use Rattle.std.proofs.Common.{◌≡◌, ◌≢◌, ◌⊎◌, ℕ, ◌<◌, ◌∙◌, List, [], ◌∷◌, ◌++◌, length, get_or, refl, sym, arith, inl, inr}
use Rattle.std.proofs.lemmas.Bool.{cases_lt}
use Rattle.std.proofs.lemmas.List.{get_or_append_left, get_or_push, length_push}
use Rattle.vs_queue.specs.Queues.{IsOn}

-- no node stands on it twice
abbrev pub IsApart : List ℕ → Type 0
IsApart stack = (i j : ℕ) → i < j → j < length stack → get_or stack i 0 ≢ get_or stack j 0

pub on-left : (rest : List ℕ) (v u : ℕ) → IsOn rest u → IsOn (rest ++ v ∷ []) u
on-left rest v u (i, within, is) =
    (i, omega (arith, within, length_push rest v), get_or_append_left rest (v ∷ []) 0 i within ∙ is)

pub on-top : (rest : List ℕ) (v : ℕ) → IsOn (rest ++ v ∷ []) v
on-top rest v = (length rest, omega (arith, length_push rest v), get_or_push rest v 0 (length rest) refl)

pub on-either : (rest : List ℕ) (v u : ℕ) → IsOn (rest ++ v ∷ []) u → IsOn rest u ⊎ (u ≡ v)
on-either rest v u (i, within, is) =
    elim (cases_lt i (length rest)) [
      | inl below ↦ inl (i, below, sym (get_or_append_left rest (v ∷ []) 0 i below) ∙ is)
      | inr top ↦
          let e : length rest ≡ i = omega (arith, within, top, length_push rest v) in
          inr (sym is ∙ get_or_push rest v 0 i e)
    ]

pub apart-left : (rest : List ℕ) (v : ℕ) → IsApart (rest ++ v ∷ []) → IsApart rest
apart-left rest v apart i j before within same =
    apart i j before (omega (arith, within, length_push rest v))
    (get_or_append_left rest (v ∷ []) 0 i (omega arith) ∙ same ∙ sym (get_or_append_left rest (v ∷ []) 0 j within))

pub apart-top : (rest : List ℕ) (v u : ℕ) → IsApart (rest ++ v ∷ []) → IsOn rest u → u ≢ v
apart-top rest v u apart (i, within, is) same =
    apart i (length rest) within (omega (arith, length_push rest v))
    (get_or_append_left rest (v ∷ []) 0 i within ∙ is ∙ same ∙ sym (get_or_push rest v 0 (length rest) refl))

pub apart-push : (rest : List ℕ) (v : ℕ) → IsApart rest → ¬ (IsOn rest v) → IsApart (rest ++ v ∷ [])
apart-push rest v apart off i j before within same =
    elim (cases_lt j (length rest)) [
      | inl below ↦
          apart i j before below
          (sym (get_or_append_left rest (v ∷ []) 0 i (omega arith)) ∙ same
          ∙ get_or_append_left rest (v ∷ []) 0 j below)
      | inr top ↦
          let e : length rest ≡ j = omega (arith, within, top, length_push rest v) in
          off
          (i, omega arith, sym (get_or_append_left rest (v ∷ []) 0 i (omega arith)) ∙ same ∙ get_or_push rest v 0 j e)
    ]
