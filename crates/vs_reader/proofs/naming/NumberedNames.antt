-- Lists of names that an indexed set of texts numbers.
use Rattle.std.proofs.Common.{◌≡◌, ℕ, ◌+◌, ◌<◌, inl, inr, Bool, true, false, cond, List, [], ◌∷◌, ◌++◌, length, get_or, map, position, is_some, Option, Some, None, MatchOption, Contains, sym, ap, ◌∙◌, subst, arith}
use Rattle.std.specs.Prelude.{IfSome}
use Rattle.std.specs.List.{list_any}
use Rattle.std.specs.Option.{option_map}
use Rattle.std.specs.Str.{bytes_eq}
use Rattle.std.proofs.lemmas.Bool.{false_from_ne_true, true≢false}
use Rattle.std.proofs.lemmas.List.{length_push, get_or_default}
use Rattle.std.proofs.lemmas.List.Elements.{All-push}
use Rattle.std.proofs.lemmas.List.Folds.{list_any_at, Any-from_list_any}
use Rattle.std.proofs.lemmas.List.Quantifiers.{all_pairs_push, position-Some}
use Rattle.std.proofs.lemmas.Option.{same_Some, slice_get-map, slice_get_cases, slice_get-get_or}
use Rattle.std.proofs.lemmas.Slice.Eq.{bytes_eq-Decides}
use Rattle.vs_reader.specs.Rows.{Field}
use Rattle.vs_reader.specs.Names.{IsName, Names}
use Rattle.vs_reader.specs.NameRules.{AreNames}
use Rattle.vs_reader.proofs.naming.NameLemmas.{Contains-Names, Names-Contains, same_number}

-- things that stand for names, and a name that is looked for
module _ {X : Type 0} (name_of : X → Field) (f : Field) where
  -- whether a thing stands for the name
  abbrev is_it : X → Bool
  is_it x = bytes_eq f (name_of x)

  -- the thing of a number stands for the name of that number
  of_number : (xs : List X) (k : ℕ) → Names (map name_of xs) f k
      → (x : X) × (k < length xs) × (get_or xs k x ≡ x) × (f ≡ name_of x)
  of_number xs k at = elim ((slice_get_cases xs k).1) [
    | inl it ↦ (
      it.0,
      it.1,
      it.3,
      sym (same_Some (name_of it.0) f
          (sym (slice_get-map name_of xs k ∙ ap (option_map name_of) it.2) ∙ at)),
    )
    | inr past ↦
        let none : None ≡ Some f = sym (slice_get-map name_of xs k ∙ ap (option_map name_of) past.1) ∙ at in cc
  ]

  number_of : (xs : List X) (k : ℕ) (x : X) → k < length xs → get_or xs k x ≡ x → f ≡ name_of x
      → Names (map name_of xs) f k
  number_of xs k x within at same =
      slice_get-map name_of xs k
      ∙ ap (option_map name_of) (slice_get-get_or xs k x within ∙ ap Some at) ∙ ap Some (sym same)

  -- what stands for one of the names is found
  any_Contains : (xs : List X) → Contains (map name_of xs) f → list_any is_it xs ≡ true
  any_Contains xs among =
      let at = Names-Contains (map name_of xs) f among in
      let it = of_number xs at.0 at.1 in
      list_any_at is_it xs at.0 it.0 it.1 (ap is_it it.2 ∙ (bytes_eq-Decides f (name_of it.0)).1 it.3)

  -- and what is found stands for one of them
  pub none_Contains : (xs : List X) → ¬ (Contains (map name_of xs) f) → list_any is_it xs ≡ false
  none_Contains xs new = false_from_ne_true (list_any is_it xs) (λ found.
      let it = Any-from_list_any is_it xs found in
      let same : f ≡ name_of it.1 = (bytes_eq-Decides f (name_of it.1)).0 it.4 in
      new (Contains-Names (map name_of xs) f it.0 (number_of xs it.0 it.1 it.2 it.3 same)))

  -- what a look-up answers
  pub found_number : (xs : List X) (o : Option ℕ) → o ≡ position is_it xs → is_some o ≡ list_any is_it xs
      → IfSome o (λ k. k < length xs)
      → MatchOption o (¬ (Contains (map name_of xs) f)) (λ k. Names (map name_of xs) f k)
  found_number xs None is found within = λ among. true≢false (sym (any_Contains xs among) ∙ sym found)
  found_number xs (Some k) is found within = elim ((slice_get_cases xs k).1) [
    | inl it ↦
        let passes = (position-Some is_it xs k it.0 (sym is)).1 in
        number_of xs k it.0 it.1 it.3 ((bytes_eq-Decides f (name_of it.0)).0 (sym (ap is_it it.3) ∙ passes))
    | inr past ↦ absurd (omega (arith, past.0, within))
  ]

-- one name more, which is none of those before
pub AreNames-push : (names : List Field) (f : Field) → AreNames names → IsName f → ¬ (Contains names f)
    → length names + 1 < 4294967296 → AreNames (names ++ f ∷ [])
AreNames-push names f are name new room = record {
  each = All-push IsName names f are.each name;
  apart = all_pairs_push (λ g h. ¬ (g ≡ h)) names f are.apart
      (λ i d within same. new (i, within, get_or_default names i f d within ∙ same));
  few = omega (arith, length_push names f);
}

-- names to which one may have been added
pub AreNames-added : (names after : List Field) (f : Field) (added : Bool) → after ≡ cond added (names ++ f ∷ []) names
    → AreNames names → IsName f → ¬ (Contains names f)
    → length names + 1 < 4294967296 → AreNames after
AreNames-added names after f true is are name new room =
    subst (λ (all : List Field). AreNames all) (sym is) (AreNames-push names f are name new room)
AreNames-added names after f false is are name new room = subst (λ (all : List Field). AreNames all) (sym is) are

-- what is found has one number
pub found_only : (names : List Field) (f : Field) (o : Option ℕ) → AreNames names
    → MatchOption o (¬ (Contains names f)) (λ k. Names names f k)
    → IfSome o (λ k. (j : ℕ) → Names names f j → j ≡ k)
found_only names f None are found = tt
found_only names f (Some k) are found = λ j at. same_number names f j k are.apart at found
