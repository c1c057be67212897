-- What sets of layers have.
use Rattle.std.proofs.Common.{◌≡◌, ◌≢◌, ℕ, zero, suc, ◌<◌, ◌↔◌, List, [], ◌∷◌, length, get_or, refl, sym, ap, ◌∙◌, subst, arith, inl, inr}
use Rattle.std.specs.Prelude.{Contains}
use Rattle.std.proofs.lemmas.Bool.{cases_eq}
use Rattle.std.proofs.lemmas.List.{get_or_default}
use Rattle.vs_types.specs.LayerSet.{Has, members}
use Rattle.vs_types.specs.declared.layer_set.LayerSet.{LayerSet}
use Rattle.vs_types.proofs.CallerLemmas.{Contains-members_below, IsStrictlyIncreasing-members, members-some, Has-rest}
use Rattle.vs_types.specs.Parts.{rest_of, IsProperPart}
use Rattle.vs_node.specs.SplitRule.{IsLayerAlone}
use Rattle.vs_tree.proofs.CallerLemmas.{member}

-- a set that isn't empty has a member
pub some_member : (set : LayerSet) → members set ≢ [] → (l : ℕ) × Has set l × (l < 16)
some_member set some =
    elim (cases_eq (length (members set)) 0) [
      | inl none ↦ absurd (some (nothing (members set) none))
      | inr more ↦ let first = member set 0 0 (omega arith) in (get_or (members set) 0 0, first.0, first.1)
    ]
  where
    nothing : (xs : List ℕ) → length xs ≡ 0 → xs ≡ []
    nothing [] none = refl
    nothing (x ∷ xs) none = absurd (omega arith)

-- a set of two members or more has another one than a given one
pub other_member : (set : LayerSet) (l : ℕ) → 1 < length (members set) → (m : ℕ) × Has set m × (m < 16) × (m ≢ l)
other_member set l two =
    let first = member set 0 0 (omega arith) in
    let second = member set 1 0 two in
    let rise = IsStrictlyIncreasing-members set 0 (omega arith) in
    elim (cases_eq (get_or (members set) 0 0) l) [
      | inl same ↦ (get_or (members set) 1 0, second.0, second.1, λ is. omega arith)
      | inr apart ↦ (get_or (members set) 0 0, first.0, first.1, apart)
    ]

at_first : (xs : List ℕ) (k : ℕ) → ¬ (1 < length xs) → Contains xs k → get_or xs 0 0 ≡ k
at_first xs k few (zero, inside, is) = get_or_default xs 0 0 k inside ∙ is
at_first xs k few (suc n, inside, is) = absurd (few (omega arith))

-- a set without two members has one alone
pub one_member : (set : LayerSet) (k m : ℕ) → ¬ (1 < length (members set)) → k < 16 → m < 16 → Has set k → Has set m
    → k ≡ m
one_member set k m few k_few m_few has_k has_m =
    sym (at_first (members set) k few (Contains-members_below set k k_few has_k))
    ∙ at_first (members set) m few (Contains-members_below set m m_few has_m)

-- one layer alone is a proper part of a set of two layers or more
pub layer_alone-part : (left whole : LayerSet) → 1 < length (members whole)
    → (alone : IsLayerAlone left whole) → alone.layer < 16 → IsProperPart left whole
layer_alone-part left whole two alone few =
    let other = other_member whole alone.layer two in
    record {
      some = members-some left alone.layer few ((alone.alone alone.layer).1 refl);
      within = λ l has. subst (Has whole) (sym ((alone.alone l).0 has)) alone.among;
      others =
          members-some (rest_of whole left) other.0 other.2
          ((Has-rest whole left other.0 other.2).1
          (other.1, λ has. other.3 ((alone.alone other.0).0 has)));
    }

module _ (set : LayerSet) (l : ℕ) (few : l < 16) (only : (k : ℕ) → Has set k ↔ (k ≡ l)) where
  single_list : (xs : List ℕ) → 0 < length xs → ¬ (1 < length xs) → get_or xs 0 0 ≡ l → xs ≡ l ∷ []
  single_list [] some one is = absurd (omega arith)
  single_list (x ∷ []) some one is = ap (λ (y : ℕ). y ∷ []) is
  single_list (x ∷ y ∷ xs) some one is = absurd (one (omega arith))

  -- a set of one layer has it as its only member
  pub members_alone : members set ≡ l ∷ []
  members_alone =
      let among = Contains-members_below set l few ((only l).1 refl) in
      let some : 0 < length (members set) = omega (arith, among.1) in
      single_list (members set) some
      (λ two. let other = other_member set l two in other.3 ((only other.0).0 other.1))
      ((only (get_or (members set) 0 0)).0 (member set 0 0 some).0)
