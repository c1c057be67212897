-- The layers of a trip, as their names stand in its record.
use Rattle.std.proofs.Common.{◌≡◌, ℕ, zero, suc, ◌+◌, ◌-◌, ◌<◌, ◌≤◌, List, length, get_or, map, sym, ap, ◌∙◌, subst, inl, inr, arith, w16}
use Rattle.std.specs.Prelude.{All, AllPairs, Contains}
use Rattle.std.specs.Int.{trailing_zeros}
use Rattle.std.specs.List.Sorted.{IsStrictlyIncreasing}
use Rattle.std.proofs.lemmas.Bool.{cases_lt}
use Rattle.std.proofs.lemmas.List.{get_or-map, length-map}
use Rattle.std.proofs.lemmas.List.Elements.{All-map, Contains-get_or}
use Rattle.std.proofs.lemmas.Nat.Bits.{bit_at_above, bit_at-trailing_zeros}
use Rattle.std.proofs.lemmas.Option.{get_or_from_slice_get, same_Some, slice_get_within}
use Rattle.vs_types.specs.LayerSet.{Has, members}
use Rattle.vs_types.specs.declared.layer_set.LayerSet.{LayerSet}
use Rattle.vs_types.proofs.CallerLemmas.{Contains-members, IsStrictlyIncreasing-members}
use Rattle.vs_reader.specs.Rows.{Field}
use Rattle.vs_reader.specs.Names.{Names}
use Rattle.vs_reader.specs.InstanceText.{NameLayers}
use Rattle.vs_make.proofs.Fields.{lettered, one_lettered}

-- what stands later is greater
later_greater : (xs : List ℕ) → IsStrictlyIncreasing xs → (i d : ℕ) → i + suc d < length xs
    → get_or xs i 0 < get_or xs (i + suc d) 0
later_greater xs rises i zero within = rises i within
later_greater xs rises i (suc d) within =
    let inside : i + suc d < length xs = omega arith in
    let before = later_greater xs rises i d inside in
    let next : i + suc d + 1 ≡ i + suc (suc d) = omega arith in
    let step = rises (i + suc d) (omega arith) in
    omega (arith, before, step, ap (λ (k : ℕ). get_or xs k 0) next)

increasing : (xs : List ℕ) → IsStrictlyIncreasing xs → (i j : ℕ) → i < j → j < length xs
    → get_or xs i 0 < get_or xs j 0
increasing xs rises i j less within =
    let gap : i + suc (j - suc i) ≡ j = omega arith in
    let greater = later_greater xs rises i (j - suc i) (omega arith) in
    omega (arith, greater, ap (λ (k : ℕ). get_or xs k 0) gap)

module _ (set : LayerSet) (some : 1 ≤ set.0) (few : set.0 < 16) where
  -- its layers are the first four at most
  pub has_below : (l : ℕ) → Has set l → l < 4
  has_below l has =
      elim (cases_lt l 4) [
        | inl below ↦ below
        | inr past ↦ absurd (omega (arith, has, bit_at_above set.0 4 l (omega arith) past))
      ]

  member_has : (l : ℕ) → Contains (members set) l → Has set l
  member_has l among = (Contains-members set l (omega arith)).0 among

  pub members_below : All (λ l. l < 4) (members set)
  members_below k d within = has_below (get_or (members set) k d)
      (member_has (get_or (members set) k d) (Contains-get_or (members set) k d within))

  -- there is one
  pub some_member : (l : ℕ) × Contains (members set) l
  some_member =
      let found = bit_at-trailing_zeros w16 set.0 (omega arith) (omega arith) in
      (trailing_zeros w16 set.0, (Contains-members set (trailing_zeros w16 set.0) (omega arith)).1 found.1)

  -- the fields that name them, where these are the names of the first four
  module _ (letter : ℕ) (names : List Field)
      (named : (l : ℕ) → l < 4 → Names names (lettered letter l) l) (four : length names ≡ 4) where
    name_at : (k : ℕ) (d : Field) → k < length (map (lettered letter) (members set))
        → get_or (map (lettered letter) (members set)) k d ≡ lettered letter (get_or (members set) k 0)
    name_at k d within =
        get_or-map (lettered letter) (members set) k 0 d
        (omega (arith, length-map (members set) (lettered letter)))

    below_at : (k : ℕ) → k < length (map (lettered letter) (members set)) → get_or (members set) k 0 < 4
    below_at k within = members_below k 0 (omega (arith, length-map (members set) (lettered letter)))

    apart : AllPairs (λ f g. ¬ (f ≡ g)) (map (lettered letter) (members set))
    apart i j d less within same =
        let first : i < length (map (lettered letter) (members set)) = omega arith in
        let one =
        one_lettered letter (get_or (members set) i 0) (get_or (members set) j 0)
        (omega (arith, below_at i first)) (omega (arith, below_at j within))
        (sym (name_at i d first) ∙ same ∙ name_at j d within) in
        omega (
          arith,
          one,
          increasing (members set) (IsStrictlyIncreasing-members set) i j less
              (omega (arith, length-map (members set) (lettered letter))),
        )

    contains_name : (l : ℕ) → l < 4 → Contains names (lettered letter l)
    contains_name l below =
        (l, omega arith, get_or_from_slice_get names l (lettered letter l) (lettered letter l) (named l below))

    contains_field : (l : ℕ) → Contains (members set) l
        → Contains (map (lettered letter) (members set)) (lettered letter l)
    contains_field l among = (
      among.0,
      omega (arith, among.1, length-map (members set) (lettered letter)),
      get_or-map (lettered letter) (members set) among.0 l (lettered letter l) among.1 ∙ ap (lettered letter) among.2,
    )

    has_named : (l : ℕ) (f : Field) → Contains (map (lettered letter) (members set)) f → Names names f l → Has set l
    has_named l f among at =
        let below : l < 4 = omega (arith, slice_get_within names l f at) in
        let name : lettered letter l ≡ f = same_Some (lettered letter l) f (sym (named l below) ∙ at) in
        let one : get_or (members set) among.0 0 ≡ l =
        one_lettered letter (get_or (members set) among.0 0) l (omega (arith, below_at among.0 among.1)) (omega arith)
        (sym (name_at among.0 f among.1) ∙ among.2 ∙ sym name) in
        let inside : among.0 < length (members set) =
        omega (arith, among.1, length-map (members set) (lettered letter)) in
        member_has l (subst (λ (m : ℕ). Contains (members set) m) one (Contains-get_or (members set) among.0 0 inside))

    pub names_layers : NameLayers names (map (lettered letter) (members set)) set
    names_layers = record {
      once = apart;
      each = All-map (λ f. Contains names f) (lettered letter) (members set)
          (λ k d within. contains_name (get_or (members set) k d) (members_below k d within));
      members = λ l. (
        (λ has.
            let among = (Contains-members set l (omega arith)).1 has in
            (lettered letter l, contains_field l among, named l (has_below l has))),
        (λ w. has_named l w.0 w.1 w.2),
      );
    }
