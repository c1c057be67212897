-- The layers that fields name, each once.
use Rattle.std.proofs.Common.{◌≡◌, ℕ, ◌+◌, ◌-◌, ◌<◌, ◌≤◌, ◌⊎◌, ◌↔◌, inl, inr, List, [], ◌∷◌, ◌++◌, length, get_or, take, drop, Contains, sym, ap, ◌∙◌, subst, arith}
use Rattle.std.proofs.lemmas.List.{get_or_default, length-drop, get_or-drop, take_more, take-append-drop, drop_more}
use Rattle.std.proofs.lemmas.List.Elements.{All-push, Contains-append_left, Contains-push, Contains-push_cases}
use Rattle.std.proofs.lemmas.List.Quantifiers.{all_pairs_push}
use Rattle.std.proofs.lemmas.Option.{same_Some}
use Rattle.vs_types.specs.LayerSet.{Has}
use Rattle.vs_types.specs.declared.layer_set.LayerSet.{LayerSet}
use Rattle.vs_reader.specs.Rows.{Field, Row, field_of}
use Rattle.vs_reader.specs.Names.{Names}
use Rattle.vs_reader.specs.InstanceText.{NameLayers}
use Rattle.vs_reader.specs.declared.refused.Why.{Why}
use Rattle.vs_reader.specs.Rules.{Rule, IsNoneOf, AreKept, BreaksFirst, known_name, layer_names}
use Rattle.vs_reader.proofs.declaring.RuleLemmas.{AreKept-append, BreaksFirst-skip, BreaksFirst-stop, layer_names-append}
use Rattle.vs_reader.proofs.naming.NameLemmas.{Contains-Names}

-- one more field
pub NameLayers-push : (names fields : List Field) (f : Field) (set more : LayerSet) (l : ℕ)
    → NameLayers names fields set → Names names f l → ((j : ℕ) → Names names f j → j ≡ l) → ¬ (Has set l)
    → ((k : ℕ) → Has more k ↔ (Has set k ⊎ (k ≡ l)))
    → NameLayers names (fields ++ f ∷ []) more
NameLayers-push names fields f set more l named at only new with = record {
  once = all_pairs_push (λ f g. ¬ (f ≡ g)) fields f named.once (λ k d within same.
      new ((named.members l).1 (f, (k, within, get_or_default fields k f d within ∙ same), at)));
  each = All-push (λ g. Contains names g) fields f named.each (Contains-Names names f l at);
  members = λ k. (
    (λ has. elim ((with k).0 has) [
      | inl before ↦ let w = (named.members k).0 before in (w.0, Contains-append_left fields (f ∷ []) w.0 w.1, w.2)
      | inr same ↦ (f, Contains-push fields f, subst (λ (n : ℕ). Names names f n) (sym same) at)
    ]),
    (λ w. (with k).1 (elim (Contains-push_cases fields f w.0 w.1) [
      | inl before ↦ inl ((named.members k).1 (w.0, before, w.2))
      | inr same ↦ inr (only k (subst (λ (g : Field). Names names g k) (sym same) w.2))
    ])),
  );
}

-- a field that names what an earlier one names
pub among_earlier : (names fields : List Field) (f : Field) (l : ℕ) (set : LayerSet) → NameLayers names fields set
    → Names names f l → Has set l → Contains fields f
among_earlier names fields f l set named at has =
    let w = (named.members l).0 has in
    subst (λ (g : Field). Contains fields g) (same_Some w.0 f (sym w.2 ∙ at)) w.1

-- and one that doesn't
pub not_among_earlier : (names fields : List Field) (f : Field) (l : ℕ) (set : LayerSet)
    → NameLayers names fields set → Names names f l → ¬ (Has set l) → ¬ (Contains fields f)
not_among_earlier names fields f l set named at new among = new ((named.members l).1 (f, among, at))

-- the fields from the eighth on
pub later_field : (row : Row) (k : ℕ) → 7 ≤ k → get_or (drop 7 row) (k - 7) [] ≡ get_or row k []
later_field row k from = get_or-drop 7 row (k - 7) [] ∙ ap (λ (n : ℕ). get_or row n []) (omega arith)

pub next_layer : (names : List Field) (row : Row) (k : ℕ) (set more : LayerSet) (l : ℕ) → 7 ≤ k → k < length row
    → NameLayers names (take (k - 7) (drop 7 row)) set → Names names (field_of row k) l
    → ((j : ℕ) → Names names (field_of row k) j → j ≡ l) → ¬ (Has set l)
    → ((k : ℕ) → Has more k ↔ (Has set k ⊎ (k ≡ l)))
    → NameLayers names (take ((k + 1) - 7) (drop 7 row)) more
next_layer names row k set more l from within named at only new with =
    let inside : k - 7 < length (drop 7 row) = omega (arith, length-drop 7 row) in
    let next : (k + 1) - 7 ≡ (k - 7) + 1 = omega arith in
    let step : take ((k + 1) - 7) (drop 7 row) ≡ take (k - 7) (drop 7 row) ++ field_of row k ∷ [] =
    ap (λ (n : ℕ). take n (drop 7 row)) next ∙ take_more (drop 7 row) (k - 7) [] inside
    ∙ ap (λ (f : Field). take (k - 7) (drop 7 row) ++ f ∷ []) (later_field row k from) in
    rw step (NameLayers-push names (take (k - 7) (drop 7 row)) (field_of row k) set more l named at only new with)

-- the fields from the eighth on, round field k
pub round_field : (row : Row) (k : ℕ) → 7 ≤ k → k < length row
    → drop 7 row ≡ take (k - 7) (drop 7 row) ++ field_of row k ∷ drop (k - 7 + 1) (drop 7 row)
round_field row k from within =
    let inside : k - 7 < length (drop 7 row) = omega (arith, length-drop 7 row) in
    sym (take-append-drop (k - 7) (drop 7 row))
    ∙ ap (λ (fs : List Field). take (k - 7) (drop 7 row) ++ fs) (drop_more (drop 7 row) (k - 7) [] inside)
    ∙ ap (λ (f : Field). take (k - 7) (drop 7 row) ++ f ∷ drop (k - 7 + 1) (drop 7 row)) (later_field row k from)

-- the rules of the fields before field k, and of one more
module _ (names : List Field) (row : Row) (k : ℕ) (from : 7 ≤ k) (within : k < length row)
    (kept : AreKept (layer_names names [] (take (k - 7) (drop 7 row)))) where
  pub breaks_at : (why : Why)
      → BreaksFirst
      (known_name names (field_of row k) ++ IsNoneOf (take (k - 7) (drop 7 row)) (field_of row k) ∷ []) why
      → BreaksFirst (layer_names names [] (drop 7 row)) why
  breaks_at why breaks =
      let early = take (k - 7) (drop 7 row) in let late = drop (k - 7 + 1) (drop 7 row) in
      let here =
      BreaksFirst-stop (known_name names (field_of row k) ++ IsNoneOf early (field_of row k) ∷ [])
      (layer_names names (early ++ field_of row k ∷ []) late) why breaks in
      subst (λ (fs : List Field). BreaksFirst (layer_names names [] fs) why) (sym (round_field row k from within))
      (subst (λ (rs : List Rule). BreaksFirst rs why) (sym (layer_names-append names [] early (field_of row k ∷ late)))
      (BreaksFirst-skip (layer_names names [] early) (layer_names names early (field_of row k ∷ late)) why kept here))

  pub kept_at : AreKept
      (known_name names (field_of row k) ++ IsNoneOf (take (k - 7) (drop 7 row)) (field_of row k) ∷ [])
      → AreKept (layer_names names [] (take ((k + 1) - 7) (drop 7 row)))
  kept_at here =
      let early = take (k - 7) (drop 7 row) in
      let inside : k - 7 < length (drop 7 row) = omega (arith, length-drop 7 row) in
      let next : (k + 1) - 7 ≡ (k - 7) + 1 = omega arith in
      let step : take ((k + 1) - 7) (drop 7 row) ≡ early ++ field_of row k ∷ [] =
      ap (λ (n : ℕ). take n (drop 7 row)) next ∙ take_more (drop 7 row) (k - 7) [] inside
      ∙ ap (λ (f : Field). early ++ f ∷ []) (later_field row k from) in
      subst (λ (fs : List Field). AreKept (layer_names names [] fs)) (sym step)
      (subst (λ (rs : List Rule). AreKept rs) (sym (layer_names-append names [] early (field_of row k ∷ [])))
      (AreKept-append (layer_names names [] early) (layer_names names early (field_of row k ∷ [])) kept here))
