-- Arcs in lists by the node that they reach, with one arc more.
use Rattle.std.proofs.Common.{◌≡◌, ◌≢◌, ℕ, ◌<◌, ◌∙◌, List, [], length, get_or, set, sym, ap, subst, arith, inl, inr, ◌⊎◌, length-set, refl, true}
use Rattle.std.proofs.lemmas.Bool.{cases_eq}
use Rattle.std.proofs.lemmas.List.{get_or-set_same, get_or-set_other}
use Rattle.vs_layer.specs.Graph.{Graph, arc_of}
use Rattle.vs_path.specs.declared.loads.Loads.{Loads}
use Rattle.vs_path.specs.declared.residual.Way.{Way}
use Rattle.vs_path.specs.declared.residual.Way.TheVariants as way
use Rattle.vs_path.specs.Residual.{ResidualNet, IsResidual, arcs_along}
use Rattle.vs_path.specs.Loads.{AreAlong, AreByNode, AreLoads, IsIn, listed_at, lists_in}
use Rattle.vs_path.proofs.labelling.ArcsOfNode.{along-all, along-arc}

module _ (lists : List (List ℕ)) (v : ℕ) (list : List ℕ) (within : v < length lists) where
  pub here : listed_at (set lists v list) v ≡ list
  here = get_or-set_same lists v list [] within

  pub other : (u : ℕ) → u ≢ v → listed_at (set lists v list) u ≡ listed_at lists u
  other u ne = get_or-set_other lists v u list [] (λ e. ne e)

  -- what stands in the list of a node then
  in-either : (u k : ℕ) → IsIn (listed_at (set lists v list) u) k → ((u ≡ v) × IsIn list k) ⊎ IsIn (listed_at lists u) k
  in-either u k is =
      elim (cases_eq u v) [
        | inl same ↦
            let P : List ℕ → Type 0 = λ ks. IsIn ks k in
            inl (same, subst P (ap (listed_at (set lists v list)) same ∙ here) is)
        | inr ne ↦ let P : List ℕ → Type 0 = λ ks. IsIn ks k in inr (subst P (other u ne) is)
      ]

  module _ (keeps : (k : ℕ) → IsIn (listed_at lists v) k → IsIn list k) where
    -- what stood in a list still does
    pub in-kept : (u k : ℕ) → IsIn (listed_at lists u) k → IsIn (listed_at (set lists v list) u) k
    in-kept u k is =
        let P : List ℕ → Type 0 = λ ks. IsIn ks k in
        elim (cases_eq u v) [
          | inl same ↦
              let Q : ℕ → Type 0 = λ w. IsIn (listed_at (set lists v list) w) k in
              subst Q (sym same) (subst P (sym here) (keeps k (subst P (ap (listed_at lists) same) is)))
          | inr ne ↦ subst P (sym (other u ne)) is
        ]

  pub in-here : (u k : ℕ) → u ≡ v → IsIn list k → IsIn (listed_at (set lists v list) u) k
  in-here u k same is =
      let P : List ℕ → Type 0 = λ ks. IsIn ks k in
      subst P (sym (ap (listed_at (set lists v list)) same ∙ here)) is

  -- an arc more in the list of the node that it reaches
  pub by_node-put : (g : Graph) (arc : ℕ) → arc < length g.arcs → (arc_of g arc).to ≡ v
      → ((k : ℕ) → IsIn list k → (k ≡ arc) ⊎ IsIn (listed_at lists v) k)
      → AreByNode g lists → AreByNode g (set lists v list)
  by_node-put g arc of_net reaches only are = record {
    nodes = length-set lists v list ∙ are.nodes;
    reach = λ u k is.
        elim (in-either u k is) [
          | inr before ↦ are.reach u k before
          | inl (same, now) ↦
              elim (only k now) [
                | inr before ↦
                    let at = are.reach v k before in (at.0, at.1 ∙ sym same)
                | inl new ↦
                    let P : ℕ → Type 0 = λ j. j < length g.arcs in
                    (subst P (sym new) of_net, ap (λ (j : ℕ). (arc_of g j).to) new ∙ reaches ∙ sym same)
              ]
        ];
  }

-- nothing stands in lists that are all empty
pub by_node-empty : (g : Graph) (lists : List (List ℕ)) → length lists ≡ g.nodes
    → ((v : ℕ) → listed_at lists v ≡ []) → AreByNode g lists
by_node-empty g lists nodes empty = record {
  nodes = nodes;
  reach = λ v k is.
      let none : length (listed_at lists v) ≡ 0 = ap length (empty v) in
      absurd (omega (arith, is.1, none));
}

-- all arcs of a node are among those along which steps leave it
pub along-star : (r : ResidualNet) (w : Way) (v : ℕ) (ks : List ℕ) → IsResidual r → ks ≡ arcs_along r.graph w v
    → AreAlong r w v ks
along-star r w v ks res are = record {
  each = λ i within. along-arc r w v ks are i within;
  all = λ k is_open from. along-all r w v ks are k (omega (arith, is_open.arc, res.arcs)) from;
}

-- so are, of those that reach it, those that are listed, where all are that carry units
pub along-loads : (view r : ResidualNet) → view ≡ r → (v : ℕ) (ks : List ℕ) (l : Loads)
    → AreLoads view.graph view.units l → l.complete ≡ true → IsResidual view → ks ≡ listed_at (lists_in l) v
    → AreAlong r way.Back v ks
along-loads view r same v ks l loads complete res are =
    let P : List ℕ → Type 0 = AreAlong view way.Back v in
    let R : ResidualNet → Type 0 = λ n. AreAlong n way.Back v ks in
    subst R same
    (subst P (sym are)
    (record {
      each = λ i within. loads.by_node.reach v (get_or (listed_at (lists_in l) v) i 0) (i, within, refl);
      all = λ k is_open from.
          let Q : ℕ → Type 0 = λ u. IsIn (listed_at (lists_in l) u) k in
          subst Q from (loads.all complete k (omega (arith, is_open.arc, res.arcs)) is_open.room);
    }))
