-- The numbers that stand among the arcs of a node.
use Rattle.std.proofs.Common.{◌≡◌, ℕ, zero, suc, ◌+◌, ◌<◌, ◌∙◌, List, [], ◌∷◌, length, get_or, refl, sym, ap, subst, arith, inl, inr, add-one}
use Rattle.std.proofs.Math.ListN.{get_or-append}
use Rattle.std.proofs.lemmas.Bool.{cases_eq, cases_lt}
use Rattle.std.proofs.lemmas.List.{get_or_push}
use Rattle.vs_layer.specs.declared.arc.Arc.{Arc}
use Rattle.vs_layer.specs.declared.arc.End.{End}
use Rattle.vs_layer.specs.declared.arc.End.TheVariants.{From, To}
use Rattle.vs_layer.specs.Graph.{arc_of}
use Rattle.vs_layer.specs.Ends.{end_of, arc_at, first_at}
use Rattle.vs_path.specs.declared.residual.Way.{Way}
use Rattle.vs_path.specs.declared.residual.Way.TheVariants as way
use Rattle.vs_path.specs.Residual.{ResidualNet, arc_no, arcs_along, from_of, step_along}
use Rattle.vs_layer.proofs.CallerLemmas.{first_at-own, first_at-other, length-own, length-other}

module _ (end : End) (arcs : List Arc) where
  abbrev IsOfNode : ℕ → ℕ → ℕ → Type 0
  IsOfNode c v i = i < length (first_at end arcs c v)
      → (get_or (first_at end arcs c v) i 0 < c) × (end_of end (arc_at arcs (get_or (first_at end arcs c v) i 0)) ≡ v)

  of_more : (c v i : ℕ) → IsOfNode c v i → IsOfNode (c + 1) v i
  of_more c v i before within =
      elim (cases_eq (end_of end (arc_at arcs c)) v) [
        | inl own ↦
            elim (cases_lt i (length (first_at end arcs c v))) [
              | inl old ↦
                  let same : get_or (first_at end arcs (c + 1) v) i 0 ≡ get_or (first_at end arcs c v) i 0 =
                  ap (λ (ks : List ℕ). get_or ks i 0) (first_at-own end arcs c v own)
                  ∙ get_or-append (first_at end arcs c v) (c ∷ []) 0 i old in
                  let is = before old in
                  (omega (arith, is.0, same), ap (λ k. end_of end (arc_at arcs k)) same ∙ is.1)
              | inr new ↦
                  let last : length (first_at end arcs c v) ≡ i = omega (arith, length-own end arcs c v own, within) in
                  let same : get_or (first_at end arcs (c + 1) v) i 0 ≡ c =
                  ap (λ (ks : List ℕ). get_or ks i 0) (first_at-own end arcs c v own)
                  ∙ get_or_push (first_at end arcs c v) c 0 i last in
                  (omega (arith, same), ap (λ k. end_of end (arc_at arcs k)) same ∙ own)
            ]
        | inr other ↦
            let same : get_or (first_at end arcs (c + 1) v) i 0 ≡ get_or (first_at end arcs c v) i 0 =
            ap (λ (ks : List ℕ). get_or ks i 0) (first_at-other end arcs c v other) in
            let is = before (omega (arith, within, length-other end arcs c v other)) in
            (omega (arith, is.0, same), ap (λ k. end_of end (arc_at arcs k)) same ∙ is.1)
      ]

  -- each of them is the number of an arc that has the node at this end
  pub of_node : (c v i : ℕ) → IsOfNode c v i
  of_node zero v i within = absurd (omega arith)
  of_node (suc c) v i within =
      let P : ℕ → Type 0 = λ n. IsOfNode n v i in subst P (add-one c) (of_more c v i (of_node c v i)) within

  abbrev IsAmong : ℕ → ℕ → ℕ → Type 0
  IsAmong c v k = (i : ℕ) × (i < length (first_at end arcs c v)) × (get_or (first_at end arcs c v) i 0 ≡ k)

  in_own : (c v k : ℕ) → k ≡ c → end_of end (arc_at arcs c) ≡ v → IsAmong (c + 1) v k
  in_own c v k same own = (
    length (first_at end arcs c v),
    omega (arith, length-own end arcs c v own),
    ap (λ (ks : List ℕ). get_or ks (length (first_at end arcs c v)) 0) (first_at-own end arcs c v own)
        ∙ get_or_push (first_at end arcs c v) c 0 (length (first_at end arcs c v)) refl ∙ sym same,
  )

  in_old : (c v k : ℕ) → IsAmong c v k → IsAmong (c + 1) v k
  in_old c v k old =
      elim (cases_eq (end_of end (arc_at arcs c)) v) [
        | inl at_v ↦ (
          old.0,
          omega (arith, old.1, length-own end arcs c v at_v),
          ap (λ (ks : List ℕ). get_or ks old.0 0) (first_at-own end arcs c v at_v)
              ∙ get_or-append (first_at end arcs c v) (c ∷ []) 0 old.0 old.1 ∙ old.2,
        )
        | inr away ↦ (
          old.0,
          omega (arith, old.1, length-other end arcs c v away),
          ap (λ (ks : List ℕ). get_or ks old.0 0) (first_at-other end arcs c v away) ∙ old.2,
        )
      ]

  -- each such arc's number is one of them
  pub in_node : (c v k : ℕ) → k < c → end_of end (arc_at arcs k) ≡ v → IsAmong c v k
  in_node zero v k below own = absurd (omega arith)
  in_node (suc c) v k below own =
      let P : ℕ → Type 0 = λ n. IsAmong n v k in
      subst P (add-one c)
      (elim (cases_eq k c) [
        | inl same ↦ in_own c v k same (ap (λ j. end_of end (arc_at arcs j)) (sym same) ∙ own)
        | inr ne ↦ in_old c v k (in_node c v k (omega arith) own)
      ])

-- of the numbers of the arcs along which steps leave a node, each is that of such an arc
pub along-arc : (r : ResidualNet) (w : Way) (v : ℕ) (ks : List ℕ) → ks ≡ arcs_along r.graph w v → (i : ℕ)
    → i < length ks
    → (arc_no (step_along w (get_or ks i 0)) < length r.graph.arcs) × (from_of r (step_along w (get_or ks i 0)) ≡ v)
along-arc r way.Forward v ks are i within =
    let P : List ℕ → Type 0 = λ js. i < length js
    → (get_or js i 0 < length r.graph.arcs) × ((arc_of r.graph (get_or js i 0)).from ≡ v) in
    subst P (sym are) (of_node From r.graph.arcs (length r.graph.arcs) v i) within
along-arc r way.Back v ks are i within =
    let P : List ℕ → Type 0 = λ js. i < length js
    → (get_or js i 0 < length r.graph.arcs) × ((arc_of r.graph (get_or js i 0)).to ≡ v) in
    subst P (sym are) (of_node To r.graph.arcs (length r.graph.arcs) v i) within

-- and each such arc's is one of them
pub along-all : (r : ResidualNet) (w : Way) (v : ℕ) (ks : List ℕ) → ks ≡ arcs_along r.graph w v → (k : ℕ)
    → arc_no (step_along w k) < length r.graph.arcs → from_of r (step_along w k) ≡ v
    → (i : ℕ) × (i < length ks) × (get_or ks i 0 ≡ k)
along-all r way.Forward v ks are k within from =
    let P : List ℕ → Type 0 = λ js. (i : ℕ) × (i < length js) × (get_or js i 0 ≡ k) in
    subst P (sym are) (in_node From r.graph.arcs (length r.graph.arcs) v k within from)
along-all r way.Back v ks are k within from =
    let P : List ℕ → Type 0 = λ js. (i : ℕ) × (i < length js) × (get_or js i 0 ≡ k) in
    subst P (sym are) (in_node To r.graph.arcs (length r.graph.arcs) v k within from)
