-- A walk with one arc more at its end.
use Rattle.std.proofs.Common.{◌≡◌, ℕ, ◌<◌, ◌⊎◌, inl, inr, List, [], ◌∷◌, ◌++◌, length, refl, sym, ap, arith, ◌+ℤ◌}
use Rattle.std.proofs.lemmas.Int.{ints}
use Rattle.vs_layer.specs.Graph.{Graph, arc_of}
use Rattle.vs_layer.specs.Walks.{Leads, path_cost}

-- a walk from u to v ends with arc k
pub record EndsWith (g : Graph) (May : ℕ → Type 0) (u : ℕ) (ks : List ℕ) (v : ℕ) : Type 0 where
  pub k : ℕ
  pub walk : List ℕ
  pub of_net : k < length g.arcs
  pub may : May k
  pub to : (arc_of g k).to ≡ v
  pub leads : Leads g May u walk (arc_of g k).from
  pub cost : path_cost g ks ≡ (arc_of g k).cost +ℤ path_cost g walk

module _ (g : Graph) (May : ℕ → Type 0) where
  pub leads-snoc : (ks : List ℕ) (u k : ℕ) → Leads g May u ks (arc_of g k).from → k < length g.arcs → May k
      → Leads g May u (ks ++ k ∷ []) (arc_of g k).to
  leads-snoc [] u k leads within may = (within, may, sym leads, refl)
  leads-snoc (j ∷ ks) u k leads within may =
      (leads.0, leads.1, leads.2, leads-snoc ks (arc_of g j).to k leads.3 within may)

  pub cost-snoc : (ks : List ℕ) (k : ℕ) → path_cost g (ks ++ k ∷ []) ≡ (arc_of g k).cost +ℤ path_cost g ks
  cost-snoc [] k = refl
  cost-snoc (j ∷ ks) k = let rest = cost-snoc ks k in omega (arith, ints, rest)

  pub ends-with : (ks : List ℕ) (u v : ℕ) → Leads g May u ks v → ((ks ≡ []) × (u ≡ v)) ⊎ EndsWith g May u ks v
  ends-with [] u v leads = inl (refl, leads)
  ends-with (j ∷ ks) u v leads =
      elim (ends-with ks (arc_of g j).to v leads.3) [
        | inl none ↦ inr (record {
          k = j;
          walk = [];
          of_net = leads.0;
          may = leads.1;
          to = none.1;
          leads = sym leads.2;
          cost = ap (λ w. (arc_of g j).cost +ℤ path_cost g w) none.0;
        })
        | inr last ↦ inr (record {
          k = last.k;
          walk = j ∷ last.walk;
          of_net = last.of_net;
          may = last.may;
          to = last.to;
          leads = (leads.0, leads.1, leads.2, last.leads);
          cost = (let rest = last.cost in omega (arith, ints, rest));
        })
      ]
