-- How often arcs in a row take an arc, and how often they leave and reach a node.
use Rattle.std.proofs.Common.{◌≡◌, ◌≢◌, ℕ, ◌+◌, ◌<◌, ◌≤◌, ◌==◌, Bool, cond, eqb, count_by, List, [], ◌∷◌, ◌++◌, length, refl, sym, ap, ◌∙◌, arith, inl, inr}
use Rattle.std.proofs.lemmas.Bool.{cases_eq, eq-eqb, ne_eqb}
use Rattle.std.proofs.lemmas.List.Sums.{sum_by-cons, sum_by-append}
use Rattle.vs_layer.specs.declared.arc.End.{End}
use Rattle.vs_layer.specs.declared.arc.End.TheVariants.{From, To}
use Rattle.vs_layer.specs.Ends.{end_of}
use Rattle.vs_layer.specs.Graph.{Graph, IsNet, arc_of}
use Rattle.vs_layer.specs.Walks.{Leads}

-- how often the arcs take arc k
abbrev pub taken : List ℕ → ℕ → ℕ
taken ks k = count_by (λ j. j == k) ks

-- 1 where the numbers are the same, else 0
abbrev pub one : ℕ → ℕ → ℕ
one j k = cond (eqb j k) 1 0

-- the same number
pub one-same : (j k : ℕ) → j ≡ k → one j k ≡ 1
one-same j k same = ap (λ (b : Bool). cond b 1 0) (eq-eqb j k same)

-- another number
pub one-apart : (j k : ℕ) → j ≢ k → one j k ≡ 0
one-apart j k apart = ap (λ (b : Bool). cond b 1 0) (ne_eqb j k apart)

-- one arc more
pub taken-cons : (j k : ℕ) (ks : List ℕ) → taken (j ∷ ks) k ≡ one j k + taken ks k
taken-cons j k ks = sum_by-cons (λ (i : ℕ). cond (eqb i k) 1 0) j ks

-- arcs and then others
pub taken-append : (ks js : List ℕ) (k : ℕ) → taken (ks ++ js) k ≡ taken ks k + taken js k
taken-append ks js k = sum_by-append (λ (i : ℕ). cond (eqb i k) 1 0) ks js

-- the first arc is taken once more
pub taken-own : (j k : ℕ) (ks : List ℕ) → j ≡ k → taken (j ∷ ks) k ≡ taken ks k + 1
taken-own j k ks same = omega (arith, taken-cons j k ks, one-same j k same)

-- the first arc isn't another
pub taken-other : (j k : ℕ) (ks : List ℕ) → j ≢ k → taken (j ∷ ks) k ≡ taken ks k
taken-other j k ks apart = omega (arith, taken-cons j k ks, one-apart j k apart)

-- how many of the arcs have node v at this end
abbrev pub touching : Graph → End → List ℕ → ℕ → ℕ
touching g end ks v = count_by (λ k. end_of end (arc_of g k) == v) ks

-- one arc more, at its node
pub touching-cons : (g : Graph) (end : End) (k : ℕ) (ks : List ℕ) (v : ℕ)
    → touching g end (k ∷ ks) v ≡ one (end_of end (arc_of g k)) v + touching g end ks v
touching-cons g end k ks v = sum_by-cons (λ (j : ℕ). cond (eqb (end_of end (arc_of g j)) v) 1 0) k ks

-- arcs in a row leave each node as often as they reach it, but for where they begin and end
pub balance : (g : Graph) (May : ℕ → Type 0) (ks : List ℕ) (u w v : ℕ) → Leads g May u ks w
    → touching g From ks v + one w v ≡ touching g To ks v + one u v
balance g May [] u w v same = ap (λ (x : ℕ). 0 + one x v) (sym same)
balance g May (k ∷ ks) u w v walk =
    let start = ap (λ (x : ℕ). one x v) walk.2 in
    let rest = balance g May ks (arc_of g k).to w v walk.3 in
    omega (arith, start, rest, touching-cons g From k ks v, touching-cons g To k ks v)

-- an arc past the net's is not taken
pub taken-past : (g : Graph) (May : ℕ → Type 0) (ks : List ℕ) (u w k : ℕ) → Leads g May u ks w → length g.arcs ≤ k
    → taken ks k ≡ 0
taken-past g May [] u w k walk past = refl
taken-past g May (j ∷ ks) u w k walk past =
    taken-other j k ks (λ same. omega (arith, walk.0)) ∙ taken-past g May ks (arc_of g j).to w k walk.3 past

-- any arc but the last
abbrev pub IsForward : Graph → ℕ → Type 0
IsForward g k = k + 1 < length g.arcs

-- arcs that go forward don't take the last one
pub taken-last : (g : Graph) (ks : List ℕ) (u w k : ℕ) → Leads g (IsForward g) u ks w → k + 1 ≡ length g.arcs
    → taken ks k ≡ 0
taken-last g [] u w k walk last = refl
taken-last g (j ∷ ks) u w k walk last =
    taken-other j k ks (λ same. omega (arith, walk.1)) ∙ taken-last g ks (arc_of g j).to w k walk.3 last

module _ (g : Graph) (net : IsNet g) where
  -- an arc that goes forward leads to a later node
  rises : (k : ℕ) → k < length g.arcs → IsForward g k → (arc_of g k).from < (arc_of g k).to
  rises k within forward = (net.each_arc k within).goes_on.forward forward

  -- arcs that go forward take none that begins before them
  taken-before : (ks : List ℕ) (u w k : ℕ) → Leads g (IsForward g) u ks w → (arc_of g k).from < u → taken ks k ≡ 0
  taken-before [] u w k walk before = refl
  taken-before (j ∷ ks) u w k walk before =
      let up = rises j walk.0 walk.1 in
      taken-other j k ks (λ same. omega (arith, walk.2, ap (λ (i : ℕ). (arc_of g i).from) same))
      ∙ taken-before ks (arc_of g j).to w k walk.3 (omega (arith, walk.2, up))

  -- they take none twice
  pub taken-once : (ks : List ℕ) (u w k : ℕ) → Leads g (IsForward g) u ks w → taken ks k ≤ 1
  taken-once [] u w k walk = omega arith
  taken-once (j ∷ ks) u w k walk =
      elim (cases_eq j k) [
        | inl same ↦
            let up = rises j walk.0 walk.1 in
            let none =
            taken-before ks (arc_of g j).to w k walk.3 (omega (arith, up, ap (λ (i : ℕ). (arc_of g i).from) same)) in
            omega (arith, taken-own j k ks same, none)
        | inr apart ↦ omega (arith, taken-other j k ks apart, taken-once ks (arc_of g j).to w k walk.3)
      ]
