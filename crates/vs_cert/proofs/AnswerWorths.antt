-- The worths of the leaves of a state's document.
use Rattle.std.proofs.Common.{◌≡◌, ℕ, ◌≤◌, Bool, cond, List, [], ◌∷◌, ◌++◌, sym, ap, ◌∙◌, subst, arith, inl, inr, Some, slice_get}
use Rattle.std.proofs.lemmas.Bool.{cases_eq, ne_eqb}
use Rattle.vs_types.specs.declared.layer_set.LayerSet.{LayerSet}
use Rattle.vs_types.specs.declared.numbers.TripNo.{TripNo}
use Rattle.vs_instance.specs.Problem.{Problem}
use Rattle.vs_prices.specs.Worth.{IsWorth, worth_of}
use Rattle.vs_prices.specs.declared.bound.Bound.{Bound}
use Rattle.vs_prices.proofs.CallerLemmas.{worth_of-IsWorth}
use Rattle.vs_tree.specs.History.{Opening, State, IsLeaf, IsLeafWorth, prices_at, sets_at}
use Rattle.vs_tree.specs.Report.{IsLesser}
use Rattle.vs_tree.specs.Sound.{IsSound}
use Rattle.vs_tree.specs.StateTree.{IsTreeAt, times}
use Rattle.vs_prices.specs.Tree.{Tree, Leaf, Split, LeafPlace, leaves, right_of, with_set}
use Rattle.vs_tree.proofs.CallerLemmas.{one_worth, times-cons}
use Rattle.vs_cert.specs.StateDocument.{IsDocumentOf, IsRenumbered}
use Rattle.vs_rows.specs.declared.document.Document.{Document}
use Rattle.vs_cert.specs.Answers.{AreWorths}
use Rattle.vs_cert.proofs.AnswerBounds.{AreNoLess, IsOneOf}
use Rattle.vs_cert.proofs.StateDocuments.{numbers, prices_in_state, table_at}

pub worths-append : (p : Problem) (d : Document) (xs ys : List LeafPlace) (vs ws : List Bound) → AreWorths p d xs vs
    → AreWorths p d ys ws → AreWorths p d (xs ++ ys) (vs ++ ws)
worths-append p d [] ys [] ws first second = second
worths-append p d [] ys (v ∷ vs) ws first second = absurd first
worths-append p d (x ∷ xs) ys [] ws first second = absurd first
worths-append p d (x ∷ xs) ys (v ∷ vs) ws first second =
    (first.0, first.1, first.2, worths-append p d xs ys vs ws first.3 second)

module _ (p : Problem) (s : State) where
  -- the worths of the leaves at these spots
  abbrev pub AreSpotWorths : List ℕ → List Bound → Type 0
  AreSpotWorths [] [] = Unit {0}
  AreSpotWorths (k ∷ spots) (worth ∷ worths) = IsLeaf s k × IsLeafWorth p s k worth × AreSpotWorths spots worths
  AreSpotWorths [] (worth ∷ worths) = ⊥
  AreSpotWorths (k ∷ spots) [] = ⊥

  spots-append : (js ks : List ℕ) (vs ws : List Bound) → AreSpotWorths js vs → AreSpotWorths ks ws
      → AreSpotWorths (js ++ ks) (vs ++ ws)
  spots-append [] ks [] ws first second = second
  spots-append [] ks (v ∷ vs) ws first second = absurd first
  spots-append (j ∷ js) ks [] ws first second = absurd first
  spots-append (j ∷ js) ks (v ∷ vs) ws first second =
      (first.0, first.1, spots-append js ks vs ws first.2 second)

  -- each is no less than the bound that is no more than any leaf's
  pub no_less : (bound : Bound) → IsLesser p s bound → (spots : List ℕ) (worths : List Bound)
      → AreSpotWorths spots worths → AreNoLess bound worths
  no_less bound lesser [] [] are = tt
  no_less bound lesser [] (w ∷ worths) are = absurd are
  no_less bound lesser (k ∷ spots) [] are = absurd are
  no_less bound lesser (k ∷ spots) (w ∷ worths) are =
      (lesser.leaves k w are.0 are.1, no_less bound lesser spots worths are.2)

  -- the worth of a leaf at one of the spots is one of them
  pub one_of : (k : ℕ) (bound : Bound) → IsLeafWorth p s k bound → (spots : List ℕ) (worths : List Bound)
      → AreSpotWorths spots worths → 1 ≤ times k spots → IsOneOf bound worths
  one_of k bound is [] worths are stands = absurd (omega (arith, stands))
  one_of k bound is (j ∷ spots) [] are stands = absurd are
  one_of k bound is (j ∷ spots) (w ∷ worths) are stands =
      elim (cases_eq j k) [
        | inl same ↦
            let here : IsLeafWorth p s k w = subst (λ (i : ℕ). IsLeafWorth p s i w) same are.1 in
            inl (one_worth p (sets_at s k) (prices_at s k) bound w is here)
        | inr other ↦
            let none = ap {B = ℕ} (λ (b : Bool). cond b 1 0) (ne_eqb j k other) in
            inr (one_of k bound is spots worths are.2 (omega (arith, stands, times-cons k j spots, none)))
      ]

module _ (o : Opening) (s : State) (sound : IsSound o s) (d : Document) (is : IsDocumentOf o s d) where
  abbrev p : Problem
  p = o.problem

  -- worths of leaves, as those of the document and as those of the state's spots
  pub record HaveWorths (places : List LeafPlace) (spots : List ℕ) : Type 0 where
    pub worths : List Bound
    pub are_worths : AreWorths p d places worths
    pub of_spots : AreSpotWorths p s spots worths

  leaf_worth : (k : ℕ) (sets : List LayerSet) (table place : ℕ) (spots : List ℕ)
      → IsTreeAt s.places k sets (Leaf table) spots → slice_get (numbers o s sound d is) place ≡ Some table
      → HaveWorths (record { sets = sets; table = place } ∷ []) spots
  leaf_worth k sets table place spots at named_so =
      let found = table_at o s sound d is place table named_so in
      let worth = worth_of p sets found.0 in
      let is_worth = worth_of-IsWorth p sets found.0 in
      let of_leaf : IsLeafWorth p s k worth =
      record {
        table = found.0;
        listed = found.2 ∙ ap (prices_in_state o s sound d is) at.table_is;
        worth = subst (λ (some : List LayerSet). IsWorth p some found.0 worth) at.sets_are is_worth;
      } in
      record {
        worths = worth ∷ [];
        are_worths = (found.0, found.1, is_worth, tt);
        of_spots = subst (λ (some : List ℕ). AreSpotWorths p s some (worth ∷ [])) (sym at.spots_are)
            (at.leaf, of_leaf, tt);
      }

  both_parts : (xs ys : List LeafPlace) (first second spots : List ℕ) → spots ≡ first ++ second
      → HaveWorths xs first → HaveWorths ys second → HaveWorths (xs ++ ys) spots
  both_parts xs ys first second spots split here there = record {
    worths = here.worths ++ there.worths;
    are_worths = worths-append p d xs ys here.worths there.worths here.are_worths there.are_worths;
    of_spots = subst (λ (some : List ℕ). AreSpotWorths p s some (here.worths ++ there.worths)) (sym split)
        (spots-append p s first second here.worths there.worths here.of_spots there.of_spots);
  }

  -- the leaves of the document are worth what those of the state are
  pub worths_at : (t u : Tree) (k : ℕ) (sets : List LayerSet) (spots : List ℕ) → IsTreeAt s.places k sets t spots
      → IsRenumbered (numbers o s sound d is) t u → HaveWorths (leaves sets u) spots
  worths_at (Leaf table) (Leaf place) k sets spots at same = leaf_worth k sets table place spots at same
  worths_at (Leaf table) (Split also part first second) k sets spots at same = absurd same
  worths_at (Split trip left lower upper) (Leaf place) k sets spots at same = absurd same
  worths_at (Split trip left lower upper) (Split also part first second) k sets spots at same =
      let Have : TripNo → LayerSet → Type 0 =
      λ i set. HaveWorths (leaves (with_set sets i set) first ++ leaves (with_set sets i (right_of sets i set)) second)
      spots in
      subst (λ (i : TripNo). Have i part) (sym same.0)
      (subst (λ (set : LayerSet). Have trip set) (sym same.1)
      (both_parts (leaves (with_set sets trip left) first) (leaves
      (with_set sets trip (right_of sets trip left)) second)
      at.first at.second spots at.spots_are
      (worths_at lower first at.lower (with_set sets trip left) at.first at.is_lower same.2)
      (worths_at upper second at.upper (with_set sets trip (right_of sets trip left)) at.second at.is_upper same.3)))
