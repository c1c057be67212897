-- The leaves of a search of a part are worth in it what their widened tables are worth in the instance.
use Rattle.std.proofs.Common.{◌≡◌, ℕ, List, [], ◌∷◌, ◌++◌, sym, ap, ◌∙◌, subst, Some, slice_get, slice_index_or}
use Rattle.std.proofs.lemmas.List.{map-append}
use Rattle.vs_types.specs.declared.layer_set.LayerSet.{LayerSet}
use Rattle.vs_types.specs.declared.numbers.TripNo.{TripNo}
use Rattle.vs_instance.specs.Instance.{IsInstance}
use Rattle.vs_instance.specs.Narrowed.{narrowed}
use Rattle.vs_instance.specs.Problem.{Problem}
use Rattle.vs_instance.specs.Restriction.{IsRestriction}
use Rattle.vs_prices.specs.Worth.{IsWorth, worth_of}
use Rattle.vs_prices.specs.declared.bound.Bound.{Bound}
use Rattle.vs_prices.specs.declared.table.Table.{Table}
use Rattle.vs_prices.proofs.CallerLemmas.{worth_of-IsWorth, worth_once}
use Rattle.vs_prices.specs.Tree.{Leaf, Split, Tree, leaves, right_of, with_set}
use Rattle.vs_resume.specs.Widened.{IsWidened}
use Rattle.vs_resume.proofs.WidenedWorths.{widened_worth}
use Rattle.vs_tree.specs.History.{Opening, State, IsLeafWorth, prices_at, sets_at}
use Rattle.vs_tree.specs.Prices.{no_prices, prices_of}
use Rattle.vs_tree.specs.Sound.{IsSound}
use Rattle.vs_tree.specs.StateTree.{IsTreeAt}
use Rattle.vs_tree.proofs.CallerLemmas.{leaf_within}
use Rattle.vs_cert.specs.StateDocument.{IsRenumbered}
use Rattle.vs_cert.proofs.CallerLemmas.{AreSpotWorths}
use Rattle.vs_resume.specs.Cases.{AreCasesOf, IsCaseOf}
use Rattle.vs_resume.specs.Order.{worths_in}
use Rattle.vs_resume.specs.Parts.{AreWidenedTables, IsWidenedFrom}
use Rattle.vs_resume.specs.declared.cases.Case.{Case}
use Rattle.vs_resume.proofs.trees.Zips.{zip-at, zip-cut}

spots-append : (p : Problem) (s : State) (js ks : List ℕ) (vs ws : List Bound) → AreSpotWorths p s js vs
    → AreSpotWorths p s ks ws → AreSpotWorths p s (js ++ ks) (vs ++ ws)
spots-append p s [] ks [] ws first second = second
spots-append p s [] ks (v ∷ vs) ws first second = absurd first
spots-append p s (j ∷ js) ks [] ws first second = absurd first
spots-append p s (j ∷ js) ks (v ∷ vs) ws first second =
    (first.0, first.1, spots-append p s js ks vs ws first.2 second)

module _ (p : Problem) (sets : List LayerSet) (is : IsInstance p) (restricts : IsRestriction p sets) (o : Opening)
    (of_part : o.problem ≡ narrowed p sets) (s : State) (sound : IsSound o s) (numbers : List ℕ) (added : List Table)
    (widened : AreWidenedTables p sets s numbers added) where
  abbrev part : Problem
  part = narrowed p sets

  leaf_worth : (k : ℕ) (own table : Table) (worth : Bound) → IsRestriction part (sets_at s k)
      → prices_of own ≡ prices_at s k → IsWidened p sets own table → IsWorth p (sets_at s k) table worth
      → IsLeafWorth part s k worth
  leaf_worth k own table worth inner listed wider is_worth =
      let small = worth_of part (sets_at s k) own in
      let is_small = worth_of-IsWorth part (sets_at s k) own in
      let wide = widened_worth p sets (sets_at s k) own table is restricts inner wider small is_small in
      let same = worth_once p (sets_at s k) table small worth wide is_worth in
      record {
        table = own;
        listed = listed;
        worth = subst (λ (w : Bound). IsWorth part (sets_at s k) own w) same is_small;
      }

  at_leaf : (k : ℕ) (inner : List LayerSet) (number place : ℕ) (spots : List ℕ) (found : Case)
      → IsTreeAt s.places k inner (Leaf number) spots → slice_get numbers place ≡ Some number
      → IsCaseOf p added (record { sets = inner; table = place }) found
      → AreSpotWorths o.problem s spots (found.worth ∷ [])
  at_leaf k inner number place spots found at named case =
      let from = zip-at (λ n table. IsWidenedFrom p sets (slice_index_or s.tables n no_prices) table) place numbers
      added number case.table widened named case.named in
      let listed : prices_of from.own ≡ prices_at s k =
      from.listed ∙ ap (λ (n : ℕ). slice_index_or s.tables n no_prices) at.table_is in
      let worth = subst (λ (some : List LayerSet). IsWorth p some case.table found.worth) at.sets_are case.worth in
      let inside = subst (λ (q : Problem). IsRestriction q (sets_at s k)) of_part
      (sound.restrictions k (leaf_within s.places k at.leaf)) in
      let in_part = leaf_worth k from.own case.table found.worth inside listed from.widened worth in
      let here = subst (λ (q : Problem). IsLeafWorth q s k found.worth) (sym of_part) in_part in
      subst (λ (some : List ℕ). AreSpotWorths o.problem s some (found.worth ∷ [])) (sym at.spots_are)
      (at.leaf, here, tt)

  pub spot_worths : (t u : Tree) (k : ℕ) (inner : List LayerSet) (spots : List ℕ) (fresh : List Case)
      → IsTreeAt s.places k inner t spots → IsRenumbered numbers t u → AreCasesOf p added (leaves inner u) fresh
      → AreSpotWorths o.problem s spots (worths_in fresh)
  spot_worths (Leaf number) (Leaf place) k inner spots [] at same are = absurd are
  spot_worths (Leaf number) (Leaf place) k inner spots (found ∷ []) at same are =
      at_leaf k inner number place spots found at same are.0
  spot_worths (Leaf number) (Leaf place) k inner spots (found ∷ other ∷ fresh) at same are = absurd are.1
  spot_worths (Leaf number) (Split also set first second) k inner spots fresh at same are = absurd same
  spot_worths (Split trip left lower upper) (Leaf place) k inner spots fresh at same are = absurd same
  spot_worths (Split trip left lower upper) (Split also set first second) k inner spots fresh at same are =
      let Are : TripNo → LayerSet → Type 0 =
      λ i layers. AreCasesOf p added
      (leaves (with_set inner i layers) first ++ leaves (with_set inner i (right_of inner i layers)) second) fresh in
      let here = subst (λ (layers : LayerSet). Are trip layers) same.1
      (subst (λ (i : TripNo). Are i set) same.0 are) in
      let cut = zip-cut (IsCaseOf p added) (leaves (with_set inner trip left) first)
      (leaves (with_set inner trip (right_of inner trip left)) second) fresh here in
      let below = spot_worths lower first at.lower (with_set inner trip left) at.first cut.first at.is_lower same.2
      cut.beside_first in
      let above = spot_worths upper second at.upper (with_set inner trip (right_of inner trip left)) at.second
      cut.second at.is_upper same.3 cut.beside_second in
      let worths_are : worths_in cut.first ++ worths_in cut.second ≡ worths_in fresh =
      sym (map-append (λ (found : Case). found.worth) cut.first cut.second)
      ∙ ap worths_in (sym cut.both) in
      subst (λ (worths : List Bound). AreSpotWorths o.problem s spots worths) worths_are
      (subst (λ (some : List ℕ). AreSpotWorths o.problem s some (worths_in cut.first ++ worths_in cut.second))
      (sym at.spots_are)
      (spots-append o.problem s at.first at.second (worths_in cut.first) (worths_in cut.second) below above))
