use Rattle.std.proofs.Common.{◌≡◌, ℕ, List, length, refl, sym, ap, ◌∙◌, subst, rules, Option, ℤ}
use Rattle.vs_types.specs.declared.layer_set.LayerSet.{LayerSet}
use Rattle.vs_instance.specs.Problem.{Problem}
use Rattle.vs_instance.specs.Restriction.{IsRestriction}
use Rattle.vs_prices.specs.Bounds.{IsBelow, IsNoLess}
use Rattle.vs_prices.specs.Table.{Fits, HoldingTable}
use Rattle.vs_prices.specs.Worth.{IsWorth}
use Rattle.vs_prices.specs.declared.bound.Bound.{Bound}
use Rattle.vs_prices.specs.declared.table.Table.{Table}
use Rattle.vs_prices.proofs.CallerLemmas.{worth_once}
use Rattle.vs_tree.specs.History.{IsHeldBy, IsHistory, IsLeaf, MayClose, Opening, State, is_inner, known, prices_at, sets_at, spot_at, table_of}
use Rattle.vs_tree.specs.Prices.{AreLawful, no_prices, prices_of}
use Rattle.vs_tree.specs.Search.{Search, state}
use Rattle.vs_tree.specs.Sound.{IsOpening}
use Rattle.vs_tree.proofs.CallerLemmas.{lawful_fits, worth_of_table, leaf_within, histories_are_sound}
use Rattle.test_crew.proofs.trees.worked.close.Goals as goal

-- a table of a leaf's prices fits, and the leaf's sets are a restriction
module _ (t : Search) (leaf : ℕ) (opening : IsOpening t.opening) (history : IsHistory t.opening t.steps)
    (is_leaf : IsLeaf (state t) leaf) where
  leaf_fits : (table : Table) → prices_of table ≡ prices_at (state t) leaf → Fits t.opening.problem table
  leaf_fits table listed =
      let sound = histories_are_sound t.opening t.steps opening history in
      let lawful = sound.tables (table_of (spot_at (state t) leaf)) no_prices (sound.numbers leaf is_leaf) in
      lawful_fits t.opening.problem table (subst (AreLawful t.opening.problem) (sym listed) lawful)

  leaf_restricts : (sets : List LayerSet) → sets ≡ sets_at (state t) leaf → IsRestriction t.opening.problem sets
  leaf_restricts sets same =
      let sound = histories_are_sound t.opening t.steps opening history in
      subst (λ (x : List LayerSet). IsRestriction t.opening.problem x) (sym same)
      (sound.restrictions leaf (leaf_within (state t).places leaf is_leaf))

module _ (o : Opening) (s : State) (worker leaf : ℕ) (holds : IsHeldBy s worker leaf) (old new : Table)
    (least found : Bound) (cost : Option ℤ) (listed : prices_of old ≡ prices_at s leaf) where
  may_close : Fits o.problem new → HoldingTable o.problem new → IsWorth o.problem (sets_at s leaf) old least
      → IsWorth o.problem (sets_at s leaf) new found → IsNoLess found least → cost ≡ known s → ¬ (IsBelow found cost)
      → MayClose o s worker leaf (length s.tables) (prices_of new)
  may_close fits holding worth_old worth_new no_less is_known dear = record {
    holds = holds;
    gives = record {
      number = refl;
      lawful = record { table = new; listed = refl; fits = fits; holds = holding };
      no_less = λ a b is was.
          let same = worth_once o.problem (sets_at s leaf) new found a worth_new
          (worth_of_table o.problem (sets_at s leaf) (prices_of new) a new refl is) in
          let before = worth_once o.problem (sets_at s leaf) old least b worth_old
          (worth_of_table o.problem (sets_at s leaf) (prices_at s leaf) b old listed was) in
          subst (λ (x : Bound). IsNoLess x b) same (subst (λ (x : Bound). IsNoLess found x) before no_less);
    };
    done = λ a is below.
        let same = worth_once o.problem (sets_at s leaf) new found a worth_new
        (worth_of_table o.problem (sets_at s leaf) (prices_of new) a new refl is) in
        dear (subst (λ (k : Option ℤ). IsBelow found k) (sym is_known)
        (subst (λ (x : Bound). IsBelow x (known s)) (sym same) below));
  }

pub worth-least-requires-clause-fits : goal.worth-least-requires-clause-fits
worth-least-requires-clause-fits c =
    let known = c.instance-instance.ensures in
    let t = c.args.tree.now in
    subst (λ (p : Problem). Fits p c.args.told.now.table) (sym known.value)
    (leaf_fits t c.args.leaf known.opening known.history (ap is_inner c.requires.holds.1) c.args.told.now.table
    c.requires.prices)

pub worth-least-requires-clause-restriction : goal.worth-least-requires-clause-restriction
worth-least-requires-clause-restriction c =
    let known = c.instance-instance.ensures in
    let t = c.args.tree.now in
    subst (λ (p : Problem). IsRestriction p c.as_slice-sets.result.now) (sym known.value)
    (leaf_restricts t c.args.leaf known.opening known.history (ap is_inner c.requires.holds.1)
    c.as_slice-sets.result.now (c.as_slice-sets.ensures.value ∙ c.requires.sets))

pub worth-found-requires-clause-restriction : goal.worth-found-requires-clause-restriction
worth-found-requires-clause-restriction c =
    let known = c.instance-instance.ensures in
    let t = c.args.tree.now in
    subst (λ (p : Problem). IsRestriction p c.as_slice-sets.result.now) (sym known.value)
    (leaf_restricts t c.args.leaf known.opening known.history (ap is_inner c.requires.holds.1)
    c.as_slice-sets.result.now (c.as_slice-sets.ensures.value ∙ c.requires.sets))

pub finish-requires : goal.finish-requires
finish-requires c =
    let t = c.args.tree.now in
    let own = c.instance-instance.ensures in
    let p = t.opening.problem in
    let sets : c.as_slice-sets.result.now ≡ sets_at (state t) c.args.leaf =
    c.as_slice-sets.ensures.value ∙ c.requires.sets in
    let holding : HoldingTable p c.args.table = subst (λ (x : Problem). HoldingTable x c.args.table) own.value
    (c.broken.ensures.holds.0 (search rules)) in
    let old : IsWorth p (sets_at (state t) c.args.leaf) c.args.told.now.table c.worth-least.result =
    subst (λ (x : List LayerSet). IsWorth p x c.args.told.now.table c.worth-least.result) sets
    (subst (λ (x : Problem). IsWorth x c.as_slice-sets.result.now c.args.told.now.table c.worth-least.result)
    own.value c.worth-least.ensures.worth) in
    let new : IsWorth p (sets_at (state t) c.args.leaf) c.args.table c.worth-found.result =
    subst (λ (x : List LayerSet). IsWorth p x c.args.table c.worth-found.result) sets
    (subst (λ (x : Problem). IsWorth x c.as_slice-sets.result.now c.args.table c.worth-found.result)
    own.value c.worth-found.ensures.worth) in
    let no_less : IsNoLess c.worth-found.result c.worth-least.result = search rules in
    let dear : ¬ (IsBelow c.worth-found.result c.report-known.result.cost) = search rules in
    may_close t.opening (state t) c.args.w c.args.leaf c.requires.holds c.args.told.now.table c.args.table
    c.worth-least.result c.worth-found.result c.report-known.result.cost c.requires.prices c.requires.fits holding
    old new no_less c.report-known.ensures.cost dear
