use Rattle.std.proofs.Common.{◌≡◌, ℕ, ◌<◌, List, [], ◌∷◌, ◌++◌, length, sym, refl, ap, ◌∙◌, subst, arith, rules, length-append}
use Rattle.vs_tree.specs.History.{Opening, State, is_inner, spot_at, table_of}
use Rattle.vs_tree.specs.Search.{state}
use Rattle.vs_tree.specs.Sound.{IsSound}
use Rattle.vs_tree.specs.declared.spot.Spot.{Spot}
use Rattle.vs_tree.specs.declared.spot.Spot.TheVariants.{Inner, Free, Held, Closed}
use Rattle.vs_tree.proofs.CallerLemmas.{histories_are_sound, states_are_trees}
use Rattle.vs_cert.specs.Numbering.{Numbered}
use Rattle.vs_rows.specs.declared.document.Shape.{Shape}
use Rattle.vs_cert.proofs.states.Waiting.{AreUnderway, begun, ended, next_within, rows_ahead, went_on}
use Rattle.vs_cert.proofs.tree_rows.tree_rows.Goals as goal

-- what is underway along equations
along : (o : Opening) (s : State) (w v n m : List ℕ) (r q : List Shape) → w ≡ v → n ≡ m → r ≡ q → AreUnderway o s v m q
    → AreUnderway o s w n r
along o s w v n m r q spots numbers rows is =
    subst (λ (x : List ℕ). AreUnderway o s x n r) (sym spots)
    (subst (λ (x : List ℕ). AreUnderway o s v x r) (sym numbers)
    (subst (λ (x : List Shape). AreUnderway o s v m x) (sym rows) is))

-- each spot's table is one of the state's
has_table : (o : Opening) (s : State) (k : ℕ) → IsSound o s → table_of (spot_at s k) < length s.tables
has_table o s k sound = by_spot (spot_at s k) refl
  where
    by_spot : (spot : Spot) → spot_at s k ≡ spot → table_of spot < length s.tables
    by_spot (Inner trip left lower upper) is = omega (arith, sound.count_tables)
    by_spot (Free table) is =
        subst (λ (x : Spot). table_of x < length s.tables) is (sound.numbers k (ap is_inner is))
    by_spot (Held worker table) is =
        subst (λ (x : Spot). table_of x < length s.tables) is (sound.numbers k (ap is_inner is))
    by_spot (Closed table) is =
        subst (λ (x : Spot). table_of x < length s.tables) is (sound.numbers k (ap is_inner is))

-- no spot waits where none was left
none_left : (spots : List ℕ) → length spots ≡ 0 → spots ≡ []
none_left [] none = refl
none_left (k ∷ spots) none = absurd (omega arith)

-- where the last of those that wait was taken
taken : (o : Opening) (s : State) (spots waiting numbers : List ℕ) (k : ℕ) (rows : List Shape)
    → spots ≡ waiting ++ k ∷ [] → AreUnderway o s spots numbers rows → AreUnderway o s (waiting ++ k ∷ []) numbers rows
taken o s spots waiting numbers k rows are is = subst (λ (w : List ℕ). AreUnderway o s w numbers rows) are is

pub loop-k-init : goal.loop-k-init
loop-k-init c =
    let t = c.args.tree.now in
    let found = states_are_trees t.opening t.steps c.instance-instance.ensures.opening
    c.instance-instance.ensures.history in
    record {
      underway = along t.opening (state t) c.in_ok-spots.spots.items (0 ∷ []) c.in_ok-numbering.numbering.numbers []
          c.in_ok-rows.rows.items []
          (search rules)
          (ap (λ (v : Numbered). v.numbers) c.in_ok-numbering.ensures) c.in_ok-rows.ensures.items
          (begun t.opening (state t) found.0 found.1);
      limit = ap (λ (v : Numbered). v.limit) c.in_ok-numbering.ensures ∙ c.tables.ensures;
    }

pub row_at-requires-clause-spot : goal.row_at-requires-clause-spot
row_at-requires-clause-spot c =
    let t = c.args.tree.now in
    let is = taken t.opening (state t) c.loop-k.spots.items c.pop.new.self.items c.loop-k.numbering.numbers c.in-Some.k
    c.loop-k.rows.items c.in-Some.ensures.items c.loop-k.invariant.underway in
    next_within t.opening (state t) c.pop.new.self.items c.loop-k.numbering.numbers c.loop-k.rows.items c.in-Some.k is

pub row_at-requires-clause-table : goal.row_at-requires-clause-table
row_at-requires-clause-table c =
    let t = c.args.tree.now in
    let known = c.instance-instance.ensures in
    let sound = histories_are_sound t.opening t.steps known.opening known.history in
    omega (arith, has_table t.opening (state t) c.in-Some.k sound, c.loop-k.invariant.limit)

pub loop-k-smaller : goal.loop-k-smaller
loop-k-smaller c =
    let t = c.args.tree.now in
    let is = taken t.opening (state t) c.loop-k.spots.items c.pop.new.self.items c.loop-k.numbering.numbers c.in-Some.k
    c.loop-k.rows.items c.in-Some.ensures.items c.loop-k.invariant.underway in
    let ahead = rows_ahead t.opening (state t) c.pop.new.self.items c.loop-k.numbering.numbers c.loop-k.rows.items
    c.in-Some.k is in
    let size = ap (λ (rs : List Shape). length rs) c.in_ok-push.ensures.items
    ∙ length-append c.loop-k.rows.items (c.in_ok-row.row ∷ []) in
    omega (arith, ahead, size)

pub loop-k-preserved : goal.loop-k-preserved
loop-k-preserved c =
    let t = c.args.tree.now in
    let is = taken t.opening (state t) c.loop-k.spots.items c.pop.new.self.items c.loop-k.numbering.numbers c.in-Some.k
    c.loop-k.rows.items c.in-Some.ensures.items c.loop-k.invariant.underway in
    record {
      underway = along t.opening (state t) c.row_at.new.spots.items c.row_at.new.spots.items
          c.row_at.new.numbering.numbers c.row_at.new.numbering.numbers c.push.new.self.items _ refl refl
          c.in_ok-push.ensures.items
          (went_on t.opening (state t) c.pop.new.self.items c.loop-k.numbering.numbers c.loop-k.rows.items c.in-Some.k
          is c.row_at.new.spots.items c.row_at.new.numbering.numbers c.in_ok-row.row c.in_ok-row.ensures.row);
      limit = c.row_at.ensures.limit ∙ c.loop-k.invariant.limit;
    }

pub returns : goal.returns
returns c =
    let t = c.args.tree.now in
    let none = none_left c.loop-k.spots.items (omega (arith, c.in_default.ensures.cases.0, c.loop-k.spots.ok.0)) in
    let is = along t.opening (state t) [] c.loop-k.spots.items c.into_numbers.result.items c.loop-k.numbering.numbers
    c.loop-k.rows.items c.loop-k.rows.items (sym none) c.into_numbers.ensures.numbers refl
    c.loop-k.invariant.underway in
    let few = ap (λ (ns : List ℕ). length ns) c.into_numbers.ensures.numbers in
    ended t.opening (state t) c.into_numbers.result.items c.loop-k.rows.items is
    (omega (arith, few, c.into_numbers.ensures.few, c.loop-k.invariant.limit))
