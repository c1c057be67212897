-- A part that was searched and put in the place of a leaf makes a turn.
use Rattle.std.proofs.Common.{◌≡◌, ℕ, ◌+◌, ◌<◌, ◌≤◌, ◌⊎◌, inl, inr, List, [], ◌∷◌, ◌++◌, length, map, refl, sym, ap, ◌∙◌, subst, arith, Option, Some, None, option_map, MatchOption, slice_get, slice_index_or, ℤ, pos, ◌≤ℤ◌}
use Rattle.std.specs.List.{All, AllZip}
use Rattle.std.specs.Prelude.{IfSome}
use Rattle.std.proofs.lemmas.Int.{ints}
use Rattle.std.proofs.lemmas.List.{length-map, map-append}
use Rattle.std.proofs.lemmas.List.Elements.{All-append, All-cons, All-head, All-nil, All-tail, All-weaker}
use Rattle.std.proofs.lemmas.Option.{slice_get-map, slice_get_within}
use Rattle.std.proofs.lemmas.Slice.Zip.{AllZip-long}
use Rattle.vs_types.specs.declared.layer_set.LayerSet.{LayerSet}
use Rattle.vs_instance.specs.Instance.{IsInstance}
use Rattle.vs_instance.specs.Lagrangian.{IsStartingValue}
use Rattle.vs_instance.specs.Narrowed.{narrowed}
use Rattle.vs_instance.specs.Plan.{IsPlan, LayerBlock, plan_cost}
use Rattle.vs_instance.specs.Problem.{Problem}
use Rattle.vs_instance.specs.Restriction.{IsRestriction, IsWithin, permitted_sets}
use Rattle.vs_instance.proofs.CallerLemmas.{permitted_sets-IsRestriction}
use Rattle.vs_plan.specs.Blocks.{blocks_of}
use Rattle.vs_plan.specs.CheckedPlan.{Checked}
use Rattle.vs_plan.specs.declared.costs.TheConstants.{MAX_PLAN_COST}
use Rattle.vs_prices.specs.Bounds.{IsBelow, IsNoLess, ReachesValue}
use Rattle.vs_prices.specs.Table.{Fits, HoldingTable}
use Rattle.vs_prices.specs.Worth.{IsWorth}
use Rattle.vs_prices.specs.declared.bound.Bound.{Bound}
use Rattle.vs_prices.specs.declared.table.Table.{Table}
use Rattle.vs_prices.specs.Tree.{IsGoodTree, LeafPlace, Tree, leaves, splits}
use Rattle.vs_prices.proofs.CallerLemmas.{leaves_restrict, no_less-trans, reaches_more}
use Rattle.vs_rows.specs.DocumentRows.{IsBetween}
use Rattle.vs_rows.specs.declared.limits.TheConstants.{MAX_COST}
use Rattle.vs_rows.proofs.CallerLemmas.{all_at}
use Rattle.vs_resume.proofs.PartPlans.{plans_of_part}
use Rattle.vs_tree.specs.History.{IsCheaper, IsHistory, State, count_spots, incumbent, is_inner, known}
use Rattle.vs_tree.specs.Prices.{AreLawful, Prices, no_prices, prices_of}
use Rattle.vs_tree.specs.Search.{Search, state}
use Rattle.vs_tree.specs.Sound.{IsOpening, IsPlanOf, IsSound}
use Rattle.vs_tree.proofs.CallerLemmas.{histories_are_sound, last-is, narrower-no_less}
use Rattle.vs_cert.proofs.CallerLemmas.{named_within, AreSpotWorths, closed_leaves, renumbered_good, renumbered_splits}
use Rattle.vs_cert.specs.Answers.{count_not_below}
use Rattle.vs_resume.specs.declared.cases.Case.{Case}
use Rattle.vs_resume.specs.declared.course.Course.{Course}
use Rattle.vs_resume.specs.declared.deepen.TheConstants.{MAX_TURN}
use Rattle.vs_resume.specs.Cases.{AreCasesOf, AreSettled, IsCaseOf, IsSettled}
use Rattle.vs_resume.specs.Courses.{AreNext, HasPlanOf, IsCourseOf, IsPartPut, IsPlanNow, IsPlanTaken, IsSamePlan, IsTurnedOn}
use Rattle.vs_resume.specs.Deepened.{IsBegunOn}
use Rattle.vs_resume.specs.InPlace.{count_leaves, in_place, with_part}
use Rattle.vs_resume.specs.Order.{worths_in}
use Rattle.vs_resume.specs.Outlines.{plain}
use Rattle.vs_resume.specs.Standing.{AreNamedWorths, Standing, leaves_of}
use Rattle.vs_resume.specs.Turns.{AreBetter, AreDeeper, IsPlanFound, IsPlanKept, IsTurn}
use Rattle.vs_resume.proofs.worths.Counts.{more_not_below}
use Rattle.vs_resume.proofs.trees.InPlace.{count-leaves, leaves-with_part, slice_get-left}
use Rattle.vs_resume.proofs.trees.Outlines.{outline-with_part}
use Rattle.vs_resume.proofs.parts.BetterTables.{better_all}
use Rattle.vs_resume.proofs.parts.PartLeaves.{spot_worths}
use Rattle.vs_resume.proofs.parts.PartTables.{sets_of_part, tables_lawful}
use Rattle.vs_resume.proofs.trees.Renamed.{good-renamed, leaves-renamed, plain-renamed, renamed, splits-renamed}
use Rattle.vs_resume.proofs.worths.Settled.{IsNoMore, named_worths, settled_cases, settled_no_less, tables_in}
use Rattle.vs_resume.proofs.trees.Within.{AreNarrower, leaves-narrower}
use Rattle.vs_resume.proofs.trees.Zips.{zip-beside, zip-in_place, zip-weaker}

-- of leaves whose layers are narrower, each is worth no less with the better table than the wider one was with the old
settled_above : (p : Problem) (old : Table) (number base : ℕ) (wide : List LayerSet) (worth : Bound)
    → IsWorth p wide old worth → (places : List LeafPlace) (added : List Table) (fresh settled : List Case)
    → All (λ leaf. IsRestriction p leaf.sets) places → All (λ leaf. AreNarrower wide leaf.sets) places
    → AreCasesOf p added places fresh → AreSettled p old number base fresh settled
    → All (λ deeper. IsNoLess deeper worth) (worths_in settled)
settled_above p old number base wide worth is [] added [] [] restrict narrow are settles =
    All-nil (λ (deeper : Bound). IsNoLess deeper worth)
settled_above p old number base wide worth is [] added [] (g ∷ gs) restrict narrow are settles = absurd settles
settled_above p old number base wide worth is [] added (f ∷ fs) gs restrict narrow are settles = absurd are
settled_above p old number base wide worth is (leaf ∷ places) added [] gs restrict narrow are settles = absurd are
settled_above p old number base wide worth is (leaf ∷ places) added (f ∷ fs) [] restrict narrow are settles =
    absurd settles
settled_above p old number base wide worth is (leaf ∷ places) added (f ∷ fs) (g ∷ gs) restrict narrow are settles =
    let Restricts : LeafPlace → Type 0 = λ place. IsRestriction p place.sets in
    let Narrows : LeafPlace → Type 0 = λ place. AreNarrower wide place.sets in
    let here = settles.0 in
    let least = subst (λ (sets : List LayerSet). IsWorth p sets old here.least) are.0.sets here.is_least in
    let more = narrower-no_less p wide leaf.sets (All-head Restricts leaf places restrict)
    (All-head Narrows leaf places narrow) old here.least worth least is in
    All-cons (λ (deeper : Bound). IsNoLess deeper worth) g.worth (worths_in gs)
    (no_less-trans g.worth here.least worth here.no_less_than_old more)
    (settled_above p old number base wide worth is places added fs gs
    (All-tail Restricts leaf places restrict) (All-tail Narrows leaf places narrow) are.1 settles.1)

-- worths that are no less than some that reach a value reach it
all_reach : (value : ℤ) (more worths : List Bound) → AllZip IsNoLess more worths
    → All (λ worth. ReachesValue worth value) worths → All (λ worth. ReachesValue worth value) more
all_reach value [] [] no_less reach = All-nil (λ (worth : Bound). ReachesValue worth value)
all_reach value [] (w ∷ worths) no_less reach = absurd no_less
all_reach value (m ∷ more) [] no_less reach = absurd no_less
all_reach value (m ∷ more) (w ∷ worths) no_less reach =
    let Reaches : Bound → Type 0 = λ worth. ReachesValue worth value in
    All-cons Reaches m more (reaches_more m w value no_less.0 (All-head Reaches w worths reach))
    (all_reach value more worths no_less.1 (All-tail Reaches w worths reach))

module _ (p : Problem) (is : IsInstance p) (left nodes k : ℕ) (t : Search) (old mid new : Course)
    (put : IsPartPut p k t old mid) (taken : IsPlanTaken t mid new) (opening : IsOpening t.opening)
    (history : IsHistory t.opening t.steps) (few : nodes ≤ MAX_TURN) (within : nodes ≤ left)
    (finished : nodes ≡ (state t).finished) (some_node : 1 ≤ nodes) (budget : ℕ)
    (deep : IsBegunOn (narrowed p put.leaf.sets.items) budget t) (next : AreNext old k) (s : Standing)
    (course : IsCourseOf p old s) where
  abbrev st : State
  st = state t

  abbrev sets : List LayerSet
  sets = put.leaf.sets.items

  abbrev part : Problem
  part = narrowed p sets

  sound : IsSound t.opening st
  sound = histories_are_sound t.opening t.steps opening history

  abbrev places : List LeafPlace
  places = leaves_of p s

  beside : (place : LeafPlace) × (slice_get places k ≡ Some place) × IsCaseOf p old.tables.items place put.leaf
  beside = zip-beside (IsCaseOf p old.tables.items) k places old.cases.items put.leaf course.cases put.is_leaf

  leaf_is : beside.0 ≡ record { sets = sets; table = put.leaf.table }
  leaf_is = λ i. record { sets = sym beside.2.sets i; table = sym beside.2.number i }

  stands : slice_get places k ≡ Some (record { sets = sets; table = put.leaf.table })
  stands = beside.1 ∙ ap Some leaf_is

  of_leaf : IsCaseOf p old.tables.items (record { sets = sets; table = put.leaf.table }) put.leaf
  of_leaf = subst (λ (place : LeafPlace). IsCaseOf p old.tables.items place put.leaf) leaf_is beside.2

  old_worth : IsWorth p sets put.table put.leaf.worth
  old_worth =
      let both : Some of_leaf.table ≡ Some put.table = sym of_leaf.named ∙ put.is_table in
      let same : of_leaf.table ≡ put.table = cc in
      subst (λ (table : Table). IsWorth p sets table put.leaf.worth) same of_leaf.worth

  worth_is : put.leaf.worth ≡ next.0
  worth_is =
      let at : slice_get (worths_in old.cases.items) k ≡ Some put.leaf.worth =
      slice_get-map (λ (found : Case). found.worth) old.cases.items k
      ∙ ap (option_map (λ (found : Case). found.worth)) put.is_leaf in
      let both : Some put.leaf.worth ≡ Some next.0 = sym at ∙ next.1.stands in
      cc

  all_restrict : All (λ place. IsRestriction p place.sets) places
  all_restrict = leaves_restrict p (permitted_sets p) s.tree (permitted_sets-IsRestriction p is) course.good

  restricts : IsRestriction p sets
  restricts =
      all_at (λ (place : LeafPlace). IsRestriction p place.sets) places k
      (record { sets = sets; table = put.leaf.table })
      all_restrict stands

  inside : k < count_leaves s.tree
  inside =
      omega (
        arith,
        slice_get_within places k (record { sets = sets; table = put.leaf.table }) stands,
        count-leaves (permitted_sets p) s.tree,
      )

  -- the part's tree
  abbrev own : Tree
  own = put.of_tree.shape

  good_own : IsGoodTree sets own
  good_own =
      subst (λ (root : List LayerSet). IsGoodTree root own)
      (ap (λ (q : Problem). permitted_sets q) deep.problem ∙ sets_of_part p sets restricts)
      (renumbered_good put.numbers put.of_tree.tree own (permitted_sets t.opening.problem) put.of_tree.renumbered
      put.of_tree.is_tree.good)

  fresh_are : AreCasesOf p put.added (leaves sets own) put.fresh
  fresh_are = put.are_fresh own put.of_tree.rows_are

  abbrev numbers : List ℕ
  numbers = tables_in put.settled

  enough : count_leaves own ≤ length numbers
  enough =
      omega (
        arith,
        length-map put.settled (λ (found : Case). found.table),
        AllZip-long (IsSettled p put.table put.leaf.table (length old.tables.items)) put.fresh put.settled
            put.are_settled,
        AllZip-long (IsCaseOf p put.added) (leaves sets own) put.fresh fresh_are,
        count-leaves sets own,
      )

  abbrev shape : Tree
  shape = renamed own numbers

  good_shape : IsGoodTree sets shape
  good_shape = good-renamed sets own numbers good_own

  tables_are : new.tables.items ≡ old.tables.items ++ put.added
  tables_are = ap (λ tables. tables.items) taken.tables ∙ put.tables_are

  shape_cases : AreCasesOf p new.tables.items (leaves sets shape) put.settled
  shape_cases =
      subst (λ (tables : List Table). AreCasesOf p tables (leaves sets shape) put.settled) (sym tables_are)
      (subst (λ (some : List LeafPlace). AreCasesOf p (old.tables.items ++ put.added) some put.settled)
      (sym (leaves-renamed sets own numbers enough))
      (settled_cases p old.tables.items put.added put.table put.leaf.table put.is_table (leaves sets own) put.fresh
      put.settled fresh_are put.are_settled))

  kept_cases : AreCasesOf p new.tables.items places old.cases.items
  kept_cases =
      zip-weaker (IsCaseOf p old.tables.items) (IsCaseOf p new.tables.items)
      (λ place found case. record {
        sets = case.sets;
        number = case.number;
        table = case.table;
        named = ap (λ (tables : List Table). slice_get tables place.table) tables_are
            ∙ slice_get-left old.tables.items put.added place.table
            (slice_get_within old.tables.items place.table case.table case.named) ∙ case.named;
        worth = case.worth;
      }) places old.cases.items course.cases

  -- what is known behind the turn
  after : Standing
  after = record {
    cost = new.cost;
    blocks = blocks_of new.plan;
    tree = with_part s.tree k shape;
    tables = map prices_of new.tables.items;
  }

  added_lawful : All (λ table. Fits p table × HoldingTable p table) put.added
  added_lawful =
      let Named : ℕ → Type 0 = λ n. n < length st.tables in
      let all = subst (All Named) (sym put.of_tree.numbers_are)
      (named_within t.opening st sound put.of_tree.tree put.of_tree.is_tree) in
      tables_lawful p sets restricts st put.numbers put.added
      (All-weaker Named (λ (n : ℕ). AreLawful part (slice_index_or st.tables n no_prices))
      (λ n below. subst (λ (q : Problem). AreLawful q (slice_index_or st.tables n no_prices)) deep.problem
      (sound.tables n no_prices below)) put.numbers all) put.widened

  -- the plan
  abbrev Kept : Type 0
  Kept = (new.cost ≡ old.cost) × (new.plan ≡ old.plan)

  abbrev Found : Type 0
  Found = (found : Checked) × (incumbent st ≡ Some found) × IsCheaper found.cost old.cost × (new.cost ≡ Some found.cost)
      × (blocks_of new.plan ≡ found.blocks)

  abbrev Told : Option Checked → Type 0
  Told best = MatchOption best (IsSamePlan mid new) (λ found. (IsCheaper found.cost mid.cost × IsPlanNow found new)
      ⊎ ((¬ (IsCheaper found.cost mid.cost)) × IsSamePlan mid new))

  record IsPlanKnown : Type 0 where
    choice : Kept ⊎ Found
    no_more : IsNoMore new.cost (known st)

  at_most : (c d : ℤ) → ¬ (IsCheaper c (Some d)) → d ≤ℤ c
  at_most c d not = grind (arith, ints)

  kept_no_more : (c : ℤ) (cost : Option ℤ) → ¬ (IsCheaper c cost) → IsNoMore cost (Some c)
  kept_no_more c None not = absurd (not tt)
  kept_no_more c (Some d) not = at_most c d not

  plan_known : IsPlanKnown
  plan_known = by_plan (incumbent st) refl
    where
      by_plan : (best : Option Checked) → incumbent st ≡ best → IsPlanKnown
      by_plan None at =
          let none : known st ≡ None = ap (option_map (λ (plan : Checked). plan.cost)) at in
          let same = subst Told at taken.plan in
          record {
            choice = inl (same.cost ∙ put.cost, same.plan ∙ put.plan);
            no_more = subst (λ (c : Option ℤ). IsNoMore new.cost c) (sym none) tt;
          }
      by_plan (Some found) at =
          let some : known st ≡ Some found.cost = ap (option_map (λ (plan : Checked). plan.cost)) at in
          let told = subst Told at taken.plan in
          elim told [
            | inl takes ↦ record {
              choice = inr (
                found,
                at,
                subst (λ (c : Option ℤ). IsCheaper found.cost c) put.cost takes.0,
                takes.1.cost,
                takes.1.blocks,
              );
              no_more = subst (λ (c : Option ℤ). IsNoMore new.cost c) (sym some)
                  (subst (λ (c : Option ℤ). IsNoMore c (Some found.cost)) (sym takes.1.cost) (omega (arith, ints)));
            }
            | inr keeps ↦ record {
              choice = inl (keeps.1.cost ∙ put.cost, keeps.1.plan ∙ put.plan);
              no_more = subst (λ (c : Option ℤ). IsNoMore new.cost c) (sym some)
                  (subst (λ (c : Option ℤ). IsNoMore c (Some found.cost)) (sym keeps.1.cost)
                  (kept_no_more found.cost mid.cost keeps.0));
            }
          ]

  -- a plan that was found is one of the instance within the leaf
  record IsWithinLeaf (found : Checked) : Type 0 where
    plan : IsPlan p found.blocks
    within_sets : IsWithin sets found.blocks
    costs : found.cost ≡ pos (plan_cost p found.blocks)
    limit : found.cost ≤ℤ MAX_PLAN_COST

  found_plan : (found : Checked) → incumbent st ≡ Some found → IsWithinLeaf found
  found_plan found at =
      let of = last-is (IsPlanOf t.opening.problem) None st.accepted found sound.plans (λ other none. absurd cc) at in
      let of_part : found.problem ≡ part = of.1 ∙ deep.problem in
      let in_part : IsPlan part found.blocks =
      subst (λ (q : Problem). IsPlan q found.blocks) of_part of.0.plan in
      let costs : found.cost ≡ pos (plan_cost part found.blocks) =
      of.0.cost ∙ ap (λ (q : Problem). pos (plan_cost q found.blocks)) of_part in
      let same = plans_of_part p sets restricts is found.blocks in
      let both = same.plans.0 in_part in
      record { plan = both.0; within_sets = both.1; costs = costs ∙ ap pos (same.cost in_part); limit = of.0.limit }

  abbrev HasPlan : Option ℤ → List LayerBlock → Type 0
  HasPlan cost blocks = HasPlanOf p cost blocks

  plan_after : HasPlanOf p new.cost (blocks_of new.plan)
  plan_after =
      elim plan_known.choice [
        | inl kept ↦
            subst (λ (c : Option ℤ). HasPlan c (blocks_of new.plan)) (sym (kept.0 ∙ sym course.cost))
            (subst (HasPlan s.cost) (sym (ap blocks_of kept.1 ∙ sym course.blocks)) course.plan)
        | inr found ↦
            let here = found_plan found.0 found.1 in
            subst (λ (c : Option ℤ). HasPlan c (blocks_of new.plan)) (sym found.3)
            (subst (HasPlan (Some found.0.cost)) (sym found.4) (here.plan, here.costs))
      ]

  -- its cost can be printed
  small_cost : (n : ℕ) (cost : ℤ) → cost ≡ pos n → cost ≤ℤ MAX_PLAN_COST → IsBetween (pos 0) MAX_COST cost
  small_cost n cost is few = (omega (arith, ints), omega (arith, ints))

  within_after : IfSome new.cost (IsBetween (pos 0) MAX_COST)
  within_after =
      elim plan_known.choice [
        | inl kept ↦
            subst (λ (c : Option ℤ). IfSome c (IsBetween (pos 0) MAX_COST)) (sym (kept.0 ∙ sym course.cost))
            course.within
        | inr found ↦
            let here = found_plan found.0 found.1 in
            subst (λ (c : Option ℤ). IfSome c (IsBetween (pos 0) MAX_COST)) (sym found.3)
            (small_cost (plan_cost p found.0.blocks) found.0.cost here.costs here.limit)
      ]

  turned_plan : IsPlanKept s after ⊎ IsPlanFound p sets s after
  unfolding after
  turned_plan =
      elim plan_known.choice [
        | inl kept ↦ inl (record {
          cost = kept.0 ∙ sym course.cost;
          blocks = ap blocks_of kept.1 ∙ sym course.blocks;
        })
        | inr found ↦
            let here = found_plan found.0 found.1 in
            let cost : found.0.cost ≡ pos (plan_cost p (blocks_of new.plan)) =
            here.costs ∙ ap (λ (blocks : List LayerBlock). pos (plan_cost p blocks)) (sym found.4) in
            inr (record {
              plan = subst (IsPlan p) (sym found.4) here.plan;
              within = subst (IsWithin sets) (sym found.4) here.within_sets;
              costs = found.3 ∙ ap Some cost;
              cheaper = subst (λ (c : ℤ). IsCheaper c s.cost) cost
                  (subst (IsCheaper found.0.cost) (sym course.cost) found.2);
            })
      ]

  course_after : IsCourseOf p new after
  unfolding after
  course_after =
      let placed = leaves-with_part shape (permitted_sets p) s.tree k (record { sets = sets; table = put.leaf.table })
      stands in
      record {
        cost = refl;
        blocks = refl;
        outline = ap (λ rows. map plain rows.items) taken.rows ∙ ap (map plain) put.rows_are
            ∙ outline-with_part old.rows.items put.rows s.tree shape k inside course.outline
            (ap (map plain) put.of_tree.rows_are ∙ sym (plain-renamed own numbers));
        tables = refl;
        good = placed.good course.good good_shape;
        lawful = subst (All (λ (table : Table). Fits p table × HoldingTable p table)) (sym tables_are)
            (All-append (λ (table : Table). Fits p table × HoldingTable p table) old.tables.items put.added
            course.lawful added_lawful);
        cases = subst (λ (some : List LeafPlace). AreCasesOf p new.tables.items some new.cases.items)
            (sym placed.leaves_are)
            (subst (AreCasesOf p new.tables.items (in_place places k (leaves sets shape)))
            (sym (ap (λ cases. cases.items) taken.cases ∙ put.cases_are))
            (zip-in_place (IsCaseOf p new.tables.items) k places (leaves sets shape) old.cases.items put.settled
            kept_cases shape_cases));
        plan = plan_after;
        within = within_after;
      }

  -- the counts
  spots_are : AreSpotWorths t.opening.problem st put.of_tree.is_tree.spots (worths_in put.fresh)
  spots_are =
      spot_worths p sets is restricts t.opening deep.problem st sound put.numbers put.added put.widened
      put.of_tree.tree own 0 (permitted_sets t.opening.problem) put.of_tree.is_tree.spots put.fresh
      put.of_tree.is_tree.is_tree put.of_tree.renumbered
      (subst (λ (root : List LayerSet). AreCasesOf p put.added (leaves root own) put.fresh)
      (sym (ap (λ (q : Problem). permitted_sets q) deep.problem ∙ sets_of_part p sets restricts)) fresh_are)

  no_less : AllZip IsNoLess (worths_in put.settled) (worths_in put.fresh)
  no_less =
      settled_no_less p put.table put.leaf.table (length old.tables.items) put.fresh put.settled put.are_settled

  splits_are : splits shape ≡ count_spots is_inner st.places
  splits_are =
      splits-renamed own numbers ∙ renumbered_splits put.numbers put.of_tree.tree own put.of_tree.renumbered
      ∙ put.of_tree.is_tree.splits_are

  each_node : nodes ≤ splits shape + count_not_below new.cost (worths_in put.settled)
  each_node =
      let closed = closed_leaves t.opening st sound put.of_tree.is_tree.spots (worths_in put.fresh)
      put.of_tree.is_tree.once spots_are in
      let more = more_not_below new.cost (known st) (worths_in put.settled) (worths_in put.fresh) plan_known.no_more
      no_less in
      omega (arith, finished, sound.finished, splits_are, closed, more)

  -- what the leaves are worth
  fresh_reach : (value : ℤ) → IsStartingValue part value → All (λ worth. ReachesValue worth value) (worths_in put.fresh)
  fresh_reach value starts = by_spots put.of_tree.is_tree.spots (worths_in put.fresh) spots_are
    where
      by_spots : (spots : List ℕ) (worths : List Bound) → AreSpotWorths t.opening.problem st spots worths
          → All (λ worth. ReachesValue worth value) worths
      by_spots [] [] are = All-nil (λ (worth : Bound). ReachesValue worth value)
      by_spots [] (w ∷ worths) are = absurd are
      by_spots (j ∷ spots) [] are = absurd are
      by_spots (j ∷ spots) (w ∷ worths) are =
          All-cons (λ (worth : Bound). ReachesValue worth value) w worths
          (deep.reaches (omega (arith, some_node, finished)) value
          (subst (λ (q : Problem). IsStartingValue q value) (sym deep.problem) starts) j w are.0 are.1)
          (by_spots spots worths are.2)

  deeper : AreDeeper p sets next.0 (worths_in put.settled)
  deeper = record {
    no_less = settled_above p put.table put.leaf.table (length old.tables.items) sets next.0
        (subst (IsWorth p sets put.table) worth_is old_worth) (leaves sets own) put.added put.fresh put.settled
        (leaves_restrict p sets own restricts good_own) (leaves-narrower sets own good_own) fresh_are put.are_settled;
    reach_start = λ value starts. all_reach value (worths_in put.settled) (worths_in put.fresh) no_less
        (fresh_reach value starts);
  }

  -- each leaf has the better of two tables
  better : AreBetter p (map prices_of new.tables.items) (length s.tables) put.leaf.table (leaves sets shape)
  better =
      let all = better_all p old.tables.items put.added put.table put.leaf.table put.is_table (leaves sets own)
      (leaves sets shape) put.fresh put.settled fresh_are put.are_settled
      (subst (λ (tables : List Table). AreCasesOf p tables (leaves sets shape) put.settled) tables_are shape_cases) in
      let size : length old.tables.items ≡ length s.tables =
      sym (ap (λ (xs : List Prices). length xs) course.tables ∙ length-map old.tables.items prices_of) in
      subst (λ (n : ℕ). AreBetter p (map prices_of new.tables.items) n put.leaf.table (leaves sets shape)) size
      (subst (λ (tables : List Table).
      AreBetter p (map prices_of tables) (length old.tables.items) put.leaf.table (leaves sets shape))
      (sym tables_are) all)

  next_leaf_worths : AreNamedWorths p s.tables places (worths_in old.cases.items)
  next_leaf_worths =
      subst (λ (tables : List Prices). AreNamedWorths p tables places (worths_in old.cases.items)) (sym course.tables)
      (named_worths p old.tables.items places old.cases.items course.cases)

  a_turn : IsTurn p left s after nodes
  unfolding after
  a_turn = record {
    number = k;
    leaf = record { sets = sets; table = put.leaf.table };
    worth = next.0;
    next = record {
      worths = worths_in old.cases.items;
      are_worths = next_leaf_worths;
      next = record {
        stands = next.1.stands;
        below = subst (IsBelow next.0) (sym course.cost) next.1.below;
        least = next.1.least;
        first = next.1.first;
      };
      stands = stands;
    };
    part = shape;
    good = good_shape;
    tree = refl;
    added = map prices_of put.added;
    lawful = added_prices put.added added_lawful;
    tables = ap (map prices_of) tables_are ∙ map-append prices_of old.tables.items put.added
        ∙ ap (λ (xs : List Prices). xs ++ map prices_of put.added) (sym course.tables);
    better = better;
    worths = worths_in put.settled;
    are_worths = named_worths p new.tables.items (leaves sets shape) put.settled shape_cases;
    deeper = deeper;
    some = some_node;
    few = few;
    within = within;
    each_split = omega (arith, finished, sound.finished, splits_are);
    each_node = each_node;
    plan = turned_plan;
  }
    where
      added_prices : (tables : List Table) → All (λ table. Fits p table × HoldingTable p table) tables
          → All (AreLawful p) (map prices_of tables)
      added_prices [] each = All-nil (AreLawful p)
      added_prices (table ∷ tables) each =
          let Lawful : Table → Type 0 = λ other. Fits p other × HoldingTable p other in
          let here = All-head Lawful table tables each in
          All-cons (AreLawful p) (prices_of table) (map prices_of tables)
          (record { table = table; listed = refl; fits = here.0; holds = here.1 })
          (added_prices tables (All-tail Lawful table tables each))

  pub turned_on : IsTurnedOn p left nodes s new
  turned_on = record { standing = after; course = course_after; turn = a_turn }
