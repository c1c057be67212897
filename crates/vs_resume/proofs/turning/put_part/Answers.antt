use Rattle.std.proofs.Common.{◌≡◌, ◌+◌, ◌<◌, List, length, refl, sym, ap, ◌∙◌, subst, arith, length-append, ℕ}
use Rattle.std.specs.List.{All}
use Rattle.std.proofs.lemmas.List.{with_items_is}
use Rattle.std.proofs.lemmas.Slice.Zip.{AllZip-long}
use Rattle.vs_types.specs.declared.layer_set.LayerSet.{LayerSet}
use Rattle.vs_instance.specs.Narrowed.{narrowed}
use Rattle.vs_instance.specs.Restriction.{IsRestriction}
use Rattle.vs_prices.specs.Table.{Fits}
use Rattle.vs_prices.specs.declared.table.Table.{Table}
use Rattle.vs_rows.specs.declared.document.Shape.{Shape}
use Rattle.vs_tree.specs.Search.{state}
use Rattle.vs_resume.specs.declared.cases.Case.{Case}
use Rattle.vs_resume.specs.Cases.{AreCasesOfRows, AreGoodRows, AreSettled, IsSettled}
use Rattle.vs_resume.specs.InPlace.{in_place}
use Rattle.vs_resume.specs.Parts.{AreWidenedTables}
use Rattle.vs_resume.proofs.parts.PartPut.{as_many, case_at, each_few, each_restricts, few_numbers, good_rows, leaf_restricts, part_numbers, row_there, table_fits, table_stands, table_within, widened_fit}
use Rattle.vs_resume.proofs.turning.put_part.Goals as goal

pub widened_tables-requires : goal.widened_tables-requires
widened_tables-requires c =
    let p = c.args.instance.now in
    let old = c.args.course.now in
    let found = c.index.result.now in
    let sets = c.args.sets.items in
    let is_sets = c.requires.sets found
    (case_at p old c.requires.course c.args.k c.requires.leaf found c.index.ensures) in
    let restricts = subst (IsRestriction p) is_sets
    (leaf_restricts p old c.requires.course c.args.k c.requires.leaf found c.index.ensures c.trips.ensures.instance) in
    let known = c.instance-part.ensures in
    record {
      sets = subst (IsRestriction p) (sym c.deref-layers.ensures.value) restricts;
      part = c.requires.part ∙ ap (λ (s : List LayerSet). narrowed p s) (sym c.deref-layers.ensures.value);
      numbers = subst (All (λ (n : ℕ). n < length (state c.args.tree.now).tables)) (sym c.deref-named.ensures.value)
          (part_numbers p sets restricts c.args.tree.now c.requires.part known.opening known.history
          c.in_ok-of_tree.of_tree.tables.items c.in_ok-of_tree.of_tree.rows.items c.in_ok-of_tree.ensures);
    }

pub index-old-requires : goal.index-old-requires
index-old-requires c =
    let within = table_within c.args.instance.now c.args.course.now c.requires.course c.args.k c.requires.leaf
    c.index.result.now c.index.ensures in
    omega (arith, within, c.args.course.now.tables.ok.0)

pub cases_of-requires : goal.cases_of-requires
cases_of-requires c =
    let p = c.args.instance.now in
    let old = c.args.course.now in
    let found = c.index.result.now in
    let sets = c.args.sets.items in
    let is_sets = c.requires.sets found
    (case_at p old c.requires.course c.args.k c.requires.leaf found c.index.ensures) in
    let restricts = subst (IsRestriction p) is_sets
    (leaf_restricts p old c.requires.course c.args.k c.requires.leaf found c.index.ensures c.trips.ensures.instance) in
    let known = c.instance-part.ensures in
    let t = c.args.tree.now in
    let numbers = c.in_ok-of_tree.of_tree.tables.items in
    let rows = c.in_ok-of_tree.of_tree.rows.items in
    let tables = c.in_ok-tables.tables.items in
    let widened = subst (λ (s : List LayerSet). AreWidenedTables p s (state t) numbers tables)
    c.deref-layers.ensures.value
    (subst (λ (ns : List ℕ). AreWidenedTables p c.deref-layers.result.now (state t) ns tables)
    c.deref-named.ensures.value c.in_ok-tables.ensures) in
    record {
      tables = subst (All (Fits p)) (sym c.deref-widened.ensures.value)
          (widened_fit p sets (state t) numbers tables widened);
      sets = restricts;
      rows = subst (λ (rs : List Shape). AreGoodRows sets (length c.deref-widened.result.now) rs)
          (sym c.deref-shapes.ensures.value)
          (subst (λ (ts : List Table). AreGoodRows sets (length ts) rows) (sym c.deref-widened.ensures.value)
          (good_rows p sets restricts t c.requires.part known.opening known.history numbers rows c.in_ok-of_tree.ensures
          tables widened));
    }

pub settle-requires : goal.settle-requires
settle-requires c =
    let p = c.args.instance.now in
    let old = c.args.course.now in
    let found = c.index.result.now in
    let sets = c.args.sets.items in
    let is_sets = c.requires.sets found
    (case_at p old c.requires.course c.args.k c.requires.leaf found c.index.ensures) in
    let restricts = subst (IsRestriction p) is_sets
    (leaf_restricts p old c.requires.course c.args.k c.requires.leaf found c.index.ensures c.trips.ensures.instance) in
    let known = c.instance-part.ensures in
    let t = c.args.tree.now in
    let numbers = c.in_ok-of_tree.of_tree.tables.items in
    let rows = c.in_ok-of_tree.of_tree.rows.items in
    let tables = c.in_ok-tables.tables.items in
    let cases = c.in_ok-cases.cases.items in
    let widened = subst (λ (s : List LayerSet). AreWidenedTables p s (state t) numbers tables)
    c.deref-layers.ensures.value
    (subst (λ (ns : List ℕ). AreWidenedTables p c.deref-layers.result.now (state t) ns tables)
    c.deref-named.ensures.value c.in_ok-tables.ensures) in
    let are = subst (λ (rs : List Shape). AreCasesOfRows p tables sets rs cases) c.deref-shapes.ensures.value
    (subst (λ (ts : List Table). AreCasesOfRows p ts sets c.deref-shapes.result.now cases) c.deref-widened.ensures.value
    c.in_ok-cases.ensures) in
    let few = few_numbers p sets restricts t c.requires.part known.opening known.history numbers rows
    c.in_ok-of_tree.ensures c.requires.budget in
    let many = as_many p sets restricts t c.requires.part known.opening known.history numbers rows
    c.in_ok-of_tree.ensures tables widened in
    let room : c.len-base.result + length tables < 4294967296 =
    omega (arith, few, many, c.len-base.ensures, old.tables.ok.0, c.requires.few) in
    record {
      old = table_fits p old c.requires.course c.args.k c.requires.leaf found c.index.ensures c.index-old.result.now
          c.index-old.ensures;
      sets = subst (All (λ (f : Case). IsRestriction p f.sets.items)) (sym c.deref_mut.ensures.value)
          (each_restricts p sets restricts t c.requires.part known.opening known.history numbers rows
          c.in_ok-of_tree.ensures tables widened cases are);
      few = subst (All (λ (f : Case). c.len-base.result + f.table < 4294967296)) (sym c.deref_mut.ensures.value)
          (each_few p sets restricts t c.requires.part known.opening known.history numbers rows
          c.in_ok-of_tree.ensures tables widened cases are c.len-base.result 4294967296 (omega (arith, room)));
    }

pub put_rows-requires : goal.put_rows-requires
put_rows-requires c =
    row_there c.args.instance.now c.args.course.now c.requires.course c.args.k c.requires.leaf c.index.result.now
    c.index.ensures

pub put_in_place-requires : goal.put_in_place-requires
put_in_place-requires c = c.requires.leaf

pub returns : goal.returns
returns c =
    let p = c.args.instance.now in
    let old = c.args.course.now in
    let found = c.index.result.now in
    let sets = c.args.sets.items in
    let at = case_at p old c.requires.course c.args.k c.requires.leaf found c.index.ensures in
    let is_sets = c.requires.sets found at in
    let restricts = subst (IsRestriction p) is_sets
    (leaf_restricts p old c.requires.course c.args.k c.requires.leaf found c.index.ensures c.trips.ensures.instance) in
    let known = c.instance-part.ensures in
    let t = c.args.tree.now in
    let numbers = c.in_ok-of_tree.of_tree.tables.items in
    let rows = c.in_ok-of_tree.of_tree.rows.items in
    let tables = c.in_ok-tables.tables.items in
    let cases = c.in_ok-cases.cases.items in
    let widened = subst (λ (s : List LayerSet). AreWidenedTables p s (state t) numbers tables)
    c.deref-layers.ensures.value
    (subst (λ (ns : List ℕ). AreWidenedTables p c.deref-layers.result.now (state t) ns tables)
    c.deref-named.ensures.value c.in_ok-tables.ensures) in
    let are = subst (λ (rs : List Shape). AreCasesOfRows p tables sets rs cases) c.deref-shapes.ensures.value
    (subst (λ (ts : List Table). AreCasesOfRows p ts sets c.deref-shapes.result.now cases) c.deref-widened.ensures.value
    c.in_ok-cases.ensures) in
    let few = few_numbers p sets restricts t c.requires.part known.opening known.history numbers rows
    c.in_ok-of_tree.ensures c.requires.budget in
    let many = as_many p sets restricts t c.requires.part known.opening known.history numbers rows
    c.in_ok-of_tree.ensures tables widened in
    let base : c.len-base.result ≡ length old.tables.items = omega (arith, c.len-base.ensures, old.tables.ok.0) in
    let settled = AllZip-long (IsSettled p c.index-old.result.now found.table c.len-base.result) c.deref_mut.result.now
    c.settle.new.cases c.settle.ensures ∙ ap (λ (fs : List Case). length fs) c.deref_mut.ensures.value in
    let size = ap length c.in_ok-append.ensures.items ∙ length-append old.tables.items tables in
    record {
      put = record {
        cost = refl;
        plan = refl;
        leaf = found;
        is_leaf = at;
        table = c.index-old.result.now;
        is_table = table_stands p old c.requires.course c.args.k c.requires.leaf found c.index.ensures
            c.index-old.result.now c.index-old.ensures;
        numbers = numbers;
        rows = rows;
        of_tree = c.in_ok-of_tree.ensures;
        added = tables;
        widened = subst (λ (s : List LayerSet). AreWidenedTables p s (state t) numbers tables) (sym is_sets) widened;
        fresh = cases;
        are_fresh = subst (λ (s : List LayerSet). AreCasesOfRows p tables s rows cases) (sym is_sets) are;
        settled = c.settle.new.cases;
        are_settled = subst (λ (n : ℕ). AreSettled p c.index-old.result.now found.table n cases c.settle.new.cases) base
            (subst (λ (fs : List Case). AreSettled p c.index-old.result.now found.table c.len-base.result fs
            c.settle.new.cases) c.deref_mut.ensures.value c.settle.ensures);
        tables_are = c.in_ok-append.ensures.items;
        rows_are = c.in_ok-put_rows.ensures;
        cases_are = c.in_ok-put_in_place.ensures
            ∙ ap (λ (fs : List Case). in_place old.cases.items c.args.k fs)
            (with_items_is c.in_ok-cases.cases c.settle.new.cases (omega (arith, settled, c.in_ok-cases.cases.ok.0)));
      };
      few = omega (arith, size, few, many);
    }
