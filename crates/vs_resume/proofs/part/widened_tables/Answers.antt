use Rattle.std.proofs.Common.{ℕ, ◌+◌, List, [], ◌∷◌, ◌++◌, get_or, take, sym, ◌∙◌, subst, slice_index_or}
use Rattle.std.proofs.lemmas.List.{take_more}
use Rattle.vs_prices.specs.declared.table.Table.{Table}
use Rattle.vs_tree.specs.Prices.{no_prices}
use Rattle.vs_tree.specs.Search.{state}
use Rattle.vs_tree.proofs.CallerLemmas.{histories_are_sound}
use Rattle.vs_resume.specs.Parts.{AreWidenedTables, IsWidenedFrom}
use Rattle.vs_resume.proofs.parts.PartTables.{number_fits}
use Rattle.vs_resume.proofs.trees.Zips.{zip-append}
use Rattle.vs_resume.proofs.part.widened_tables.Goals as goal

pub widen-requires-clause-fits : goal.widen-requires-clause-fits
widen-requires-clause-fits c =
    let t = c.args.tree.now in
    let known = c.instance-instance.ensures in
    let numbers = c.args.numbers.now in
    let i = c.loop-number.number-index in
    number_fits c.args.instance.now c.args.sets.now c.requires.sets t.opening (state t)
    (histories_are_sound t.opening t.steps known.opening known.history) c.requires.part (get_or numbers i 0)
    c.in_ok-table.table (c.requires.numbers i 0 c.loop-number-test.true) (c.in_ok-table.ensures ∙ c.table.ensures)

pub loop-number-preserved : goal.loop-number-preserved
loop-number-preserved c =
    let p = c.args.instance.now in
    let sets = c.args.sets.now in
    let s = state c.args.tree.now in
    let numbers = c.args.numbers.now in
    let i = c.loop-number.number-index in
    let n = get_or numbers i 0 in
    let before = c.loop-number.tables.items in
    let table = c.widen.new.table in
    let IsOf : ℕ → Table → Type 0 = λ m t. IsWidenedFrom p sets (slice_index_or s.tables m no_prices) t in
    let here : IsOf n table = record {
      own = c.in_ok-table.table;
      listed = c.in_ok-table.ensures ∙ c.table.ensures;
      widened = c.widen.ensures.widened;
      fits = c.widen.ensures.fits;
    } in
    subst (AreWidenedTables p sets s (take (i + 1) numbers)) (sym c.in_ok-push.ensures.items)
    (subst (λ (ns : List ℕ). AreWidenedTables p sets s ns (before ++ table ∷ []))
    (sym (take_more numbers i 0 c.loop-number-test.true))
    (zip-append IsOf (take i numbers) (n ∷ []) before (table ∷ []) c.loop-number.invariant (here, tt)))
