use Rattle.std.proofs.Common.{◌≡◌, ℕ, ◌+◌, ◌<◌, List, ◌++◌, length, get_or, map, sym, ap, ◌∙◌, subst, arith}
use Rattle.std.specs.List.{enumerate_from}
use Rattle.std.proofs.Math.Nat.{add_comm}
use Rattle.std.proofs.lemmas.List.{get_or-map, length-map}
use Rattle.std.proofs.lemmas.List.FromFn.{get_or-enumerate_from, length-enumerate_from}
use Rattle.vs_instance.specs.Problem.{Problem}
use Rattle.vs_prices.specs.Table.{Fits}
use Rattle.vs_tree.specs.History.{State}
use Rattle.vs_tree.specs.Prices.{Prices, prices_of}
use Rattle.vs_tree.specs.Search.{state}
use Rattle.vs_tree.proofs.CallerLemmas.{histories_are_sound}
use Rattle.vs_reader.specs.Rows.{lines}
use Rattle.vs_rows.specs.DocumentRows.{table_rows, written_rows}
use Rattle.vs_cert.specs.TreeText.{prices_of_number, prices_rows}
use Rattle.vs_rows.specs.Writing.{AddsRows}
use Rattle.vs_cert.proofs.states.TreeTables.{number_fits}
use Rattle.vs_rows.proofs.CallerLemmas.{written-flat_map, wrote_more, wrote_all}
use Rattle.vs_cert.proofs.tree_document.write_numbered.Goals as goal

-- a table of the prices of the number at a place, as one of the numbered ones
numbered_at : (s : State) (numbers items : List ℕ) (k : ℕ) (x : Prices) → items ≡ numbers → k < length numbers
    → x ≡ prices_of_number s (get_or items k 0)
    → get_or (enumerate_from 1 (map (prices_of_number s) numbers)) k (k + 1, x) ≡ (k + 1, x)
numbered_at s numbers items k x same within is =
    let xs : List Prices = map (prices_of_number s) numbers in
    let here : get_or xs k x ≡ x =
    get_or-map (prices_of_number s) numbers k 0 x within
    ∙ ap (λ (ns : List ℕ). prices_of_number s (get_or ns k 0)) (sym same) ∙ sym is in
    get_or-enumerate_from 1 xs k (k + 1, x) (omega (arith, within, length-map numbers (prices_of_number s)))
    ∙ ap (λ n. (n, get_or xs k x)) (add_comm 1 k) ∙ ap (λ y. (k + 1, y)) here

pub write_table-requires-clause-fits : goal.write_table-requires-clause-fits
write_table-requires-clause-fits c =
    let t = c.args.tree.now in
    let numbers = c.args.numbers.now.items in
    let items = c.deref-number-items.result.now in
    let k = c.loop-k.k in
    let known = c.instance-instance.ensures in
    let sound = histories_are_sound t.opening t.steps known.opening known.history in
    let same = c.deref-number-items.ensures.value in
    let inside : k < length numbers = omega (arith, ap (λ (ns : List ℕ). length ns) same) in
    let number : get_or items k 0 < length (state t).tables =
    subst (λ (ns : List ℕ). get_or ns k 0 < length (state t).tables) (sym same) (c.requires.tables k 0 inside) in
    let table = c.table-table.result.now in
    subst (λ (q : Problem). Fits q table) (sym known.value)
    (number_fits t.opening (state t) sound (get_or items k 0) table number c.table-table.ensures)

pub loop-k-preserved : goal.loop-k-preserved
loop-k-preserved c =
    let t = c.args.tree.now in let names = c.args.names.now in
    let numbers = c.args.numbers.now.items in
    let k = c.loop-k.k in
    let p = t.opening.problem in
    let bytes : ℕ × Prices → List ℕ = λ e. lines (written_rows names (prices_rows p e)) in
    let table = c.table-table.result.now in
    let same = c.deref-number-items.ensures.value in
    let inside : k < length numbers = omega (arith, ap (λ (ns : List ℕ). length ns) same) in
    let xs : List Prices = map (prices_of_number (state t)) numbers in
    let place =
    numbered_at (state t) numbers c.deref-number-items.result.now k (prices_of table) same inside
    c.table-table.ensures in
    let added = subst (λ (q : Problem). AddsRows names (table_rows q (k + 1, table)) c.loop-k.text
    c.write_table.new.text)
    c.instance-instance.ensures.value c.in_ok-write_table.ensures in
    wrote_more bytes c.args.text.now c.loop-k.text c.write_table.new.text (enumerate_from 1 xs) k
    (k + 1, prices_of table)
    (omega (arith, inside, length-enumerate_from 1 xs, length-map numbers (prices_of_number (state t))))
    c.loop-k.invariant
    (added ∙ ap (λ e. c.loop-k.text ++ bytes e) (sym place))

pub returns : goal.returns
returns c =
    let t = c.args.tree.now in let names = c.args.names.now in
    let numbers = c.args.numbers.now.items in
    let p = t.opening.problem in
    let xs : List Prices = map (prices_of_number (state t)) numbers in
    let numbered = enumerate_from 1 xs in
    let same = ap (λ (ns : List ℕ). length ns) c.deref-number-items.ensures.value in
    wrote_all (λ (e : ℕ × Prices). lines (written_rows names (prices_rows p e))) c.args.text.now c.loop-k.text numbered
    c.loop-k.k
    (omega (arith, same, length-enumerate_from 1 xs, length-map numbers (prices_of_number (state t))))
    c.loop-k.invariant
    ∙ ap (λ rest. c.args.text.now ++ rest) (sym (written-flat_map names (prices_rows p) numbered))
