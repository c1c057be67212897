use Rattle.std.proofs.Common.{Option, ℤ, sym, subst, arith, rules, SFits, w64}
use Rattle.std.specs.Prelude.{◌↔◌, IsTrue}
use Rattle.std.proofs.lemmas.Int.{to_z-of_z}
use Rattle.vs_queue.specs.Keys.{IsBelow}
use Rattle.vs_queue.proofs.heap.Records.{count-waiting, read-label}
use Rattle.vs_queue.proofs.node_table.NodeTable.is_farther.Goals as goal

pub index-requires : goal.index-requires
index-requires c =
    omega (arith, c.requires, count-waiting c.self.inside.records.items c.args.self.now c.self.view_is)

pub returns : goal.returns
returns c =
    let ns = c.self.inside.records.items in
    let l = c.args.self.now in
    let fits : SFits w64 c.args.label = search rules in
    let farther = simp to_z-of_z at c.is_farther.ensures in
    let read =
    read-label ns l c.self.view_is c.args.node c.index.result.now
    (omega (arith, c.requires, count-waiting ns l c.self.view_is)) c.index.ensures in
    let P : Option ℤ → Type 0 = λ o. IsTrue c.is_farther.result ↔ IsBelow c.args.label o in
    subst P (sym read) farther
