use Rattle.std.proofs.Common.{◌≡◌, ℕ, ◌+◌, ◌<◌, List, length, get_or, sym, ◌∙◌, arith}
use Rattle.std.proofs.lemmas.List.{get_or_read, length-map}
use Rattle.vs_decomp.specs.Stands.{standing}
use Rattle.vs_decomp.proofs.Coming.{count_nodes}
use Rattle.vs_decomp.proofs.Standing.{row}
use Rattle.vs_decomp.proofs.Taking.{some_left, taken_more}
use Rattle.vs_decomp.proofs.underway.Underway.take_arc.Goals as goal

-- a unit is left while the count is below what was read
is_left : (units : List ℕ) (k arcs read count : ℕ) → k + 1 < arcs → length units ≡ arcs → read ≡ get_or units k read
    → count < read → count < get_or units k 0
is_left units k arcs read count onward each is less =
    let same = get_or_read units k read (omega (arith, onward, each)) is 0 in
    omega (arith, same, less)

pub take_unit-requires-clause-nodes : goal.take_unit-requires-clause-nodes
take_unit-requires-clause-nodes c =
    let units = c.args.flow.now.units.items in
    let now = standing c.loop.self.stands.items in
    let less =
    is_left units c.args.k _ c.index-end.result.now c.loop.counter c.requires.onward c.requires.circulation.each_arc
    c.index-end.ensures c.loop-test.true in
    let left =
    some_left c.args.net.now c.requires.net units c.requires.circulation c.args.k c.requires.onward c.loop.counter
    (standing c.args.self.now.stands.items) now less c.requires.can c.loop.invariant in
    sym (length-map c.loop.self.stands.items row)
    ∙ count_nodes c.args.net.now c.requires.can.layer units _ now left.0

pub take_unit-requires-clause-some : goal.take_unit-requires-clause-some
take_unit-requires-clause-some c =
    let units = c.args.flow.now.units.items in
    let less =
    is_left units c.args.k _ c.index-end.result.now c.loop.counter c.requires.onward c.requires.circulation.each_arc
    c.index-end.ensures c.loop-test.true in
    (some_left c.args.net.now c.requires.net units c.requires.circulation c.args.k c.requires.onward c.loop.counter
    (standing c.args.self.now.stands.items) (standing c.loop.self.stands.items) less c.requires.can
    c.loop.invariant).1

pub loop-preserved : goal.loop-preserved
loop-preserved c =
    let units = c.args.flow.now.units.items in
    let less =
    is_left units c.args.k _ c.index-end.result.now c.loop.counter c.requires.onward c.requires.circulation.each_arc
    c.index-end.ensures c.loop-test.true in
    taken_more c.args.net.now c.requires.net units c.requires.circulation c.args.k c.requires.onward c.loop.counter
    (standing c.args.self.now.stands.items) (standing c.loop.self.stands.items)
    (standing c.take_unit.new.self.stands.items) less c.loop.invariant c.in_ok-take_unit.ensures
