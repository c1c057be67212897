use Rattle.std.proofs.Common.{◌<◌, ◌≤◌, length, subst, arith, Option, IfSome}
use Rattle.vs_plan.specs.CheckedPlan.{Checked}
use Rattle.vs_tree.specs.Search.{state}
use Rattle.vs_tree.specs.Sound.{IsPlanOf}
use Rattle.vs_tree.specs.Takes.{held_leaves}
use Rattle.vs_replay.proofs.WholeTrace.{begun, ends_held, ends_stuck, ends_well}
use Rattle.vs_replay.proofs.replaying.replay.Goals as goal

pub returns-then-made-count : goal.returns-then-made-count
returns-then-made-count c =
    let p = c.args.instance.now in
    let t = c.args.trace in
    let start = c.in_ok-tree.tree in
    let now = c.make_all.new.tree in
    let found = rw c.in-Some.is at c.in_ok-first.ensures in
    let as_told = begun p t c.in_ok-own.own c.in-Some.first start c.in_ok-tree.ensures c.in_ok-own.ensures found.0 in
    let right = subst (λ (f : Option Checked). IfSome f (IsPlanOf p)) found.0 found.1 in
    let less : c.in_ok-made.made < length t.steps.items = omega (arith, c.if-made-count.true, c.len-count.ensures) in
    ends_stuck p t start now c.in_ok-made.made as_told right c.in_ok-made.ensures less

pub returns-then-held-gt0 : goal.returns-then-held-gt0
returns-then-held-gt0 c =
    let p = c.args.instance.now in
    let t = c.args.trace in
    let start = c.in_ok-tree.tree in
    let now = c.make_all.new.tree in
    let found = rw c.in-Some.is at c.in_ok-first.ensures in
    let as_told = begun p t c.in_ok-own.own c.in-Some.first start c.in_ok-tree.ensures c.in_ok-own.ensures found.0 in
    let right = subst (λ (f : Option Checked). IfSome f (IsPlanOf p)) found.0 found.1 in
    let all : length t.steps.items ≤ c.in_ok-made.made = omega (arith, c.if-made-count.false, c.len-count.ensures) in
    let some : 0 < held_leaves (state now) = omega (arith, c.if-held-gt0.true, c.held.ensures) in
    ends_held p t start now c.in_ok-made.made as_told right c.in_ok-made.ensures all some

pub returns : goal.returns
returns c =
    let p = c.args.instance.now in
    let t = c.args.trace in
    let start = c.in_ok-tree.tree in
    let now = c.make_all.new.tree in
    let found = rw c.in-Some.is at c.in_ok-first.ensures in
    let as_told = begun p t c.in_ok-own.own c.in-Some.first start c.in_ok-tree.ensures c.in_ok-own.ensures found.0 in
    let right = subst (λ (f : Option Checked). IfSome f (IsPlanOf p)) found.0 found.1 in
    let all : length t.steps.items ≤ c.in_ok-made.made = omega (arith, c.if-made-count.false, c.len-count.ensures) in
    let none : held_leaves (state now) ≤ 0 = omega (arith, c.if-held-gt0.false, c.held.ensures) in
    ends_well p t start now c.in_ok-made.made as_told right c.in_ok-made.ensures all none
