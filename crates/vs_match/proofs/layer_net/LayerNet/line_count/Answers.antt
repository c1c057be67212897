use Rattle.std.proofs.Common.{◌≡◌, ℕ, ◌∙◌, ap, length, length-take, take, arith, None}
use Rattle.std.specs.Prelude.{is_none, not}
use Rattle.std.proofs.lemmas.List.{take_all}
use Rattle.std.proofs.lemmas.List.Sums.{count_by-le-length, count_by_more_yes, count_by_more_no}
use Rattle.vs_match.specs.declared.event.Point.{Point}
use Rattle.vs_match.specs.LayerGraph.{LayerGraph}
use Rattle.vs_match.specs.Sizes.{line_points}
use Rattle.vs_match.proofs.layer_net.LayerNet.line_count.Goals as goal
use Rattle.vs_match.proofs.layer_net.LayerNet.line_count.Goals.{then-is_none, else-is_none}

-- what stands past the last point
abbrev no_point : Point
no_point = record { minute = 0; stop = None }

pub overflow_add-count : goal.overflow_add-count
overflow_add-count c =
    let points = c.args.self.now.points in
    let part = take c.loop-point.point-index points in
    omega (
      arith,
      c.loop-point.invariant,
      count_by-le-length (λ (x : Point). is_none x.stop) part,
      length-take c.loop-point.point-index points,
      ap (λ (n : LayerGraph). length n.points) c.self.view_is,
      c.self.invariant.few,
      c.self.invariant.labelled.each_node,
    )

pub loop-point-preserved : goal.loop-point-preserved
loop-point-preserved c =
    let points = c.args.self.now.points in
    let k = c.loop-point.point-index in
    let list : c.deref-point-items.result.now ≡ points =
    c.deref-point-items.ensures.value ∙ ap (λ (n : LayerGraph). n.points) c.self.view_is in
    let within = rw list at c.loop-point-test.true in
    let test = rw list at c.is_none.ensures in
    elim c.if-is_none.branch [
      | then-is_none w ↦
          let more = count_by_more_yes (λ (x : Point). is_none x.stop) points k no_point within
          (ap not (test ∙ ap not w.if-is_none.true)) in
          omega (arith, w.count-is, c.loop-point.invariant, more)
      | else-is_none w ↦
          let more = count_by_more_no (λ (x : Point). is_none x.stop) points k no_point within
          (ap not (test ∙ ap not w.if-is_none.false)) in
          omega (arith, w.count-is, c.loop-point.invariant, more)
    ]

pub returns : goal.returns
returns c =
    let points = c.args.self.now.points in
    let list : c.deref-point-items.result.now ≡ points =
    c.deref-point-items.ensures.value ∙ ap (λ (n : LayerGraph). n.points) c.self.view_is in
    let all : c.loop-point.point-index ≡ length points =
    omega (arith, c.loop-point.auto.point-index-end, c.loop-point-test.false, ap length list) in
    c.loop-point.invariant
    ∙ ap line_points (ap (λ (k : ℕ). take k points) all ∙ take_all (length points) points (omega arith))
