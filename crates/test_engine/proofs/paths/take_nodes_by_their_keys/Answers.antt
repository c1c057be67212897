use Rattle.std.proofs.Common.{◌≡◌, ◌∙◌, ℕ, List, Option, None, get_or, replicate, ap, length, length-set}
use Rattle.vs_queue.specs.NodeLists.{NodeLists}
use Rattle.vs_path.proofs.CallerLemmas.{get_or-none}
use Rattle.test_engine.proofs.paths.take_nodes_by_their_keys.Goals as goal
use Rattle.test_engine.proofs.paths.take_nodes_by_their_keys.Goals.{then-number-eq0+else-assert_eq, else-number-eq0+then-may_lower, else-number-eq0+else-may_lower}

none-at : {X : Type 0} (xs : List (Option X)) (v : ℕ) → xs ≡ replicate 7 None → get_or xs v None ≡ None
none-at {X} xs v none = ap (λ (ys : List (Option X)). get_or ys v None) none ∙ get_or-none 7 v

pub lower-requires-clause-unsettled : goal.lower-requires-clause-unsettled
lower-requires-clause-unsettled g c = none-at _ _ c.loop.invariant.settled

pub loop-preserved : goal.loop-preserved
loop-preserved g c =
    let inv = c.loop.invariant in
    elim c.if-number-eq0.branch [
      | then-number-eq0+else-assert_eq w ↦
          record {
            size = ap (λ (h : NodeLists). length h.waiting) w.heap-is ∙ w.take_of_both.ensures.size;
            settled = ap (λ (h : NodeLists). h.settled) w.heap-is ∙ w.take_of_both.ensures.settled ∙ inv.settled;
          }
      | else-number-eq0+then-may_lower w ↦
          record {
            size = ap (λ (h : NodeLists). length h.waiting) w.heap-is ∙ ap length w.lower.ensures.waiting
                ∙ length-set c.loop.heap.waiting _ _ ∙ inv.size;
            settled = ap (λ (h : NodeLists). h.settled) w.heap-is ∙ w.lower.ensures.settled ∙ inv.settled;
          }
      | else-number-eq0+else-may_lower w ↦
          record {
            size = ap (λ (h : NodeLists). length h.waiting) w.heap-is ∙ inv.size;
            settled = ap (λ (h : NodeLists). h.settled) w.heap-is ∙ inv.settled;
          }
    ]
