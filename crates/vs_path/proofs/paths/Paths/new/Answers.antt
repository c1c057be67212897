use Rattle.std.proofs.Common.{◌∙◌, None, pos, length, replicate, sym, ap, arith}
use Rattle.std.proofs.lemmas.List.{length-replicate}
use Rattle.vs_path.specs.Labels.{lists_of}
use Rattle.vs_path.proofs.labelling.Exploring.{fresh_size, fresh_listed}
use Rattle.vs_path.proofs.paths.Paths.new.Goals as goal

pub invariant_of-result : goal.invariant_of-result
invariant_of-result c =
    let fresh = c.in_ok-labels.ensures.fresh in
    let size = fresh_size c.nodes-nodes.result (lists_of c.in_ok-labels.labels) fresh in
    let paths = c.in_ok-tree.ensures in
    record {
      some = omega (arith, size, c.nodes-nodes.ensures.net.nodes);
      can_wait = record {
        settled = c.in_ok-heap.ensures.settled ∙ ap (λ n. replicate n None) (sym size);
        waiting = ap length c.in_ok-heap.ensures.waiting ∙ length-replicate c.nodes-nodes.result None ∙ sym size;
      };
      are_listed = fresh_listed c.nodes-nodes.result (lists_of c.in_ok-labels.labels) fresh;
      for_order = omega (arith, size, c.in_ok-labels.ensures.space);
      size = record { distances = paths.distances ∙ sym size; steps = paths.steps ∙ sym size };
      for_prices = omega (arith, size, c.in_ok-prices.ensures.len);
      none_lacks = c.in_ok-zeros.ensures.items_if_clones_equal (λ y e. e) ∙ ap (λ n. replicate n (pos 0)) (sym size);
    }
