use Rattle.std.proofs.Common.{◌∙◌, ap, sym, arith, replicate, pos}
use Rattle.vs_path.specs.Labels.{lists_of}
use Rattle.vs_path.proofs.labelling.Exploring.{fresh_size, fresh_listed}
use Rattle.vs_path.proofs.search.Search.new.Goals as goal

pub invariant_of-result : goal.invariant_of-result
invariant_of-result c =
    let fresh = c.in_ok-labels.ensures.fresh in
    let size = fresh_size c.args.nodes (lists_of c.in_ok-labels.labels) fresh in
    record {
      some = omega (arith, size, c.requires);
      are_listed = fresh_listed c.args.nodes (lists_of c.in_ok-labels.labels) fresh;
      for_order = omega (arith, size, c.in_ok-labels.ensures.space);
      for_path = omega (arith, size, c.in_ok-with_capacity.ensures.exact);
      none_lacks = c.in_ok-vec.ensures.items_if_clones_equal (λ y e. e) ∙ ap (λ n. replicate n (pos 0)) (sym size);
    }
