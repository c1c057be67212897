use Rattle.std.proofs.Common.{◌∙◌, ap, map, length}
use Rattle.std.proofs.lemmas.List.{length-map, length-replicate}
use Rattle.vs_types.proofs.CallerLemmas.{map-replicate}
use Rattle.vs_queue.specs.declared.node_table.Mark.TheVariants.{Unknown}
use Rattle.vs_queue.specs.declared.node_table.NodeRecord.{NodeRecord}
use Rattle.vs_queue.specs.declared.node_table.TheConstants.{UNKNOWN}
use Rattle.vs_queue.specs.declared.step.Step.TheVariants.{Forward}
use Rattle.vs_queue.specs.NodeLists.{key_of, settled_of, step_of}
use Rattle.vs_queue.proofs.node_table.NodeTable.new.Goals as goal

abbrev unknown : NodeRecord
unknown = record { distance = UNKNOWN; step = Forward 0; mark = Unknown }

pub returns-clause-settled : goal.returns-clause-settled
returns-clause-settled c =
    ap (map settled_of) (c.in_ok-records.ensures.items_if_clones_equal (λ y e. e))
    ∙ map-replicate settled_of c.args.count unknown

pub returns-clause-waiting : goal.returns-clause-waiting
returns-clause-waiting c =
    ap (map key_of) (c.in_ok-records.ensures.items_if_clones_equal (λ y e. e))
    ∙ map-replicate key_of c.args.count unknown

pub returns-clause-steps : goal.returns-clause-steps
returns-clause-steps c =
    length-map c.in_ok-records.records.items step_of
    ∙ ap length (c.in_ok-records.ensures.items_if_clones_equal (λ y e. e))
    ∙ length-replicate c.args.count unknown
