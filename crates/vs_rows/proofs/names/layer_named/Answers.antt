use Rattle.vs_rows.proofs.words.Names.{no_name}
use Rattle.vs_rows.proofs.names.layer_named.Goals as goal

pub returns-in-Err-clause-none : goal.returns-in-Err-clause-none
returns-in-Err-clause-none c = no_name c.args.names.now.layers c.args.field.now c.layers-layers.ensures.names
    c.in-Err.ensures.cases.0
