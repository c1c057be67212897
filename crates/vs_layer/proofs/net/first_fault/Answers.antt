use Rattle.vs_layer.proofs.net.first_fault.Goals as goal

pub returns-in-Some : goal.returns-in-Some
returns-in-Some c =
    record { k = c.loop-k.k; of_net = c.loop-k-test.true; is_fault = c.in-Some.ensures; before = c.loop-k.invariant }
