-- The arcs that carry units stay listed where units are sent.
use Rattle.std.proofs.Common.{ℕ, List, length, get_or, arith, inl, inr}
use Rattle.std.proofs.lemmas.Bool.{cases_lt}
use Rattle.vs_layer.specs.Graph.{Graph}
use Rattle.vs_path.specs.declared.loads.Loads.{Loads}
use Rattle.vs_queue.specs.declared.step.Step.{Step}
use Rattle.vs_path.specs.Loads.{AreLoads}
use Rattle.vs_ship.specs.Shipments.{AreListedToo, IsSentAlong}

-- so they do along a path whose steps forward have their arcs listed
pub loads-sent : (g : Graph) (old new : List ℕ) (l l' : Loads) (path : List Step) → AreLoads g old l
    → IsSentAlong old new path (length path) → AreListedToo g l l' path (length path) → AreLoads g new l'
loads-sent g old new l l' path loads sent listed = record {
  by_node = listed.by_node;
  all = λ complete k within carries.
      elim (cases_lt 0 (get_or old k 0)) [
        | inl carried ↦ listed.kept k (loads.all (listed.complete complete) k within carried)
        | inr empty ↦
            let among = sent.more k (omega (arith, carries, empty)) in
            listed.listed complete among.0 k among.1 among.2
      ];
}
