use Rattle.std.proofs.Common.{◌≡◌, ◌∙◌, length}
use Rattle.std.proofs.lemmas.List.{length-set}
use Rattle.vs_multi.proofs.CallerLemmas.{within-set}
use Rattle.vs_bundle.proofs.stepping.go_further.Goals as goal

pub loop-i-preserved : goal.loop-i-preserved
loop-i-preserved c =
    let inv = c.loop-i.invariant in
    let count : length c.loop-i.further ≡ c.args.trips = inv.each ∙ c.requires.few in
    record {
      within = within-set c.args.trips c.loop-i.further c.loop-i.i c.stepped.result count inv.within c.stepped.ensures;
      each = length-set c.loop-i.further c.loop-i.i _ ∙ inv.each;
    }
