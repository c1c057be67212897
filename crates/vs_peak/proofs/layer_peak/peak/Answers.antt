use Rattle.std.proofs.Common.{◌∙◌}
use Rattle.vs_peakcheck.proofs.CallerLemmas.{counts_vehicles}
use Rattle.vs_peak.proofs.FoundPeaks.{peak_none, peak_some, single_sets}
use Rattle.vs_peak.proofs.layer_peak.peak.Goals as goal

pub settle-requires-clause-single : goal.settle-requires-clause-single
settle-requires-clause-single c =
    let p = c.args.instance.now in
    let l = c.args.l in
    single_sets p l (counts_vehicles p l c.layers-layers.ensures.instance c.requires) c.in_ok-counted.counted
    c.as_slice-sets.result.now c.in_ok-counted.ensures (c.as_slice-sets.ensures.value ∙ c.in_ok-own_sets.ensures.sets)

pub returns-in-None : goal.returns-in-None
returns-in-None c =
    let p = c.args.instance.now in
    let l = c.args.l in
    peak_none p l (counts_vehicles p l c.layers-layers.ensures.instance c.requires) c.in_ok-counted.counted
    c.as_slice-sets.result.now c.in_ok-counted.ensures (c.as_slice-sets.ensures.value ∙ c.in_ok-own_sets.ensures.sets)
    c.in_ok-settled.settled.table c.in_ok-settled.ensures.fits c.in_ok-settled.ensures.holds
    (rw c.in-None.is at c.in_ok-settled.ensures.shows)

pub returns : goal.returns
returns c =
    let p = c.args.instance.now in
    let l = c.args.l in
    let shows = rw c.in-Some.is at c.in_ok-settled.ensures.shows in
    peak_some p l (counts_vehicles p l c.layers-layers.ensures.instance c.requires) c.in_ok-counted.counted
    c.as_slice-sets.result.now c.in_ok-counted.ensures
    (c.as_slice-sets.ensures.value ∙ c.in_ok-own_sets.ensures.sets) c.in-Some.plan
    c.in_ok-settled.settled.table c.in_ok-shown-in-Some.shown c.in_ok-settled.ensures.fits
    c.in_ok-settled.ensures.holds shows.0 shows.1 c.in_ok-shown-in-Some.ensures
