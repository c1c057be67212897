use Rattle.std.proofs.Common.{◌≡◌, drop}
use Rattle.vs_instance.specs.Firsts.{first}
use Rattle.vs_instance.proofs.CallerLemmas.{first_from}
use Rattle.vs_peakcheck.specs.Flaws.{flaws_of, layer_flaws}
use Rattle.vs_peakcheck.proofs.checking.check_layers.Given as goal

-- the layers from here on have the first flaw of all
abbrev pub invariant-loop-l : goal.invariant-loop-l
invariant-loop-l l =
    first_from (layer_flaws l.instance) l.l (drop l.l l.claimed) ≡ first (flaws_of l.instance l.claimed)
