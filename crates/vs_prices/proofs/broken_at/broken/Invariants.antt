use Rattle.std.proofs.Common.{◌≡◌, length}
use Rattle.vs_instance.specs.Firsts.{first}
use Rattle.vs_instance.proofs.CallerLemmas.{first_below}
use Rattle.vs_prices.specs.Breaks.{breaks_of, layer_breaks}
use Rattle.vs_prices.proofs.broken_at.broken.Given as goal

-- the layers from here on have the first break of all
abbrev pub invariant-loop-l : goal.invariant-loop-l
invariant-loop-l l =
    first_below (layer_breaks l.instance l.table) l.l (length l.instance.layers) ≡ first (breaks_of l.instance l.table)
