use Rattle.std.proofs.Common.{sym, ap, ◌∙◌}
use mathlib.Core.List.{map}
use Rattle.vs_tree.specs.Entries.{entry_of}
use Rattle.vs_tree.specs.Search.{Search}
use Rattle.vs_turn.proofs.CallerLemmas.{adds_none}
use Rattle.test_crew.proofs.crews.seats.look.Goals as goal

pub release-requires-clause-entries : goal.release-requires-clause-entries
release-requires-clause-entries g c =
    adds_none c.hold-held.result.seat.tickets c.hold-held.result.found (map entry_of c.value.result.now.steps)
    (c.hold-held.ensures.found ∙ ap (λ (t : Search). map entry_of t.steps) (sym c.value.ensures.value))
