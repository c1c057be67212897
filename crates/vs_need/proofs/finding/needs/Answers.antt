use Rattle.std.proofs.Common.{◌≡◌, ◌∙◌, ℕ, List, Option, None, length, arith, sym, ap, subst, get_or, ℤ, w64, FitsSigned}
use Rattle.std.specs.Prelude.{IfSome}
use Rattle.vs_need.specs.Room.{HasRoom}
use Rattle.vs_need.proofs.Cuts.{kept_room}
use Rattle.vs_need.proofs.FoundFor.{needs_fit, needs-copied}
use Rattle.vs_need.proofs.finding.needs.Goals as goal

pub narrow-requires-clause-fits : goal.narrow-requires-clause-fits
narrow-requires-clause-fits g c i within =
    let given = c.requires.1 in
    let same : c.deref.result.now ≡ c.find_nexts.new.self.nexts.items = c.deref.ensures.value in
    let P : List (Option ℤ) → Type 0 = λ found. IfSome (get_or found i None) (FitsSigned w64) in
    subst P (sym same)
    (needs_fit g.p c.args.table.now c.args.l.0 given.can_judge.nets_are.of_layers.instance given.can_judge.fits
    given.layer
    c.find_nexts.new.self.nexts.items c.find_nexts.ensures.found i (omega (arith, within, given.each_trip)))

pub returns-clause-needs : goal.returns-clause-needs
returns-clause-needs g c =
    let given = c.requires.1 in
    let same : c.deref.result.now ≡ c.find_nexts.new.self.nexts.items = c.deref.ensures.value in
    let copied = c.narrow.ensures in
    needs-copied g.p c.args.table.now c.args.l.0 c.find_nexts.new.self.nexts.items
    c.narrow.new.answer c.find_nexts.ensures.found
    (omega (arith, given.each_trip, c.narrow.auto.answer))
    (λ i within. copied i (omega (arith, within, c.narrow.auto.answer))
    ∙ ap (λ (found : List (Option ℤ)). get_or found i None) same)

pub returns-clause-scratch : goal.returns-clause-scratch
returns-clause-scratch g c =
    let given = c.requires.1 in
    let P : ℕ → Type 0 =
    λ trips. HasRoom trips (g.N.ArcReader.nets c.find_nexts.new.nets) c.find_nexts.new.self in
    subst P (sym given.each_trip) (kept_room (length g.p.trips) (g.N.ArcReader.nets c.args.nets.now)
    (g.N.ArcReader.nets c.find_nexts.new.nets) c.args.scratch.now c.find_nexts.new.self c.find_nexts.ensures.nets
    given.can_judge.room c.find_nexts.ensures.kept)
