use Rattle.std.proofs.Common.{◌≡◌, ℕ, ◌*◌, ◌≤◌, length, subst, sym, arith, IfOk}
use Rattle.vs_instance.specs.Problem.{Problem}
use Rattle.vs_instance.specs.Narrowed.{narrowed}
use Rattle.vs_instance.proofs.CallerLemmas.{length-narrowed}
use Rattle.vs_resume.specs.declared.deepen.TheConstants.{MAX_PART_ENTRIES}
use Rattle.vs_resume.specs.Deepened.{IsBegunOn, IsDeepened}
use Rattle.vs_resume.proofs.turning.deepened.Goals as goal

pub deepen-requires : goal.deepen-requires
deepen-requires g c =
    let p = c.args.instance.now in
    let sets = c.args.sets.now in
    let budget = c.args.budget in
    let same : length (narrowed p sets).trips ≡ length p.trips = length-narrowed p sets in
    let room : length (narrowed p sets).trips * length (narrowed p sets).layers * budget ≤ MAX_PART_ENTRIES =
    subst (λ (n : ℕ). n * length p.layers * budget ≤ MAX_PART_ENTRIES) (sym same) c.requires.room in
    record {
      can = c.requires.can;
      some = c.requires.some;
      budget = omega (arith, c.requires.few);
      room = subst (λ (q : Problem). length q.trips * length q.layers * budget ≤ MAX_PART_ENTRIES)
          (sym c.in_ok-part.ensures) room;
    }

pub returns : goal.returns
returns g c = record {
  stays = c.deepen.ensures.stays;
  may = c.deepen.ensures.may;
  begun = subst (λ (q : Problem). IfOk c.deepen.result (IsBegunOn q c.args.budget)) c.in_ok-part.ensures
      c.deepen.ensures.begun;
  found = λ never. subst (λ (q : Problem). IfOk c.deepen.result (IsDeepened q c.args.budget)) c.in_ok-part.ensures
      (c.deepen.ensures.found never);
}
