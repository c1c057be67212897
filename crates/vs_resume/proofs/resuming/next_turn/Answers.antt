use Rattle.std.proofs.Common.{◌≡◌, List, false, inl, refl, subst, arith}
use Rattle.std.specs.List.{All}
use Rattle.std.proofs.lemmas.Result.{IfOk-weaker}
use Rattle.vs_prices.specs.Bounds.{IsBelow}
use Rattle.vs_resume.specs.declared.cases.Case.{Case}
use Rattle.vs_resume.specs.declared.turning.Ended.{Ended}
use Rattle.vs_resume.specs.Courses.{EndsOnly}
use Rattle.vs_resume.specs.Order.{worths_in}
use Rattle.vs_resume.specs.Turns.{IsNextIn}
use Rattle.vs_resume.proofs.resuming.next_turn.Goals as goal

-- no leaf is below the cost
pub returns-in_default : goal.returns-in_default
returns-in_default g c =
    let course = c.args.course.now in
    let IsOut : Case → Type 0 = λ found. ¬ (IsBelow found.worth course.cost) in
    record {
      stays = c.requires.can;
      may = λ stops. stops;
      turn = inl (refl, refl, refl);
      few = omega arith;
      ends = λ never last. subst (All IsOut) c.deref.ensures.value c.in_default.ensures.none;
    }

-- the solver ends the search
pub returns-then-is_over : goal.returns-then-is_over
returns-then-is_over g c = record {
  stays = c.is_over.ensures.stays;
  may = c.is_over.ensures.may;
  turn = inl (refl, refl, refl);
  few = omega arith;
  ends = λ never last. absurd (never (c.is_over.ensures.over c.if-is_over.true));
}

pub turn-requires : goal.turn-requires
turn-requires g c =
    let course = c.args.course.now in
    record {
      course = c.requires.course;
      next = subst (λ (cases : List Case). IsNextIn course.cost (worths_in cases) c.in-Some.k) c.deref.ensures.value
          c.in-Some.ensures.next;
      left = c.requires.left;
      few = c.requires.few;
      can = c.is_over.ensures.stays;
    }

pub returns : goal.returns
returns g c = record {
  stays = c.turn.ensures.stays;
  may = λ stops. c.is_over.ensures.may (c.turn.ensures.may stops);
  turn = c.turn.ensures.turn;
  few = c.turn.ensures.few;
  ends = λ never. IfOk-weaker c.turn.result (λ (ended : Ended). ended.stopped ≡ false) (EndsOnly c.turn.new.course)
      (λ ended goes_on last. absurd cc) (c.turn.ensures.goes_on (λ stops. never (c.is_over.ensures.may stops)));
}
