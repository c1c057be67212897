-- How far turns have led from what a document prints.
use Rattle.std.proofs.Common.{◌≡◌, ℕ, ◌+◌, ◌-◌, ◌*◌, ◌≤◌, List, [], ◌∷◌, ◌++◌, length, refl, sym, ap, ◌∙◌, subst, arith, inl, inr}
use Rattle.std.proofs.lemmas.List.Sums.{sum_by-append, sum_by-cons}
use Rattle.vs_instance.specs.Problem.{Problem}
use Rattle.vs_rows.specs.declared.document.Document.{Document}
use Rattle.vs_resume.specs.declared.course.Course.{Course}
use Rattle.vs_resume.specs.declared.deepen.TheConstants.{MAX_TURN}
use Rattle.vs_resume.specs.Courses.{HasNewTables, IsBegun, IsCourseOf, IsTurnedOn, TurnsFurther}
use Rattle.vs_resume.specs.declared.turning.Ended.{Ended}
use Rattle.vs_resume.specs.Standing.{IsPrinted, Standing}
use Rattle.vs_resume.specs.Turns.{AreTurns, IsTurn, Turned, nodes_of}

pub nodes-cons : (turn : Turned) (turns : List Turned) → nodes_of (turn ∷ turns) ≡ turn.nodes + nodes_of turns
nodes-cons turn turns = sum_by-cons (λ (t : Turned). t.nodes) turn turns

-- one more turn
turns-more : (p : Problem) (left nodes : ℕ) (s t u : Standing) (turns : List Turned) → AreTurns p left s turns t
    → IsTurn p (left - nodes_of turns) t u nodes
    → AreTurns p left s (turns ++ record { standing = u; nodes = nodes } ∷ []) u
turns-more p left nodes s t u [] are turn =
    let none : left - nodes_of [] ≡ left = omega arith in
    (subst (λ (v : Standing). IsTurn p left v u nodes) are (subst (λ (n : ℕ). IsTurn p n t u nodes) none turn), refl)
turns-more p left nodes s t u (first ∷ turns) are turn =
    let rest : left - nodes_of (first ∷ turns) ≡ left - first.nodes - nodes_of turns =
    omega (arith, nodes-cons first turns) in (
      are.0,
      turns-more p (left - first.nodes) nodes first.standing t u turns are.1
          (subst (λ (n : ℕ). IsTurn p n t u nodes) rest turn),
    )

-- turns have led from what the document prints to what is in memory, and so many nodes are left
pub record IsOnCourse (p : Problem) (budget : ℕ) (d : Document) (c : Course) (left : ℕ) : Type 0 where
  pub first : Standing
  pub printed : IsPrinted d first
  pub turns : List Turned
  pub last : Standing
  pub are_turns : AreTurns p budget first turns last
  pub course : IsCourseOf p c last
  pub nodes : nodes_of turns + left ≡ budget
  pub tables : length c.tables.items ≤ length d.tables.items + (MAX_TURN + 1) * nodes_of turns

pub begun : (p : Problem) (budget : ℕ) (d : Document) (c : Course) → IsBegun p d c → IsOnCourse p budget d c budget
begun p budget d c is = record {
  first = is.first;
  printed = is.printed;
  turns = [];
  last = is.first;
  are_turns = refl;
  course = is.course;
  nodes = omega arith;
  tables = omega (arith, is.tables);
}

pub one_more : (p : Problem) (budget : ℕ) (d : Document) (old new : Course) (left nodes : ℕ)
    → (on : IsOnCourse p budget d old left) → IsTurnedOn p left nodes on.last new → HasNewTables old new
    → IsOnCourse p budget d new (left - nodes)
one_more p budget d old new left nodes on turned few =
    let left_is : budget - nodes_of on.turns ≡ left = omega (arith, on.nodes) in
    let turn = subst (λ (n : ℕ). IsTurn p n on.last turned.standing nodes) (sym left_is) turned.turn in
    let last : Turned = record { standing = turned.standing; nodes = nodes } in
    let all : nodes_of (on.turns ++ last ∷ []) ≡ nodes_of on.turns + nodes =
    sum_by-append (λ (t : Turned). t.nodes) on.turns (last ∷ [])
    ∙ ap (λ (n : ℕ). nodes_of on.turns + n) (nodes-cons last []) ∙ omega arith in
    let some = turned.turn.some in
    let within = turned.turn.within in
    record {
      first = on.first;
      printed = on.printed;
      turns = on.turns ++ record { standing = turned.standing; nodes = nodes } ∷ [];
      last = turned.standing;
      are_turns = turns-more p budget nodes on.first on.last turned.standing on.turns on.are_turns turn;
      course = turned.course;
      nodes = omega (arith, all, on.nodes, within);
      tables = omega (arith, all, on.tables, few, some);
    }

-- where a turn was taken, or none
pub further : (p : Problem) (budget : ℕ) (d : Document) (old new : Course) (left : ℕ) (ended : Ended)
    → IsOnCourse p budget d old left → TurnsFurther p left old new ended → HasNewTables old new
    → IsOnCourse p budget d new (left - ended.finished)
further p budget d old new left ended on (inl none) few =
    let same : left - ended.finished ≡ left = omega (arith, none.0) in
    subst (λ (n : ℕ). IsOnCourse p budget d new n) (sym same)
    (subst (λ (c : Course). IsOnCourse p budget d c left) (sym none.2) on)
further p budget d old new left ended on (inr turned) few =
    one_more p budget d old new left ended.finished on (turned.2 on.last on.course) few
