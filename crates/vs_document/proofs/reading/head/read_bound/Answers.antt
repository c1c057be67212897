use Rattle.std.proofs.Common.{refl}
use Rattle.vs_rows.specs.DocumentRows.{BoundRow}
use Rattle.vs_document.specs.DocumentRefusals.{documents}
use Rattle.vs_document.specs.Places.{AtBound, AtNodes}
use Rattle.vs_document.specs.Reading.{IsRefusedAt}
use Rattle.vs_rows.proofs.CallerLemmas.{err_passes, reads_one}
use Rattle.vs_document.proofs.rows.BoundBesideCost.{no_bound, no_cost, some_bound, suits}
use Rattle.vs_document.proofs.reading.head.read_bound.Goals as goal
use Rattle.vs_document.proofs.reading.head.read_bound.Goals.{in-Bound+else-is_none, else-is_none-via-then-is_none+else-is_some, else-is_none-via-else-is_none, in_default}

pub returns-in_err-said-clause-refused : goal.returns-in_err-said-clause-refused
returns-in_err-said-clause-refused c =
    err_passes _ (IsRefusedAt c.args.input.now 2 (AtBound c.args.cost))
    c.from_residual.ensures.1 (c.in_err-said.ensures.refused (AtBound c.args.cost) (λ e. cc))

pub returns-then-is_some-clause-refused : goal.returns-then-is_some-clause-refused
returns-then-is_some-clause-refused c =
    let says = rw c.in-Bound.is at c.in_ok-said.ensures.says in
    rw c.refusal.ensures
    (no_bound c.args.input.now c.args.cost c.in-Bound.bound c.in_ok-said.ensures.within
    (c.if-is_some.ensures) (c.if-is_none.ensures) says)

pub returns-clause-found : goal.returns-clause-found
returns-clause-found c = elim c.match-said.branch [
  | in-Bound+else-is_none w ↦
      let says = rw w.in-Bound.is at c.in_ok-said.ensures.says in
      rw w.result-is
      (reads_one documents c.args.input.now 2 c.in_ok-said.ensures.within (AtBound c.args.cost)
      (BoundRow w.in-Bound.bound) says (AtNodes c.args.cost)
      (record {
        suits = suits c.args.cost w.in-Bound.bound (elim w.else-is_none.branch [
          | else-is_none-via-then-is_none+else-is_some v ↦ λ none. no_cost c.args.cost v.if-is_some.ensures
          | else-is_none-via-else-is_none v ↦ some_bound c.args.cost w.in-Bound.bound v.if-is_none.ensures
        ]);
        order = refl;
        right = (tt, tt);
      }))
  | in_default w ↦ rw w.result-is tt
]
