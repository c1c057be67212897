use Rattle.std.proofs.Common.{ℕ, suc, refl, inl, arith}
use Rattle.vs_rows.specs.DocumentRows.{LeafRow, SplitRow}
use Rattle.vs_document.specs.DocumentRefusals.{documents}
use Rattle.vs_document.specs.Places.{InTree}
use Rattle.vs_document.specs.declared.refused.DocWhy.TheVariants.{TableNumber}
use Rattle.vs_document.specs.Reading.{IsRefusedAt}
use Rattle.vs_rows.proofs.CallerLemmas.{err_passes, leads_one, out_of_order, says_one, wrong_row}
use Rattle.vs_document.specs.RowKinds.{row_said}
use Rattle.vs_document.proofs.parts.SamePlaces.{tree_order}
use Rattle.vs_document.proofs.parts.TreeReading.{leaf_part, split_part}
use Rattle.vs_document.proofs.reading.tree.read_part.Goals as goal
use Rattle.vs_document.proofs.reading.tree.read_part.Goals.{then-number-eq0-via-then-number-eq0, then-number-eq0-via-else-number-eq0+then-number-tables, in-Split, in-Leaf+else-number-eq0+else-number-tables, in_default}

pub returns-in_err-said-clause-refused : goal.returns-in_err-said-clause-refused
returns-in_err-said-clause-refused c =
    err_passes _ (λ e. (parts : ℕ) → IsRefusedAt c.args.input.now c.args.row (InTree c.args.tables (suc parts)) e)
    c.from_residual.ensures.1
    (λ parts. c.in_err-said.ensures.refused (InTree c.args.tables (suc parts)) (λ e. cc))

pub returns-then-number-eq0-clause-refused : goal.returns-then-number-eq0-clause-refused
returns-then-number-eq0-clause-refused c = λ parts.
    let says = rw c.in-Leaf.is at c.in_ok-said.ensures.says in
    rw c.refusal.ensures
    (wrong_row documents c.args.input.now c.args.row c.in_ok-said.ensures.within (InTree c.args.tables (suc parts))
    (LeafRow c.in-Leaf.number) says tt (λ e. cc) (InTree c.args.tables parts) TableNumber refl
    (inl (
      (λ number. elim c.then-number-eq0.branch [
        | then-number-eq0-via-then-number-eq0 w ↦ omega (arith, number.0, w.if-number-eq0.true)
        | then-number-eq0-via-else-number-eq0+then-number-tables w ↦ omega (arith, number.1, w.if-number-tables.true)
      ]),
      refl,
    )))

pub returns-clause-found : goal.returns-clause-found
returns-clause-found c =
    let input = c.args.input.now in
    let row = c.args.row in
    let tables = c.args.tables in
    let within = c.in_ok-said.ensures.within in
    elim c.match-said.branch [
      | in-Split w ↦
          let says = rw w.in-Split.is at c.in_ok-said.ensures.says in
          let said = SplitRow w.in-Split.trip w.in-Split.left in
          rw w.result-is
          (record {
            is_part = split_part input w.in-Split.trip w.in-Split.left c.requires.input.counts says.form;
            say = says_one documents input row within (InTree tables 1) said says;
            lead = λ parts. leads_one documents input row within (InTree tables (suc parts)) said says
                (InTree tables (suc (suc parts))) (record { suits = tt; order = refl; right = (tt, tt) });
          })
      | in-Leaf+else-number-eq0+else-number-tables w ↦
          let says = rw w.in-Leaf.is at c.in_ok-said.ensures.says in
          let said = LeafRow w.in-Leaf.number in
          rw w.result-is
          (leaf_part input row tables w.in-Leaf.number within says (omega (arith, w.if-number-eq0.false))
          (omega (arith, w.if-number-tables.false)))
      | in_default w ↦ rw w.result-is tt
    ]

pub returns-clause-refused : goal.returns-clause-refused
returns-clause-refused c = elim c.match-said.branch [
  | in-Split w ↦ rw w.result-is tt
  | in-Leaf+else-number-eq0+else-number-tables w ↦ rw w.result-is tt
  | in_default w ↦
      rw w.result-is
      (λ parts. rw w.refusal-in_default.ensures
      (out_of_order documents c.args.input.now c.args.row c.in_ok-said.ensures.within
      (InTree c.args.tables (suc parts)) (row_said c.in_ok-said.said) c.in_ok-said.ensures.says tt (λ e. cc)
      (tree_order c.args.input.now.instance c.args.tables parts c.in_ok-said.said w.in_default.not-Split
      w.in_default.not-Leaf)))
]
