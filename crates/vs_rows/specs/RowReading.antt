-- How far the rows behind an instance have been read.
use Rattle.std.specs.Prelude.{ℕ, ◌+◌, ◌≤◌, ◌++◌, List, length, drop}
use Rattle.std.specs.List.{AllZip}
use Rattle.vs_reader.specs.declared.input.Input.{Input}
use Rattle.vs_rows.specs.RowRules.{AreRefusedFrom, RowRules}

module _ {Place Said Why : Type 0} (rules : RowRules Place Said Why) where
  -- of the rows from one on, which come at a place, the first that is refused is told and why
  abbrev pub IsFirstRefused : Input → ℕ → Place → ℕ → Why → Type 0
  IsFirstRefused input at place row why =
      AreRefusedFrom rules input.instance input.names (input.before + 1 + at) place (drop at input.rest) row why

  -- the rows from one on to before another say this
  pub record SayTo (input : Input) (at : ℕ) (said : List Said) (to : ℕ) : Type 0 where
    pub within : to ≤ length input.rest
    pub say : (more : List Said) → AllZip (rules.Says input.names) (drop to input.rest) more
        → AllZip (rules.Says input.names) (drop at input.rest) (said ++ more)

  -- these rows lead from one place to another: what is refused behind them is refused before them
  pub record LeadTo (input : Input) (at : ℕ) (place : Place) (to : ℕ) (next : Place) : Type 0 where
    pub refused : (row : ℕ) (why : Why) → IsFirstRefused input to next row why → IsFirstRefused input at place row why

  -- both
  pub record ReadsTo (input : Input) (at : ℕ) (place : Place) (said : List Said) (to : ℕ) (next : Place) : Type 0
    where
      pub say : SayTo input at said to
      pub lead : LeadTo input at place to next
