-- Which of the rows behind an instance is refused, and why: for documents, traces and peaks.
use Rattle.std.specs.Prelude.{◌≡◌, ◌≢◌, ℕ, ◌+◌, List, [], ◌∷◌, Option, Some, None, ◌⊎◌}
use Rattle.vs_instance.specs.Problem.{Problem}
use Rattle.vs_reader.specs.Names.{NameLists}
use Rattle.vs_reader.specs.Rows.{Row}

-- What a text asks of its rows. A place is one between two rows.
pub record RowRules (Place Said Why : Type 0) : Type 1 where
  -- the row says this, and is written so
  pub Says : NameLists → Row → Said → Type 0
  -- a row that says this is of good form at the place
  pub Suits : Place → Said → Type 0
  -- the place behind a row that may come at the place; none where another has to come
  pub behind : Problem → Place → Said → Option Place
  -- a row that may come there has all that it has to have, or it hasn't, for this reason
  pub IsRight : Place → Said → Type 0
  pub IsWrong : Place → Said → Why → Type 0
  -- behind the last row
  pub at_end : Place
  -- why a row is refused that isn't of good form, or isn't the one that comes there, or stands behind the last; and why
  -- rows are that end early
  pub bad_row : Why
  pub out_of_order : Why
  pub rows_after_end : Why
  pub ends_early : Why

module _ {Place Said Why : Type 0} (rules : RowRules Place Said Why) where
  -- a row of good form that says this at the place
  abbrev pub SaysAt : NameLists → Place → Row → Said → Type 0
  SaysAt names place row said = rules.Says names row said × rules.Suits place said

  -- a row of good form is refused at the place: it isn't the one that comes there, or it hasn't what it has to have
  abbrev pub IsRefusedSaying : Problem → Place → Said → Why → Type 0
  IsRefusedSaying p place said why =
      ((rules.behind p place said ≡ None) × (why ≡ rules.out_of_order))
      ⊎ ((next : Place) × (rules.behind p place said ≡ Some next) × rules.IsWrong place said why)

  -- a row is refused at the place: it isn't of good form, or it is and is refused for what it says
  abbrev pub IsRefusedRow : Problem → NameLists → Place → Row → Why → Type 0
  IsRefusedRow p names place row why =
      (((said : Said) → ¬ (SaysAt names place row said)) × (why ≡ rules.bad_row))
      ⊎ ((said : Said) × SaysAt names place row said × IsRefusedSaying p place said why)

  -- a row of good form that says this is accepted at the place, and the next one comes there
  pub record Leads (p : Problem) (place : Place) (said : Said) (next : Place) : Type 0 where
    pub suits : rules.Suits place said
    pub order : rules.behind p place said ≡ Some next
    pub right : rules.IsRight place said

  -- Of these rows, which come at a place and of which the first is record n of the text, the first that is refused is
  -- told and why: they end before the last row, or the first one stands behind it, or is refused there, or is accepted
  -- there and a later one is refused.
  abbrev pub AreRefusedFrom : Problem → NameLists → ℕ → Place → List Row → ℕ → Why → Type 0
  AreRefusedFrom p names n place [] at why = (place ≢ rules.at_end) × (at ≡ n) × (why ≡ rules.ends_early)
  AreRefusedFrom p names n place (row ∷ rows) at why =
      ((place ≡ rules.at_end) × (at ≡ n) × (why ≡ rules.rows_after_end))
      ⊎ ((place ≢ rules.at_end) × (at ≡ n) × IsRefusedRow p names place row why)
      ⊎ ((said : Said) × (next : Place) × rules.Says names row said × Leads p place said next
      × AreRefusedFrom p names (n + 1) next rows at why)
