-- Places at which the same rows come.
use Rattle.std.proofs.Common.{◌≡◌, ◌≢◌, ℕ, ◌+◌, List, [], ◌∷◌, drop, get_or, sym, ap, ◌∙◌, subst, inl, inr, arith}
use Rattle.std.proofs.lemmas.List.{get_or-drop}
use Rattle.vs_instance.specs.Problem.{Problem}
use Rattle.vs_reader.specs.Names.{NameLists}
use Rattle.vs_reader.specs.Rows.{Row, row_of}
use Rattle.vs_reader.specs.declared.input.Input.{Input}
use Rattle.vs_rows.specs.RowReading.{LeadTo}
use Rattle.vs_rows.specs.RowRules.{AreRefusedFrom, IsRefusedRow, Leads, RowRules}

-- at both places the row may say the same, and leads to the same place
pub record AreSameFor {Place Said Why : Type 0} (rules : RowRules Place Said Why) (p : Problem) (names : NameLists)
    (place other : Place) (row : Row) : Type 0 where
  pub going : place ≢ rules.at_end
  pub other_going : other ≢ rules.at_end
  pub suits : (said : Said) → rules.Suits place said
  pub other_suits : (said : Said) → rules.Suits other said
  pub order : (said : Said) → rules.Says names row said → rules.behind p place said ≡ rules.behind p other said
  pub right : (said : Said) → rules.IsRight other said → rules.IsRight place said
  pub wrong : (said : Said) (why : Why) → rules.IsWrong other said why → rules.IsWrong place said why

module _ {Place Said Why : Type 0} (rules : RowRules Place Said Why) where
  module _ (p : Problem) (names : NameLists) (n : ℕ) (place other : Place) where
    same_row : (row : Row) (why : Why) → AreSameFor rules p names place other row
        → IsRefusedRow rules p names other row why → IsRefusedRow rules p names place row why
    same_row row why same (inl (none, is)) =
        inl ((λ said says. none said (says.0, same.other_suits said)), is)
    same_row row why same (inr (said, says, inl (order, is))) =
        inr (said, (says.0, same.suits said), inl (same.order said says.0 ∙ order, is))
    same_row row why same (inr (said, says, inr (next, order, wrong))) =
        inr (
          said,
          (says.0, same.suits said),
          inr (next, same.order said says.0 ∙ order, same.wrong said why wrong),
        )

    same_rows : (rows : List Row) (at : ℕ) (why : Why) → AreSameFor rules p names place other (get_or rows 0 [])
        → AreRefusedFrom rules p names n other rows at why → AreRefusedFrom rules p names n place rows at why
    same_rows [] at why same is = (same.going, is.1, is.2)
    same_rows (row ∷ rows) at why same (inl behind) = absurd (same.other_going behind.0)
    same_rows (row ∷ rows) at why same (inr (inl (_, here, is))) =
        inr (inl (same.going, here, same_row row why same is))
    same_rows (row ∷ rows) at why same (inr (inr (said, next, says, leads, later))) =
        let too : Leads rules p place said next = record {
          suits = same.suits said;
          order = same.order said says ∙ leads.order;
          right = same.right said leads.right;
        } in
        inr (inr (said, next, says, too, later))

  -- so what is refused at the one is refused at the other
  pub same_place : (input : Input) (at : ℕ) (place other : Place)
      → AreSameFor rules input.instance input.names place other (row_of input.rest at)
      → LeadTo rules input at place at other
  same_place input at place other same = record {
    refused = λ row why.
        let P : Row → Type 0 = λ r. AreSameFor rules input.instance input.names place other r in
        let first : get_or (drop at input.rest) 0 [] ≡ row_of input.rest at =
        get_or-drop at input.rest 0 [] ∙ ap (row_of input.rest) (omega arith) in
        same_rows input.instance input.names (input.before + 1 + at) place other (drop at input.rest) row why
        (subst P (sym first) same);
  }
