-- Rows are refused in one way, and rows that lead to the end aren't.
use Rattle.std.proofs.Common.{◌≡◌, ℕ, ◌+◌, List, [], ◌∷◌, ◌++◌, sym, ◌∙◌, subst, inl, inr, Some, None, Option}
use Rattle.std.specs.List.{AllZip, FoldsTo}
use Rattle.vs_instance.specs.Problem.{Problem}
use Rattle.vs_reader.specs.Names.{NameLists}
use Rattle.vs_reader.specs.Rows.{Row}
use Rattle.vs_rows.specs.RowRules.{AreRefusedFrom, IsRefusedRow, IsRefusedSaying, Leads, RowRules}

one_place : {Place : Type 0} (a b : Place) (o : Option Place) → o ≡ Some a → o ≡ Some b → a ≡ b
one_place a b o p q = let e : Some a ≡ Some b = sym p ∙ q in cc

no_place : {Place : Type 0} (a : Place) (o : Option Place) → o ≡ None → o ≡ Some a → ⊥
no_place a o p q = let e : None ≡ Some a = sym p ∙ q in absurd (cc)

-- a row says one thing and is wrong for one reason, if any, and none comes behind the last
pub record AreClear {Place Said Why : Type 0} (rules : RowRules Place Said Why) (p : Problem) (names : NameLists)
    : Type 0 where
  pub once : (row : Row) (a b : Said) → rules.Says names row a → rules.Says names row b → a ≡ b
  pub last : (said : Said) → rules.behind p rules.at_end said ≡ None
  pub not_wrong : (place : Place) (said : Said) (why : Why) → rules.IsRight place said → rules.IsWrong place said why
      → ⊥
  pub one_reason : (place : Place) (said : Said) (why other : Why) → rules.IsWrong place said why
      → rules.IsWrong place said other → why ≡ other

module _ {Place Said Why : Type 0} (rules : RowRules Place Said Why) (p : Problem) where
  -- what is said leads from one place to another
  abbrev pub LeadsTo : Place → List Said → Place → Type 0
  LeadsTo place said last = FoldsTo (Leads rules p) place said last

  pub leads_on : (place next last : Place) (said more : List Said) → LeadsTo place said next → LeadsTo next more last
      → LeadsTo place (said ++ more) last
  leads_on place next last [] more one two =
      let P : Place → Type 0 = λ x. LeadsTo x more last in subst P (sym one) two
  leads_on place next last (row ∷ said) more one two =
      (one.0, one.1, leads_on one.0 next last said more one.2 two)

  module _ (names : NameLists) (clear : AreClear rules p names) where
    going_on : (place next : Place) (said : Said) → Leads rules p place said next → place ≡ rules.at_end → ⊥
    going_on place next said leads end =
        let P : Place → Type 0 = λ x. rules.behind p x said ≡ Some next in
        no_place next (rules.behind p rules.at_end said) (clear.last said) (subst P end leads.order)

    -- what is accepted at a place isn't refused there
    accepted_saying : (place next : Place) (said : Said) (why : Why) → Leads rules p place said next
        → IsRefusedSaying rules p place said why → ⊥
    accepted_saying place next said why leads (inl (none, is)) =
        no_place next (rules.behind p place said) none leads.order
    accepted_saying place next said why leads (inr (other, order, wrong)) =
        clear.not_wrong place said why leads.right wrong

    accepted_row : (place next : Place) (row : Row) (said : Said) (why : Why) → rules.Says names row said
        → Leads rules p place said next → IsRefusedRow rules p names place row why → ⊥
    accepted_row place next row said why says leads (inl (none, _)) = none said (says, leads.suits)
    accepted_row place next row said why says leads (inr (other, also, refused)) =
        let P : Said → Type 0 = λ x. IsRefusedSaying rules p place x why in
        accepted_saying place next said why leads (subst P (clear.once row other said also.0 says) refused)

    -- it leads to one place
    next_place : (place a b : Place) (row : Row) (said other : Said) → rules.Says names row said
        → rules.Says names row other → Leads rules p place said a → Leads rules p place other b → a ≡ b
    next_place place a b row said other says also one two =
        let P : Said → Type 0 = λ x. rules.behind p place x ≡ Some b in
        one_place a b (rules.behind p place said) one.order
        (subst P (clear.once row other said also says) two.order)

    -- rows that lead to the end aren't refused
    pub not_refused : (rows : List Row) (said : List Said) (n : ℕ) (place : Place) (at : ℕ) (why : Why)
        → AllZip (rules.Says names) rows said → LeadsTo place said rules.at_end
        → AreRefusedFrom rules p names n place rows at why → ⊥
    not_refused [] [] n place at why say leads refused = refused.0 leads
    not_refused [] (s ∷ said) n place at why say leads refused = absurd say
    not_refused (row ∷ rows) [] n place at why say leads refused = absurd say
    not_refused (row ∷ rows) (s ∷ said) n place at why say (next, leads, more) (inl behind) =
        going_on place next s leads behind.0
    not_refused (row ∷ rows) (s ∷ said) n place at why say (next, leads, more) (inr (inl (_, _, is))) =
        accepted_row place next row s why say.0 leads is
    not_refused (row ∷ rows) (s ∷ said) n place at why say (next, leads, more) (inr (inr (t, to, says, too, later))) =
        let P : Place → Type 0 = λ x. AreRefusedFrom rules p names (n + 1) x rows at why in
        not_refused rows said (n + 1) next at why say.1 more
        (subst P (next_place place to next row t s says say.0 too leads) later)

    -- a row is refused for one reason
    one_reason : (place : Place) (said : Said) (why other : Why) → IsRefusedSaying rules p place said why
        → IsRefusedSaying rules p place said other → why ≡ other
    one_reason place said why other (inl (none, is)) (inl (_, is')) = is ∙ sym is'
    one_reason place said why other (inl (none, _)) (inr (next, order, _)) =
        absurd (no_place next (rules.behind p place said) none order)
    one_reason place said why other (inr (next, order, _)) (inl (none, _)) =
        absurd (no_place next (rules.behind p place said) none order)
    one_reason place said why other (inr (_, _, a)) (inr (_, _, b)) = clear.one_reason place said why other a b

    one_row_reason : (place : Place) (row : Row) (why other : Why) → IsRefusedRow rules p names place row why
        → IsRefusedRow rules p names place row other → why ≡ other
    one_row_reason place row why other (inl (none, is)) (inl (_, is')) = is ∙ sym is'
    one_row_reason place row why other (inl (none, _)) (inr (said, says, _)) = absurd (none said says)
    one_row_reason place row why other (inr (said, says, _)) (inl (none, _)) = absurd (none said says)
    one_row_reason place row why other (inr (said, says, a)) (inr (said', says', b)) =
        let P : Said → Type 0 = λ x. IsRefusedSaying rules p place x other in
        one_reason place said why other a (subst P (clear.once row said' said says'.0 says.0) b)

    -- rows are refused at one row, and for one reason
    pub once_from : (rows : List Row) (n : ℕ) (place : Place) (at to : ℕ) (why other : Why)
        → AreRefusedFrom rules p names n place rows at why → AreRefusedFrom rules p names n place rows to other
        → (at ≡ to) × (why ≡ other)
    once_from [] n place at to why other a b = (a.1 ∙ sym b.1, a.2 ∙ sym b.2)
    once_from (row ∷ rows) n place at to why other (inl a) (inl b) = (a.1 ∙ sym b.1, a.2 ∙ sym b.2)
    once_from (row ∷ rows) n place at to why other (inl a) (inr (inl b)) = absurd (b.0 a.0)
    once_from (row ∷ rows) n place at to why other (inr (inl a)) (inl b) = absurd (a.0 b.0)
    once_from (row ∷ rows) n place at to why other (inl a) (inr (inr b)) = absurd (going_on place b.1 b.0 b.3 a.0)
    once_from (row ∷ rows) n place at to why other (inr (inr a)) (inl b) = absurd (going_on place a.1 a.0 a.3 b.0)
    once_from (row ∷ rows) n place at to why other (inr (inl a)) (inr (inl b)) =
        (a.1 ∙ sym b.1, one_row_reason place row why other a.2 b.2)
    once_from (row ∷ rows) n place at to why other (inr (inl a)) (inr (inr b)) =
        absurd (accepted_row place b.1 row b.0 why b.2 b.3 a.2)
    once_from (row ∷ rows) n place at to why other (inr (inr a)) (inr (inl b)) =
        absurd (accepted_row place a.1 row a.0 other a.2 a.3 b.2)
    once_from (row ∷ rows) n place at to why other (inr (inr a)) (inr (inr b)) =
        let P : Place → Type 0 = λ x. AreRefusedFrom rules p names (n + 1) x rows to other in
        once_from rows (n + 1) a.1 at to why other a.4
        (subst P (next_place place b.1 a.1 row b.0 a.0 b.2 a.2 b.3 a.3) b.4)
