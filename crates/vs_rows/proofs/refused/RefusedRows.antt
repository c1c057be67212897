-- Rows that are refused, or accepted, at a place.
use Rattle.std.proofs.Common.{◌≡◌, ◌≢◌, ℕ, ◌+◌, ◌<◌, ◌≤◌, List, [], ◌∷◌, ◌++◌, length, drop, refl, sym, subst, inl, inr, Some, None, arith, append_assoc}
use Rattle.std.specs.List.{AllZip}
use Rattle.std.proofs.lemmas.List.{drop_all, drop_more}
use Rattle.vs_reader.specs.Rows.{Row, row_of}
use Rattle.vs_reader.specs.declared.input.Input.{Input}
use Rattle.vs_rows.specs.RowReading.{IsFirstRefused, LeadTo, ReadsTo, SayTo}
use Rattle.vs_rows.specs.RowRules.{AreRefusedFrom, IsRefusedRow, Leads, RowRules}

module _ {Place Said Why : Type 0} (rules : RowRules Place Said Why) (input : Input) where
  module _ (at : ℕ) where
    -- no row is left
    pub refused_at_the_end : length input.rest ≤ at → (place : Place) → place ≢ rules.at_end
        → IsFirstRefused rules input at place (input.before + 1 + at) rules.ends_early
    refused_at_the_end low place going =
        let P : List Row → Type 0 = λ rows. AreRefusedFrom rules input.instance input.names (input.before + 1 + at)
        place rows (input.before + 1 + at) rules.ends_early in
        subst P (sym (drop_all at input.rest low)) (going, refl, refl)

    module _ (lt : at < length input.rest) where
      -- what is refused from a row on, as the row and those behind it
      from_row : (place : Place) (row : ℕ) (why : Why)
          → AreRefusedFrom rules input.instance input.names (input.before + 1 + at) place
          (row_of input.rest at ∷ drop (at + 1) input.rest) row why → IsFirstRefused rules input at place row why
      from_row place row why =
          let P : List Row → Type 0 = λ rows. AreRefusedFrom rules input.instance input.names (input.before + 1 + at)
          place rows row why in
          subst P (sym (drop_more input.rest at [] lt))

      -- a row stands behind the last
      pub refused_after_end : IsFirstRefused rules input at rules.at_end (input.before + 1 + at) rules.rows_after_end
      refused_after_end =
          from_row rules.at_end (input.before + 1 + at) rules.rows_after_end (inl (refl, refl, refl))

      -- the row is refused
      pub refused_at : (place : Place) (why : Why) → place ≢ rules.at_end
          → IsRefusedRow rules input.instance input.names place (row_of input.rest at) why
          → IsFirstRefused rules input at place (input.before + 1 + at) why
      refused_at place why going is = from_row place (input.before + 1 + at) why (inr (inl (going, refl, is)))

      -- it says nothing
      pub bad_row : ((said : Said) → ¬ (rules.Says input.names (row_of input.rest at) said)) → (place : Place)
          → place ≢ rules.at_end → IsFirstRefused rules input at place (input.before + 1 + at) rules.bad_row
      bad_row none place going = refused_at place rules.bad_row going (inl ((λ said is. none said is.0), refl))

      module _ (place : Place) (said : Said) (says : rules.Says input.names (row_of input.rest at) said) where
        -- it says something, which is refused there
        pub out_of_order : rules.Suits place said → place ≢ rules.at_end → rules.behind input.instance place said ≡ None
            → IsFirstRefused rules input at place (input.before + 1 + at) rules.out_of_order
        out_of_order suits going none =
            refused_at place rules.out_of_order going (inr (said, (says, suits), inl (none, refl)))

        pub wrong_row : rules.Suits place said → place ≢ rules.at_end → (next : Place) (why : Why)
            → rules.behind input.instance place said ≡ Some next → rules.IsWrong place said why
            → IsFirstRefused rules input at place (input.before + 1 + at) why
        wrong_row suits going next why order wrong =
            refused_at place why going (inr (said, (says, suits), inr (next, order, wrong)))

        -- or which comes there
        pub says_one : SayTo rules input at (said ∷ []) (at + 1)
        says_one = record {
          within = omega arith;
          say = λ more rest.
              let P : List Row → Type 0 = λ rows. AllZip (rules.Says input.names) rows (said ∷ more) in
              subst P (sym (drop_more input.rest at [] lt)) (says, rest);
        }

        pub leads_one : (next : Place) → Leads rules input.instance place said next
            → LeadTo rules input at place (at + 1) next
        leads_one next leads = record {
          refused = λ row why refused.
              let record_number : input.before + 1 + (at + 1) ≡ input.before + 1 + at + 1 = omega arith in
              let N : ℕ → Type 0 = λ n. AreRefusedFrom rules input.instance input.names n next
              (drop (at + 1) input.rest) row why in
              from_row place row why (inr (inr (said, next, says, leads, subst N record_number refused)));
        }

        pub reads_one : (next : Place) → Leads rules input.instance place said next
            → ReadsTo rules input at place (said ∷ []) (at + 1) next
        reads_one next leads = record { say = says_one; lead = leads_one next leads }

  -- one after the other
  pub say_on : (at middle to : ℕ) (said more : List Said) → SayTo rules input at said middle
      → SayTo rules input middle more to → SayTo rules input at (said ++ more) to
  say_on at middle to said more one two = record {
    within = two.within;
    say = λ rest last.
        let P : List Said → Type 0 = λ rows. AllZip (rules.Says input.names) (drop at input.rest) rows in
        subst P (sym (append_assoc said more rest)) (one.say (more ++ rest) (two.say rest last));
  }

  pub lead_on : (at middle to : ℕ) (place next last : Place) → LeadTo rules input at place middle next
      → LeadTo rules input middle next to last → LeadTo rules input at place to last
  lead_on at middle to place next last one two =
      record { refused = λ row why is. one.refused row why (two.refused row why is) }

  pub read_on : (at middle to : ℕ) (place next last : Place) (said more : List Said)
      → ReadsTo rules input at place said middle next → ReadsTo rules input middle next more to last
      → ReadsTo rules input at place (said ++ more) to last
  read_on at middle to place next last said more one two = record {
    say = say_on at middle to said more one.say two.say;
    lead = lead_on at middle to place next last one.lead two.lead;
  }

  -- no row says nothing, and leads nowhere else
  pub reads_none : (at : ℕ) (place : Place) → at ≤ length input.rest → ReadsTo rules input at place [] at place
  reads_none at place within = record {
    say = record { within = within; say = λ more rest. rest };
    lead = record { refused = λ row why is. is };
  }
