-- Rows are refused in one way, and rows that stand for claims aren't.
use Rattle.std.proofs.Common.{◌+◌, List, [], ◌∷◌, ℕ, refl, sym, ◌∙◌, subst, inl, inr}
use Rattle.vs_instance.specs.Problem.{Problem}
use Rattle.vs_reader.specs.Rows.{Row}
use Rattle.vs_reader.specs.Names.{NameLists}
use Rattle.vs_reader.specs.NameRules.{AreNames}
use Rattle.vs_rows.proofs.CallerLemmas.{AreClear, not_refused, once_from}
use Rattle.vs_peakcheck.specs.Claims.{PeakText}
use Rattle.vs_peakcheck.specs.Laws.{ClaimsAreNotRefused, RowsAreRefusedOnce}
use Rattle.vs_peakcheck.specs.PeakRefusals.{AreRefused, IsRefusal, IsRefusedError, peaks}
use Rattle.vs_peakcheck.specs.PeakRows.{head_row, peak_rows}
use Rattle.vs_peakcheck.specs.Places.{AtLayer}
use Rattle.vs_peakcheck.specs.declared.claimed.Claimed.{Claimed}
use Rattle.vs_peakcheck.specs.declared.refused.PeakError.{PeakError}
use Rattle.vs_peakcheck.specs.declared.refused.PeakError.TheVariants as error
use Rattle.vs_peakcheck.proofs.rows.OneReading.{leads_text, says_so_once}

module _ (p : Problem) (names : NameLists) (layers : AreNames names.layers) (trips : AreNames names.trips) where
  clear : AreClear peaks p names
  clear = record {
    once = λ row a b. says_so_once names row layers trips a b;
    last = λ said. refl;
    not_wrong = λ place said why right wrong. wrong.0 right;
    one_reason = λ place said why other a b. a.1 ∙ sym b.1;
  }

  -- rows that are refused claim nothing
  pub refusal_leaves_none : (before : ℕ) (rows : List Row) (e : PeakError) (claimed : List Claimed)
      → IsRefusal p names before rows e → IsRefusedError e → PeakText p names rows claimed → ⊥
  refusal_leaves_none before rows error.Memory claimed refused is text = absurd is
  refusal_leaves_none before rows (error.Refused at why) claimed refused is text =
      let P : List Row → Type 0 = λ rs. AreRefused p names before rs at why in
      by_head (subst P text.rows_are refused)
    where
      by_head : AreRefused p names before (head_row ∷ text.behind_head) at why → ⊥
      by_head (inl (other, _, _)) = other refl
      by_head (inr (_, later)) =
          not_refused peaks p names clear text.behind_head (peak_rows p claimed) (before + 1 + 1) (AtLayer 0) at why
          text.say (leads_text p claimed text.claims) later

pub refused_once : RowsAreRefusedOnce
refused_once p names before [] at to why other layers trips a b = (a.0 ∙ sym b.0, a.1 ∙ sym b.1)
refused_once p names before (row ∷ rows) at to why other layers trips (inl (wrong, a, b)) (inl (_, a', b')) =
    (a ∙ sym a', b ∙ sym b')
refused_once p names before (row ∷ rows) at to why other layers trips (inl (wrong, _, _)) (inr (is, _)) =
    absurd (wrong is)
refused_once p names before (row ∷ rows) at to why other layers trips (inr (is, _)) (inl (wrong, _, _)) =
    absurd (wrong is)
refused_once p names before (row ∷ rows) at to why other layers trips (inr (_, a)) (inr (_, b)) =
    once_from peaks p names (clear p names layers trips) rows (before + 1 + 1) (AtLayer 0) at to why other a b

pub not_refused_claims : ClaimsAreNotRefused
not_refused_claims p names before rows claimed at why layers trips text refused =
    refusal_leaves_none p names layers trips before rows (error.Refused at why) claimed refused tt text
