-- A text stands for claims that are judged in one way, or what follows its instance is refused in one way.
use Rattle.std.proofs.Common.{◌≡◌, ℕ, inl, inr, List, [], ◌∷◌, sym, ap, ◌∙◌, subst}
use Rattle.vs_instance.specs.Problem.{Problem}
use Rattle.vs_reader.specs.Names.{NameLists}
use Rattle.vs_reader.specs.Rows.{Row}
use Rattle.vs_reader.proofs.CallerLemmas.{one_reading, refused_none}
use Rattle.vs_document.proofs.CallerLemmas.{instance_names}
use Rattle.vs_peakcheck.specs.Claims.{PeakText}
use Rattle.vs_peakcheck.specs.Laws.{AreJudgedAlike}
use Rattle.vs_peakcheck.specs.PeakRefusals.{AreRefused}
use Rattle.vs_peakcheck.specs.declared.claimed.Claimed.{Claimed}
use Rattle.vs_peakcheck.specs.declared.refused.PeakWhy.{PeakWhy}
use Rattle.vs_peakcheck.proofs.CallerLemmas.{not_refused_claims, refused_once, rows_judged_alike}
use Rattle.vs_reply.specs.RefusalRows.{peak_refusal_row}
use Rattle.vs_reply.specs.Cases.{PeakCheckText}
use Rattle.vs_reply.specs.Owed.{OwesClaimsRefusal, OwesNoClaims}

-- two readings of the same bytes behind which claims stand
pub record IsSameClaim (p q : Problem) (names others : NameLists) (claimed more : List Claimed) : Type 0 where
  pub same_problem : q ≡ p
  pub same_names : others ≡ names
  pub judged : AreJudgedAlike p claimed more

module _ (bytes : List ℕ) where
  pub same_claim : (p q : Problem) (names others : NameLists) (claimed more : List Claimed)
      → PeakCheckText bytes p names claimed → PeakCheckText bytes q others more
      → IsSameClaim p q names others claimed more
  same_claim p q names others claimed more text also =
      let same =
      one_reading bytes p q names others text.before also.before text.rest also.rest text.instance also.instance in
      let here : PeakText p names text.rest more =
      subst (λ (x : Problem). PeakText x names text.rest more) same.0
      (subst (λ (x : NameLists). PeakText q x text.rest more) same.1
      (subst (λ (x : List Row). PeakText q others x more) same.3 also.claims)) in
      let have = instance_names bytes p names text.before text.rest text.instance in
      record {
        same_problem = same.0;
        same_names = same.1;
        judged = rows_judged_alike p names text.rest claimed more have.layers have.trips text.claims here;
      }

  -- what another reading refuses, this one refuses
  refused_here : (p q : Problem) (names others : NameLists) (before after : ℕ) (rest more : List Row) (at : ℕ)
      (why : PeakWhy) → q ≡ p → others ≡ names → after ≡ before → more ≡ rest
      → AreRefused q others after more at why → AreRefused p names before rest at why
  refused_here p q names others before after rest more at why one two three four refused =
      subst (λ (x : Problem). AreRefused x names before rest at why) one
      (subst (λ (x : NameLists). AreRefused q x before rest at why) two
      (subst (λ (x : ℕ). AreRefused q others x rest at why) three
      (subst (λ (x : List Row). AreRefused q others after x at why) four refused)))

  -- a text that stands for claims isn't refused
  pub claim_refused : (p : Problem) (names : NameLists) (claimed : List Claimed) (rows : List Row)
      → PeakCheckText bytes p names claimed → ¬ (OwesNoClaims bytes rows)
  claim_refused p names claimed rows text (inl refusal) =
      refused_none bytes refusal.refused p names text.before text.rest refusal.is_refused text.instance
  claim_refused p names claimed rows text (inr refusal) =
      let lacks = refusal.lacks in
      let same =
      one_reading bytes p lacks.problem names lacks.names text.before lacks.before text.rest lacks.rest
      text.instance lacks.instance in
      let have = instance_names bytes p names text.before text.rest text.instance in
      not_refused_claims p names text.before text.rest claimed refusal.at refusal.why have.layers have.trips text.claims
      (refused_here p lacks.problem names lacks.names text.before lacks.before text.rest lacks.rest refusal.at
      refusal.why same.0 same.1 same.2 same.3 lacks.refused)

  -- and one that stands for none is refused in one way
  pub one_claims_refusal : (r s : List Row) → OwesClaimsRefusal bytes r → OwesClaimsRefusal bytes s → r ≡ s
  one_claims_refusal r s refusal other =
      let here = refusal.lacks in let there = other.lacks in
      let p = here.problem in let names = here.names in
      let same =
      one_reading bytes p there.problem names there.names here.before there.before here.rest there.rest
      here.instance there.instance in
      let have = instance_names bytes p names here.before here.rest here.instance in
      let is =
      refused_once p names here.before here.rest refusal.at other.at refusal.why other.why have.layers have.trips
      here.refused
      (refused_here p there.problem names there.names here.before there.before here.rest there.rest other.at other.why
      same.0 same.1 same.2 same.3 there.refused) in
      refusal.rows_are
      ∙ ap (λ (n : ℕ). peak_refusal_row n refusal.why ∷ []) is.0
      ∙ ap (λ (w : PeakWhy). peak_refusal_row other.at w ∷ []) is.1
      ∙ sym other.rows_are
