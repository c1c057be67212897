-- A text stands for one case, or what follows its instance is refused in one way.
use Rattle.std.proofs.Common.{◌≡◌, ℕ, inl, inr, List, [], ◌∷◌, sym, ap, ◌∙◌, subst}
use Rattle.vs_instance.specs.Instance.{IsInstance}
use Rattle.vs_instance.specs.Problem.{Problem}
use Rattle.vs_reader.specs.Names.{NameLists}
use Rattle.vs_reader.specs.Rows.{Row}
use Rattle.vs_reader.proofs.CallerLemmas.{one_reading, refused_none}
use Rattle.vs_document.specs.Alike.{AreAlike}
use Rattle.vs_document.specs.DocumentRefusals.{AreRefused}
use Rattle.vs_rows.specs.DocumentText.{DocumentText}
use Rattle.vs_rows.specs.declared.document.Document.{Document}
use Rattle.vs_document.specs.declared.refused.DocWhy.{DocWhy}
use Rattle.vs_document.proofs.CallerLemmas.{alike as alike_documents, document_not_refused, refused_once, suits-text, instance_names}
use Rattle.vs_check.specs.Laws.{AreJudgedAlike}
use Rattle.vs_check.proofs.CallerLemmas.{judged_alike}
use Rattle.vs_reply.specs.Cases.{CheckText}
use Rattle.vs_reply.specs.Owed.{OwesDocumentRefusal, OwesNoCase}
use Rattle.vs_reply.specs.RefusalRows.{document_refusal_row}

-- two readings of the same bytes behind which documents stand
pub record IsSameCase (p q : Problem) (names others : NameLists) (d e : Document) : Type 0 where
  pub same_problem : q ≡ p
  pub same_names : others ≡ names
  pub alike : AreAlike p d e
  pub judged : AreJudgedAlike p d e

module _ (bytes : List ℕ) where
  pub same_case : (p q : Problem) (names others : NameLists) (d e : Document) → CheckText bytes p names d
      → CheckText bytes q others e → IsSameCase p q names others d e
  same_case p q names others d e text also =
      let same =
      one_reading bytes p q names others text.before also.before text.rest also.rest text.instance also.instance in
      let here : DocumentText p names text.rest e =
      subst (λ (x : Problem). DocumentText x names text.rest e) same.0
      (subst (λ (x : NameLists). DocumentText q x text.rest e) same.1
      (subst (λ (x : List Row). DocumentText q others x e) same.3 also.document)) in
      let instance : IsInstance p = text.instance.text.makes.instance in
      let have = instance_names bytes p names text.before text.rest text.instance in
      let alike = alike_documents p names text.rest d e have.layers have.trips text.document here in
      record {
        same_problem = same.0;
        same_names = same.1;
        alike = alike;
        judged = judged_alike p d e instance (suits-text p d text.document.has_text)
            (suits-text p e here.has_text) alike;
      }

  -- a text that stands for a case isn't refused
  pub case_refused : (p : Problem) (names : NameLists) (d : Document) (rows : List Row) → CheckText bytes p names d
      → ¬ (OwesNoCase bytes rows)
  case_refused p names d rows text (inl refusal) =
      refused_none bytes refusal.refused p names text.before text.rest refusal.is_refused text.instance
  case_refused p names d rows text (inr refusal) =
      let lacks = refusal.lacks in
      let same =
      one_reading bytes p lacks.problem names lacks.names text.before lacks.before text.rest lacks.rest
      text.instance lacks.instance in
      let have = instance_names bytes p names text.before text.rest text.instance in
      document_not_refused p names have.layers have.trips text.before text.rest d refusal.at refusal.why text.document
      (subst (λ (x : Problem). AreRefused x names text.before text.rest refusal.at refusal.why) same.0
      (subst (λ (x : NameLists). AreRefused lacks.problem x text.before text.rest refusal.at refusal.why) same.1
      (subst (λ (x : ℕ). AreRefused lacks.problem lacks.names x text.rest refusal.at refusal.why) same.2
      (subst (λ (x : List Row). AreRefused lacks.problem lacks.names lacks.before x refusal.at refusal.why) same.3
      lacks.refused))))

  -- and one that stands for none is refused in one way
  pub one_document_refusal : (r s : List Row) → OwesDocumentRefusal bytes r → OwesDocumentRefusal bytes s → r ≡ s
  one_document_refusal r s refusal other =
      let here = refusal.lacks in let there = other.lacks in
      let p = here.problem in let names = here.names in
      let same =
      one_reading bytes p there.problem names there.names here.before there.before here.rest there.rest
      here.instance there.instance in
      let have = instance_names bytes p names here.before here.rest here.instance in
      let is =
      refused_once p names have.layers have.trips here.before here.rest refusal.at other.at refusal.why other.why
      here.refused
      (subst (λ (x : Problem). AreRefused x names here.before here.rest other.at other.why) same.0
      (subst (λ (x : NameLists). AreRefused there.problem x here.before here.rest other.at other.why) same.1
      (subst (λ (x : ℕ). AreRefused there.problem there.names x here.rest other.at other.why) same.2
      (subst (λ (x : List Row). AreRefused there.problem there.names there.before x other.at other.why) same.3
      there.refused)))) in
      refusal.rows_are
      ∙ ap (λ (n : ℕ). document_refusal_row n refusal.why ∷ []) is.0
      ∙ ap (λ (w : DocWhy). document_refusal_row other.at w ∷ []) is.1
      ∙ sym other.rows_are
