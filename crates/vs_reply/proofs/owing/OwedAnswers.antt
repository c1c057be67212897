-- Answers that are owed.
use Rattle.std.proofs.Common.{◌≡◌, ℕ, List, [], ◌∷◌, Result, Ok, Err, Some, inl, inr, refl, sym, subst, IfOk}
use Rattle.vs_types.specs.declared.memory.Memory.{Memory}
use Rattle.vs_instance.specs.Problem.{Problem}
use Rattle.vs_rows.specs.declared.document.Document.{Document}
use Rattle.vs_check.specs.HoldingDocument.{HoldingDocument}
use Rattle.vs_reader.specs.declared.refused.Refused.{Refused}
use Rattle.vs_reader.specs.Names.{NameLists}
use Rattle.vs_reader.specs.Rows.{Row, lines}
use Rattle.vs_reader.specs.Texts.{StandsFor, IsRefused}
use Rattle.vs_reply.specs.declared.answer.Answer.{Answer}
use Rattle.vs_reply.specs.declared.status.Status.{Status}
use Rattle.vs_reply.specs.declared.status.Status.TheVariants as status
use Rattle.vs_reply.specs.Answered.{HasSizes, IsNoCase, IsTextOf, RefusesCase, RefusesText, TellsRow, case_error}
use Rattle.vs_document.specs.DocumentRefusals.{AreRefused}
use Rattle.vs_document.specs.declared.refused.DocWhy.{DocWhy}
use Rattle.vs_reply.specs.Cases.{CheckText, SolveText}
use Rattle.vs_reply.specs.Owed.{CheckOwes, NetworkOwes, OwesRefusal, yes_row}
use Rattle.vs_reply.specs.RefusalRows.{document_refusal_row, refusal_row}
use Rattle.vs_reply.specs.FlawRows.{no_row}
use Rattle.vs_instance.specs.Firsts.{first}
use Rattle.vs_check.specs.Flaws.{flaws_of}
use Rattle.vs_check.specs.declared.flaw.Flaw.{Flaw}
use Rattle.vs_check.proofs.CallerLemmas.{prove_their_claims}

-- rows that are owed with a status, as an answer has them
pub owed_so : (owes : Status → List Row → Type 0) (answer : Answer) (wanted : Status) (rows : List Row)
    → owes wanted rows → answer.status ≡ wanted → answer.text.items ≡ lines rows → IsTextOf owes answer
owed_so owes answer wanted rows owed is text = record {
  rows = rows;
  owed = subst (λ (s : Status). owes s rows) (sym is) owed;
  text_is = text;
}

pub refusal : (bytes : List ℕ) (refused : Refused) → IsRefused bytes refused
    → OwesRefusal bytes (refusal_row refused ∷ [])
refusal bytes refused is = record { refused = refused; is_refused = is; rows_are = refl }

-- such a row refuses the text
pub refuses_text : (bytes : List ℕ) (refused : Refused) (r : Result Answer Memory) → IsRefused bytes refused
    → IfOk r (TellsRow status.BadInput (refusal_row refused)) → IfOk r (RefusesText bytes)
refuses_text bytes refused (Ok a) is says =
    record { refused = refused; is_refused = is; status_is = says.0; text_is = says.1 }
refuses_text bytes refused (Err m) is says = tt

-- a text that is refused is owed its refusal
pub network_refusal_owed : (bytes : List ℕ) (r : Result Answer Memory) → IfOk r (RefusesText bytes)
    → IfOk r (IsTextOf (NetworkOwes bytes))
network_refusal_owed bytes (Ok a) says =
    owed_so (NetworkOwes bytes) a status.BadInput (refusal_row says.refused ∷ [])
    (refusal bytes says.refused says.is_refused) says.status_is says.text_is
network_refusal_owed bytes (Err m) says = tt

-- and so is one that is no instance with a document behind it
refused_document_case : (bytes : List ℕ) (p : Problem) (names : NameLists) (before : ℕ) (rest : List Row) (at : ℕ)
    (why : DocWhy) (a : Answer) → StandsFor bytes p names before rest → AreRefused p names before rest at why
    → TellsRow status.BadInput (document_refusal_row at why) a → IsNoCase bytes a
refused_document_case bytes p names before rest at why a stands refused says = record {
  rows = document_refusal_row at why ∷ [];
  owed = inr (record {
    at = at;
    why = why;
    lacks = record {
      problem = p;
      names = names;
      before = before;
      rest = rest;
      instance = stands;
      refused = refused;
    };
    rows_are = refl;
  });
  status_is = says.0;
  text_is = says.1;
}

pub refusal_case : (bytes : List ℕ) (r : Result Answer Memory) → IfOk r (RefusesText bytes)
    → RefusesCase bytes (case_error r)
refusal_case bytes (Ok a) says = record {
  rows = refusal_row says.refused ∷ [];
  owed = inl (refusal bytes says.refused says.is_refused);
  status_is = says.status_is;
  text_is = says.text_is;
}
refusal_case bytes (Err m) says = tt

pub no_document_case : (bytes : List ℕ) (p : Problem) (names : NameLists) (before : ℕ) (rest : List Row) (at : ℕ)
    (why : DocWhy) (r : Result Answer Memory) → StandsFor bytes p names before rest
    → AreRefused p names before rest at why
    → IfOk r (TellsRow status.BadInput (document_refusal_row at why)) → RefusesCase bytes (case_error r)
no_document_case bytes p names before rest at why (Ok a) stands refused says =
    refused_document_case bytes p names before rest at why a stands refused says
no_document_case bytes p names before rest at why (Err m) stands refused says = tt

pub yes_owed : (bytes : List ℕ) (p : Problem) (names : NameLists) (d : Document) (r : Result Answer Memory)
    → CheckText bytes p names d → HoldingDocument p d
    → IfOk r (TellsRow status.Done (yes_row d)) → IfOk r (IsTextOf (CheckOwes bytes))
yes_owed bytes p names d (Ok a) text holds says =
    owed_so (CheckOwes bytes) a status.Done (yes_row d ∷ []) (record {
      problem = p;
      names = names;
      document = d;
      text = text;
      holds = holds;
      proves = prove_their_claims p d text.instance.text.makes.instance holds;
      rows_are = refl;
    }) says.0 says.1
yes_owed bytes p names d (Err m) text holds says = tt

pub no_owed : (bytes : List ℕ) (p : Problem) (names : NameLists) (d : Document) (flaw : Flaw)
    (r : Result Answer Memory) → CheckText bytes p names d
    → ¬ (HoldingDocument p d) → first (flaws_of p d) ≡ Some flaw
    → IfOk r (TellsRow status.SaysNo (no_row names flaw)) → IfOk r (IsTextOf (CheckOwes bytes))
no_owed bytes p names d flaw (Ok a) text fails is_first says =
    owed_so (CheckOwes bytes) a status.SaysNo (no_row names flaw ∷ []) (record {
      problem = p;
      names = names;
      document = d;
      text = text;
      fails = fails;
      flaw = flaw;
      is_first = is_first;
      rows_are = refl;
    }) says.0 says.1
no_owed bytes p names d flaw (Err m) text fails is_first says = tt

-- the sizes of the nets are what network owes
pub sizes_owed : (bytes : List ℕ) (p : Problem) (names : NameLists) (r : Result Answer Memory)
    → SolveText bytes p names → IfOk r (HasSizes p names) → IfOk r (IsTextOf (NetworkOwes bytes))
sizes_owed bytes p names (Ok a) text s =
    owed_so (NetworkOwes bytes) a status.Done s.rows
    (record { problem = p; names = names; text = text; rows_are = s.rows_are }) s.status_is s.text_is
sizes_owed bytes p names (Err m) text s = tt
