-- What `peakcheck` answers is owed.
use Rattle.std.proofs.Common.{◌≡◌, ℕ, List, [], ◌∷◌, Result, Ok, Err, Option, Some, None, inl, inr, refl, IfOk}
use Rattle.vs_types.specs.declared.memory.Memory.{Memory}
use Rattle.vs_types.specs.declared.numbers.LayerNo.{LayerNo}
use Rattle.vs_instance.specs.Firsts.{first}
use Rattle.vs_instance.specs.Problem.{Problem}
use Rattle.vs_reader.specs.Names.{NameLists}
use Rattle.vs_reader.specs.Rows.{Row}
use Rattle.vs_reader.specs.Texts.{StandsFor}
use Rattle.vs_peakcheck.specs.Claims.{PeakText}
use Rattle.vs_peakcheck.specs.Flaws.{flaws_of, verdict_of}
use Rattle.vs_peakcheck.specs.HoldingClaims.{HoldingClaims, ProvePeaks}
use Rattle.vs_peakcheck.specs.PeakRefusals.{AreRefused}
use Rattle.vs_peakcheck.specs.declared.claimed.Claimed.{Claimed}
use Rattle.vs_peakcheck.specs.declared.flaw.PeakFlaw.{PeakFlaw}
use Rattle.vs_peakcheck.specs.declared.flaw.PeakVerdict.{PeakVerdict}
use Rattle.vs_peakcheck.specs.declared.flaw.PeakVerdict.TheVariants.{No}
use Rattle.vs_peakcheck.specs.declared.refused.PeakWhy.{PeakWhy}
use Rattle.vs_reply.specs.RefusalRows.{peak_refusal_row, refusal_row}
use Rattle.vs_reply.specs.Answered.{HasVerdict, IsTextOf, RefusesText, TellsRow}
use Rattle.vs_reply.specs.Cases.{PeakCheckText}
use Rattle.vs_reply.specs.Owed.{PeakCheckOwes, peaks_no_row, peaks_yes_row}
use Rattle.vs_reply.specs.declared.answer.Answer.{Answer}
use Rattle.vs_reply.specs.declared.status.Status.TheVariants as status
use Rattle.vs_reply.proofs.owing.OwedAnswers.{owed_so, refusal}

-- a text that is refused is owed its refusal
pub peaks_refusal_owed : (bytes : List ℕ) (r : Result Answer Memory) → IfOk r (RefusesText bytes)
    → IfOk r (IsTextOf (PeakCheckOwes bytes))
peaks_refusal_owed bytes (Ok a) says =
    owed_so (PeakCheckOwes bytes) a status.BadInput (refusal_row says.refused ∷ [])
    (inl (refusal bytes says.refused says.is_refused)) says.status_is says.text_is
peaks_refusal_owed bytes (Err m) says = tt

-- and so is one behind whose instance nothing is claimed
pub claims_refusal_owed : (bytes : List ℕ) (p : Problem) (names : NameLists) (before : ℕ) (rest : List Row) (at : ℕ)
    (why : PeakWhy) (r : Result Answer Memory) → StandsFor bytes p names before rest
    → AreRefused p names before rest at why → IfOk r (TellsRow status.BadInput (peak_refusal_row at why))
    → IfOk r (IsTextOf (PeakCheckOwes bytes))
claims_refusal_owed bytes p names before rest at why (Ok a) stands refused says =
    owed_so (PeakCheckOwes bytes) a status.BadInput (peak_refusal_row at why ∷ []) (inr (record {
      at = at;
      why = why;
      lacks = record {
        problem = p;
        names = names;
        before = before;
        rest = rest;
        instance = stands;
        refused = refused;
      };
      rows_are = refl;
    })) says.0 says.1
claims_refusal_owed bytes p names before rest at why (Err m) stands refused says = tt

-- a verdict on what is claimed is owed
verdict_text : (bytes : List ℕ) (p : Problem) (names : NameLists) (claimed : List Claimed) (a : Answer)
    → PeakCheckText bytes p names claimed → HasVerdict p names claimed a → IsTextOf (PeakCheckOwes bytes) a
verdict_text bytes p names claimed a text (inl said) =
    owed_so (PeakCheckOwes bytes) a status.Done (peaks_yes_row ∷ []) (record {
      problem = p;
      names = names;
      claimed = claimed;
      text = text;
      holds = said.holds;
      proves = said.proves;
      rows_are = refl;
    }) said.tells.0 said.tells.1
verdict_text bytes p names claimed a text (inr told) =
    owed_so (PeakCheckOwes bytes) a status.SaysNo (peaks_no_row p names told.layer told.flaw ∷ []) (record {
      problem = p;
      names = names;
      claimed = claimed;
      text = text;
      fails = told.fails;
      layer = told.layer;
      flaw = told.flaw;
      is_first = told.is_first;
      rows_are = refl;
    }) told.tells.0 told.tells.1

pub verdict_owed : (bytes : List ℕ) (p : Problem) (names : NameLists) (before : ℕ) (rest : List Row)
    (claimed : List Claimed) (r : Result Answer Memory) → StandsFor bytes p names before rest
    → PeakText p names rest claimed → IfOk r (HasVerdict p names claimed) → IfOk r (IsTextOf (PeakCheckOwes bytes))
verdict_owed bytes p names before rest claimed (Ok a) stands claims says =
    verdict_text bytes p names claimed a
    (record { before = before; rest = rest; instance = stands; claims = claims }) says
verdict_owed bytes p names before rest claimed (Err m) stands claims says = tt

-- the verdict was told
pub yes_told : (p : Problem) (names : NameLists) (claimed : List Claimed) (r : Result Answer Memory)
    → HoldingClaims p claimed → ProvePeaks p claimed → IfOk r (TellsRow status.Done peaks_yes_row)
    → IfOk r (HasVerdict p names claimed)
yes_told p names claimed (Ok a) holds proves says = inl (record { holds = holds; proves = proves; tells = says })
yes_told p names claimed (Err m) holds proves says = tt

pub no_told : (p : Problem) (names : NameLists) (claimed : List Claimed) (l : LayerNo) (flaw : PeakFlaw)
    (r : Result Answer Memory) → ¬ (HoldingClaims p claimed) → first (flaws_of p claimed) ≡ Some (l, flaw)
    → IfOk r (TellsRow status.SaysNo (peaks_no_row p names l flaw)) → IfOk r (HasVerdict p names claimed)
no_told p names claimed l flaw (Ok a) fails is_first says =
    inr (record { fails = fails; layer = l; flaw = flaw; is_first = is_first; tells = says })
no_told p names claimed l flaw (Err m) fails is_first says = tt

-- the flaw of a verdict is the first
pub first_of_claims : (found : Option (LayerNo × PeakFlaw)) (verdict : PeakVerdict) (l : LayerNo) (flaw : PeakFlaw)
    → verdict ≡ verdict_of found → verdict ≡ No l flaw → found ≡ Some (l, flaw)
first_of_claims None verdict l flaw is denied = cc
first_of_claims (Some (layer, found)) verdict l flaw is denied = cc
