-- What `peak` answers is owed, and is judged `yes` behind its instance's records.
use Rattle.std.proofs.Common.{◌≡◌, ℕ, List, [], ◌∷◌, ◌++◌, take, Result, Ok, Err, refl, sym, subst, IfOk}
use Rattle.vs_types.specs.declared.memory.Memory.{Memory}
use Rattle.vs_instance.specs.Problem.{Problem}
use Rattle.vs_reader.specs.Names.{HaveCounts, NameLists}
use Rattle.vs_reader.specs.Rows.{Row, lines}
use Rattle.vs_reader.specs.Texts.{EndsInLine, HasRows}
use Rattle.vs_reader.proofs.CallerLemmas.{refused_none}
use Rattle.vs_document.proofs.CallerLemmas.{instance_names}
use Rattle.vs_peakcheck.specs.PeakRows.{peak_text}
use Rattle.vs_peak.proofs.ReadBack.{read_back}
use Rattle.vs_peak.proofs.WrittenSays.{text_says}
use Rattle.vs_reply.specs.RefusalRows.{refusal_row}
use Rattle.vs_reply.specs.Answered.{IsTextOf, RefusesText}
use Rattle.vs_reply.specs.Cases.{SolveText}
use Rattle.vs_reply.specs.Owed.{OwesPeaksYes, OwesRefusal, peaks_yes_row}
use Rattle.vs_reply.specs.declared.answer.Answer.{Answer}
use Rattle.vs_reply.specs.declared.status.Status.{Status}
use Rattle.vs_reply.specs.declared.status.Status.TheVariants as status
use Rattle.vs_reply.proofs.CallerLemmas.{owed_so}
use Rattle.vs_peak.specs.Answered.{HasPeaks}
use Rattle.vs_peak.specs.Owed.{OwesPeaks, PeakOwes}

-- a text that is refused is owed its refusal
pub refusal_owed : (bytes : List ℕ) (r : Result Answer Memory) → IfOk r (RefusesText bytes)
    → IfOk r (IsTextOf (PeakOwes bytes))
refusal_owed bytes (Ok a) says =
    owed_so (PeakOwes bytes) a status.BadInput (refusal_row says.refused ∷ [])
    (record { refused = says.refused; is_refused = says.is_refused; rows_are = refl }) says.status_is says.text_is
refusal_owed bytes (Err m) says = tt

-- and an instance text its peaks
pub peaks_owed : (bytes : List ℕ) (p : Problem) (names : NameLists) (r : Result Answer Memory)
    → SolveText bytes p names → HaveCounts p names → IfOk r (HasPeaks p names) → IfOk r (IsTextOf (PeakOwes bytes))
peaks_owed bytes p names (Ok a) text counts has =
    owed_so (PeakOwes bytes) a status.Done (peak_text p names has.claimed) (record {
      problem = p;
      names = names;
      claimed = has.claimed;
      text = text;
      stand = text_says p names counts has.claimed has.claims;
      holds = has.holds;
      proves = has.proves;
      rows_are = refl;
    }) has.status_is has.text_is
peaks_owed bytes p names (Err m) text counts has = tt

-- behind the records they are read as what they claim, which holds
pub peaks_hold : (bytes read : List ℕ) (rows : List Row) (owed : OwesPeaks bytes rows)
    → HasRows read (take owed.text.before owed.text.instance.rows) → EndsInLine read
    → OwesPeaksYes (read ++ lines rows) (peaks_yes_row ∷ [])
peaks_hold bytes read rows owed has ends =
    let p = owed.problem in
    let names = owed.names in
    let have = instance_names bytes p names owed.text.before owed.text.rest owed.text.instance in
    let back = read_back bytes read p names owed.text.before owed.text.rest owed.claimed owed.text.instance has ends
    have.layers have.trips owed.stand.claims in
    subst (λ (others : List Row). OwesPeaksYes (read ++ lines others) (peaks_yes_row ∷ [])) (sym owed.rows_are)
    (record {
      problem = p;
      names = names;
      claimed = owed.claimed;
      text = record {
        before = owed.text.before;
        rest = back.rest;
        instance = back.instance;
        claims = back.claims;
      };
      holds = owed.holds;
      proves = owed.proves;
      rows_are = refl;
    })

-- an instance whose peaks are owed isn't refused
read_or_refused : (bytes : List ℕ) (r s : List Row) → OwesPeaks bytes r → OwesRefusal bytes s → ⊥
read_or_refused bytes r s owed refusal =
    refused_none bytes refusal.refused owed.problem owed.names owed.text.before owed.text.rest refusal.is_refused
    owed.text.instance

-- so one status is owed
pub one_peak_status : (bytes : List ℕ) (a b : Status) (r s : List Row) → PeakOwes bytes a r → PeakOwes bytes b s → a ≡ b
one_peak_status bytes status.Done status.Done r s x y = refl
one_peak_status bytes status.BadInput status.BadInput r s x y = refl
one_peak_status bytes status.Done status.BadInput r s x y = absurd (read_or_refused bytes r s x y)
one_peak_status bytes status.BadInput status.Done r s x y = absurd (read_or_refused bytes s r y x)
one_peak_status bytes status.Done _ r s x y = absurd y
one_peak_status bytes status.BadInput _ r s x y = absurd y
one_peak_status bytes _ b r s x y = absurd x
