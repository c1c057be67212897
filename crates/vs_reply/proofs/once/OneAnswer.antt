-- What each command that searches nothing is owed for the same bytes is one thing.
use Rattle.std.proofs.Common.{◌≡◌, ℕ, inl, inr, List, [], ◌∷◌, Option, Some, None, IfSome, IsSome, codes, ℤ, refl, sym, ap, ◌∙◌, subst}
use Rattle.std.proofs.lemmas.Option.{same_Some}
use Rattle.vs_instance.specs.Problem.{Problem}
use Rattle.vs_reader.specs.Names.{NameLists}
use Rattle.vs_reader.specs.Rows.{Row}
use Rattle.vs_reader.specs.declared.refused.Refused.{Refused}
use Rattle.vs_reader.proofs.CallerLemmas.{one_reading, refused_none}
use Rattle.vs_reply.specs.declared.status.Status.{Status}
use Rattle.vs_reply.specs.declared.status.Status.TheVariants as status
use Rattle.vs_reply.specs.Network.{AreNetworkRows}
use Rattle.vs_instance.specs.Firsts.{first}
use Rattle.vs_instance.specs.Plan.{IsPlan, LayerBlock}
use Rattle.vs_plan.specs.Blocks.{blocks_of}
use Rattle.vs_plan.specs.PlanFaults.{faults_of}
use Rattle.vs_plan.specs.declared.plan_fault.PlanFault.{PlanFault}
use Rattle.vs_prices.specs.declared.claim.Claim.{Claim}
use Rattle.vs_rows.specs.DocumentRows.{claim_field, number_field}
use Rattle.vs_check.specs.declared.flaw.Flaw.{Flaw}
use Rattle.vs_check.specs.declared.flaw.Flaw.TheVariants.{Plan}
use Rattle.vs_check.specs.Flaws.{flaws_of}
use Rattle.vs_check.specs.HoldingDocument.{HoldingDocument}
use Rattle.vs_reply.specs.FlawRows.{no_row}
use Rattle.vs_make.specs.Generator.{make_rows}
use Rattle.vs_types.specs.declared.numbers.LayerNo.{LayerNo}
use Rattle.vs_peakcheck.specs.Flaws.{flaws_of as peak_flaws_of}
use Rattle.vs_peakcheck.specs.HoldingClaims.{HoldingClaims}
use Rattle.vs_peakcheck.specs.declared.flaw.PeakFlaw.{PeakFlaw}
use Rattle.vs_reply.specs.Owed.{BlocksOwes, CheckOwes, MakeOwes, NetworkOwes, OwesNetwork, OwesNo, OwesNoCase, OwesNoClaims, OwesNoTimetable, OwesPeaksNo, OwesPeaksYes, OwesRefusal, OwesTimetable, OwesYes, PeakCheckOwes, peaks_no_row}
use Rattle.vs_reply.specs.Timetable.{rows_beside, timetable_of}
use Rattle.vs_reply.proofs.once.OneCase.{case_refused, one_document_refusal, same_case}
use Rattle.vs_reply.proofs.once.OneClaim.{claim_refused, one_claims_refusal, same_claim}
use Rattle.vs_reply.specs.RefusalRows.{refusal_row}
use Rattle.vs_reply.proofs.one_row.OneNet.{one_network}
use Rattle.vs_reply.proofs.one_row.OneRefusal.{one_refusal}

-- the row of a document that holds
abbrev yes_fields : Claim → Option ℤ → Option ℤ → Row
yes_fields claim cost bound = codes "yes" ∷ claim_field claim ∷ number_field cost ∷ number_field bound ∷ []

-- a refusal has one row
one_refusal_row : (bytes : List ℕ) (r s : List Row) → OwesRefusal bytes r → OwesRefusal bytes s → r ≡ s
one_refusal_row bytes r s a b =
    a.rows_are ∙ ap (λ (x : Refused). refusal_row x ∷ [])
    (one_refusal bytes a.refused b.refused a.is_refused b.is_refused)
    ∙ sym b.rows_are

-- and a text that is no instance with a document behind it, too
one_case_row : (bytes : List ℕ) (r s : List Row) → OwesNoCase bytes r → OwesNoCase bytes s → r ≡ s
one_case_row bytes r s (inl a) (inl b) = one_refusal_row bytes r s a b
one_case_row bytes r s (inl a) (inr b) =
    absurd (refused_none bytes a.refused b.lacks.problem b.lacks.names b.lacks.before b.lacks.rest a.is_refused
    b.lacks.instance)
one_case_row bytes r s (inr a) (inl b) =
    absurd (refused_none bytes b.refused a.lacks.problem a.lacks.names a.lacks.before a.lacks.rest b.is_refused
    a.lacks.instance)
one_case_row bytes r s (inr a) (inr b) = one_document_refusal bytes r s a b

-- an answer is done, a denial or a refusal
data Answer3 (Yes No Refused : List Row → Type 0) (answer : Status) (r : List Row) : Type 0 where
  Done : answer ≡ status.Done → Yes r → Answer3 Yes No Refused answer r
  Denied : answer ≡ status.SaysNo → No r → Answer3 Yes No Refused answer r
  Turned : answer ≡ status.BadInput → Refused r → Answer3 Yes No Refused answer r

-- each of these has one list of rows, and none is beside another
record AreOnce (Yes No Refused : List Row → Type 0) : Type 0 where
  yes_once : (r s : List Row) → Yes r → Yes s → r ≡ s
  no_once : (r s : List Row) → No r → No s → r ≡ s
  refused_once : (r s : List Row) → Refused r → Refused s → r ≡ s
  yes_not_no : (r s : List Row) → Yes r → No s → ⊥
  yes_not_refused : (r s : List Row) → Yes r → Refused s → ⊥
  no_not_refused : (r s : List Row) → No r → Refused s → ⊥

one_of_three : (Yes No Refused : List Row → Type 0) → AreOnce Yes No Refused → (a b : Status) (r s : List Row)
    → Answer3 Yes No Refused a r → Answer3 Yes No Refused b s → (a ≡ b) × (r ≡ s)
one_of_three Yes No Refused are a b r s (Done e x) (Done f y) = (e ∙ sym f, are.yes_once r s x y)
one_of_three Yes No Refused are a b r s (Denied e x) (Denied f y) = (e ∙ sym f, are.no_once r s x y)
one_of_three Yes No Refused are a b r s (Turned e x) (Turned f y) = (e ∙ sym f, are.refused_once r s x y)
one_of_three Yes No Refused are a b r s (Done e x) (Denied f y) = absurd (are.yes_not_no r s x y)
one_of_three Yes No Refused are a b r s (Done e x) (Turned f y) = absurd (are.yes_not_refused r s x y)
one_of_three Yes No Refused are a b r s (Denied e x) (Done f y) = absurd (are.yes_not_no s r y x)
one_of_three Yes No Refused are a b r s (Denied e x) (Turned f y) = absurd (are.no_not_refused r s x y)
one_of_three Yes No Refused are a b r s (Turned e x) (Done f y) = absurd (are.yes_not_refused s r y x)
one_of_three Yes No Refused are a b r s (Turned e x) (Denied f y) = absurd (are.no_not_refused s r y x)

sizes_once : (bytes : List ℕ) (r s : List Row) → OwesNetwork bytes r → OwesNetwork bytes s → r ≡ s
sizes_once bytes r s a b =
    let same = one_reading bytes a.problem b.problem a.names b.names a.text.before b.text.before a.text.rest b.text.rest
    a.text.instance b.text.instance in
    one_network a.problem a.names _ r s a.rows_are
    (subst (λ (x : Problem). AreNetworkRows x a.names s) same.0
    (subst (λ (x : NameLists). AreNetworkRows b.problem x s) same.1 b.rows_are))

not_read_and_refused : (bytes : List ℕ) (r s : List Row) → OwesNetwork bytes r → OwesRefusal bytes s → ⊥
not_read_and_refused bytes r s a b =
    refused_none bytes b.refused a.problem a.names a.text.before a.text.rest b.is_refused a.text.instance

network_once : (bytes : List ℕ) → AreOnce (OwesNetwork bytes) (λ _. ⊥) (OwesRefusal bytes)
network_once bytes = record {
  yes_once = sizes_once bytes;
  no_once = λ r s a. absurd a;
  refused_once = one_refusal_row bytes;
  yes_not_no = λ r s a b. b;
  yes_not_refused = not_read_and_refused bytes;
  no_not_refused = λ r s a. absurd a;
}

-- of `check`: a document that holds, one with a flaw, and none
check_yes_once : (bytes : List ℕ) (r s : List Row) → OwesYes bytes r → OwesYes bytes s → r ≡ s
check_yes_once bytes r s a b =
    let alike = (same_case bytes a.problem b.problem a.names b.names a.document b.document
    a.text b.text).alike in
    a.rows_are
    ∙ ap (λ (c : Claim). yes_fields c a.document.cost a.document.bound ∷ []) alike.claim
    ∙ ap (λ (c : Option ℤ). yes_fields b.document.claim c a.document.bound ∷ []) alike.cost
    ∙ ap (λ (n : Option ℤ). yes_fields b.document.claim b.document.cost n ∷ []) alike.bound
    ∙ sym b.rows_are

check_no_once : (bytes : List ℕ) (r s : List Row) → OwesNo bytes r → OwesNo bytes s → r ≡ s
check_no_once bytes r s a b =
    let same = same_case bytes a.problem b.problem a.names b.names a.document b.document
    a.text b.text in
    let found : Some a.flaw ≡ Some b.flaw =
    sym a.is_first ∙ ap first same.judged.flaws
    ∙ ap (λ (p : Problem). first (flaws_of p b.document)) (sym same.same_problem) ∙ b.is_first in
    let flaw : a.flaw ≡ b.flaw = same_Some a.flaw b.flaw found in
    a.rows_are ∙ ap (λ (f : Flaw). no_row a.names f ∷ []) flaw
    ∙ ap (λ (names : NameLists). no_row names b.flaw ∷ []) (sym same.same_names) ∙ sym b.rows_are

check_not_both : (bytes : List ℕ) (r s : List Row) → OwesYes bytes r → OwesNo bytes s → ⊥
check_not_both bytes r s a b =
    let same = same_case bytes a.problem b.problem a.names b.names a.document b.document
    a.text b.text in
    b.fails
    (subst (λ (x : Problem). HoldingDocument x b.document) (sym same.same_problem)
    (same.judged.holds.0 a.holds))

check_once : (bytes : List ℕ) → AreOnce (OwesYes bytes) (OwesNo bytes) (OwesNoCase bytes)
check_once bytes = record {
  yes_once = check_yes_once bytes;
  no_once = check_no_once bytes;
  refused_once = one_case_row bytes;
  yes_not_no = check_not_both bytes;
  yes_not_refused = λ r s a. case_refused bytes a.problem a.names a.document s a.text;
  no_not_refused = λ r s a. case_refused bytes a.problem a.names a.document s a.text;
}

-- of `blocks`: a timetable, blocks that are no plan, and no document
timetable_once : (bytes : List ℕ) (r s : List Row) → OwesTimetable bytes r → OwesTimetable bytes s → r ≡ s
timetable_once bytes r s a b =
    let same = same_case bytes a.problem b.problem a.names b.names a.document b.document
    a.text b.text in
    a.rows_are
    ∙ ap (λ (x : Problem). timetable_of x a.names a.document) (sym same.same_problem)
    ∙ ap (λ (x : NameLists). timetable_of b.problem x a.document) (sym same.same_names)
    ∙ ap (λ (bs : List LayerBlock). rows_beside b.problem b.names bs a.document.cost) same.alike.blocks
    ∙ ap (rows_beside b.problem b.names (blocks_of b.document.plan)) same.alike.cost
    ∙ sym b.rows_are

no_timetable_once : (bytes : List ℕ) (r s : List Row) → OwesNoTimetable bytes r → OwesNoTimetable bytes s → r ≡ s
no_timetable_once bytes r s a b =
    let same = same_case bytes a.problem b.problem a.names b.names a.document b.document
    a.text b.text in
    let found : Some a.fault ≡ Some b.fault =
    sym a.is_first ∙ ap (λ (bs : List LayerBlock). first (faults_of a.problem bs)) same.alike.blocks
    ∙ ap (λ (p : Problem). first (faults_of p (blocks_of b.document.plan))) (sym same.same_problem) ∙ b.is_first in
    let fault : a.fault ≡ b.fault = same_Some a.fault b.fault found in
    a.rows_are ∙ ap (λ (f : PlanFault). no_row a.names (Plan f) ∷ []) fault
    ∙ ap (λ (names : NameLists). no_row names (Plan b.fault) ∷ []) (sym same.same_names) ∙ sym b.rows_are

-- a plan where a cost is printed, and no plan where one is
if_printed : (P : Type 0) (cost : Option ℤ) → IfSome cost (λ _. P) → IsSome cost → P
if_printed P (Some n) holds some = holds
if_printed P None holds some = cc

timetable_not_both : (bytes : List ℕ) (r s : List Row) → OwesTimetable bytes r → OwesNoTimetable bytes s → ⊥
timetable_not_both bytes r s a b =
    let same = same_case bytes a.problem b.problem a.names b.names a.document b.document
    a.text b.text in
    let plan : IsPlan a.problem (blocks_of a.document.plan) =
    if_printed (IsPlan a.problem (blocks_of a.document.plan)) a.document.cost a.plan
    (subst IsSome (sym same.alike.cost) b.printed) in
    b.no_plan
    (subst (λ (x : Problem). IsPlan x (blocks_of b.document.plan)) (sym same.same_problem)
    (subst (IsPlan a.problem) same.alike.blocks plan))

blocks_once : (bytes : List ℕ) → AreOnce (OwesTimetable bytes) (OwesNoTimetable bytes) (OwesNoCase bytes)
blocks_once bytes = record {
  yes_once = timetable_once bytes;
  no_once = no_timetable_once bytes;
  refused_once = one_case_row bytes;
  yes_not_no = timetable_not_both bytes;
  yes_not_refused = λ r s a. case_refused bytes a.problem a.names a.document s a.text;
  no_not_refused = λ r s a. case_refused bytes a.problem a.names a.document s a.text;
}

-- of `peakcheck`: claims that hold, claims with a flaw, and none
one_claims_row : (bytes : List ℕ) (r s : List Row) → OwesNoClaims bytes r → OwesNoClaims bytes s → r ≡ s
one_claims_row bytes r s (inl a) (inl b) = one_refusal_row bytes r s a b
one_claims_row bytes r s (inl a) (inr b) =
    absurd (refused_none bytes a.refused b.lacks.problem b.lacks.names b.lacks.before b.lacks.rest a.is_refused
    b.lacks.instance)
one_claims_row bytes r s (inr a) (inl b) =
    absurd (refused_none bytes b.refused a.lacks.problem a.lacks.names a.lacks.before a.lacks.rest b.is_refused
    a.lacks.instance)
one_claims_row bytes r s (inr a) (inr b) = one_claims_refusal bytes r s a b

peaks_no_once : (bytes : List ℕ) (r s : List Row) → OwesPeaksNo bytes r → OwesPeaksNo bytes s → r ≡ s
peaks_no_once bytes r s a b =
    let same = same_claim bytes a.problem b.problem a.names b.names a.claimed b.claimed a.text b.text in
    let found : Some (a.layer, a.flaw) ≡ Some (b.layer, b.flaw) =
    sym a.is_first ∙ ap first same.judged.flaws
    ∙ ap (λ (p : Problem). first (peak_flaws_of p b.claimed)) (sym same.same_problem) ∙ b.is_first in
    let both = same_Some (a.layer, a.flaw) (b.layer, b.flaw) found in
    a.rows_are
    ∙ ap (λ (f : LayerNo × PeakFlaw). peaks_no_row a.problem a.names f.0 f.1 ∷ []) both
    ∙ ap (λ (p : Problem). peaks_no_row p a.names b.layer b.flaw ∷ []) (sym same.same_problem)
    ∙ ap (λ (names : NameLists). peaks_no_row b.problem names b.layer b.flaw ∷ []) (sym same.same_names)
    ∙ sym b.rows_are

peaks_not_both : (bytes : List ℕ) (r s : List Row) → OwesPeaksYes bytes r → OwesPeaksNo bytes s → ⊥
peaks_not_both bytes r s a b =
    let same = same_claim bytes a.problem b.problem a.names b.names a.claimed b.claimed a.text b.text in
    b.fails
    (subst (λ (x : Problem). HoldingClaims x b.claimed) (sym same.same_problem) (same.judged.holds.0 a.holds))

peaks_once : (bytes : List ℕ) → AreOnce (OwesPeaksYes bytes) (OwesPeaksNo bytes) (OwesNoClaims bytes)
peaks_once bytes = record {
  yes_once = λ r s a b. a.rows_are ∙ sym b.rows_are;
  no_once = peaks_no_once bytes;
  refused_once = one_claims_row bytes;
  yes_not_no = peaks_not_both bytes;
  yes_not_refused = λ r s a. claim_refused bytes a.problem a.names a.claimed s a.text;
  no_not_refused = λ r s a. claim_refused bytes a.problem a.names a.claimed s a.text;
}

peaks_three : (bytes : List ℕ) (answer : Status) (r : List Row) → PeakCheckOwes bytes answer r
    → Answer3 (OwesPeaksYes bytes) (OwesPeaksNo bytes) (OwesNoClaims bytes) answer r
peaks_three bytes status.Done r owed = Done refl owed
peaks_three bytes status.SaysNo r owed = Denied refl owed
peaks_three bytes status.BadInput r owed = Turned refl owed
peaks_three bytes _ r owed = absurd owed

-- what each command owes, as one of three
check_three : (bytes : List ℕ) (answer : Status) (r : List Row) → CheckOwes bytes answer r
    → Answer3 (OwesYes bytes) (OwesNo bytes) (OwesNoCase bytes) answer r
check_three bytes status.Done r owed = Done refl owed
check_three bytes status.SaysNo r owed = Denied refl owed
check_three bytes status.BadInput r owed = Turned refl owed
check_three bytes _ r owed = absurd owed

blocks_three : (bytes : List ℕ) (answer : Status) (r : List Row) → BlocksOwes bytes answer r
    → Answer3 (OwesTimetable bytes) (OwesNoTimetable bytes) (OwesNoCase bytes) answer r
blocks_three bytes status.Done r owed = Done refl owed
blocks_three bytes status.SaysNo r owed = Denied refl owed
blocks_three bytes status.BadInput r owed = Turned refl owed
blocks_three bytes _ r owed = absurd owed

network_three : (bytes : List ℕ) (answer : Status) (r : List Row) → NetworkOwes bytes answer r
    → Answer3 (OwesNetwork bytes) (λ _. ⊥) (OwesRefusal bytes) answer r
network_three bytes status.Done r owed = Done refl owed
network_three bytes status.BadInput r owed = Turned refl owed
network_three bytes _ r owed = absurd owed

make_done : (n : ℕ) (answer : Status) (r : List Row) → MakeOwes n answer r
    → (answer ≡ status.Done) × (r ≡ make_rows n)
make_done n status.Done r owed = (refl, owed)
make_done n _ r owed = absurd owed

-- each is owed one status and one list of rows for the bytes that it read
pub one_of_check : (bytes : List ℕ) (a b : Status) (r s : List Row) → CheckOwes bytes a r → CheckOwes bytes b s
    → (a ≡ b) × (r ≡ s)
one_of_check bytes a b r s x y =
    one_of_three _ _ _ (check_once bytes) a b r s (check_three bytes a r x) (check_three bytes b s y)

pub one_of_network : (bytes : List ℕ) (a b : Status) (r s : List Row) → NetworkOwes bytes a r → NetworkOwes bytes b s
    → (a ≡ b) × (r ≡ s)
one_of_network bytes a b r s x y =
    one_of_three _ _ _ (network_once bytes) a b r s (network_three bytes a r x) (network_three bytes b s y)

pub one_of_blocks : (bytes : List ℕ) (a b : Status) (r s : List Row) → BlocksOwes bytes a r → BlocksOwes bytes b s
    → (a ≡ b) × (r ≡ s)
one_of_blocks bytes a b r s x y =
    one_of_three _ _ _ (blocks_once bytes) a b r s (blocks_three bytes a r x) (blocks_three bytes b s y)

pub one_made : (n : ℕ) (a b : Status) (r s : List Row) → MakeOwes n a r → MakeOwes n b s → (a ≡ b) × (r ≡ s)
one_made n a b r s x y =
    let one = make_done n a r x in let other = make_done n b s y in (one.0 ∙ sym other.0, one.1 ∙ sym other.1)

pub one_of_peakcheck : (bytes : List ℕ) (a b : Status) (r s : List Row) → PeakCheckOwes bytes a r
    → PeakCheckOwes bytes b s → (a ≡ b) × (r ≡ s)
one_of_peakcheck bytes a b r s x y =
    one_of_three _ _ _ (peaks_once bytes) a b r s (peaks_three bytes a r x) (peaks_three bytes b s y)
