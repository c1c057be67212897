-- A text is refused in one way.
use Rattle.std.proofs.Common.{◌≡◌, ℕ, ◌+◌, inl, inr, List, [], ◌∷◌, ◌++◌, length, Some, sym, ap, ◌∙◌, subst}
use Rattle.std.proofs.lemmas.Option.{same_Some}
use Rattle.vs_instance.specs.declared.parts.Parts.{Parts}
use Rattle.vs_instance.specs.declared.misfit.Misfit.{Misfit}
use Rattle.vs_instance.specs.declared.parts.Deadhead.{Deadhead}
use Rattle.vs_instance.specs.declared.layer.Layer.{Layer}
use Rattle.vs_instance.specs.declared.trip.Trip.{Trip}
use Rattle.vs_instance.specs.Misfits.{closure_misfits, deadheads_misfits, deadheads_of, first_misfit, layers_misfits, misfits_of, trips_misfits}
use Rattle.vs_reader.specs.declared.refused.Refused.{Refused}
use Rattle.vs_reader.specs.declared.refused.Why.{Why}
use Rattle.vs_reader.specs.declared.refused.Why.TheVariants.{Misfit as misfit_why}
use Rattle.vs_reader.specs.declared.version.Version.{Version}
use Rattle.vs_reader.specs.Versions.{most_in}
use Rattle.vs_reader.specs.Rows.{Row}
use Rattle.vs_reader.specs.Names.{NameLists}
use Rattle.vs_reader.specs.InstanceText.{Declared, nothing_yet, instance_records}
use Rattle.vs_reader.specs.Rules.{Rule, AreKept, BreaksFirst, rules, with_row}
use Rattle.vs_reader.specs.Refusals.{ArePartsOf, BreaksOrMisfits, BreaksRule, HasMisfit, IsRefusal, misfit_row}
use Rattle.vs_reader.specs.Texts.{IsRefused}
use Rattle.vs_reader.proofs.CallerLemmas.{AreAllNames-nothing, IsSound-nothing, breaks_refutes, one_AddAll, one_rows, one_version}

-- rules that are kept don't break, and break at one
kept_breaks : (rs : List Rule) (why : Why) → AreKept rs → BreaksFirst rs why → ⊥
kept_breaks [] why kept breaks = breaks
kept_breaks (rule ∷ rs) why kept (inl (broken, is)) = broken kept.0
kept_breaks (rule ∷ rs) why kept (inr (keeps, rest)) = kept_breaks rs why kept.1 rest

one_break : (rs : List Rule) (a b : Why) → BreaksFirst rs a → BreaksFirst rs b → a ≡ b
one_break [] a b breaks also = absurd breaks
one_break (rule ∷ rs) a b (inl (broken, is)) (inl (too, so)) = is ∙ sym so
one_break (rule ∷ rs) a b (inl (broken, is)) (inr (keeps, rest)) = absurd (broken keeps)
one_break (rule ∷ rs) a b (inr (keeps, rest)) (inl (broken, is)) = absurd (broken keeps)
one_break (rule ∷ rs) a b (inr (keeps, rest)) (inr (kept, more)) = one_break rs a b rest more

same_refusal : (a b : Refused) → a.row ≡ b.row → a.why ≡ b.why → a ≡ b
same_refusal a b row why =
    ap (λ (r : ℕ). record { row = r; why = a.why }) row ∙ ap (λ (w : Why). record { row = b.row; why = w }) why

one_rule : (version : Version) (n : ℕ) (names : NameLists) (rows : List Row) (a b : Refused)
    → BreaksRule version n names rows a → BreaksRule version n names rows b → a ≡ b
one_rule version n names [] a b breaks also = absurd breaks
one_rule version n names (row ∷ rows) a b (inl (at, breaks)) (inl (there, also)) =
    same_refusal a b (at ∙ sym there) (one_break (rules version names row) a.why b.why breaks also)
one_rule version n names (row ∷ rows) a b (inl (at, breaks)) (inr (kept, rest)) =
    absurd (kept_breaks (rules version names row) a.why kept breaks)
one_rule version n names (row ∷ rows) a b (inr (kept, rest)) (inl (at, breaks)) =
    absurd (kept_breaks (rules version names row) b.why kept breaks)
one_rule version n names (row ∷ rows) a b (inr (kept, rest)) (inr (keeps, more)) =
    one_rule version (n + 1) (with_row names row) rows a b rest more

-- the misfits of what is declared
abbrev misfits_with : ℕ → ℕ → List Deadhead → List Layer → List Trip → List Misfit
misfits_with most stops deadheads layers trips =
    layers_misfits most (length trips) layers ++ deadheads_misfits deadheads ++ trips_misfits trips
    ++ closure_misfits stops (deadheads_of deadheads)

abbrev declared_misfits : Version → Declared → List Misfit
declared_misfits version d = misfits_with (most_in version) (length d.names.stops) d.deadheads d.layers d.trips

misfits_declared : (version : Version) (d : Declared) (parts : Parts) → ArePartsOf version d parts
    → misfits_of parts ≡ declared_misfits version d
misfits_declared version d parts are =
    ap (λ (m : ℕ). misfits_with m parts.stops parts.deadheads.items parts.layers.items parts.trips.items) are.most
    ∙ ap (λ (n : ℕ). misfits_with (most_in version) n parts.deadheads.items parts.layers.items parts.trips.items)
    are.stops
    ∙ ap (λ (xs : List Deadhead). misfits_with (most_in version) (length d.names.stops) xs parts.layers.items
    parts.trips.items)
    are.deadheads
    ∙ ap (λ (xs : List Layer). misfits_with (most_in version) (length d.names.stops) d.deadheads xs parts.trips.items)
    are.layers
    ∙ ap (misfits_with (most_in version) (length d.names.stops) d.deadheads d.layers) are.trips

first_declared : (version : Version) (records : List Row) (a : Refused) (h : HasMisfit version records a)
    → first_misfit (declared_misfits version h.declared) ≡ Some h.misfit
first_declared version records a h =
    sym (ap first_misfit (misfits_declared version h.declared h.parts h.parts_are)) ∙ h.first

one_misfit : (version : Version) (records : List Row) (a b : Refused) → HasMisfit version records a
    → HasMisfit version records b → a ≡ b
one_misfit version records a b x y =
    let declared : x.declared ≡ y.declared =
    one_AddAll version nothing_yet x.declared y.declared records (IsSound-nothing version) x.declares y.declares in
    let found : Some x.misfit ≡ Some y.misfit =
    sym (first_declared version records a x) ∙ ap (λ (d : Declared). first_misfit (declared_misfits version d)) declared
    ∙ first_declared version records b y in
    let misfit : x.misfit ≡ y.misfit = same_Some x.misfit y.misfit found in
    same_refusal a b (x.row_is ∙ ap (misfit_row records) misfit ∙ sym y.row_is)
    (x.why_is ∙ ap misfit_why misfit ∙ sym y.why_is)

-- by the rules of one version
one_in_version : (version : Version) (records : List Row) (a b : Refused) → BreaksOrMisfits version records a
    → BreaksOrMisfits version records b → a ≡ b
one_in_version version records a b (inl x) (inl y) = one_rule version 2 nothing_yet.names records a b x y
one_in_version version records a b (inl x) (inr y) =
    absurd (breaks_refutes version 2 nothing_yet y.declared records a AreAllNames-nothing x y.declares)
one_in_version version records a b (inr x) (inl y) =
    absurd (breaks_refutes version 2 nothing_yet x.declared records b AreAllNames-nothing y x.declares)
one_in_version version records a b (inr x) (inr y) = one_misfit version records a b x y

one_refusal_of : (rows : List Row) (a b : Refused) → IsRefusal rows a → IsRefusal rows b → a ≡ b
one_refusal_of rows a b (inl (lacks, row, why)) (inl (too, at, is)) = same_refusal a b (row ∙ sym at) (why ∙ sym is)
one_refusal_of rows a b (inl (lacks, row, why)) (inr (version, has, rest)) = absurd (lacks version has)
one_refusal_of rows a b (inr (version, has, rest)) (inl (lacks, row, why)) = absurd (lacks version has)
one_refusal_of rows a b (inr (version, has, x)) (inr (other, too, y)) =
    one_in_version version (instance_records rows) a b x
    (subst (λ (v : Version). BreaksOrMisfits v (instance_records rows) b) (one_version rows other version too has) y)

pub one_refusal : (bytes : List ℕ) (a b : Refused) → IsRefused bytes a → IsRefused bytes b → a ≡ b
one_refusal bytes a b x y =
    let rows : y.rows ≡ x.rows = one_rows bytes x.rows y.rows x.has_rows y.has_rows in
    one_refusal_of x.rows a b x.refusal (subst (λ (rs : List Row). IsRefusal rs b) rows y.refusal)
