-- A text is an instance text or is refused, and not both.
use Rattle.std.proofs.Common.{◌≡◌, ℕ, ◌+◌, ◌≤◌, inl, inr, true, false, cond, List, [], ◌∷◌, ◌++◌, length, drop, refl, sym, ap, ◌∙◌, subst, arith}
use Rattle.std.specs.Prelude.{All, AllPairs}
use Rattle.std.proofs.lemmas.List.{drop_at}
use Rattle.csv.specs.Reading.{default_config, strip_bom, is_bom}
use Rattle.csv.specs.declared.parser.State.TheVariants as state
use Rattle.vs_instance.specs.Problem.{Problem}
use Rattle.vs_instance.specs.Instance.{IsInstance}
use Rattle.vs_instance.specs.Misfits.{are_twins, deadheads_of, problem_of}
use Rattle.vs_instance.specs.declared.layer.Layer.{Layer}
use Rattle.vs_instance.specs.declared.parts.Deadhead.{Deadhead}
use Rattle.vs_instance.proofs.CallerLemmas.{refuses}
use Rattle.vs_reader.specs.declared.draft.Draft.{Draft}
use Rattle.vs_reader.specs.declared.refused.ReadError.{ReadError}
use Rattle.vs_reader.specs.declared.refused.ReadError.TheVariants as error
use Rattle.vs_reader.specs.declared.refused.Refused.{Refused}
use Rattle.vs_reader.specs.declared.refused.Why.TheVariants as why
use Rattle.vs_reader.specs.declared.version.Version.{Version}
use Rattle.vs_reader.specs.Rows.{Row}
use Rattle.vs_reader.specs.RowEnds.{weight_of}
use Rattle.vs_reader.specs.Names.{NameLists, HaveCounts}
use Rattle.vs_reader.specs.Versions.{HasHeader, most_in}
use Rattle.vs_reader.specs.Kinds.{before_result}
use Rattle.vs_reader.specs.InstanceText.{Declared, AddAll, Makes, InstanceText, nothing_yet, instance_records}
use Rattle.vs_reader.specs.Refusals.{BreaksRule, BreaksOrMisfits, HasMisfit, IsRefusal}
use Rattle.vs_reader.specs.RecordNumbers.{HasNumbers}
use Rattle.vs_reader.specs.Drafts.{declared_of}
use Rattle.vs_reader.specs.Texts.{HasRows, StandsFor, IsRefused}
use Rattle.vs_reader.specs.ReadErrors.{RefusesAs, IsRefusedError}
use Rattle.vs_reader.proofs.texts.HeaderLemmas.{one_version}
use Rattle.vs_reader.proofs.texts.CsvRecords.{has_records, same_records, weight_of-records, length-records}
use Rattle.vs_reader.proofs.declaring.DeclaredLemmas.{IsSound-nothing, IsSound-AddAll, one_AddAll}
use Rattle.vs_reader.proofs.declaring.RefusedLemmas.{AreAllNames-nothing, breaks_refutes}

-- a text has one list of rows
pub has_rows : (bytes : List ℕ) → (rows : List Row) × HasRows bytes rows
has_rows bytes = has_records default_config state.StartRecord (strip_bom bytes)

pub one_rows : (bytes : List ℕ) (rows others : List Row) → HasRows bytes rows → HasRows bytes others → others ≡ rows
one_rows bytes rows others has other =
    same_records default_config state.StartRecord (strip_bom bytes) rows others has other

length-strip_bom : (bytes : List ℕ) → length (strip_bom bytes) ≤ length bytes
unfolding strip_bom
length-strip_bom [] = omega arith
length-strip_bom (a ∷ []) = omega arith
length-strip_bom (a ∷ b ∷ []) = omega arith
length-strip_bom (a ∷ b ∷ c ∷ rest) =
    elim (is_bom a b c) as (λ t. length (cond t rest (a ∷ b ∷ c ∷ rest)) ≤ length (a ∷ b ∷ c ∷ rest)) [
      | true ↦ omega arith
      | false ↦ omega arith
    ]

pub weight_of-rows : (bytes : List ℕ) (rows : List Row) → HasRows bytes rows → weight_of rows ≤ length bytes + 1
weight_of-rows bytes rows has =
    omega (arith, length-strip_bom bytes, weight_of-records default_config state.StartRecord (strip_bom bytes) rows has)

pub length-rows : (bytes : List ℕ) (rows : List Row) → HasRows bytes rows → length rows ≤ length bytes + 1
length-rows bytes rows has =
    omega (
      arith,
      weight_of-rows bytes rows has,
      length-records default_config state.StartRecord (strip_bom bytes) rows has,
    )

-- rows without a header
pub header_refused : (rows : List Row) → ((version : Version) → ¬ (HasHeader version rows))
    → IsRefusal rows (record { row = 1; why = why.NoHeader })
header_refused rows lacks = inl (lacks, refl, refl)

-- rows with a header, and those after it
module _ (version : Version) (rows more : List Row) (header : Row) (begins : HasHeader version rows)
    (rows_are : rows ≡ header ∷ more) where
  records_are : instance_records rows ≡ before_result more
  records_are = ap instance_records rows_are

  -- a record breaks a rule
  pub rule_refused : (e : ReadError) → RefusesAs (BreaksRule version 2 nothing_yet.names (before_result more)) e
      → RefusesAs (IsRefusal rows) e
  rule_refused (error.Refused refused) breaks =
      inr (
        version,
        begins,
        inl (subst (λ (rs : List Row). BreaksRule version 2 nothing_yet.names rs refused) (sym records_are) breaks),
      )
  rule_refused error.Memory breaks = tt

  -- the records declare this
  module _ (draft : Draft) (all : AddAll version nothing_yet (before_result more) (declared_of draft)) where
    -- which is no instance
    pub misfit_refused : HasNumbers draft.numbers (before_result more) → (e : ReadError)
        → RefusesAs (λ refused. (records : List Row)
        → AddAll version nothing_yet records (declared_of draft)
        → HasNumbers draft.numbers records → HasMisfit version records refused) e
        → RefusesAs (IsRefusal rows) e
    misfit_refused numbers (error.Refused refused) misfit =
        inr (
          version,
          begins,
          inr (subst (λ (rs : List Row). HasMisfit version rs refused) (sym records_are)
              (misfit (before_result more) all numbers)),
        )
    misfit_refused numbers error.Memory misfit = tt

    -- which is an instance
    pub instance_text : (left : List Row) → more ≡ before_result more ++ left → (p : Problem) (names : NameLists)
        (before : ℕ) → Makes version (declared_of draft) p → names ≡ draft.names
        → before ≡ length (before_result more) + 1
        → InstanceText rows p names before left
    instance_text left split p names before makes names_are before_is =
        let count : length (header ∷ before_result more) ≡ before = omega (arith, before_is) in
        record {
          version = version;
          first = begins;
          declared = declared_of draft;
          declares = subst (λ (rs : List Row). AddAll version nothing_yet rs (declared_of draft)) (sym records_are) all;
          makes = makes;
          names_are = names_are;
          before_is = before_is ∙ ap (λ (rs : List Row). length rs + 1) (sym records_are);
          rest_is = sym (drop_at (header ∷ before_result more) left before count)
              ∙ ap (drop before) (sym (rows_are ∙ ap (λ (rs : List Row). header ∷ rs) split));
        }

-- two readings of a text are one
pub one_reading : (bytes : List ℕ) (p q : Problem) (names others : NameLists) (before b : ℕ) (rest r : List Row)
    → StandsFor bytes p names before rest → StandsFor bytes q others b r
    → (q ≡ p) × (others ≡ names) × (b ≡ before) × (r ≡ rest)
one_reading bytes p q names others before b rest r stands also =
    let rows = one_rows bytes stands.rows also.rows stands.has_rows also.has_rows in
    let version : also.text.version ≡ stands.text.version =
    one_version stands.rows also.text.version stands.text.version
    (subst (HasHeader also.text.version) rows also.text.first) stands.text.first in
    let same : also.text.declared ≡ stands.text.declared =
    one_AddAll stands.text.version nothing_yet also.text.declared stands.text.declared (instance_records stands.rows)
    (IsSound-nothing stands.text.version)
    (subst (λ (v : Version). AddAll v nothing_yet (instance_records stands.rows) also.text.declared) version
    (subst (λ (rs : List Row). AddAll also.text.version nothing_yet (instance_records rs) also.text.declared) rows
    also.text.declares))
    stands.text.declares in
    let b_is : b ≡ before =
    also.text.before_is ∙ ap (λ (rs : List Row). length (instance_records rs) + 1) rows
    ∙ sym stands.text.before_is in (
      also.text.makes.problem
          ∙ ap (λ (d : Declared). record {
            stops = length d.names.stops;
            deadheads =
                deadheads_of d.deadheads;
            layers = d.layers;
            trips = d.trips;
          }) same
          ∙ sym stands.text.makes.problem,
      also.text.names_are ∙ ap (λ (d : Declared). d.names) same ∙ sym stands.text.names_are,
      b_is,
      also.text.rest_is ∙ (λ i. drop (b_is i) (rows i)) ∙ sym stands.text.rest_is,
    )

-- what is declared isn't an instance where its parts have a misfit
misfit_refutes : (version : Version) (records : List Row) (refused : Refused)
    (misfit : HasMisfit version records refused) (p : Problem) → ¬ (Makes version misfit.declared p)
misfit_refutes version records refused misfit p makes =
    let parts = misfit.parts_are in
    let same : p ≡ problem_of misfit.parts =
    makes.problem
    ∙ (λ i. record {
      stops = sym parts.stops i;
      deadheads = deadheads_of (sym parts.deadheads i);
      layers =
          sym parts.layers i;
      trips = sym parts.trips i;
    }) in
    refuses misfit.parts misfit.misfit misfit.first (record {
      once = subst (λ (ds : List Deadhead). AllPairs (λ d e. are_twins d e ≡ false) ds)
          (sym parts.deadheads) makes.once;
      fleets =
          subst (λ (n : ℕ). All (λ (layer : Layer). layer.fleet ≤ n) misfit.parts.layers.items) (sym parts.most)
          (subst (All (λ (layer : Layer). layer.fleet ≤ most_in version)) (sym parts.layers) makes.fleets);
      instance = subst IsInstance same makes.instance;
    })

-- a text that is refused stands for nothing
pub refused_none : (bytes : List ℕ) (refused : Refused) (p : Problem) (names : NameLists) (before : ℕ)
    (rest : List Row) → IsRefused bytes refused → ¬ (StandsFor bytes p names before rest)
refused_none bytes refused p names before rest is stands =
    let rows = one_rows bytes is.rows stands.rows is.has_rows stands.has_rows in
    let first = subst (HasHeader stands.text.version) rows stands.text.first in
    let declares =
    subst (λ (rs : List Row). AddAll stands.text.version nothing_yet (instance_records rs) stands.text.declared) rows
    stands.text.declares in
    elim is.refusal [
      | inl lacks ↦ lacks.0 stands.text.version first
      | inr begins ↦
          let same = one_version is.rows stands.text.version begins.0 first begins.1 in
          refuted begins.0 begins.2
          (subst (λ (v : Version). AddAll v nothing_yet (instance_records is.rows) stands.text.declared) same declares)
          (subst (λ (v : Version). Makes v stands.text.declared p) same stands.text.makes)
    ]
  where
    refuted : (version : Version) → BreaksOrMisfits version (instance_records is.rows) refused
        → AddAll version nothing_yet (instance_records is.rows) stands.text.declared
        → Makes version stands.text.declared p → ⊥
    refuted version (inl breaks) declares makes =
        breaks_refutes version 2 nothing_yet stands.text.declared
        (instance_records is.rows) refused AreAllNames-nothing breaks declares
    refuted version (inr misfit) declares makes =
        misfit_refutes version (instance_records is.rows) refused misfit p
        (subst (λ (d : Declared). Makes version d p)
        (one_AddAll version nothing_yet stands.text.declared misfit.declared
        (instance_records is.rows) (IsSound-nothing version) declares misfit.declares) makes)

-- a text has as many names as its instance has stops, layers and trips
pub stands_counts : (bytes : List ℕ) (p : Problem) (names : NameLists) (before : ℕ) (rest : List Row)
    → StandsFor bytes p names before rest → HaveCounts p names
stands_counts bytes p names before rest stands =
    let t = stands.text in
    let sound =
    IsSound-AddAll t.version nothing_yet t.declared (instance_records stands.rows) (IsSound-nothing t.version)
    t.declares in
    record {
      stops = ap (λ (n : NameLists). length n.stops) t.names_are ∙ sym (ap (λ (q : Problem). q.stops) t.makes.problem);
      layers = ap (λ (n : NameLists). length n.layers) t.names_are ∙ sym sound.each_layer
          ∙ sym (ap (λ (q : Problem). length q.layers) t.makes.problem);
      trips = ap (λ (n : NameLists). length n.trips) t.names_are ∙ sym sound.each_trip
          ∙ sym (ap (λ (q : Problem). length q.trips) t.makes.problem);
    }

-- a text whose rows are refused is, and stands for nothing
pub text_refused : (bytes : List ℕ) (rows : List Row) → HasRows bytes rows → (e : ReadError)
    → RefusesAs (IsRefusal rows) e
    → RefusesAs (IsRefused bytes) e
text_refused bytes rows has (error.Refused refused) is = record { rows = rows; has_rows = has; refusal = is }
text_refused bytes rows has error.Memory is = tt

pub text_none : (bytes : List ℕ) (e : ReadError) → RefusesAs (IsRefused bytes) e → IsRefusedError e
    → (p : Problem) (names : NameLists) (before : ℕ) (rest : List Row)
    → ¬ (StandsFor bytes p names before rest)
text_none bytes (error.Refused refused) is told p names before rest = refused_none bytes refused p names before rest is
text_none bytes error.Memory is told p names before rest = absurd told
