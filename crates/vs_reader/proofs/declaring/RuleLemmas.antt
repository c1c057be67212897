-- Lists of rules that are kept, or of which one is broken.
use Rattle.std.proofs.Common.{◌≡◌, ℕ, ◌<◌, ◌≤◌, inl, inr, List, [], ◌∷◌, ◌++◌, length, drop, Option, Some, None, MatchOption, Result, append_assoc, append-nil, refl, sym, ap, ◌∙◌, arith}
use Rattle.std.specs.Option.{ok_or}
use Rattle.vs_instance.specs.declared.limits.TheConstants.{MAX_TRIPS, TWO_DAYS}
use Rattle.vs_reader.specs.declared.refused.Why.{Why}
use Rattle.vs_reader.specs.declared.refused.Why.TheVariants as why
use Rattle.vs_reader.specs.declared.version.Version.{Version}
use Rattle.vs_reader.specs.declared.version.Version.TheVariants.{One, Two, Three}
use Rattle.vs_reader.specs.Versions.{most_in}
use Rattle.vs_reader.specs.Rows.{Field, Row}
use Rattle.vs_reader.specs.Numbers.{IsTime}
use Rattle.vs_reader.specs.Names.{NameLists}
use Rattle.vs_reader.specs.Rules.{Rule, WritesTime, HasRoom, IsNoneOf, AreKept, BreaksFirst, known_name, layer_names, trip_rules}
use Rattle.vs_reader.specs.Judged.{Judged}

-- rules that are kept, and more of them
pub AreKept-append : (rules more : List Rule) → AreKept rules → AreKept more → AreKept (rules ++ more)
AreKept-append [] more kept then = then
AreKept-append (rule ∷ rules) more kept then = (kept.0, AreKept-append rules more kept.1 then)

-- a rule that is broken behind rules that are kept, or before more of them
pub BreaksFirst-skip : (rules more : List Rule) (why : Why) → AreKept rules → BreaksFirst more why
    → BreaksFirst (rules ++ more) why
BreaksFirst-skip [] more why kept then = then
BreaksFirst-skip (rule ∷ rules) more why kept then = inr (kept.0, BreaksFirst-skip rules more why kept.1 then)

pub BreaksFirst-stop : (rules more : List Rule) (why : Why) → BreaksFirst rules why → BreaksFirst (rules ++ more) why
BreaksFirst-stop [] more why breaks = absurd breaks
BreaksFirst-stop (rule ∷ rules) more why (inl here) = inl here
BreaksFirst-stop (rule ∷ rules) more why (inr later) = inr (later.0, BreaksFirst-stop rules more why later.1)

-- rules of which one is broken aren't kept
pub broken_not_kept : (rules : List Rule) (why : Why) → BreaksFirst rules why → ¬ (AreKept rules)
broken_not_kept [] why breaks kept = breaks
broken_not_kept (rule ∷ rules) why (inl here) kept = here.0 kept.0
broken_not_kept (rule ∷ rules) why (inr later) kept = broken_not_kept rules why later.1 kept.1

-- the rules of fields that name layers, by those of the first of them
pub layer_names-append : (names earlier fields more : List Field)
    → layer_names names earlier (fields ++ more) ≡ layer_names names earlier fields
    ++ layer_names names (earlier ++ fields) more
layer_names-append names earlier [] more =
    ap (λ (fs : List Field). layer_names names fs more) (sym (append-nil earlier))
layer_names-append names earlier (f ∷ fields) more =
    ap (λ (rs : List Rule). known_name names f ++ IsNoneOf earlier f ∷ rs)
    (layer_names-append names (earlier ++ f ∷ []) fields more
    ∙ ap (λ (fs : List Field). layer_names names (earlier ++ f ∷ []) fields ++ layer_names names fs more)
    (append_assoc earlier (f ∷ []) fields))

-- a time that is read, or none
pub judged_time : (field : Field) (o : Option ℕ) (r : Result ℕ Why)
    → MatchOption o ((t : ℕ) → ¬ (IsTime field t)) (λ t. IsTime field t × (t < TWO_DAYS))
    → r ≡ ok_or o why.BadTime → Judged (WritesTime field ∷ []) (λ t. IsTime field t) r
judged_time field None r read is = rw is (inl ((λ w. read w.0 w.1), refl))
judged_time field (Some t) r read is = rw is (((t, read.0), tt), read.0)

-- what is left of rules that are kept
AreKept-behind : (rules more : List Rule) → AreKept (rules ++ more) → AreKept more
AreKept-behind [] more kept = kept
AreKept-behind (rule ∷ rules) more kept = AreKept-behind rules more kept.1

-- there is room for a trip that keeps its rules
pub trip_room : (version : Version) (names : NameLists) (row : Row) → AreKept (trip_rules version names row)
    → length names.trips < most_in version
trip_room version names row kept =
    (AreKept-behind (layer_names names.layers [] (drop 7 row))
    (HasRoom (most_in version) names.trips ∷ []) kept.1.1.1.1.1.1.1.1.1.1).0

-- no version lets more be than there may be at all
pub most_in-≤ : (version : Version) → most_in version ≤ MAX_TRIPS
most_in-≤ One = omega arith
most_in-≤ Two = omega arith
most_in-≤ Three = omega arith
