-- The names that an instance text gives are names, no two of a kind the same.
use Rattle.std.proofs.Common.{◌≡◌, ℕ, ◌<◌, ◌≤◌, List, [], ◌∷◌, ◌++◌, length, sym, subst, inl, inr, arith, ◌∙◌}
use Rattle.std.proofs.lemmas.List.{get_or_default, length_push}
use Rattle.std.proofs.lemmas.List.Elements.{All-nil, All-push}
use Rattle.std.proofs.lemmas.List.Quantifiers.{all_pairs_push}
use Rattle.vs_instance.specs.Problem.{Problem}
use Rattle.vs_instance.specs.declared.limits.TheConstants.{MAX_TRIPS}
use Rattle.vs_reader.specs.declared.version.Version.{Version}
use Rattle.vs_reader.specs.InstanceText.{IsNew, Declared, nothing_yet, Adds, AddAll, instance_records}
use Rattle.vs_reader.specs.NameRules.{AreNames}
use Rattle.vs_reader.specs.Names.{IsName, NameLists}
use Rattle.vs_reader.specs.Rows.{Field, Row}
use Rattle.vs_reader.specs.Texts.{StandsFor}
use Rattle.vs_reader.proofs.CallerLemmas.{most_in-≤}

-- names of layers and of trips, no two of a kind the same
pub record HaveNames (names : NameLists) : Type 0 where
  pub layers : AreNames names.layers
  pub trips : AreNames names.trips

-- what records declare as names are names
no_names : AreNames []
no_names = record { each = All-nil IsName; apart = λ i j d before within. absurd (omega arith); few = omega arith }

one_more_name : (names : List Field) (name : Field) → AreNames names → IsNew names name → length names < MAX_TRIPS
    → AreNames (names ++ name ∷ [])
one_more_name names name are new room = record {
  each = All-push IsName names name are.each new.name;
  apart = all_pairs_push (λ f g. ¬ (f ≡ g)) names name are.apart
      (λ k d within same. new.new (k, within, get_or_default names k name d within ∙ same));
  few = let more = length_push names name in omega (arith, more, room);
}

adds_names : (version : Version) (old : Declared) (row : Row) (new : Declared) → Adds version old row new
    → HaveNames old.names → HaveNames new.names
adds_names version old row new (inl a) h =
    subst (λ (d : Declared). HaveNames d.names) (sym a.added) (record { layers = h.layers; trips = h.trips })
adds_names version old row new (inr (inl a)) h =
    subst (λ (d : Declared). HaveNames d.names) (sym a.added) (record { layers = h.layers; trips = h.trips })
adds_names version old row new (inr (inr (inl a))) h = subst (λ (d : Declared). HaveNames d.names) (sym a.added)
    (record {
      layers =
          one_more_name old.names.layers a.name h.layers a.new_name (let room = a.room in omega arith);
      trips = h.trips;
    })
adds_names version old row new (inr (inr (inr a))) h = subst (λ (d : Declared). HaveNames d.names) (sym a.added)
    (record {
      layers = h.layers;
      trips =
          one_more_name old.names.trips a.name h.trips a.new_name
          (let room = a.room in omega (arith, room, most_in-≤ version));
    })

add_all_names : (version : Version) (old : Declared) (rows : List Row) (new : Declared)
    → AddAll version old rows new → HaveNames old.names → HaveNames new.names
add_all_names version old [] new h have = subst (λ (d : Declared). HaveNames d.names) (sym h) have
add_all_names version old (row ∷ rows) new h have =
    add_all_names version h.0 rows new h.2 (adds_names version old row h.0 h.1 have)

pub instance_names : (bytes : List ℕ) (p : Problem) (names : NameLists) (before : ℕ) (rest : List Row)
    → StandsFor bytes p names before rest → HaveNames names
instance_names bytes p names before rest stands =
    let t = stands.text in
    subst HaveNames (sym t.names_are)
    (add_all_names t.version nothing_yet (instance_records stands.rows) t.declared t.declares
    (record { layers = no_names; trips = no_names }))
