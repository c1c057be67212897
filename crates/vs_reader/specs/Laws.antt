-- What holds of instance texts.
use Rattle.std.specs.Prelude.{◌≡◌, ℕ, List}
use Rattle.vs_instance.specs.Problem.{Problem}
use Rattle.vs_reader.specs.declared.refused.Refused.{Refused}
use Rattle.vs_reader.specs.Rows.{Row}
use Rattle.vs_reader.specs.Names.{NameLists}
use Rattle.vs_reader.specs.Texts.{IsRefused, StandsFor}

-- a text that stands for an instance isn't refused
abbrev pub InstanceTextsAreNotRefused : Type 0
InstanceTextsAreNotRefused = (bytes : List ℕ) (p : Problem) (names : NameLists) (before : ℕ) (rest : List Row)
    (refused : Refused) → StandsFor bytes p names before rest → ¬ (IsRefused bytes refused)

-- what a text stands for is one instance with its names, one number of rows before the first `result` record, and one
-- list of the rows from there on
abbrev pub TextsStandForOneInstance : Type 0
TextsStandForOneInstance = (bytes : List ℕ) (p q : Problem) (names others : NameLists) (before until : ℕ)
    (rest more : List Row) → StandsFor bytes p names before rest → StandsFor bytes q others until more
    → (q ≡ p) × (others ≡ names) × (until ≡ before) × (more ≡ rest)
