-- How a shared search is stored, so that a proof can tell two apart.
use Rattle.std.specs.Prelude.{ℕ, refl}
use Rattle.std.specs.Coded.{Coded, code_by, coded×, coded_ℕ}
use Rattle.vs_tree.specs.Codes.{coded_search}
use Rattle.vs_tree.specs.Search.{Search}
use Rattle.vs_crew.specs.Sharing.{Shared}

abbrev pub coded_shared : Coded Shared
coded_shared =
    code_by (ℕ × Search) (coded× coded_ℕ coded_search) (λ a. (a.before, a.search))
    (λ c. record { before = c.0; search = c.1 }) (λ _. refl)
