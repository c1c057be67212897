-- What units leave at the nodes of a net.
use Rattle.std.specs.Prelude.{◌≡◌, ℕ, List, length, set, ℤ, pos, ◌+ℤ◌, ◌-ℤ◌}
use Rattle.vs_layer.specs.declared.arc.Arc.{Arc}
use Rattle.vs_layer.specs.Graph.{Graph}
use Rattle.vs_instance.specs.Lagrangian.{total}
use Rattle.vs_path.specs.Residual.{price_at}
use Rattle.vs_ship.specs.Balance.{gained, weighed}

-- nothing anywhere
abbrev pub AreNone : List ℤ → Type 0
AreNone numbers = (i : ℕ) → price_at numbers i ≡ pos 0

-- the surplus once so many units went along an arc
abbrev pub passed_along : List ℤ → Arc → ℕ → List ℤ
passed_along surplus a n =
    let left : List ℤ = set surplus a.from (price_at surplus a.from -ℤ pos n) in
    set left a.to (price_at left a.to +ℤ pos n)

-- what the units leave at the nodes, where nothing was supplied
pub record IsLeftBy (g : Graph) (units : List ℕ) (surplus : List ℤ) : Type 0 where
  pub each_node : length surplus ≡ g.nodes
  pub balanced : (weight : ℕ → ℤ) → weighed weight surplus ≡ gained weight g.arcs units
  pub even : total surplus ≡ pos 0
