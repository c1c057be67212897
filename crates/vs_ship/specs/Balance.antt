-- What lies at the nodes of a net, and how it came there.
use Rattle.std.specs.Prelude.{◌≡◌, ℕ, List, [], ◌∷◌, length, map, ℤ, pos, ◌+ℤ◌, ◌-ℤ◌, ◌*ℤ◌}
use Rattle.std.specs.List.{range_with_len}
use Rattle.vs_layer.specs.declared.arc.Arc.{Arc}
use Rattle.vs_layer.specs.Ends.{arc_at}
use Rattle.vs_layer.specs.Graph.{Graph}
use Rattle.vs_instance.specs.Lagrangian.{total}
use Rattle.vs_path.specs.Residual.{price_at}
use Rattle.vs_queue.specs.declared.step.Step.{Step}
use Rattle.vs_queue.specs.declared.step.Step.TheVariants.{Forward, Back}

-- the numbers at the nodes, each times the weight of its node, added up
abbrev pub weighed : (ℕ → ℤ) → List ℤ → ℤ
weighed weight numbers = total (map (λ v. weight v *ℤ price_at numbers v) (range_with_len 0 (length numbers)))

-- the weight that the units gain on their ways along the arcs
abbrev pub gained : (ℕ → ℤ) → List Arc → List ℕ → ℤ
gained weight [] units = pos 0
gained weight (a ∷ arcs) [] = pos 0
gained weight (a ∷ arcs) (n ∷ units) = ((weight a.to -ℤ weight a.from) *ℤ pos n) +ℤ gained weight arcs units

-- What is left at the nodes is what was supplied to them, and what came along arcs less what went. It is said of all
-- weights at once: with the weight 1 at one node and 0 elsewhere it speaks of that node, with the prices of the nodes
-- of what the units are worth.
abbrev pub IsBalanced : Graph → List ℤ → List ℕ → List ℤ → Type 0
IsBalanced g supply units surplus =
    (weight : ℕ → ℤ) → weighed weight surplus ≡ weighed weight supply +ℤ gained weight g.arcs units

-- the weight that a unit gains by a step
abbrev pub step_gain : (ℕ → ℤ) → List Arc → Step → ℤ
step_gain weight arcs (Forward k) = weight (arc_at arcs k).to -ℤ weight (arc_at arcs k).from
step_gain weight arcs (Back k) = weight (arc_at arcs k).from -ℤ weight (arc_at arcs k).to

abbrev pub steps_gain : (ℕ → ℤ) → List Arc → List Step → ℤ
steps_gain weight arcs path = total (map (step_gain weight arcs) path)
