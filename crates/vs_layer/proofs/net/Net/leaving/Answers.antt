use Rattle.std.proofs.Common.{◌<◌, List, [], ℕ, length, get_or, ap, ◌∙◌, arith}
use Rattle.vs_layer.specs.declared.arc.End.TheVariants.{From}
use Rattle.vs_layer.specs.Graph.{Graph, leaving}
use Rattle.vs_layer.proofs.Placed.{length-star_of, get_or-star_of}
use Rattle.vs_layer.proofs.net.Net.leaving.Goals as goal

pub group-requires : goal.group-requires
group-requires c =
    let i = c.self.inside in
    omega (
      arith,
      c.requires,
      ap (λ (g : Graph). g.nodes) c.self.view_is,
      ap length c.self.invariant.leaves,
      length-star_of From i.nodes i.arcs.items,
    )

pub returns : goal.returns
returns c =
    let i = c.self.inside in
    let within : c.args.node < i.nodes = omega (arith, c.requires, ap (λ (g : Graph). g.nodes) c.self.view_is) in
    c.group.ensures
    ∙ ap (λ (gs : List (List ℕ)). get_or gs c.args.node []) c.self.invariant.leaves
    ∙ get_or-star_of From i.nodes i.arcs.items c.args.node [] within
    ∙ ap (λ (g : Graph). leaving g c.args.node) c.self.view_is
