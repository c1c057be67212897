use Rattle.std.proofs.Common.{◌∙◌, sym, ap, w64}
use Rattle.std.proofs.lemmas.Int.{to_z-of_z}
use Rattle.vs_path.specs.Raising.{rise_of}
use Rattle.vs_path.proofs.raising.rise_of.Goals as goal

-- a node that isn't settled rises by all
pub returns-in-None : goal.returns-in-None
returns-in-None c =
    to_z-of_z w64 c.args.rise c.ranges.rise ∙ sym (ap (λ settled. rise_of settled c.args.rise) c.in-None.is)
