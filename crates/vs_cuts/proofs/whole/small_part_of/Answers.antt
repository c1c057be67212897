use Rattle.std.proofs.Common.{◌^◌, arith}
use Rattle.std.proofs.lemmas.Int.{to_z-of_z, fits_signed_from_abs}
use Rattle.vs_cuts.proofs.Parts.{part_near, product_near}
use Rattle.vs_cuts.proofs.whole.small_part_of.Goals as goal

pub returns : goal.returns
returns c =
    grind (
      arith,
      to_z-of_z,
      part_near c.args.number c.args.parts c.requires.parts,
      product_near c.args.number c.args.parts (2 ^ 42) c.requires.parts c.requires.number,
      fits_signed_from_abs,
    )
