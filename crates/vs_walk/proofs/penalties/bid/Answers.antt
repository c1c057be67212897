use Rattle.std.proofs.Common.{◌≡◌, ℤ, arith, pos, subst, sym, to_z, of_z, w64}
use Rattle.std.proofs.lemmas.Int.{ints, to_z-of_z}
use Rattle.vs_instance.specs.Dearest.{most_multiplier}
use Rattle.vs_walk.specs.Penalties.{IsBid, IsBidBeside}
use Rattle.vs_walk.proofs.penalties.bid.Goals as goal

pub returns-then-has : goal.returns-then-has
returns-then-has c =
    let within = c.offer.ensures.within in
    let same : to_z w64 (of_z w64 c.offer.result) ≡ c.offer.result = omega (arith, ints, within.0, within.1) in
    subst (IsBid c.args.trips c.args.permitted c.args.l.0 c.args.multiplier c.args.rate c.args.runs) (sym same)
    (record {
      may = c.has.ensures.0 c.if-has.true;
      within = within;
      others = c.without.result;
      but = c.without.ensures;
      beside = subst
          (λ (z : ℤ). IsBidBeside (pos (most_multiplier c.args.trips)) z c.args.rate c.without.result c.offer.result)
          (to_z-of_z w64 c.args.multiplier c.ranges.multiplier) c.offer.ensures.bid;
    })
