use Rattle.std.proofs.Common.{ℕ, ℤ, rules, w64, SFits, pos}
use Rattle.std.proofs.lemmas.Int.{to_z-of_z}
use Rattle.vs_circ.specs.node_prices.PriceTables.{IsEntry}
use Rattle.vs_types.proofs.CallerLemmas.{pushed-more}
use Rattle.vs_circ.proofs.price_tables.entries.Goals as goal

pub loop-i-preserved : goal.loop-i-preserved
loop-i-preserved c =
    let fits : SFits w64 c.entry_of.result = search rules in
    pushed-more (pos 0) (λ (i : ℕ) (z : ℤ). IsEntry c.args.net.now c.args.side c.args.prices.now c.args.leeways.now i z)
    c.loop-i.entries.items c.push.new.self.items c.loop-i.i c.entry_of.result
    (simp to_z-of_z at c.in_ok-push.ensures.items) c.loop-i.invariant c.entry_of.ensures
