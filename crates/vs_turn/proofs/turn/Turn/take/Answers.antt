use Rattle.std.proofs.Common.{rules, ap, ◌∙◌, ◌+◌, sym, length, arith}
use Rattle.vs_turn.specs.Tickets.{lowest}
use Rattle.vs_turn.proofs.Taking.{takes_turn}
use Rattle.vs_turn.proofs.turn.Turn.take.Goals as goal

pub compare_exchange-found-requires : goal.compare_exchange-found-requires
compare_exchange-found-requires g c =
    let e = c.loop.invariant.2 in
    let numbers = ap (λ m. m.0.tickets) e in (
      c.loop.invariant.0 ∙ c.requires.table ∙ search rules,
      search rules,
      takes_turn g.S.Kept.opening g.S.Kept.entries _ c.self.inside.table.shared.table_id.slots c.loop.place.id
          c.loop.place.me c.args.mark
          (ap (λ m. m.0.has_turn) e ∙ c.requires.rests.0)
          (let l = ap length numbers in let s = c.requires.rests.1 in omega arith)
          (c.requires.mark ∙ sym (ap (λ t. 1 + lowest t) numbers)),
    )
