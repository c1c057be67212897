use Rattle.std.proofs.Common.{ap, ◌∙◌, sym, rules, ◌∷◌}
use Rattle.std.specs.Prelude.{Some}
use Rattle.atomic_table.specs.Table.{rest}
use Rattle.vs_turn.proofs.turn.Turn.take_out.Goals as goal

pub exchange-requires : goal.exchange-requires
exchange-requires g c = let s = c.requires.slot in (
  search rules,
  (Some s.0, s.1 ∙ ap (λ l. (0, Some s.0) ∷ l) (sym (ap rest s.1))),
)
