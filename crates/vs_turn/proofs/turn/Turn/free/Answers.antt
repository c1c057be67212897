use Rattle.std.proofs.Common.{rules, ◌<◌, ℕ, List, sym, subst, arith}
use mathlib.Core.Option.{none}
use Rattle.std.specs.Prelude.{Option}
use Rattle.atomic_table.specs.Table.{step, Allows}
use Rattle.vs_turn.specs.Rule.{origin, IsRuled}
use Rattle.vs_turn.specs.Steps.{Freed}
use Rattle.vs_turn.proofs.Freeing.{frees}
use Rattle.vs_turn.proofs.turn.Turn.free.Goals as goal

pub store-requires : goal.store-requires
store-requires g c =
    let open' = g.S.Kept.opening in
    let entries = g.S.Kept.entries in
    let key = c.self.inside.table.shared.key in
    let slots = c.self.inside.table.shared.table_id.slots in
    let me = c.args.place.now.me in
    let back = c.requires.back in
    let slot : 0 < slots = let e = c.self.invariant.1 in omega arith in (
      search rules,
      search rules,
      subst (λ (xs : List (ℕ × Option g.row.S.Denot)). Allows
          (IsRuled open' entries (origin open' entries key.value.value key.seats)) slots c.args.place.now.id (
            me.0,
            xs,
          ) 0 (λ _. 0)
          (λ _. Freed entries (step slots 0 0 0 none) (me.0, xs) 0)) (sym back.slot)
          (frees open' entries (origin open' entries key.value.value key.seats)
          slots c.args.place.now.id me.0 back.value slot c.requires.held.1 c.requires.held.0 back.opening
          back.entries),
    )
