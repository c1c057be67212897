use Rattle.std.proofs.Common.{◌≡◌, ◌<◌, ◌≤◌, ◌^◌, List, [], ◌∷◌, length, sym, ap, ◌∙◌, subst, rules, arith}
use Rattle.std.specs.Prelude.{Option, Some}
use Rattle.atomic_table.specs.Table.{Me, opening}
use Rattle.vs_turn.specs.declared.seat.View.{View}
use Rattle.vs_turn.specs.Calls.{calls_of}
use Rattle.vs_turn.specs.Rule.{origin, IsRuled}
use Rattle.vs_turn.specs.Steps.{first_view}
use Rattle.vs_turn.specs.Tickets.{RiseFrom}
use Rattle.vs_turn.proofs.TicketLists.{length-tickets_from, tickets_from-rise}
use Rattle.vs_turn.proofs.Opening.{opens}
use Rattle.vs_turn.proofs.AtRest.{knows_calls}
use Rattle.vs_turn.proofs.CallLists.{calls_of-none}
use Rattle.vs_turn.proofs.turn.Turn.new.Goals as goal
use Rattle.vs_turn.proofs.turn.Turn.new.Goals.{After-into_badge-badge}

pub new-requires : goal.new-requires
new-requires g c =
    let o = g.S.Kept.opening in let e = g.S.Kept.entries in let x = c.of.result.value in let n = c.args.seats in
    let few : n < 2 ^ 32 = search rules in
    subst (λ (items : List (Option g.row.S.Denot)). IsRuled o e (origin o e x n)
    (opening (0 ∷ []) items (first_view (o x) (e x) n)))
    (ap (λ (y : g.row.S.Denot). Some y ∷ []) c.of.ensures ∙ sym c.in-Ok-row_of.ensures.ok) (opens o e x n few)

pub invariant_of-result-in-Ok-new : goal.invariant_of-result-in-Ok-new
invariant_of-result-in-Ok-new g c =
    let n = c.args.seats in
    let is = c.in-Ok.ensures in
    let o = g.S.Kept.opening in let e = g.S.Kept.entries in let x = c.of.result.value in
    let first = c.in-Ok-new.ensures.ok.4 in
    record {
      view = c.in-Ok-new.place.me.0;
      one = search rules;
      at_rest = search rules;
      numbers = search rules;
      some_ticket = let l = ap length is ∙ length-tickets_from 0 n in omega arith;
      few = let l = ap length is ∙ length-tickets_from 0 n in let few : n < 2 ^ 32 = search rules in omega arith;
      begun = subst (λ (m : Me (Option g.row.S.Denot) View). m.0.since ≤ length m.0.seen) (sym first) (omega arith);
      mine = subst (λ (m : Me (Option g.row.S.Denot) View). calls_of m.0.tickets m.0.since m.0.seen ≡ m.0.mine)
          (sym first) (calls_of-none _ (e x));
      rise = subst (RiseFrom 0) (sym is) (tickets_from-rise 0 n);
    }

pub returns-in-Ok-new-clause-knows : goal.returns-in-Ok-new-clause-knows
returns-in-Ok-new-clause-knows g c =
    knows_calls _ _ _ (invariant_of-result-in-Ok-new g
    (goal.at.returns-in-Ok-new-clause-knows g c).After-into_badge-badge)
