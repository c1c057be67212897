use Rattle.std.proofs.Common.{◌∙◌, List, Option, Some, length, ap, sym, subst, ℤ}
use Rattle.vs_instance.specs.Pieces.{link_piece}
use Rattle.vs_need.specs.declared.judging.Suspect.{Suspect}
use Rattle.vs_need.specs.Needs.{AreWorths}
use Rattle.vs_need.specs.Suspects.{IsFirstOf, trips_breaks}
use Rattle.vs_need.proofs.Cuts.{cut_of}
use Rattle.vs_need.proofs.judging.broken_move.Goals as goal

pub first_link-requires : goal.first_link-requires
first_link-requires g c =
    let given = c.requires.1 in
    let P : Suspect → Type 0 =
    λ s. IsFirstOf g.p c.args.table.now c.args.l.0 (trips_breaks g.p c.args.table.now c.args.l.0) (Some s) in
    let is = subst P c.in-Link.is c.in-Some.ensures in
    let Q : List (Option ℤ) → Type 0 =
    λ found. AreWorths g.p c.args.l.0 c.args.table.now.ray (link_piece g.p c.args.l.0 c.in-Link.i.0) found in
    let room = given.can_judge.room.links in
    let first = c.find_outs.ensures.kept.links in
    let second = c.find_nexts.ensures.kept.links in
    let third = c.find_ins.ensures.kept.links in
    let fourth = c.find_links.ensures.kept.links in
    record {
      prices =
          cut_of g.p (g.N.ArcReader.nets c.args.nets.now) c.args.table.now c.args.l.0 c.args.trips c.args.scratch.now
          c.deref-all_into.result.now c.layer_prices-into.result.now c.deref-all_from.result.now
          c.layer_prices-from.result.now given
          c.deref-all_into.ensures.value c.deref-all_from.ensures.value c.layer_prices-into.ensures
          c.layer_prices-from.ensures;
      may_run = is.0;
      known = subst Q (sym c.deref-links.ensures.value) (c.find_links.ensures.found is.0);
      each_trip =
          ap (λ (found : List (Option ℤ)). length found) c.deref-links.ensures.value ∙ fourth ∙ third ∙ second ∙ first
          ∙ room;
    }
