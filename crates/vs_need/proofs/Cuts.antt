-- The prices of a layer, cut out of the table, and scratch that is kept.
use Rattle.std.proofs.Common.{◌≡◌, ℕ, ◌+◌, ◌*◌, List, length, sym, ap, ◌∙◌, subst, ℤ, arith}
use Rattle.std.specs.Prelude.{slice_range}
use Rattle.std.specs.List.{All}
use Rattle.std.proofs.lemmas.List.Elements.{All-take, All-drop}
use Rattle.vs_instance.specs.Problem.{Problem}
use Rattle.vs_match.specs.LayerGraph.{LayerGraph}
use Rattle.vs_prices.specs.declared.table.Table.{Table}
use Rattle.vs_prices.specs.Table.{IsPrice, prices_in}
use Rattle.vs_need.specs.declared.scratch.Scratch.{Scratch}
use Rattle.vs_need.specs.Room.{CanNeed, HasRoom, IsKept}
use Rattle.vs_need.specs.Suspects.{AreCut}
use Rattle.vs_need.proofs.FoundFor.{length-prices, prices-are}

pub kept-kept : (a b c : Scratch) → IsKept a b → IsKept b c → IsKept a c
kept-kept a b c first second = record {
  values = second.values ∙ first.values;
  outs = second.outs ∙ first.outs;
  nexts = second.nexts ∙ first.nexts;
  ins = second.ins ∙ first.ins;
  links = second.links ∙ first.links;
}

-- scratch that is kept has as much room
pub kept_room : (trips : ℕ) (nets nets' : List LayerGraph) (s s' : Scratch) → nets' ≡ nets → HasRoom trips nets s
    → IsKept s s' → HasRoom trips nets' s'
kept_room trips nets nets' s s' same room kept =
    let P : List LayerGraph → Type 0 = λ ns. HasRoom trips ns s' in
    subst P (sym same) (record {
      values = λ l within. omega (arith, kept.values, room.values l within);
      outs = kept.outs ∙ room.outs;
      nexts = kept.nexts ∙ room.nexts;
      ins = kept.ins ∙ room.ins;
      links = kept.links ∙ room.links;
    })

each_price : (p : Problem) (l : ℕ) (xs cut : List ℤ) → cut ≡ prices_in p l xs → All IsPrice xs → All IsPrice cut
each_price p l xs cut is each =
    let P : List ℤ → Type 0 = λ ys. All IsPrice ys in
    subst P (sym is) (All-take IsPrice _ _ (All-drop IsPrice (l * length p.trips) xs each))

pub cut_of : (p : Problem) (nets : List LayerGraph) (table : Table) (l trips : ℕ) (s : Scratch)
    (intos into froms from : List ℤ) → CanNeed p nets table l s trips → intos ≡ table.into.items
    → froms ≡ table.from.items → into ≡ slice_range intos (l * trips) (l * trips + trips)
    → from ≡ slice_range froms (l * trips) (l * trips + trips)
    → AreCut p table l into from
cut_of p nets table l trips s intos into froms from given e e' is is' =
    let fits = given.can_judge.fits in
    let into_is = is ∙ prices-are p l trips table.into.items intos given.each_trip e in
    let from_is = is' ∙ prices-are p l trips table.from.items froms given.each_trip e' in
    record {
      fits = fits;
      layer = given.layer;
      few_trips = given.can_judge.nets_are.of_layers.instance.few_trips;
      into_is = into_is;
      from_is = from_is;
      into_prices = each_price p l table.into.items into into_is fits.into;
      from_prices = each_price p l table.from.items from from_is fits.from;
      each_into = ap (λ (xs : List ℤ). length xs) into_is
          ∙ length-prices p l table.into.items given.layer fits.into_size;
      each_from = ap (λ (xs : List ℤ). length xs) from_is
          ∙ length-prices p l table.from.items given.layer fits.from_size;
    }
