use Rattle.std.proofs.Common.{◌≡◌, ap, sym, ◌∙◌, arith, w64, length, map, Some, ℤ, to_z, of_z}
use Rattle.std.specs.Prelude.{unwrap_or, pos}
use Rattle.std.proofs.lemmas.Bool.{false≢true}
use Rattle.std.proofs.lemmas.Int.{to_z-of_z}
use Rattle.vs_types.specs.LayerSet.{members}
use Rattle.vs_connect.specs.Cost.{lesser_of}
use Rattle.vs_prices.specs.Worth.{trip_price}
use Rattle.vs_prices.proofs.SetPrices.{prices_below, prices_below-yes, prices_below-no, prices_below-all}
use Rattle.vs_prices.proofs.RunningTotals.{minimum, lesser_step, unwrap_or-minimum}
use Rattle.vs_prices.proofs.table_worth.least_price.Goals as goal
use Rattle.vs_prices.proofs.table_worth.least_price.Goals.{then-has, else-has}

pub loop-l-preserved : goal.loop-l-preserved
loop-l-preserved c =
    let p = c.args.instance.now in
    let table = c.args.table.now in
    let i = c.args.i.0 in
    let set = c.args.set in
    let inv = c.loop-l.invariant in
    elim c.if-has.branch [
      | then-has w ↦
          let price = w.trip_price-price.ensures in
          let paid = w.trip_price-price.result in
          let passed : to_z w64 (of_z w64 paid) ≡ paid = to_z-of_z w64 paid
          (record { sfits = w.trip_price-price.type_inv }) in
          let least_is = w.least-is ∙ (w.lesser-least.ensures ∙ ap
          (λ (x : ℤ). lesser_of c.loop-l.least (Some x)) passed) in
          let step =
          lesser_step (prices_below p table i set c.loop-l.l) c.loop-l.least c.if-has.least paid
          (trip_price p table i c.loop-l.l) inv.value price.value inv.limits price.low price.high least_is in
          record {
            value =
                step.0 ∙ ap minimum
                (sym (prices_below-yes p table i set c.loop-l.l (c.has.ensures.0 w.if-has.true)));
            limits = step.1;
          }
      | else-has w ↦
          record {
            value = w.least-is ∙ (inv.value ∙ ap minimum (sym (prices_below-no p table i set c.loop-l.l
                (λ has. false≢true (sym w.if-has.false ∙ c.has.ensures.1 has)))));
            limits = rw w.least-is inv.limits;
          }
    ]

pub returns-clause-value : goal.returns-clause-value
returns-clause-value c =
    let p = c.args.instance.now in
    let table = c.args.table.now in
    let i = c.args.i.0 in
    let set = c.args.set in
    let inv = c.loop-l.invariant in
    let few = c.layers-l-end.ensures.instance.few_layers in
    let full : c.loop-l.l ≡ length p.layers =
    omega (arith, c.layers-l-end.ensures.count, c.loop-l.auto.l-end, c.loop-l-test.false) in
    let all =
    ap (prices_below p table i set) full ∙ prices_below-all p table i set (length p.layers) few c.requires.set in
    to_z-of_z w64 c.unwrap_or.result (record { sfits = c.unwrap_or.type_inv })
    ∙ (c.unwrap_or.ensures ∙ (ap (λ o. unwrap_or o (pos 0)) (inv.value ∙ ap minimum all)
    ∙ unwrap_or-minimum (map (trip_price p table i) (members set))))
