use Rattle.std.proofs.Common.{◌≡◌, ℕ, ◌+◌, ◌*◌, ◌<◌, List, length, length-set, set, sym, ap, ◌∙◌, subst, arith, w64, ℤ, pos, to_z, of_z}
use Rattle.std.specs.List.{All}
use Rattle.std.proofs.lemmas.List.Elements.{All-set}
use Rattle.vs_instance.specs.HoldingTable.{price_of}
use Rattle.vs_prices.specs.Table.{IsPrice}
use Rattle.vs_resume.specs.Widened.{IsSettled, place_of}
use Rattle.vs_resume.proofs.WidenedPrices.{later_kept, more_settled, others_kept}
use Rattle.vs_types.proofs.CallerLemmas.{row_inside}
use Rattle.vs_resume.proofs.widening.widen_layer.Goals as goal
use Rattle.vs_rows.proofs.CallerLemmas.{as_word}

pub loop-i-preserved : goal.loop-i-preserved
loop-i-preserved c =
    let p = c.args.instance.now in
    let sets = c.args.sets.now in
    let l = c.args.l.0 in
    let i = c.loop-i.i in
    let price = to_z w64 (of_z w64 c.args.price) in
    let x = c.settled.result in
    let first = c.args.prices.now in
    let now = c.loop-i.prices in
    let inv = c.loop-i.invariant in
    let is = c.settled.ensures in
    let count = c.trips-trips.ensures.count in
    let within : i < length p.trips = subst (λ (n : ℕ). i < n) count c.loop-i-test.true in
    let place : l * c.trips-trips.result + i ≡ place_of p l i = ap (λ (n : ℕ). l * n + i) count in
    let inside : place_of p l i < length now =
    omega (
      arith,
      row_inside (length p.trips) l (length p.layers) c.requires.layer,
      within,
      inv.size,
      c.requires.size,
    ) in
    let written : set now (l * c.trips-trips.result + i) (to_z w64 (of_z w64 x)) ≡ set now (place_of p l i) x =
    ap (λ (n : ℕ). set now n (to_z w64 (of_z w64 x))) place
    ∙ ap (λ (y : ℤ). set now (place_of p l i) y) (as_word x is.price) in
    let own : price_of now (place_of p l i) ≡ price_of first (place_of p l i) = inv.after i (omega arith) in
    let here : IsSettled p sets l i price (price_of first (place_of p l i)) x =
    record {
      left_out = λ out.
          let given = is.settled.left_out out in
          let bits = as_word c.args.price c.requires.price in
          cc;
      kept = λ stays.
          let given = is.settled.kept stays in
          let bits = as_word (price_of now (place_of p l i)) (inv.prices (place_of p l i) (pos 0) inside) in
          cc;
    } in
    record {
      size = ap (λ (xs : List ℤ). length xs) written ∙ length-set now (place_of p l i) x ∙ inv.size;
      prices = subst (λ (xs : List ℤ). All IsPrice xs) (sym written)
          (All-set IsPrice now (place_of p l i) x is.price inv.prices);
      before = λ j below.
          subst (λ (xs : List ℤ). IsSettled p sets l j price (price_of first (place_of p l j))
          (price_of xs (place_of p l j))) (sym written)
          (more_settled p sets l i price x first now inside inv.before here j below);
      after = λ j later.
          ap (λ (xs : List ℤ). price_of xs (place_of p l j)) written
          ∙ later_kept p sets l i price x first now inv.after j later;
      others = λ k j other below.
          ap (λ (xs : List ℤ). price_of xs (place_of p k j)) written
          ∙ others_kept p sets l i price x first now within inv.others k j other below;
    }
