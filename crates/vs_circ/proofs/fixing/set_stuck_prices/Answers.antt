use Rattle.std.proofs.Common.{◌≡◌, ◌<◌, ◌∙◌, ℕ, length, get_or, set, pos, neg_ℤ, sym, ap, inl, inr, arith}
use Rattle.std.proofs.lemmas.Bool.{cases_eq}
use Rattle.std.proofs.lemmas.List.{get_or-set_same, get_or-set_other}
use Rattle.vs_path.specs.Residual.{price_at}
use Rattle.vs_circ.proofs.fixing.set_stuck_prices.Goals as goal

pub loop-i-preserved : goal.loop-i-preserved
loop-i-preserved c =
    let prices = c.loop-i.prices in
    let nodes = c.args.stuck.now in
    let i = c.loop-i.i in
    let node = get_or nodes i 0 in
    let inside : node < length prices =
    omega (arith, c.requires i c.loop-i-test.true, c.loop-i.auto.prices, c.clear.auto.numbers) in
    record {
      stuck = λ j below. elim (cases_eq (get_or nodes j 0) node) [
        | inl same ↦
            ap (λ (v : ℕ). price_at (set prices node (neg_ℤ (pos 1))) v) same
            ∙ get_or-set_same prices node (neg_ℤ (pos 1)) (pos 0) inside
        | inr other ↦
            let before : price_at prices (get_or nodes j 0) ≡ neg_ℤ (pos 1) = elim (cases_eq j i) [
              | inl last ↦ absurd (other (ap (λ (k : ℕ). get_or nodes k 0) last))
              | inr earlier ↦ c.loop-i.invariant.stuck j (omega (arith, below, earlier))
            ] in
            get_or-set_other prices node (get_or nodes j 0) (neg_ℤ (pos 1)) (pos 0) other ∙ before
      ];
      others = λ v none.
          get_or-set_other prices node v (neg_ℤ (pos 1)) (pos 0) (λ is. none i (omega arith) (sym is))
          ∙ c.loop-i.invariant.others v (λ j below. none j (omega (arith, below)));
    }
