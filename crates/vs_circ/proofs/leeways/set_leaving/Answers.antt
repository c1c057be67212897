use Rattle.std.proofs.Common.{◌≡◌, ℕ, List, length, replicate, ◌∙◌, ap, sym, subst, rules, false}
use Rattle.vs_circ.specs.declared.leeways.Side.TheVariants.{Leaving}
use Rattle.vs_circ.specs.node_prices.Leeways.{AreLeeways}
use Rattle.vs_circ.proofs.prices.Passes.{no-leeways}
use Rattle.vs_circ.proofs.leeways.set_leaving.Goals as goal

pub pass_against-requires-clause-old : goal.pass_against-requires-clause-old
pass_against-requires-clause-old c =
    let n = c.args.net.now in
    let prices = c.args.prices.now in
    let zeros : c.fill.new.self ≡ replicate (length prices) 0 =
    c.fill.ensures.after (search rules) ∙ ap (λ (k : ℕ). replicate k 0) c.requires.size in
    subst (λ (xs : List ℕ). AreLeeways n false Leaving prices xs) (sym zeros)
    (no-leeways n false Leaving prices (length prices) c.requires.prices.each_node c.requires.prices.moves)
