use Rattle.std.proofs.Common.{◌≡◌, ◌∙◌, ap, arith, rules, ℕ, ◌-◌, ◌*◌, Option, None, drop, replicate}
use Rattle.std.proofs.lemmas.List.{drop-replicate}
use Rattle.vs_tree.specs.declared.entry.Entry.{Entry}
use Rattle.vs_tree.proofs.free_leaves.FreeLeaves.new.Goals as goal

pub returns : goal.returns
returns c =
    let n = c.args.count in
    let rest : 2 * n - n ≡ n = omega arith in
    let none : Option Entry = None in
    ap (drop n) (c.in_ok-entries.ensures.items_if_clones_equal (search rules)) ∙ drop-replicate n (2 * n) none
    ∙ ap (λ (k : ℕ). replicate k none) rest
