use Rattle.std.proofs.Common.{◌≡◌, ◌∙◌, ℕ, ap, sym}
use Rattle.std.proofs.lemmas.Bool.{false≢true}
use Rattle.vs_tree.specs.Calls.{with_step}
use Rattle.vs_tree.specs.History.{GaveBack}
use Rattle.vs_tree.proofs.CallerLemmas.{histories_are_sound}
use Rattle.vs_replay.proofs.MadeSteps.{is_made, not_made}
use Rattle.vs_replay.proofs.steps.give_back.Goals as goal

pub give_back-requires : goal.give_back-requires
give_back-requires c = (c.args.leaf, c.holds.ensures.0 c.if-not-holds.false)

pub returns-then-not-holds : goal.returns-then-not-holds
returns-then-not-holds c =
    not_made c.args.tree.now c.args.tree.now (GaveBack c.args.w c.args.leaf)
    (λ held. false≢true (sym c.if-not-holds.true ∙ c.holds.ensures.1 held))

pub returns : goal.returns
returns c =
    let t = c.args.tree.now in
    let known = c.instance-instance.ensures in
    let sound = histories_are_sound t.opening t.steps known.opening known.history in
    let held = c.holds.ensures.0 c.if-not-holds.false in
    let gives = c.give_back.ensures in
    let same : gives.leaf ≡ c.args.leaf = sound.one_leaf c.args.w gives.leaf c.args.leaf gives.held held in
    is_made t c.give_back.new.self (GaveBack c.args.w c.args.leaf) held
    (gives.adds ∙ ap (λ (k : ℕ). with_step t (GaveBack c.args.w k)) same)
