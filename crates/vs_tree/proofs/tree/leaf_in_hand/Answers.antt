use Rattle.std.proofs.Common.{◌≡◌, ◌∙◌, ℕ, Bool, true, sym, refl}
use Rattle.std.proofs.lemmas.List.{get_or_default}
use Rattle.vs_tree.specs.declared.calls.Hand.{Hand}
use Rattle.vs_tree.specs.declared.calls.Hand.TheVariants.{Idle, Has, Gone}
use Rattle.vs_tree.specs.Search.{hand_at, is_busy}
use Rattle.vs_tree.proofs.tree.leaf_in_hand.Goals as goal

busy-has : (hand : Hand) → is_busy hand ≡ true → ((x : ℕ) → (y : Bool) → hand ≡ Has x y → ⊥) → ⊥
busy-has Idle busy none = cc
busy-has (Has leaf offered) busy none = none leaf offered refl
busy-has Gone busy none = cc

pub unreachable-requires : goal.unreachable-requires
unreachable-requires c =
    busy-has (hand_at c.args.hands.now c.args.w) c.requires.has
    (λ x y is. c.in_default.not-Has x y (get_or_default c.args.hands.now c.args.w _ Gone c.requires.worker ∙ is))

pub returns : goal.returns
returns c =
    (c.in-Has.offered, sym (get_or_default c.args.hands.now c.args.w _ Gone c.requires.worker) ∙ c.in-Has.is)
