-- What the hands are once a worker gave its leaf back, or closed it.
use Rattle.std.proofs.Common.{◌≡◌, ◌≢◌, ℕ, ◌<◌, length, Bool, true, false, List, sym, ap, ◌∙◌, subst, inl, inr}
use Rattle.std.proofs.lemmas.Bool.{cases_eq}
use Rattle.vs_tree.specs.declared.calls.Hand.{Hand}
use Rattle.vs_tree.specs.declared.calls.Hand.TheVariants.{Idle, Has, Gone}
use Rattle.vs_tree.specs.declared.spot.Spot.TheVariants.{Held}
use Rattle.vs_tree.specs.History.{State, IsAmong, IsHeldBy, spot_at}
use Rattle.vs_tree.specs.Search.{IsHandOf, IsSearch, Parts, hand_at}
use Rattle.vs_tree.specs.History.{Opening, state_of}
use Rattle.vs_tree.specs.Sound.{IsSound}
use Rattle.vs_tree.proofs.search.Facts.{is_sound}
use Rattle.vs_tree.proofs.search.Hands.{IsAlike}

-- the hand of a worker that holds a leaf has it
has-hand : (o : Opening) (s : State) (sound : IsSound o s) (worker leaf : ℕ) (hand : Hand) → IsHeldBy s worker leaf
    → IsHandOf s worker hand → (offered : Bool) × (hand ≡ Has leaf offered)
has-hand o s sound worker leaf Idle held is = absurd (is.0 leaf held)
has-hand o s sound worker leaf (Has other offered) held is =
    (offered, ap (λ (k : ℕ). Has k offered) (sound.one_leaf worker other leaf is.0 held))
has-hand o s sound worker leaf Gone held is = absurd (sound.gone worker leaf is held)

module _ (o : Opening) (a : Parts) (is : IsSearch o a) (worker leaf : ℕ)
    (held : IsHeldBy (state_of o a.log.steps) worker leaf)
  where
    pub worker_inside : worker < length a.hands
    worker_inside = is.parts.workers_hold worker leaf held

    pub hand_has : (offered : Bool) × (hand_at a.hands worker ≡ Has leaf offered)
    hand_has =
        has-hand o (state_of o a.log.steps) (is_sound o a is) worker leaf (hand_at a.hands worker) held
        (is.parts.hands worker worker_inside)

-- where one leaf that a worker held is another spot that is not held, the others have what they had
pub alike-others : (s n : State) (worker leaf : ℕ) → IsHeldBy s worker leaf
    → ((j : ℕ) → j ≢ leaf → spot_at n j ≡ spot_at s j)
    → ((w k : ℕ) → IsHeldBy n w k → IsHeldBy s w k)
    → ((w : ℕ) → w ≢ worker → IsAmong w s.gone → IsAmong w n.gone)
    → ((w : ℕ) → w ≢ worker → IsAmong w n.gone → IsAmong w s.gone)
    → n.offered ≡ s.offered → (w : ℕ) → w ≢ worker → IsAlike s n w
alike-others s n worker leaf mine elsewhere before gone stays offers w apart = record {
  forth = λ k held. elim (cases_eq k leaf) [
    | inl same ↦
        let at : Held worker mine.0 ≡ Held w held.0 = sym mine.1 ∙ ap (spot_at s) (sym same) ∙ held.1 in
        let alike : w ≡ worker = cc in
        absurd (apart alike)
    | inr other ↦ (held.0, elsewhere k other ∙ held.1)
  ];
  back = λ k held. before w k held;
  gone = gone w apart;
  stays = stays w apart;
  offered = λ among. subst (λ (x : List ℕ). IsAmong w x) offers among;
  offers = λ among. subst (λ (x : List ℕ). IsAmong w x) (sym offers) among;
}

pub has-leaf : (j k : ℕ) (x y : Bool) → Has j x ≡ Has k y → j ≡ k
has-leaf j k x y same = ap leaf_in same
  where
    leaf_in : Hand → ℕ
    leaf_in Idle = 0
    leaf_in (Has leaf offered) = leaf
    leaf_in Gone = 0

-- a worker that has offered nothing since it took its leaf has it so in hand
pub new-hand : (o : Opening) (s : State) (sound : IsSound o s) (worker leaf : ℕ) (hand : Hand) → IsHeldBy s worker leaf
    → ¬ (IsAmong worker s.offered) → IsHandOf s worker hand → hand ≡ Has leaf false
new-hand o s sound worker leaf Idle held new is = absurd (is.0 leaf held)
new-hand o s sound worker leaf (Has other true) held new is = absurd (new is.1)
new-hand o s sound worker leaf (Has other false) held new is =
    ap (λ (k : ℕ). Has k false) (sound.one_leaf worker other leaf is.0 held)
new-hand o s sound worker leaf Gone held new is = absurd (sound.gone worker leaf is held)
