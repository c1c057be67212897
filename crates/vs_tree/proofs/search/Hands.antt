-- What the workers have in hand once one of them has something else.
use Rattle.std.proofs.Common.{◌≡◌, ◌≢◌, ℕ, zero, suc, ◌+◌, ◌<◌, Bool, true, false, cond, List, [], ◌∷◌, length, set, refl, sym, ap, ◌∙◌, subst, arith, inl, inr, length-set, sum_by, count_by, filter}
use Rattle.std.proofs.lemmas.Bool.{cases_eq}
use Rattle.std.proofs.lemmas.List.{get_or-set_same, get_or-set_other}
use Rattle.std.proofs.lemmas.List.Sums.{sum_by-set}
use Rattle.vs_tree.specs.declared.calls.Hand.{Hand}
use Rattle.vs_tree.specs.declared.calls.Hand.TheVariants.{Idle, Has, Gone}
use Rattle.vs_tree.specs.History.{State, IsAmong, IsHeldBy}
use Rattle.vs_tree.specs.Search.{IsHandOf, hand_at}

-- a worker has the same leaf in two states, and is gone in both or in neither, and offered something in both or in
-- neither
pub record IsAlike (s n : State) (worker : ℕ) : Type 0 where
  pub forth : (k : ℕ) → IsHeldBy s worker k → IsHeldBy n worker k
  pub back : (k : ℕ) → IsHeldBy n worker k → IsHeldBy s worker k
  pub gone : IsAmong worker s.gone → IsAmong worker n.gone
  pub stays : IsAmong worker n.gone → IsAmong worker s.gone
  pub offered : IsAmong worker n.offered → IsAmong worker s.offered
  pub offers : IsAmong worker s.offered → IsAmong worker n.offered

hand-along : (s n : State) (worker : ℕ) (hand : Hand) → IsAlike s n worker → IsHandOf s worker hand
    → IsHandOf n worker hand
hand-along s n worker Idle alike is = (λ k held. is.0 k (alike.back k held), λ gone. is.1 (alike.stays gone))
hand-along s n worker (Has leaf true) alike is = (alike.forth leaf is.0, alike.offers is.1)
hand-along s n worker (Has leaf false) alike is =
    (alike.forth leaf is.0, λ offered. is.1 (alike.offered offered))
hand-along s n worker Gone alike is = alike.gone is

pub hands-after : (s n : State) (hands : List Hand) (worker : ℕ) (hand : Hand) → worker < length hands
    → ((w : ℕ) → w < length hands → IsHandOf s w (hand_at hands w)) → IsHandOf n worker hand
    → ((w : ℕ) → w ≢ worker → IsAlike s n w)
    → (w : ℕ) → w < length (set hands worker hand) → IsHandOf n w (hand_at (set hands worker hand) w)
hands-after s n hands worker hand inside each mine others w within =
    let size = length-set hands worker hand in
    elim (cases_eq w worker) [
      | inl same ↦
          let at : hand_at (set hands worker hand) w ≡ hand =
          ap (hand_at (set hands worker hand)) same ∙ get_or-set_same hands worker hand Gone inside in
          subst (λ (h : Hand). IsHandOf n w h) (sym at) (subst (λ (i : ℕ). IsHandOf n i hand) (sym same) mine)
      | inr apart ↦
          subst (λ (h : Hand). IsHandOf n w h) (sym (get_or-set_other hands worker w hand Gone apart))
          (hand-along s n w (hand_at hands w) (others w apart) (each w (omega (arith, within, size))))
    ]

-- what comes to all hands then
pub sum-after : (f : Hand → ℕ) (hands : List Hand) (worker : ℕ) (old hand : Hand) → worker < length hands
    → hand_at hands worker ≡ old
    → sum_by f (set hands worker hand) + f old ≡ sum_by f hands + f hand
sum-after f hands worker old hand inside was =
    let sum = sum_by-set f hands worker hand Gone inside in
    let same = ap {B = ℕ} f was in
    omega (arith, sum, same)

pub count-after : (p : Hand → Bool) (hands : List Hand) (worker : ℕ) (old hand : Hand) → worker < length hands
    → hand_at hands worker ≡ old
    → count_by p (set hands worker hand) + cond (p old) 1 0 ≡ count_by p hands + cond (p hand) 1 0
count-after p hands worker old hand inside was = sum-after (λ h. cond (p h) 1 0) hands worker old hand inside was

-- what is among those that pass a test is among all, and passes it
pub among-filter : (p : ℕ → Bool) (x : ℕ) (xs : List ℕ) → IsAmong x (filter p xs) → IsAmong x xs × (p x ≡ true)
among-filter p x [] (k, is) = absurd cc
among-filter p x (y ∷ ys) among = by_test (p y) refl among (among-filter p x ys)
  where
    by_test : (b : Bool) → p y ≡ b → IsAmong x (cond b (y ∷ filter p ys) (filter p ys))
        → (IsAmong x (filter p ys) → IsAmong x ys × (p x ≡ true)) → IsAmong x (y ∷ ys) × (p x ≡ true)
    by_test true passes (zero, is) rest =
        let same : y ≡ x = cc in
        ((0, is), ap p (sym same) ∙ passes)
    by_test true passes (suc k, is) rest = let found = rest (k, is) in ((suc found.0.0, found.0.1), found.1)
    by_test false passes among rest = let found = rest among in ((suc found.0.0, found.0.1), found.1)

-- what is among some and passes the test is among those that do
pub filter-among : (p : ℕ → Bool) (x : ℕ) (xs : List ℕ) → p x ≡ true → IsAmong x xs → IsAmong x (filter p xs)
filter-among p x [] passes (k, is) = absurd cc
filter-among p x (y ∷ ys) passes (zero, is) =
    let same : y ≡ x = cc in
    let here : p y ≡ true = ap p same ∙ passes in
    subst (λ (b : Bool). IsAmong x (cond b (y ∷ filter p ys) (filter p ys))) (sym here) (0, is)
filter-among p x (y ∷ ys) passes (suc k, is) =
    by_test (p y) (filter-among p x ys passes (k, is))
  where
    by_test : (b : Bool) → IsAmong x (filter p ys) → IsAmong x (cond b (y ∷ filter p ys) (filter p ys))
    by_test true (j, found) = (suc j, found)
    by_test false found = found

-- the hand of a worker that holds a leaf, and of one that holds none
pub idle-hand : (s : State) (worker : ℕ) (hand : Hand) → IsHandOf s worker hand → ((k : ℕ) → ¬ (IsHeldBy s worker k))
    → ¬ (IsAmong worker s.gone) → hand ≡ Idle
idle-hand s worker Idle is idle stays = refl
idle-hand s worker (Has leaf offered) is idle stays = absurd (idle leaf is.0)
idle-hand s worker Gone is idle stays = absurd (stays is)
