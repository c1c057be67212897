-- How many leaves turns lead to.
use Rattle.std.proofs.Common.{◌≡◌, ◌≢◌, ℕ, ◌+◌, ◌-◌, ◌*◌, ◌<◌, ◌≤◌, max, nat_lt, Bool, true, false, if◌then◌else◌, List, [], ◌∷◌, length, get_or, refl, ap, arith}
use Rattle.std.proofs.lemmas.Bool.Decides.{nat_tests}
use Rattle.std.proofs.lemmas.List.{length-map}
use Rattle.std.proofs.lemmas.Nat.{mul-le}
use Rattle.std.proofs.lemmas.Option.{slice_get_within}
use Rattle.vs_types.specs.LayerSet.{Has, members}
use Rattle.vs_types.specs.declared.layer_set.LayerSet.{LayerSet}
use Rattle.vs_types.specs.declared.numbers.TripNo.{TripNo}
use Rattle.vs_instance.specs.Instance.{IsInstance}
use Rattle.vs_instance.specs.Problem.{Problem}
use Rattle.vs_instance.specs.Restriction.{permitted_sets}
use Rattle.vs_instance.specs.Ways.{no_trip}
use Rattle.vs_instance.specs.declared.trip.Trip.{Trip}
use Rattle.vs_instance.proofs.CallerLemmas.{permitted_sets-IsRestriction}
use Rattle.vs_prices.specs.Tree.{IsGoodTree, Leaf, Split, Tree, splits}
use Rattle.vs_resume.specs.InPlace.{count_leaves, with_part}
use Rattle.vs_resume.specs.Standing.{Standing, leaves_of}
use Rattle.vs_resume.specs.Turns.{AreTurns, Turned, nodes_of}
use Rattle.vs_resume.proofs.trees.InPlace.{count-leaves}
use Rattle.vs_resume.proofs.documents.OnCourse.{nodes-cons}
use Rattle.vs_tree.proofs.CallerLemmas.{member}

-- a tree has one leaf more than splits
pub leaves-splits : (tree : Tree) → count_leaves tree ≡ splits tree + 1
leaves-splits (Leaf table) = omega arith
leaves-splits (Split trip left lower upper) =
    let below = leaves-splits lower in
    let above = leaves-splits upper in
    omega (arith, below, above)

-- a part in the place of a leaf brings as many leaves as it has splits
module _ (part : Tree) where
  abbrev Grows : Tree → ℕ → Type 0
  Grows tree k = count_leaves (with_part tree k part) ≡ count_leaves tree + splits part

  grows_by : (trip : TripNo) (left : LayerSet) (lower upper : Tree) (k : ℕ)
      → (k < count_leaves lower → Grows lower k)
      → (count_leaves lower ≤ k → Grows upper (k - count_leaves lower))
      → (b : Bool) → nat_lt k (count_leaves lower) ≡ b
      → count_leaves (if b then Split trip left (with_part lower k part) upper
      else Split trip left lower (with_part upper (k - count_leaves lower) part))
      ≡ count_leaves lower + count_leaves upper + splits part
  grows_by trip left lower upper k below above true test =
      let low : k < count_leaves lower = grind (arith, nat_tests) in
      let more = below low in
      omega (arith, more)
  grows_by trip left lower upper k below above false test =
      let high : count_leaves lower ≤ k = grind (arith, nat_tests) in
      let more = above high in
      omega (arith, more)

  pub grows : (tree : Tree) (k : ℕ) → k < count_leaves tree → Grows tree k
  grows (Leaf table) k below = omega (arith, leaves-splits part)
  grows (Split trip left lower upper) k below =
      grows_by trip left lower upper k (λ low. grows lower k low)
      (λ high. grows upper (k - count_leaves lower) (omega (arith, below, high)))
      (nat_lt k (count_leaves lower)) refl

-- turns bring no more leaves than they finish nodes
pub turns_leaves : (p : Problem) (left : ℕ) (s t : Standing) (turns : List Turned) → AreTurns p left s turns t
    → count_leaves t.tree ≤ count_leaves s.tree + nodes_of turns
turns_leaves p left s t [] are =
    let same = ap (λ (x : Standing). count_leaves x.tree) are in
    omega (arith, same)
turns_leaves p left s t (turn ∷ turns) are =
    let one = are.0 in
    let inside = slice_get_within (leaves_of p s) one.number one.leaf one.next.stands in
    let below : one.number < count_leaves s.tree = omega (arith, inside, count-leaves (permitted_sets p) s.tree) in
    let same = ap count_leaves one.tree in
    let more = grows one.part s.tree one.number below in
    let rest = turns_leaves p (left - turn.nodes) turn.standing t turns are.1 in
    let each = one.each_split in
    omega (arith, same, more, rest, each, nodes-cons turn turns)

-- a list that isn't empty has a first item
some_first : (xs : List ℕ) → xs ≢ [] → 0 < length xs
some_first [] some = absurd (some refl)
some_first (x ∷ xs) some = omega arith

-- a set that isn't empty has a member, which is below what all of them are below
some_member : (set : LayerSet) (n : ℕ) → members set ≢ [] → ((l : ℕ) → Has set l → l < n) → 1 ≤ n
some_member set n some below =
    let one = member set 0 0 (some_first (members set) some) in
    let inside = below (get_or (members set) 0 0) one.0 in
    omega (arith, inside)

-- a product with each factor above 0 is no less than the last of them
last_factor : (a b n limit : ℕ) → 1 ≤ a → 1 ≤ b → a * b * max n 1 ≤ limit → n ≤ limit
last_factor a b n limit first second few =
    let both = mul-le 1 1 a b first second in
    let most = mul-le 1 (max n 1) (a * b) (max n 1) (omega (arith, both)) (omega arith) in
    omega (arith, most, few)

-- where so many tables have few entries, there are few leaves: a tree that splits anything has a trip and a layer
pub few_leaves : (p : Problem) → IsInstance p → (tree : Tree) (n limit : ℕ) → IsGoodTree (permitted_sets p) tree
    → count_leaves tree ≤ n → length p.trips * length p.layers * max n 1 ≤ limit → 1 ≤ limit
    → count_leaves tree ≤ limit
few_leaves p is (Leaf table) n limit good few room some = some
few_leaves p is (Split trip left lower upper) n limit good few room some =
    let inside : trip.0 < length p.trips =
    omega (arith, good.0, length-map p.trips (λ (t : Trip). t.layers)) in
    let restricts = permitted_sets-IsRestriction p is in
    let layers = some_member left (length p.layers) good.1.some
    (λ l has. (is.trips trip.0 no_trip inside).layers l (restricts.permitted trip.0 l inside (good.1.within l has))) in
    let all = last_factor (length p.trips) (length p.layers) n limit (omega (arith, inside)) layers room in
    omega (arith, few, all)
