-- A search of one trip in two layers whose root was split: what its workers take then, and what they are told.
use Rattle.std.proofs.Common.{◌≡◌, ℕ, List, [], ◌∷◌, ◌++◌, ap, ◌∙◌, subst, Option, None, ℤ}
use Rattle.vs_types.specs.declared.layer_set.LayerSet.{LayerSet}
use Rattle.vs_instance.specs.Problem.{Problem}
use Rattle.vs_prices.specs.declared.table.Table.{Table}
use Rattle.vs_tree.specs.History.{Split, Took, prices_at, sets_at}
use Rattle.vs_tree.specs.Prices.{prices_of, zero_prices}
use Rattle.vs_tree.specs.Search.{Search, state}
use Rattle.vs_tree.specs.Takes.{IsTake, taking}
use Rattle.vs_tree.specs.declared.calls.Take.{Take}
use Rattle.vs_tree.specs.declared.calls.Take.TheVariants.{Node}

-- a search whose root was split, and the same once the left leaf was taken
abbrev pub parted : Problem → LayerSet → Search
parted p left = record {
  opening = record { problem = p; budget = 5; workers = 2; first = None };
  steps = Took 0 0 ∷ Split 0 0 1 (record { 0 = 0 }) left (zero_prices p) ∷ [];
}

abbrev pub lower_taken : Problem → LayerSet → Search
lower_taken p left = record (parted p left) { steps = (parted p left).steps ++ Took 0 1 ∷ [] }

-- a search in which one leaf more was taken
pub took : (t n x : Search) (worker leaf : ℕ) (take : Take) (cost : Option ℤ) → t ≡ x
    → n ≡ record t { steps = taking worker t.steps take } → take ≡ Node leaf cost
    → n ≡ record x { steps = x.steps ++ Took worker leaf ∷ [] }
took t n x worker leaf take cost begins adds is =
    adds ∙ ap (λ (k : Take). record t { steps = taking worker t.steps k }) is
    ∙ ap (λ (s : Search). record s { steps = s.steps ++ Took worker leaf ∷ [] }) begins

-- and what its worker was told
pub told : (t x : Search) (leaf : ℕ) (sets : List LayerSet) (table : Table) (take : Take) (cost : Option ℤ) → t ≡ x
    → take ≡ Node leaf cost → IsTake t.opening (state t) sets table take
    → (sets ≡ sets_at (state x) leaf) × (prices_of table ≡ prices_at (state x) leaf)
told t x leaf sets table take cost begins is answer =
    let node : IsTake t.opening (state t) sets table (Node leaf cost) =
    subst (λ (k : Take). IsTake t.opening (state t) sets table k) is answer in (
      node.3 ∙ ap (λ (s : Search). sets_at (state s) leaf) begins,
      node.4 ∙ ap (λ (s : Search). prices_at (state s) leaf) begins,
    )
