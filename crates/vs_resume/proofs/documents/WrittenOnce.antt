-- The leaves of a document are worth what they were in what it was written for, and no other worths.
use Rattle.std.proofs.Common.{◌≡◌, ℕ, List, [], ◌∷◌, ◌++◌, map, refl, sym, ap, ◌∙◌, subst, Some, slice_get, slice_index_or}
use Rattle.std.specs.Option.{option_map}
use Rattle.std.specs.List.{AllZip}
use Rattle.std.proofs.lemmas.Option.{get_or_from_slice_get, slice_get-map}
use Rattle.vs_types.specs.declared.layer_set.LayerSet.{LayerSet}
use Rattle.vs_types.specs.declared.numbers.TripNo.{TripNo}
use Rattle.vs_instance.specs.Problem.{Problem}
use Rattle.vs_prices.specs.Worth.{IsWorth}
use Rattle.vs_prices.specs.declared.bound.Bound.{Bound}
use Rattle.vs_prices.specs.declared.table.Table.{Table}
use Rattle.vs_prices.specs.Tree.{Leaf, LeafPlace, Split, Tree, leaves, right_of, with_set}
use Rattle.vs_rows.specs.declared.document.Document.{Document}
use Rattle.vs_tree.specs.Prices.{Prices, no_prices, prices_of}
use Rattle.vs_tree.proofs.CallerLemmas.{one_worth}
use Rattle.vs_cert.specs.StateDocument.{IsRenumbered}
use Rattle.vs_cert.specs.Answers.{AreWorths}
use Rattle.vs_resume.specs.Standing.{AreNamedWorths, IsNamedWorth}
use Rattle.vs_resume.proofs.trees.Zips.{zip-append}

-- the leaf has the layers of another one, and names its table by the place of its number
abbrev pub IsRenamed : List ℕ → LeafPlace → LeafPlace → Type 0
IsRenamed numbers leaf also = (also.sets ≡ leaf.sets) × (slice_get numbers also.table ≡ Some leaf.table)

pub renamed-leaves : (numbers : List ℕ) (t u : Tree) (sets : List LayerSet) → IsRenumbered numbers t u
    → AllZip (IsRenamed numbers) (leaves sets t) (leaves sets u)
renamed-leaves numbers (Leaf number) (Leaf place) sets same = ((refl, same), tt)
renamed-leaves numbers (Leaf number) (Split also part first second) sets same = absurd same
renamed-leaves numbers (Split trip left lower upper) (Leaf place) sets same = absurd same
renamed-leaves numbers (Split trip left lower upper) (Split also part first second) sets same =
    let Are : TripNo → LayerSet → Type 0 =
    λ i set. AllZip (IsRenamed numbers)
    (leaves (with_set sets trip left) lower ++ leaves (with_set sets trip (right_of sets trip left)) upper)
    (leaves (with_set sets i set) first ++ leaves (with_set sets i (right_of sets i set)) second) in
    let both = zip-append (IsRenamed numbers) (leaves (with_set sets trip left) lower)
    (leaves (with_set sets trip (right_of sets trip left)) upper) (leaves (with_set sets trip left) first)
    (leaves (with_set sets trip (right_of sets trip left)) second)
    (renamed-leaves numbers lower first (with_set sets trip left) same.2)
    (renamed-leaves numbers upper second (with_set sets trip (right_of sets trip left)) same.3) in
    subst (λ (i : TripNo). Are i part) (sym same.0) (subst (λ (set : LayerSet). Are trip set) (sym same.1) both)

module _ (p : Problem) (d : Document) (known : List Prices) (numbers : List ℕ)
    (same : map prices_of d.tables.items ≡ map (λ n. slice_index_or known n no_prices) numbers) where
  abbrev prices_at : ℕ → Prices
  prices_at n = slice_index_or known n no_prices

  -- the prices of a written table
  written_prices : (place number : ℕ) (table : Table) → slice_get d.tables.items place ≡ Some table
      → slice_get numbers place ≡ Some number → prices_of table ≡ prices_at number
  written_prices place number table stands at =
      let both : Some (prices_of table) ≡ Some (prices_at number) =
      sym (slice_get-map prices_of d.tables.items place ∙ ap (option_map prices_of) stands)
      ∙ ap (λ (xs : List Prices). slice_get xs place) same
      ∙ slice_get-map prices_at numbers place ∙ ap (option_map prices_at) at in
      cc

  one_leaf : (leaf also : LeafPlace) (v w : Bound) (table : Table) → IsRenamed numbers leaf also
      → slice_get d.tables.items also.table ≡ Some table → IsWorth p also.sets table v
      → IsNamedWorth p known leaf w → v ≡ w
  one_leaf leaf also v w table renamed stands worth named =
      let found : prices_at leaf.table ≡ named.0 =
      get_or_from_slice_get known leaf.table named.0 no_prices named.1 in
      let here = subst (λ (sets : List LayerSet). IsWorth p sets table v) renamed.0 worth in
      one_worth p leaf.sets named.0 v w (record {
        table = table;
        listed = written_prices also.table leaf.table table stands renamed.1 ∙ found;
        worth = here;
      }) named.2

  same_cons : (a b : Bound) (xs ys : List Bound) → a ≡ b → xs ≡ ys → a ∷ xs ≡ b ∷ ys
  same_cons a b xs ys one rest = cc

  -- leaf by leaf
  pub written_once : (places others : List LeafPlace) (worths some : List Bound)
      → AllZip (IsRenamed numbers) places others → AreNamedWorths p known places worths → AreWorths p d others some
      → some ≡ worths
  written_once [] [] [] [] renamed named are = refl
  written_once [] [] [] (v ∷ some) renamed named are = absurd are
  written_once [] [] (w ∷ worths) some renamed named are = absurd named
  written_once [] (also ∷ others) worths some renamed named are = absurd renamed
  written_once (leaf ∷ places) [] worths some renamed named are = absurd renamed
  written_once (leaf ∷ places) (also ∷ others) [] some renamed named are = absurd named
  written_once (leaf ∷ places) (also ∷ others) (w ∷ worths) [] renamed named are = absurd are
  written_once (leaf ∷ places) (also ∷ others) (w ∷ worths) (v ∷ some) renamed named are =
      same_cons v w some worths (one_leaf leaf also v w are.0 renamed.0 are.1 are.2 named.0)
      (written_once places others worths some renamed.1 named.1 are.3)
