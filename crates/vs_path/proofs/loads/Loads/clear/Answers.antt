use Rattle.std.proofs.Common.{◌≡◌, ℕ, ◌<◌, ◌∙◌, List, [], length, set, sym, ap, subst, arith, Vec, Global, map, inl, inr}
use Rattle.std.proofs.lemmas.Bool.{cases_eq}
use Rattle.std.proofs.lemmas.List.{map-set, length-map}
use Rattle.vs_path.specs.Loads.{listed_at}
use Rattle.vs_path.proofs.labelling.Listing.{here, other}
use Rattle.vs_path.proofs.loads.Loads.clear.Goals as goal

pub loop-list-preserved : goal.loop-list-preserved
loop-list-preserved c = λ v below.
    let items : Vec ℕ Global → List ℕ = λ list. list.items in
    let lists = map items c.loop-list.list-items in
    let i = c.loop-list.list-index in
    let within : i < length lists = omega (arith, c.loop-list-test.true, length-map c.loop-list.list-items items) in
    let P : List (List ℕ) → Type 0 = λ ls. listed_at ls v ≡ [] in
    subst P (sym (map-set items c.loop-list.list-items i c.clear.new.self))
    (elim (cases_eq v i) [
      | inl same ↦ ap (listed_at (set lists i c.clear.new.self.items)) same ∙ here lists i c.clear.new.self.items within
          ∙ c.clear.ensures.items
      | inr ne ↦ other lists i c.clear.new.self.items within v ne ∙ c.loop-list.invariant v (omega (arith, below, ne))
    ])
