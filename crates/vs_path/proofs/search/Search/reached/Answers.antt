use Rattle.std.proofs.Common.{◌≡◌, ℕ, ◌<◌, List, length, get_or, None, sym, ap, subst, arith, inl, inr}
use Rattle.std.proofs.lemmas.Bool.{cases_lt}
use Rattle.std.proofs.lemmas.List.{get_or_past}
use Rattle.vs_path.specs.Search.{Outcome}
use Rattle.vs_path.proofs.search.Search.reached.Goals as goal

pub returns-clause-nodes : goal.returns-clause-nodes
returns-clause-nodes c =
    let labels = c.self.inside.labels in
    let Below : List ℕ → Type 0 = λ xs. (i : ℕ) → i < length xs → get_or xs i 0 < c.args.self.now.nodes in
    let nodes : length labels.nodes.settled ≡ c.args.self.now.nodes = ap (λ (o : Outcome). o.nodes) c.self.view_is in
    subst Below (sym c.deref.ensures.value)
    (λ i within.
    let listed = c.self.invariant.are_listed.listed i within in
    elim (cases_lt (get_or labels.order.items i 0) (length labels.nodes.settled)) [
      | inl below ↦ omega (arith, below, nodes)
      | inr past ↦
          let none = get_or_past labels.nodes.settled (get_or labels.order.items i 0) None past in
          let some = listed.1 in
          absurd (cc)
    ])
