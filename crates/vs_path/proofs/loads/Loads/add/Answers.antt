use Rattle.std.proofs.Common.{◌≡◌, ℕ, ◌<◌, ◌∙◌, List, [], length, sym, ap, subst, arith, Vec, Global, true, false, get_or, ◌⊎◌}
use Rattle.std.proofs.lemmas.List.{map-set, get_or-map, length-map}
use Rattle.vs_layer.specs.Graph.{Graph, IsNet, arc_of}
use Rattle.vs_path.specs.declared.loads.Loads.{Loads}
use Rattle.vs_path.specs.Loads.{AreByNode, IsIn, IsListed, listed_at, lists_in}
use Rattle.vs_path.proofs.labelling.Listing.{by_node-put, in-here, in-kept}
use Rattle.vs_path.proofs.loads.Loads.add.Goals as goal
use Rattle.vs_path.proofs.loads.Loads.add.Goals.{then-self, else-self}

abbrev items_of : Vec ℕ Global → List ℕ
items_of list = list.items

-- the node that an arc reaches has a list
in-lists : (g : Graph) (l : Loads) (arc v : ℕ) → IsNet g → AreByNode g (lists_in l) → arc < length g.arcs
    → v ≡ (arc_of g arc).to → v < length (lists_in l)
in-lists g l arc v net are within at = omega (arith, (net.each_arc arc within).to, are.nodes, at)

-- what stands in the list that is changed
in-list : (l : Loads) (v : ℕ) (list : Vec ℕ Global) → v < length (lists_in l) → list ≡ get_or l.lists.items v list
    → list.items ≡ listed_at (lists_in l) v
in-list l v list within is =
    ap items_of is
    ∙ sym (get_or-map items_of l.lists.items v list [] (omega (arith, within, length-map l.lists.items items_of)))

pub index_mut-requires : goal.index_mut-requires
index_mut-requires c =
    let l = c.args.self.now in
    let at : c.arc-node.result.to ≡ (arc_of c.args.net.now c.args.arc).to = ap (λ a. a.to) c.arc-node.ensures in
    let within = in-lists c.args.net.now l c.args.arc c.arc-node.result.to c.requires.net c.requires.by_node
    c.requires.arc at in
    omega (arith, within, length-map l.lists.items items_of)

pub returns-clause-by_node : goal.returns-clause-by_node
returns-clause-by_node c =
    let g = c.args.net.now in
    let l = c.args.self.now in
    let v = c.arc-node.result.to in
    let at : v ≡ (arc_of g c.args.arc).to = ap (λ a. a.to) c.arc-node.ensures in
    let within = in-lists g l c.args.arc v c.requires.net c.requires.by_node c.requires.arc at in
    let was = in-list l v c.index_mut.result.now within c.index_mut.ensures.value in
    let P : List (List ℕ) → Type 0 = AreByNode g in
    let Only : List ℕ → Type 0 = λ ks. (k : ℕ) → IsIn c.put-done.new.list.items k → (k ≡ c.args.arc) ⊎ IsIn ks k in
    subst P (sym (map-set items_of l.lists.items v c.put-done.new.list))
    (by_node-put (lists_in l) v c.put-done.new.list.items within g c.args.arc c.requires.arc (sym at)
    (subst Only was c.put-done.ensures.only) c.requires.by_node)

pub returns-clause-kept : goal.returns-clause-kept
returns-clause-kept c = λ k is.
    let g = c.args.net.now in
    let l = c.args.self.now in
    let v = c.arc-node.result.to in
    let at : v ≡ (arc_of g c.args.arc).to = ap (λ a. a.to) c.arc-node.ensures in
    let within = in-lists g l c.args.arc v c.requires.net c.requires.by_node c.requires.arc at in
    let was = in-list l v c.index_mut.result.now within c.index_mut.ensures.value in
    let P : List (List ℕ) → Type 0 = λ lists. IsListed g lists k in
    let Kept : List ℕ → Type 0 = λ ks. (j : ℕ) → IsIn ks j → IsIn c.put-done.new.list.items j in
    subst P (sym (map-set items_of l.lists.items v c.put-done.new.list))
    (in-kept (lists_in l) v c.put-done.new.list.items within (subst Kept was c.put-done.ensures.kept)
    (arc_of g k).to k is)

pub returns-clause-listed : goal.returns-clause-listed
returns-clause-listed c = λ complete.
    let g = c.args.net.now in
    let l = c.args.self.now in
    let v = c.arc-node.result.to in
    let at : v ≡ (arc_of g c.args.arc).to = ap (λ a. a.to) c.arc-node.ensures in
    let within = in-lists g l c.args.arc v c.requires.net c.requires.by_node c.requires.arc at in
    let P : List (List ℕ) → Type 0 = λ lists. IsListed g lists c.args.arc in
    elim c.if-self.branch [
      | then-self w ↦
          let done : c.put-done.result ≡ true = sym w.self-is ∙ complete in
          subst P (sym (map-set items_of l.lists.items v c.put-done.new.list))
          (in-here (lists_in l) v c.put-done.new.list.items within (arc_of g c.args.arc).to c.args.arc (sym at)
          (c.put-done.ensures.put done))
      | else-self w ↦ let e : false ≡ true = sym w.if-self.false ∙ sym w.self-is ∙ complete in absurd (cc)
    ]
