-- What has been run at the nodes, once one node's vehicles are others.
use Rattle.std.proofs.Common.{◌≡◌, ℕ, ◌-◌, ◌<◌, Bool, true, false, cond, List, [], ◌∷◌, ◌++◌, length, get_or, set, Result, Ok, Err, refl, sym, ap, ◌∙◌, arith}
use Rattle.std.specs.Prelude.{OnOk}
use Rattle.std.specs.List.{filter}
use Rattle.std.proofs.lemmas.List.{get_or-map, get_or-set_same, get_or_push, length-map, length_push, map-set, map_push, set-set, set-get_or}
use Rattle.vs_instance.specs.Plan.{LayerBlock}
use Rattle.vs_plan.specs.declared.block.Block.{Block}
use Rattle.vs_plan.specs.Blocks.{pair_of, pairs_of}
use Rattle.vs_decomp.specs.declared.stand.Stand.{Stand}
use Rattle.vs_decomp.specs.Stands.{LeavesNode, has_run, standing, vehicles_at, with_vehicle}

-- what follows from what an Ok says
pub on_ok : {A E P Q : Type 0} (r : Result A E) → (P → Q) → OnOk r P → OnOk r Q
on_ok (Ok x) follows is = follows is
on_ok (Err e) follows is = tt

-- what the vehicles of a stand have run
abbrev pub row : Stand → List LayerBlock
row s = pairs_of s.vehicles.items

module _ (stands : List Stand) (node : ℕ) (old new : Stand) (b : Block) (within : node < length stands)
    (read : old ≡ get_or stands node old) where
  row_is : vehicles_at (standing stands) node ≡ row old
  row_is = get_or-map row stands node old [] within ∙ ap row (sym read)

  -- a vehicle leaves
  pub leaves_node : old.vehicles.items ≡ new.vehicles.items ++ b ∷ []
      → LeavesNode node (standing stands) (pair_of b) (standing (set stands node new))
  leaves_node is =
      let all = standing stands in
      let after : standing (set stands node new) ≡ set all node (row new) = map-set row stands node new in
      let inside : node < length all = rw (length-map stands row) within in
      let rows : row old ≡ row new ++ pair_of b ∷ [] = ap pairs_of is ∙ map_push pair_of new.vehicles.items b in
      sym (ap (λ (s : List (List LayerBlock)). with_vehicle node (pair_of b) s) after
      ∙ ap (λ (r : List LayerBlock). set (set all node (row new)) node (r ++ pair_of b ∷ []))
      (get_or-set_same all node (row new) [] inside)
      ∙ set-set all node (row new) (row new ++ pair_of b ∷ [])
      ∙ ap (set all node) (sym rows ∙ sym row_is)
      ∙ set-get_or all node [])

  -- a vehicle comes
  pub comes_to_node : new.vehicles.items ≡ old.vehicles.items ++ b ∷ []
      → standing (set stands node new) ≡ with_vehicle node (pair_of b) (standing stands)
  comes_to_node is =
      map-set row stands node new
      ∙ ap (set (standing stands) node)
      (ap pairs_of is ∙ map_push pair_of old.vehicles.items b
      ∙ ap (λ (r : List LayerBlock). r ++ pair_of b ∷ []) (sym row_is))

-- what the vehicles at the last node have run
pub last_row : (stands rest : List Stand) (last : Stand) → stands ≡ rest ++ last ∷ []
    → vehicles_at (standing stands) (length stands - 1) ≡ row last
last_row stands rest last is =
    let count = ap length is ∙ length_push rest last in
    let place : length (standing rest) ≡ length stands - 1 = omega (arith, count, length-map rest row) in
    ap (λ (s : List (List LayerBlock)). vehicles_at s (length stands - 1))
    (ap standing is ∙ map_push row rest last)
    ∙ get_or_push (standing rest) (row last) [] (length stands - 1) place

-- the blocks that are kept
pub kept_pairs : (blocks : List Block)
    → pairs_of (filter (λ b. has_run (pair_of b)) blocks) ≡ filter has_run (pairs_of blocks)
kept_pairs [] = refl
kept_pairs (b ∷ rest) = by (has_run (pair_of b)) (kept_pairs rest)
  where
    by : (keeps : Bool) → pairs_of (filter (λ x. has_run (pair_of x)) rest) ≡ filter has_run (pairs_of rest)
        → pairs_of (cond keeps (b ∷ filter (λ x. has_run (pair_of x)) rest) (filter (λ x. has_run (pair_of x)) rest))
        ≡ cond keeps (pair_of b ∷ filter has_run (pairs_of rest)) (filter has_run (pairs_of rest))
    by true same = ap (λ (bs : List LayerBlock). pair_of b ∷ bs) same
    by false same = same
