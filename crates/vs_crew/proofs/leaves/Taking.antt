-- What a worker knows that was given a leaf.
use Rattle.std.proofs.Common.{◌≡◌, ◌==◌, ℕ, ◌<◌, false, not, List, [], ◌∷◌, ◌++◌, length, get_or, refl, sym, ap, ◌∙◌, subst, inl, inr, Option, ℤ}
use Rattle.std.proofs.lemmas.Bool.{eq-eqb}
use Rattle.vs_types.specs.declared.layer_set.LayerSet.{LayerSet}
use Rattle.vs_instance.specs.Problem.{Problem}
use Rattle.vs_instance.specs.Restriction.{IsRestriction}
use Rattle.vs_prices.specs.Table.{Fits}
use Rattle.vs_prices.specs.declared.table.Table.{Table}
use Rattle.vs_tree.specs.History.{FullStep, Opening, State, Took, IsFree, IsHistory, after, first_state, is_inner, known, prices_at, sets_at, spot_at, state_of, table_of}
use Rattle.vs_tree.specs.Prices.{no_prices, prices_of}
use Rattle.vs_tree.specs.Search.{Search, state}
use Rattle.vs_tree.specs.Sound.{IsOpening, IsSound}
use Rattle.vs_tree.specs.Takes.{AreBuffersKept, IsOver, IsSized, IsTake, taking}
use Rattle.vs_tree.specs.declared.calls.Take.{Take}
use Rattle.vs_tree.specs.declared.calls.Take.TheVariants.{Node, Wait, Done, Spent}
use Rattle.vs_tree.specs.declared.spot.Spot.{Spot}
use Rattle.vs_tree.specs.declared.spot.Spot.TheVariants.{Held}
use Rattle.vs_tree.proofs.CallerLemmas.{lawful_fits, leaf_within, state-last, among-filter, histories_are_sound, sets-kept, spot-here, lawful_holds}
use Rattle.vs_node.specs.declared.outcome.Task.{Task}
use Rattle.vs_crew.specs.Found.{IsLawfulTask}
use Rattle.vs_crew.specs.Leaves.{HoldsLeaf, IsTold}
use Rattle.vs_crew.specs.Sharing.{IsIdle}
use Rattle.vs_crew.proofs.leaves.LeafTables.{leaf_lawful}
use Rattle.vs_crew.proofs.leaves.RootSets.{root_leaf}

module _ (o : Opening) (steps : List FullStep) (w leaf : ℕ) (opening : IsOpening o) (history : IsHistory o steps)
    (free : IsFree (state_of o steps) leaf) (task : Task) (sets : task.sets.items ≡ sets_at (state_of o steps) leaf)
    (prices : prices_of task.table ≡ prices_at (state_of o steps) leaf)
    (known_is : task.known ≡ known (state_of o steps))
    (root : task.root ≡ (leaf == 0)) where
  abbrev s : State
  s = state_of o steps

  abbrev spot : Spot
  spot = Held w (table_of (spot_at s leaf))

  abbrev n : State
  n = after s (Took w leaf)

  is_leaf : is_inner (spot_at s leaf) ≡ false
  is_leaf = ap is_inner free.1

  within : leaf < length s.places
  within = leaf_within s.places leaf is_leaf

  here : spot_at n leaf ≡ spot
  here = spot-here s n leaf spot within refl

  sound : IsSound o s
  sound = histories_are_sound o steps opening history

  lawful : IsLawfulTask o.problem task
  lawful =
      let listed = leaf_lawful o s leaf task.table sound is_leaf prices in
      record {
        restriction = subst (λ (x : List LayerSet). IsRestriction o.problem x) (sym sets)
            (sound.restrictions leaf within);
        fits = lawful_fits o.problem task.table listed;
        holds = lawful_holds o.problem task.table listed;
        root = λ is_root. sets ∙ root_leaf o steps leaf opening history is_leaf (sym root ∙ is_root);
      }

  holds_now : w < o.workers → HoldsLeaf w leaf task o n
  holds_now worker = record {
    is_worker = worker;
    holds = (table_of (spot_at s leaf), here);
    fresh = λ among.
        let other = (among-filter (λ other. not (other == w)) w s.offered among).1 in
        let own : not (w == w) ≡ false = ap not (eq-eqb w w refl) in
        absurd cc;
    of_leaf = record {
      sets = sets ∙ sym (sets-kept s n leaf spot within refl leaf);
      prices = prices ∙ sym (ap (λ (x : Spot). get_or s.tables (table_of x) no_prices) here);
      known = known_is;
      root = root;
    };
    lawful = lawful;
  }

  -- the worker holds the leaf, and its task is the leaf's
  pub taken_holds : w < o.workers → HoldsLeaf w leaf task o (state_of o (steps ++ Took w leaf ∷ []))
  taken_holds worker =
      subst (λ (x : State). HoldsLeaf w leaf task o x) (sym (state-last (first_state o) steps (Took w leaf)))
      (holds_now worker)

-- a table that fits has the sizes of the instance
pub fits_sized : (p : Problem) (table : Table) → Fits p table → IsSized p table
fits_sized p table fits = record { into = fits.into_size; from = fits.from_size; fleet = fits.fleet_size }

module _ (t new : Search) (w : ℕ) (sets : List LayerSet) (table : Table) (task : Task) where
  -- where the answer is a leaf, the worker holds it
  pub told_node : (leaf : ℕ) (cost : Option ℤ) → IsOpening t.opening → IsHistory t.opening t.steps → w <
      t.opening.workers
      → IsTake t.opening (state t) sets table (Node leaf cost) → task.sets.items ≡ sets → task.table ≡ table
      → task.known ≡ cost → task.root ≡ (leaf == 0) → new ≡ record t { steps = taking w t.steps (Node leaf cost) }
      → HoldsLeaf w leaf task new.opening (state new)
  told_node leaf cost opening history worker answer same_sets same_table same_cost root is =
      subst (λ (n : Search). HoldsLeaf w leaf task n.opening (state n)) (sym is)
      (taken_holds t.opening t.steps w leaf opening history answer.1.free task (same_sets ∙ answer.3)
      (ap prices_of same_table ∙ answer.4) (same_cost ∙ answer.2) root worker)

  -- where it is none, the worker is idle, or the search is over
  pub told_other : (take : Take) → IsIdle w t.opening (state t) → IsTake t.opening (state t) sets table take
      → ((leaf : ℕ) (cost : Option ℤ) → take ≡ Node leaf cost → ⊥)
      → new ≡ record t { steps = taking w t.steps take } → IsTold w task take new.opening (state new)
  told_other (Node leaf cost) idle answer other is = absurd (other leaf cost refl)
  told_other Wait idle answer other is =
      subst (λ (n : Search). IsIdle w n.opening (state n)) (sym is) idle
  told_other Done idle answer other is =
      subst (λ (n : Search). IsOver n.opening (state n)) (sym is)
      (record { none_held = answer.0; no_more = inl answer.1 })
  told_other Spent idle answer other is =
      subst (λ (n : Search). IsOver n.opening (state n)) (sym is)
      (record { none_held = answer.0; no_more = inr answer.2 })

-- and the buffers are as they were
pub kept_buffers : (take : Take) (sets new_sets : List LayerSet) (table new_table : Table)
    → AreBuffersKept take sets new_sets table new_table → ((leaf : ℕ) (cost : Option ℤ) → take ≡ Node leaf cost → ⊥)
    → new_table ≡ table
kept_buffers (Node leaf cost) sets new_sets table new_table kept other = absurd (other leaf cost refl)
kept_buffers Wait sets new_sets table new_table kept other = kept.1
kept_buffers Done sets new_sets table new_table kept other = kept.1
kept_buffers Spent sets new_sets table new_table kept other = kept.1
