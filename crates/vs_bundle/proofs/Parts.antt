-- What is kept for nets that run: it is found at a place, changes place, and is put back afterwards.
use Rattle.std.proofs.Common.{◌≡◌, ◌∙◌, ◌≢◌, ℕ, ◌-◌, ◌<◌, ◌≤◌, List, length, get_or, set, take, drop, ◌++◌, length-append, length-drop, ap, sym, subst, arith, inl, inr, Option, Vec, ℤ}
use Rattle.std.specs.Global.{Global}
use Rattle.std.specs.List.{SwappedAt}
use Rattle.std.specs.Vec.{with_items}
use Rattle.std.proofs.lemmas.Bool.{cases_eq}
use Rattle.std.proofs.lemmas.List.{ext_get_or, get_or_default, get_or-take, get_or-drop, get_or_append_left, get_or-set_other, length-take-le, with_items_is}
use Rattle.std.proofs.lemmas.Grind.{get_or-set_at}
use Rattle.std.proofs.lemmas.Option.{get_or_from_slice_get, slice_get-get_or}
use Rattle.vs_match.specs.LayerGraph.{LayerGraph}
use Rattle.vs_match.specs.LayerNets.{net_at, no_net}
use Rattle.vs_ship.specs.declared.work.Kept.{Kept}
use Rattle.vs_ship.specs.declared.work.Work.{Work}
use Rattle.vs_circ.specs.shipping.Ready.{CanRun, IsReadyToRun}
use Rattle.vs_bundle.specs.Runs.{CanRunIn, HasRun, HaveRun, HaveRunIn, MayRun, MayRunAll, Offers, layer_at}

-- what an index finds among the nets is the net there
pub net_there : (nets : List LayerGraph) (k : ℕ) → k < length nets → (net d : LayerGraph) → net ≡ get_or nets k d
    → net_at nets k ≡ net
net_there nets k inside net d at = sym (at ∙ get_or_default nets k d no_net inside)

-- what an index finds among the offers may be run in it
pub may_run : (nets : List LayerGraph) (offers : Offers) → MayRunAll nets offers → (k : ℕ) → k < length nets
    → (net d : LayerGraph) → net ≡ get_or nets k d
    → (stands : Vec (Option ℤ) Global) → stands ≡ get_or offers k stands
    → (shown : List (Option ℤ)) → shown ≡ stands.items → MayRun net shown
may_run nets offers all k inside net d at stands there shown same =
    let Items : Vec (Option ℤ) Global → List (Option ℤ) = λ v. v.items in
    subst (λ n. MayRun n shown) (net_there nets k inside net d at)
    (subst (MayRun (net_at nets k)) (ap Items (sym there) ∙ sym same) (all.lawful k stands inside))

-- two places that are exchanged twice are as they were
pub exchanged_back : (xs ys zs : List ℕ) (a b : ℕ) → SwappedAt xs ys a b → SwappedAt ys zs a b → length zs ≡ length xs
    → zs ≡ xs
exchanged_back xs ys zs a b there back same =
    ext_get_or 0 zs xs same (λ k below.
    elim (cases_eq k a) [
      | inl at_a ↦ ap (λ j. get_or zs j 0) at_a ∙ back.0 0 ∙ there.1 0 ∙ sym (ap (λ j. get_or xs j 0) at_a)
      | inr not_a ↦
          elim (cases_eq k b) [
            | inl at_b ↦ ap (λ j. get_or zs j 0) at_b ∙ back.1 0 ∙ there.0 0 ∙ sym (ap (λ j. get_or xs j 0) at_b)
            | inr not_b ↦ back.2 k 0 not_a not_b ∙ there.2 k 0 not_a not_b
          ]
    ])

-- layers that stand at other places are the same layers
pub layers_there : (n : ℕ) (ps qs : List ℕ) (a b : ℕ) → SwappedAt ps qs a b → length qs ≡ length ps → a < length ps
    → b < length ps → ((k : ℕ) → k < length ps → layer_at ps k < n) → (k : ℕ) → k < length qs → layer_at qs k < n
layers_there n ps qs a b there same inside_a inside_b layers k below =
    elim (cases_eq k a) [
      | inl at_a ↦ subst (λ j. layer_at qs j < n) (sym at_a) (subst (λ l. l < n) (sym (there.0 0)) (layers b inside_b))
      | inr not_a ↦
          elim (cases_eq k b) [
            | inl at_b ↦
                subst (λ j. layer_at qs j < n) (sym at_b) (subst (λ l. l < n) (sym (there.1 0)) (layers a inside_a))
            | inr not_b ↦
                subst (λ l. l < n) (sym (there.2 k 0 not_a not_b)) (layers k (omega (arith, below, same)))
          ]
    ]

module _ (Holds : ℕ → Kept → Type 0) where
  -- it holds of each layer and what is kept for it
  abbrev Each : List ℕ → List Kept → Type 0
  Each places kept = (k : ℕ) (d : Kept) → k < length kept → Holds (layer_at places k) (get_or kept k d)

  -- so it does where what is kept for one is replaced by something of which it holds
  pub each_set : (n : ℕ) (places : List ℕ) (xs : List Kept) (k : ℕ) (one : Kept) → k < length xs
      → Holds (layer_at places k) one
      → ((j : ℕ) (d : Kept) → j < n → j ≢ k → Holds (layer_at places j) (get_or xs j d))
      → (j : ℕ) (d : Kept) → j < n → Holds (layer_at places j) (get_or (set xs k one) j d)
  each_set n places xs k one inside new old j d below =
      elim (cases_eq j k) [
        | inl here ↦
            subst (λ it. Holds (layer_at places j) it) (sym (get_or-set_at xs k j one d here inside))
            (subst (λ i. Holds (layer_at places i) one) (sym here) new)
        | inr else ↦
            subst (λ it. Holds (layer_at places j) it) (sym (get_or-set_other xs k j one d else)) (old j d below else)
      ]

  -- so it does where two layers change places, and what is kept for them
  moved : (ps qs : List ℕ) (xs ys : List Kept) (a b : ℕ) → layer_at qs a ≡ layer_at ps b
      → layer_at qs b ≡ layer_at ps a → ((k : ℕ) → k ≢ a → k ≢ b → layer_at qs k ≡ layer_at ps k)
      → SwappedAt xs ys a b → length ys ≡ length xs → a < length xs → b < length xs → Each ps xs → Each qs ys
  moved ps qs xs ys a b at_a at_b else kept same inside_a inside_b each k d below =
      let from : (i j : ℕ) → layer_at qs i ≡ layer_at ps j → get_or ys i d ≡ get_or xs j d → j < length xs → k ≡ i
      → Holds (layer_at qs k) (get_or ys k d) =
      λ i j layer one inside here.
      subst (λ n. Holds (layer_at qs n) (get_or ys n d)) (sym here)
      (subst (λ l. Holds l (get_or ys i d)) (sym layer)
      (subst (λ it. Holds (layer_at ps j) it) (sym one) (each j d inside))) in
      elim (cases_eq k a) [
        | inl is_a ↦ from a b at_a (kept.0 d) inside_b is_a
        | inr not_a ↦
            elim (cases_eq k b) [
              | inl is_b ↦ from b a at_b (kept.1 d) inside_a is_b
              | inr not_b ↦
                  subst (λ l. Holds l (get_or ys k d)) (sym (else k not_a not_b))
                  (subst (λ it. Holds (layer_at ps k) it) (sym (kept.2 k d not_a not_b))
                  (each k d (omega (arith, below, same))))
            ]
      ]

  -- so it does once they are exchanged
  pub each_there : (ps qs : List ℕ) (xs ys : List Kept) (a b : ℕ) → SwappedAt ps qs a b → SwappedAt xs ys a b
      → length ys ≡ length xs → a < length xs → b < length xs → Each ps xs → Each qs ys
  each_there ps qs xs ys a b there kept =
      moved ps qs xs ys a b (there.0 0) (there.1 0) (λ k not_a not_b. there.2 k 0 not_a not_b) kept

  -- and once they are exchanged again
  pub each_back : (ps qs : List ℕ) (xs ys : List Kept) (a b : ℕ) → SwappedAt ps qs a b → SwappedAt xs ys a b
      → length ys ≡ length xs → a < length xs → b < length xs → Each qs xs → Each ps ys
  each_back ps qs xs ys a b there kept =
      moved qs ps xs ys a b (sym (there.1 0)) (sym (there.0 0)) (λ k not_a not_b. sym (there.2 k 0 not_a not_b)) kept

-- before they run, what is kept for the nets may be used for them, each at the place of its number
pub all-ready : (nets : List LayerGraph) (work : Work) (xs : List Kept) (places : List ℕ) → xs ≡ work.kept.items
    → length places ≡ length nets → ((k : ℕ) → k < length places → layer_at places k ≡ k) → IsReadyToRun nets work
    → CanRunIn nets places (take (length nets - 0) (drop 0 xs))
all-ready nets work xs places same each numbered ready k d below =
    let some : List Kept = take (length nets - 0) (drop 0 xs) in
    let long : length nets - 0 ≤ length (drop 0 xs) =
    omega (arith, ready.size, ap (λ (ys : List Kept). length ys) same, length-drop 0 xs) in
    let few : k < length nets = omega (arith, below, length-take-le (length nets - 0) (drop 0 xs) long) in
    let at : get_or some k d ≡ get_or work.kept.items k d =
    get_or-take (length nets - 0) (drop 0 xs) k d (omega (arith, few)) ∙ get_or-drop 0 xs k d
    ∙ ap (λ j. get_or xs j d) (omega arith) ∙ ap (λ (ys : List Kept). get_or ys k d) same in
    subst (λ l. CanRun (net_at nets l) (get_or some k d)) (sym (numbered k (omega (arith, few, each))))
    (subst (λ kept. CanRun (net_at nets k) kept) (sym at)
    (ready.each k (get_or work.kept.items k d) few
    (slice_get-get_or work.kept.items k d (omega (arith, few, ready.size)))))

module _ (nets : List LayerGraph) (work : Work) (xs part : List Kept) (places : List ℕ)
    (same : xs ≡ work.kept.items) (long : length xs ≡ work.kept.len) (each : length places ≡ length nets)
    (numbered : (k : ℕ) → k < length places → layer_at places k ≡ k)
    (ready : IsReadyToRun nets work) (count : length part ≡ length (take (length nets - 0) (drop 0 xs))) where
  -- what is kept once they have run
  abbrev put_back : List Kept
  put_back = part ++ drop (length nets - 0) (drop 0 xs)

  abbrev after : Work
  after = record { kept = with_items work.kept put_back }

  enough : length nets ≤ length xs
  enough = omega (arith, ready.size, ap (λ (ys : List Kept). length ys) same)

  counted : length part ≡ length nets
  counted =
      count ∙ length-take-le (length nets - 0) (drop 0 xs) (omega (arith, enough, length-drop 0 xs)) ∙ omega arith

  size_after : length put_back ≡ length xs
  size_after =
      length-append part (drop (length nets - 0) (drop 0 xs))
      ∙ omega (arith, counted, enough, length-drop (length nets - 0) (drop 0 xs), length-drop 0 xs)

  kept_after : after.kept.items ≡ put_back
  kept_after = with_items_is work.kept put_back (size_after ∙ long)

  at_place : (k : ℕ) (d : Kept) → k < length nets → get_or after.kept.items k d ≡ get_or part k d
  at_place k d below =
      ap (λ (ys : List Kept). get_or ys k d) kept_after
      ∙ get_or_append_left part (drop (length nets - 0) (drop 0 xs)) d k (omega (arith, below, counted))

  -- each has run
  pub all-run : (offers : Offers) → HaveRunIn nets offers places part
      → HaveRun nets offers after.kept.items (length nets)
  all-run offers run k d below =
      subst (λ kept. HasRun (net_at nets k) offers k kept) (sym (at_place k d below))
      (subst (λ l. HasRun (net_at nets l) offers l (get_or part k d)) (numbered k (omega (arith, below, each)))
      (run k d (omega (arith, below, counted))))

  -- and can be run again
  pub still-ready : CanRunIn nets places part → IsReadyToRun nets after
  still-ready can = record {
    size = omega (arith, ap (λ (ys : List Kept). length ys) kept_after, size_after, enough);
    each = λ i k inside stands.
        let there : get_or after.kept.items i k ≡ k = get_or_from_slice_get after.kept.items i k k stands in
        subst (λ kept. CanRun (net_at nets i) kept) (sym (at_place i k inside) ∙ there)
        (subst (λ l. CanRun (net_at nets l) (get_or part i k)) (numbered i (omega (arith, inside, each)))
        (can i k (omega (arith, inside, counted))));
  }
