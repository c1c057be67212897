-- Records of nodes, and the lists that they are by node.
use Rattle.std.proofs.Common.{◌≡◌, ℕ, ◌<◌, ◌∙◌, List, length, get_or, set, map, sym, ap, arith, Option, Some, None, ℤ}
use Rattle.std.proofs.lemmas.List.{get_or-map, length-map, map-set, set-get_or}
use Rattle.vs_queue.specs.declared.node_table.Settled.{Settled}
use Rattle.vs_queue.specs.declared.node_table.Mark.TheVariants.{Waits, Placed}
use Rattle.vs_queue.specs.declared.node_table.NodeRecord.{NodeRecord}
use Rattle.vs_queue.specs.declared.step.Step.{Step}
use Rattle.vs_queue.specs.Keys.{Keys, key_at}
use Rattle.vs_queue.specs.NodeLists.{NodeLists, key_of, label_of, lists_by_node, settled_of, step_of}

-- three lists of which each is the same are the same
same-by : (a b : NodeLists) → a.settled ≡ b.settled → a.waiting ≡ b.waiting → a.steps ≡ b.steps → a ≡ b
same-by a b settled waiting steps =
    ap (λ (s : List (Option Settled)). record { settled = s; waiting = a.waiting; steps = a.steps }) settled
    ∙ ap (λ (k : Keys). record { settled = b.settled; waiting = k; steps = a.steps }) waiting
    ∙ ap (λ (s : List (Option Step)). record { settled = b.settled; waiting = b.waiting; steps = s }) steps

-- where records have these lists by node
module _ (ns : List NodeRecord) (l : NodeLists) (same : lists_by_node ns ≡ l) where
  pub same-settled : map settled_of ns ≡ l.settled
  same-settled = ap (λ (k : NodeLists). k.settled) same

  pub same-waiting : map key_of ns ≡ l.waiting
  same-waiting = ap (λ (k : NodeLists). k.waiting) same

  pub same-steps : map step_of ns ≡ l.steps
  same-steps = ap (λ (k : NodeLists). k.steps) same

  pub count-settled : length ns ≡ length l.settled
  count-settled = let e = ap length same-settled in omega (arith, e, length-map ns settled_of)

  pub count-waiting : length ns ≡ length l.waiting
  count-waiting = let e = ap length same-waiting in omega (arith, e, length-map ns key_of)

  pub count-steps : length ns ≡ length l.steps
  count-steps = let e = ap length same-steps in omega (arith, e, length-map ns step_of)

  -- what stands in the lists at the node of a record
  module _ (v : ℕ) (n : NodeRecord) (within : v < length ns) (is : n ≡ get_or ns v n) where
    pub read-settled : get_or l.settled v None ≡ settled_of n
    read-settled =
        ap (λ (s : List (Option Settled)). get_or s v None) (sym same-settled)
        ∙ get_or-map settled_of ns v n None within ∙ ap settled_of (sym is)

    pub read-key : key_at l.waiting v ≡ key_of n
    read-key =
        ap (λ (k : Keys). key_at k v) (sym same-waiting)
        ∙ get_or-map key_of ns v n None within ∙ ap key_of (sym is)

    pub read-label : label_of (get_or l.settled v None) (key_at l.waiting v) ≡ label_of (settled_of n) (key_of n)
    read-label =
        ap (λ (s : Option Settled). label_of s (key_at l.waiting v)) read-settled
        ∙ ap (λ (k : Option ℤ). label_of (settled_of n) k) read-key

    pub read-step : get_or l.steps v None ≡ Some n.step
    read-step =
        ap (λ (s : List (Option Step)). get_or s v None) (sym same-steps)
        ∙ get_or-map step_of ns v n None within ∙ ap step_of (sym is)

  -- what the lists are once a record is put in
  module _ (v : ℕ) (n : NodeRecord) where
    put-settled : map settled_of (set ns v n) ≡ set l.settled v (settled_of n)
    put-settled = map-set settled_of ns v n ∙ ap (λ (s : List (Option Settled)). set s v (settled_of n)) same-settled

    put-waiting : map key_of (set ns v n) ≡ set l.waiting v (key_of n)
    put-waiting = map-set key_of ns v n ∙ ap (λ (k : Keys). set k v (key_of n)) same-waiting

    put-steps : map step_of (set ns v n) ≡ set l.steps v (Some n.step)
    put-steps = map-set step_of ns v n ∙ ap (λ (s : List (Option Step)). set s v (Some n.step)) same-steps

    kept-settled : get_or l.settled v None ≡ settled_of n → map settled_of (set ns v n) ≡ l.settled
    kept-settled has =
        put-settled ∙ ap (λ (o : Option Settled). set l.settled v o) (sym has) ∙ set-get_or l.settled v None

    kept-waiting : key_at l.waiting v ≡ key_of n → map key_of (set ns v n) ≡ l.waiting
    kept-waiting has =
        put-waiting ∙ ap (λ (o : Option ℤ). set l.waiting v o) (sym has) ∙ set-get_or l.waiting v None

    kept-steps : get_or l.steps v None ≡ Some n.step → map step_of (set ns v n) ≡ l.steps
    kept-steps has =
        put-steps ∙ ap (λ (o : Option Step). set l.steps v o) (sym has) ∙ set-get_or l.steps v None

  -- a node that isn't settled waits
  pub lists-waiting : (v : ℕ) (key : ℤ) (step : Step) → get_or l.settled v None ≡ None
      → lists_by_node (set ns v (record { distance = key; step = step; mark = Waits }))
      ≡ record { settled = l.settled; waiting = set l.waiting v (Some key); steps = set l.steps v (Some step) }
  lists-waiting v key step unsettled =
      let n : NodeRecord = record { distance = key; step = step; mark = Waits } in
      same-by (lists_by_node (set ns v n))
      (record { settled = l.settled; waiting = set l.waiting v (Some key); steps = set l.steps v (Some step) })
      (kept-settled v n unsettled) (put-waiting v n) (put-steps v n)

  module _ (v : ℕ) (known : NodeRecord) (within : v < length l.waiting) (is : known ≡ get_or ns v known) where
    inside : v < length ns
    inside = omega (arith, within, count-waiting)

    -- a node that doesn't wait is settled
    pub lists-settled : (settled : Settled) → key_at l.waiting v ≡ None
        → lists_by_node
        (set ns v (record { distance = settled.distance; step = known.step; mark = Placed settled.place }))
        ≡ record { settled = set l.settled v (Some settled); waiting = l.waiting; steps = l.steps }
    lists-settled settled taken =
        let n : NodeRecord =
        record { distance = settled.distance; step = known.step; mark = Placed settled.place } in
        same-by (lists_by_node (set ns v n))
        (record { settled = set l.settled v (Some settled); waiting = l.waiting; steps = l.steps })
        (put-settled v n) (kept-waiting v n taken) (kept-steps v n (read-step v known inside is))

    -- the key of a node is taken
    pub lists-without_key : (n : NodeRecord) → key_of n ≡ None → settled_of n ≡ settled_of known → n.step ≡ known.step
        → lists_by_node (set ns v n)
        ≡ record { settled = l.settled; waiting = set l.waiting v None; steps = l.steps }
    lists-without_key n key settled step =
        same-by (lists_by_node (set ns v n))
        (record { settled = l.settled; waiting = set l.waiting v None; steps = l.steps })
        (kept-settled v n (read-settled v known inside is ∙ sym settled))
        (put-waiting v n ∙ ap (λ (o : Option ℤ). set l.waiting v o) key)
        (kept-steps v n (read-step v known inside is ∙ ap Some (sym step)))

    -- its place is
    pub lists-without_place : (n : NodeRecord) → settled_of n ≡ None → key_of n ≡ key_of known → n.step ≡ known.step
        → lists_by_node (set ns v n)
        ≡ record { settled = set l.settled v None; waiting = l.waiting; steps = l.steps }
    lists-without_place n settled key step =
        same-by (lists_by_node (set ns v n))
        (record { settled = set l.settled v None; waiting = l.waiting; steps = l.steps })
        (put-settled v n ∙ ap (λ (o : Option Settled). set l.settled v o) settled)
        (kept-waiting v n (read-key v known inside is ∙ sym key))
        (kept-steps v n (read-step v known inside is ∙ ap Some (sym step)))
