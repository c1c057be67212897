-- What nodes that come, go and move leave of a queue.
use Rattle.std.proofs.Common.{◌≡◌, ◌≢◌, ◌⊎◌, ℕ, ◌+◌, ◌<◌, ◌∙◌, List, [], ◌∷◌, ◌++◌, length, set, refl, sym, ap, subst, arith, inl, inr, Option, Some, None, Bool, true, false, ℤ, ◌≤ℤ◌, length-set}
use Rattle.std.proofs.lemmas.Bool.{cases_eq, cases_lt}
use Rattle.std.proofs.lemmas.Int.{ints}
use Rattle.std.proofs.lemmas.List.{get_or-set_same, get_or-set_other, get_or_past}
use Rattle.std.proofs.lemmas.List.Sorted.{Contains-permutation, IsPermutation-sym}
use Rattle.std.specs.BinaryHeap.{PopsGreatest, heap_items}
use Rattle.std.specs.List.{Contains}
use Rattle.std.specs.List.Sorted.{IsPermutation}
use Rattle.vs_types.proofs.CallerLemmas.{Contains-cons_cases}
use Rattle.vs_queue.specs.declared.queue.Entry.{Entry}
use Rattle.vs_queue.specs.declared.queue.Queue.{Queue}
use Rattle.vs_queue.specs.Keys.{Keys, IsBelow, IsEmpty, IsLeast, key_at}
use Rattle.vs_queue.specs.Queues.{AreEntriesForgotten, AreForgotten, ArePut, AreQueued, IsLeastUpTo, IsLesser, IsOn, IsPut, IsQueue, entry, entry_cmp}
use Rattle.vs_queue.proofs.heap.Entries.{cons-in, first-in, first-least}
use Rattle.vs_queue.proofs.heap.Stacked.{on-left, on-top, on-either, apart-left, apart-top, apart-push}

-- a node with a key is one of those that there are
pub within-keys : (keys : Keys) (v : ℕ) (key : ℤ) → key_at keys v ≡ Some key → v < length keys
within-keys keys v key has =
    elim (cases_lt v (length keys)) [
      | inl inside ↦ inside
      | inr past ↦ let e : key_at keys v ≡ None = get_or_past keys v None past in absurd (cc)
    ]

-- where nothing is on the stack, and the heap has all
pub far-alone : (keys : Keys) (near : List ℕ) (floor : ℤ) (far : List Entry) (complete : Bool)
    → AreQueued keys near floor far complete → near ≡ [] → complete ≡ true → AreQueued keys [] floor far true
far-alone keys near floor far complete q empty all =
    let P : List ℕ → Type 0 = λ stack. AreQueued keys stack floor far complete in
    let Q : Bool → Type 0 = λ b. AreQueued keys [] floor far b in
    subst Q all (subst P empty q)

-- nothing is on an empty stack
off-empty : (v : ℕ) → IsOn [] v → ⊥
off-empty v (i, within, is) = absurd (omega (arith, within))

-- the entries that were put in are of nodes that there are
nodes-put : (count : ℕ) (far new : List Entry) (complete complete' : Bool) (v : ℕ) (key : ℤ)
    → ArePut far new complete complete' v key → v < count → ((e : Entry) → Contains far e → e.node < count)
    → (e : Entry) → Contains new e → e.node < count
nodes-put count far new complete complete' v key put within nodes e is =
    elim (put.only e is) [
      | inl same ↦ let at : v ≡ e.node = ap (λ (x : Entry). x.node) same in omega (arith, at)
      | inr was ↦ nodes e was
    ]

-- the node on top of the stack moves into the heap
pub moved-far : (keys : Keys) (near rest : List ℕ) (floor : ℤ) (far new : List Entry) (complete complete' : Bool)
    (v : ℕ)
    → AreQueued keys near floor far complete → near ≡ rest ++ v ∷ [] → ArePut far new complete complete' v floor
    → AreQueued keys rest floor new complete'
moved-far keys near rest floor far new complete complete' v q top put =
    let P : List ℕ → Type 0 = λ stack. AreQueued keys stack floor far complete in
    let before : AreQueued keys (rest ++ v ∷ []) floor far complete = subst P top q in
    let here = before.near_too v (on-top rest v) in
    record {
      few = before.few;
      order = put.order before.order;
      nodes = nodes-put (length keys) far new complete complete' v floor put (within-keys keys v floor here)
          before.nodes;
      each = λ all u key has.
          elim (before.each (put.was all) u key has) [
            | inl is_far ↦ inl (put.kept (entry key u) is_far)
            | inr is_near ↦
                elim (on-either rest v u is_near.1) [
                  | inl on ↦ inr (is_near.0, on)
                  | inr same ↦
                      let R : ℤ → Type 0 = λ k. Contains new (entry k u) in
                      let S : ℕ → Type 0 = λ w. Contains new (entry floor w) in
                      inl (subst R (sym is_near.0) (subst S (sym same) (put.put all)))
                ]
          ];
      near_too = λ u on. before.near_too u (on-left rest v u on);
      once = apart-left rest v before.once;
      no_less = before.no_less;
    }

-- the floor may be lower where nothing is on the stack
pub floor-lowered : (keys : Keys) (near : List ℕ) (floor key : ℤ) (far : List Entry) (complete : Bool)
    → AreQueued keys near floor far complete → near ≡ [] → key ≤ℤ floor → AreQueued keys near key far complete
floor-lowered keys near floor key far complete q empty lower =
    let P : List ℕ → Type 0 = λ stack. AreQueued keys stack floor far complete in
    let Q : List ℕ → Type 0 = λ stack. AreQueued keys stack key far complete in
    let before : AreQueued keys [] floor far complete = subst P empty q in
    subst Q (sym empty)
    (record {
      few = before.few;
      order = before.order;
      nodes = before.nodes;
      each = λ all u k has.
          elim (before.each all u k has) [
            | inl is_far ↦ inl is_far
            | inr is_near ↦ absurd (off-empty u is_near.1)
          ];
      near_too = λ u on. absurd (off-empty u on);
      once = before.once;
      no_less = λ u k has. omega (arith, ints, before.no_less u k has, lower);
    })

-- once node v has no key
module _ (keys : Keys) (v : ℕ) where
  none-here : v < length keys → key_at (set keys v None) v ≡ None
  none-here within = get_or-set_same keys v None None within

  none-other : (u : ℕ) → u ≢ v → key_at (set keys v None) u ≡ key_at keys u
  none-other u ne = get_or-set_other keys v u None None (λ e. ne e)

  -- what has a key then is another node, and had it before
  had : (u : ℕ) (key : ℤ) → v < length keys → key_at (set keys v None) u ≡ Some key
      → (u ≢ v) × (key_at keys u ≡ Some key)
  had u key within has =
      elim (cases_eq u v) [
        | inl same ↦
            let e : None ≡ Some key = sym (none-here within) ∙ ap (key_at (set keys v None)) (sym same) ∙ has in
            absurd (cc)
        | inr ne ↦ (ne, sym (none-other u ne) ∙ has)
      ]

-- the node on top of the stack has the least key
pub top-least : (keys : Keys) (rest : List ℕ) (floor : ℤ) (far : List Entry) (complete : Bool) (v : ℕ)
    → AreQueued keys (rest ++ v ∷ []) floor far complete → IsLeast keys v floor
top-least keys rest floor far complete v q = record { has = q.near_too v (on-top rest v); least = q.no_less }

-- and may be taken from it
pub taken-near : (keys : Keys) (rest : List ℕ) (floor : ℤ) (far : List Entry) (complete : Bool) (v : ℕ)
    → AreQueued keys (rest ++ v ∷ []) floor far complete → AreQueued (set keys v None) rest floor far complete
taken-near keys rest floor far complete v q =
    let here = q.near_too v (on-top rest v) in
    let within : v < length keys = within-keys keys v floor here in
    let size : length (set keys v None) ≡ length keys = length-set keys v None in
    record {
      few = omega (arith, size, q.few);
      order = q.order;
      nodes = λ e is. omega (arith, size, q.nodes e is);
      each = λ all u key has.
          let before = had keys v u key within has in
          elim (q.each all u key before.1) [
            | inl is_far ↦ inl is_far
            | inr is_near ↦
                elim (on-either rest v u is_near.1) [
                  | inl on ↦ inr (is_near.0, on)
                  | inr same ↦ absurd (before.0 same)
                ]
          ];
      near_too = λ u on.
          let ne : u ≢ v = apart-top rest v u q.once on in
          none-other keys v u ne ∙ q.near_too u (on-left rest v u on);
      once = apart-left rest v q.once;
      no_less = λ u key has. q.no_less u key (had keys v u key within has).1;
    }

-- where nothing is on the stack, and the entry that comes first is taken out of a heap with all nodes
module _ (keys : Keys) (floor : ℤ) (far rest : List Entry) (x : Entry) (q : AreQueued keys [] floor far true)
    (same : IsPermutation far (x ∷ rest)) (pops : PopsGreatest entry_cmp far x rest) where
  in-rest : (e : Entry) → Contains far e → (x ≡ e) ⊎ Contains rest e
  in-rest e is = Contains-cons_cases x rest e (Contains-permutation far (x ∷ rest) e same is)

  back : (e : Entry) → Contains (x ∷ rest) e → Contains far e
  back e is = Contains-permutation (x ∷ rest) far e (IsPermutation-sym far (x ∷ rest) same) is

  pub popped-within : x.node < length keys
  popped-within = q.nodes x (back x (first-in x rest))

  is-far : (v : ℕ) (key : ℤ) → key_at keys v ≡ Some key → Contains far (entry key v)
  is-far v key has =
      elim (q.each refl v key has) [
        | inl is ↦ is
        | inr is_near ↦ absurd (off-empty v is_near.1)
      ]

  -- where it doesn't count, the rest is a queue
  pub popped-stale : key_at keys x.node ≢ Some x.key.0 → AreQueued keys [] floor rest true
  popped-stale stale = record {
    few = q.few;
    order = (pops q.order).0;
    nodes = λ e is. q.nodes e (back e (cons-in x rest e is));
    each = λ all v key has.
        elim (in-rest (entry key v) (is-far v key has)) [
          | inl first ↦
              let node : x.node ≡ v = ap (λ (e : Entry). e.node) first in
              let its : x.key.0 ≡ key = ap (λ (e : Entry). e.key.0) first in
              absurd (stale (ap (key_at keys) node ∙ has ∙ ap (λ (k : ℤ). Some k) (sym its)))
          | inr is ↦ inl is
        ];
    near_too = λ v on. absurd (off-empty v on);
    once = q.once;
    no_less = q.no_less;
  }

  -- where it counts, its node has the least key
  pub popped-least : key_at keys x.node ≡ Some x.key.0 → IsLeast keys x.node x.key.0
  popped-least has = record {
    has = has;
    least = λ w other its. first-least far x (entry other w) (pops q.order).1 (is-far w other its);
  }

  pub popped-taken : key_at keys x.node ≡ Some x.key.0 → AreQueued (set keys x.node None) [] x.key.0 rest true
  popped-taken has =
      let v = x.node in
      let size : length (set keys v None) ≡ length keys = length-set keys v None in
      record {
        few = omega (arith, size, q.few);
        order = (pops q.order).0;
        nodes = λ e is. omega (arith, size, q.nodes e (back e (cons-in x rest e is)));
        each = λ all u key its.
            let before = had keys v u key popped-within its in
            elim (in-rest (entry key u) (is-far u key before.1)) [
              | inl first ↦ absurd (before.0 (sym (ap (λ (e : Entry). e.node) first)))
              | inr is ↦ inl is
            ];
        near_too = λ u on. absurd (off-empty u on);
        once = q.once;
        no_less = λ u key its. (popped-least has).least u key (had keys v u key popped-within its).1;
      }

-- a node with the least key may be taken where the heap doesn't have all
pub taken-found : (keys : Keys) (near : List ℕ) (floor key : ℤ) (far : List Entry) (complete : Bool) (v : ℕ)
    → AreQueued keys near floor far complete → near ≡ [] → complete ≡ false → IsLeast keys v key
    → AreQueued (set keys v None) near key far complete
taken-found keys near floor key far complete v q empty incomplete least =
    let within : v < length keys = within-keys keys v key least.has in
    let size : length (set keys v None) ≡ length keys = length-set keys v None in
    let off : (u : ℕ) → IsOn near u → ⊥ =
    λ u on. let P : List ℕ → Type 0 = λ stack. IsOn stack u in off-empty u (subst P empty on) in
    record {
      few = omega (arith, size, q.few);
      order = q.order;
      nodes = λ e is. omega (arith, size, q.nodes e is);
      each = λ all u other has. let e : true ≡ false = sym all ∙ incomplete in absurd (cc);
      near_too = λ u on. absurd (off u on);
      once = q.once;
      no_less = λ u other has. least.least u other (had keys v u other within has).1;
    }

-- once node v has this key
module _ (keys : Keys) (v : ℕ) (key : ℤ) (within : v < length keys) where
  abbrev given : Keys
  given = set keys v (Some key)

  given-here : key_at given v ≡ Some key
  given-here = get_or-set_same keys v (Some key) None within

  given-other : (u : ℕ) → u ≢ v → key_at given u ≡ key_at keys u
  given-other u ne = get_or-set_other keys v u (Some key) None (λ e. ne e)

  given-size : length given ≡ length keys
  given-size = length-set keys v (Some key)

  given-key : (u : ℕ) (k : ℤ) → u ≡ v → key_at given u ≡ Some k → key ≡ k
  given-key u k same has =
      let e : Some key ≡ Some k = sym given-here ∙ ap (key_at given) (sym same) ∙ has in cc

  -- no key is less than the floor then
  given-no_less : (floor : ℤ) → floor ≤ℤ key → ((u : ℕ) (k : ℤ) → key_at keys u ≡ Some k → floor ≤ℤ k)
      → (u : ℕ) (k : ℤ) → key_at given u ≡ Some k → floor ≤ℤ k
  given-no_less floor low no_less u k has =
      elim (cases_eq u v) [
        | inl same ↦ let same_key = given-key u k same has in omega (arith, ints, low, same_key)
        | inr ne ↦ no_less u k (sym (given-other u ne) ∙ has)
      ]

  -- where it goes onto the stack
  pub put-near : (near stack : List ℕ) (floor : ℤ) (far : List Entry) (complete : Bool)
      → AreQueued keys near floor far complete → key ≡ floor → IsBelow key (key_at keys v) → stack ≡ near ++ v ∷ []
      → AreQueued given stack floor far complete
  put-near near stack floor far complete q least below pushed =
      let floor_key : Some key ≡ Some floor = ap (λ (k : ℤ). Some k) least in
      let off : IsOn near v → ⊥ =
      λ on. let less = below floor (q.near_too v on) in absurd (omega (arith, ints, least, less)) in
      let P : List ℕ → Type 0 = λ s. AreQueued given s floor far complete in
      subst P (sym pushed)
      (record {
        few = omega (arith, given-size, q.few);
        order = q.order;
        nodes = λ e is. omega (arith, given-size, q.nodes e is);
        each = λ all u k has.
            elim (cases_eq u v) [
              | inl same ↦
                  let R : ℕ → Type 0 = IsOn (near ++ v ∷ []) in
                  inr (sym (given-key u k same has) ∙ least, subst R (sym same) (on-top near v))
              | inr ne ↦
                  elim (q.each all u k (sym (given-other u ne) ∙ has)) [
                    | inl is_far ↦ inl is_far
                    | inr is_near ↦ inr (is_near.0, on-left near v u is_near.1)
                  ]
            ];
        near_too = λ u on.
            elim (cases_eq u v) [
              | inl same ↦ ap (key_at given) same ∙ given-here ∙ floor_key
              | inr ne ↦
                  elim (on-either near v u on) [
                    | inl was ↦ given-other u ne ∙ q.near_too u was
                    | inr same ↦ absurd (ne same)
                  ]
            ];
        once = apart-push near v q.once off;
        no_less = given-no_less floor (omega (arith, ints, least)) q.no_less;
      })

  -- where it goes into the heap
  pub put-far : (near : List ℕ) (floor : ℤ) (far new : List Entry) (complete complete' : Bool)
      → AreQueued keys near floor far complete → floor ≤ℤ key → IsBelow key (key_at keys v)
      → ArePut far new complete complete' v key → AreQueued given near floor new complete'
  put-far near floor far new complete complete' q low below put =
      let off : IsOn near v → ⊥ =
      λ on. let less = below floor (q.near_too v on) in absurd (omega (arith, ints, low, less)) in
      let nodes = nodes-put (length keys) far new complete complete' v key put within q.nodes in
      record {
        few = omega (arith, given-size, q.few);
        order = put.order q.order;
        nodes = λ e is. omega (arith, given-size, nodes e is);
        each = λ all u k has.
            elim (cases_eq u v) [
              | inl same ↦
                  let R : ℤ → Type 0 = λ j. Contains new (entry j u) in
                  let S : ℕ → Type 0 = λ w. Contains new (entry key w) in
                  inl (subst R (given-key u k same has) (subst S (sym same) (put.put all)))
              | inr ne ↦
                  elim (q.each (put.was all) u k (sym (given-other u ne) ∙ has)) [
                    | inl is_far ↦ inl (put.kept (entry k u) is_far)
                    | inr is_near ↦ inr is_near
                  ]
            ];
        near_too = λ u on.
            let ne : u ≢ v = λ same. let P : ℕ → Type 0 = IsOn near in off (subst P same on) in
            given-other u ne ∙ q.near_too u on;
        once = q.once;
        no_less = given-no_less floor low q.no_less;
      }

  -- in either case, in the order in which it comes about
  pub lowered-near : (a b : Queue) → IsQueue keys a → IsBelow key (key_at keys v) → key ≡ a.floor
      → b.near.items ≡ a.near.items ++ v ∷ [] → b.floor ≡ a.floor → b.far ≡ a.far → b.complete ≡ a.complete
      → IsQueue given b
  lowered-near a b q below least near floor far complete =
      let P : ℤ → Type 0 = λ z. AreQueued given b.near.items z (heap_items b.far) b.complete in
      let Q : List Entry → Type 0 = λ es. AreQueued given b.near.items a.floor es b.complete in
      let R : Bool → Type 0 = λ all. AreQueued given b.near.items a.floor (heap_items a.far) all in
      subst P (sym floor) (subst Q (sym (ap heap_items far)) (subst R (sym complete)
      (put-near a.near.items b.near.items a.floor (heap_items a.far) a.complete q least below near)))

  pub lowered-far : (a b d : Queue) → IsQueue keys a → a.floor ≤ℤ key → IsBelow key (key_at keys v)
      → b.near.items ≡ a.near.items → b.floor ≡ a.floor → b.far ≡ a.far
      → b.complete ≡ a.complete → IsPut b d v key → IsQueue given d
  lowered-far a b d q low below near floor far complete put =
      let F : List Entry → Type 0 = λ es. ArePut es (heap_items d.far) a.complete d.complete v key in
      let C : Bool → Type 0 = λ all. ArePut (heap_items b.far) (heap_items d.far) all d.complete v key in
      let P : ℤ → Type 0 = λ z. AreQueued given d.near.items z (heap_items d.far) d.complete in
      let Q : List ℕ → Type 0 = λ stack. AreQueued given stack a.floor (heap_items d.far) d.complete in
      subst P (sym (put.floor ∙ floor)) (subst Q (sym (ap (λ stack. stack.items) put.near ∙ near))
      (put-far a.near.items a.floor (heap_items a.far) (heap_items d.far) a.complete d.complete q low below
      (subst F (ap heap_items far) (subst C complete put.far))))

-- the node on top of the stack moves into the heap
pub moved-queue : (keys : Keys) (a b d : Queue) (v : ℕ) → IsQueue keys a → a.near.items ≡ b.near.items ++ v ∷ []
    → b.floor ≡ a.floor → b.far ≡ a.far → b.complete ≡ a.complete → IsPut b d v a.floor → IsQueue keys d
moved-queue keys a b d v q top floor far complete put =
    let F : List Entry → Type 0 = λ es. ArePut es (heap_items d.far) a.complete d.complete v a.floor in
    let C : Bool → Type 0 = λ all. ArePut (heap_items b.far) (heap_items d.far) all d.complete v a.floor in
    let P : ℤ → Type 0 = λ z. AreQueued keys d.near.items z (heap_items d.far) d.complete in
    let Q : List ℕ → Type 0 = λ stack. AreQueued keys stack a.floor (heap_items d.far) d.complete in
    subst P (sym (put.floor ∙ floor)) (subst Q (sym (ap (λ stack. stack.items) put.near))
    (moved-far keys a.near.items b.near.items a.floor (heap_items a.far) (heap_items d.far) a.complete d.complete v q
    top (subst F (ap heap_items far) (subst C complete put.far))))

-- no node has a key once those on the stack and in the heap are forgotten
pub none-kept : (keys kept left : Keys) (near : List ℕ) (floor : ℤ) (far : List Entry)
    → AreQueued keys near floor far true → AreForgotten near keys kept → AreEntriesForgotten far kept left
    → (v : ℕ) → key_at left v ≡ None
none-kept keys kept left near floor far q forgotten taken v =
    elim (taken v) [
      | inl none ↦ none
      | inr same ↦
          elim (forgotten v) [
            | inl none ↦ same.0 ∙ none
            | inr was ↦ same.0 ∙ was.0 ∙ go (key_at keys v) refl same.1 was.1
          ]
    ]
  where
    go : (key : Option ℤ) → key_at keys v ≡ key → ((k : ℤ) → ¬ (Contains far (entry k v))) → ¬ (IsOn near v)
        → key_at keys v ≡ None
    go None has away off = has
    go (Some key) has away off =
        elim (q.each refl v key has) [
          | inl is_far ↦ absurd (away key is_far)
          | inr is_near ↦ absurd (off is_near.1)
        ]

-- of all nodes, one with the least key
pub found-least : (keys : Keys) (t : ℕ × ℤ) → IsLeastUpTo keys (length keys) (Some t) → IsLeast keys t.0 t.1
found-least keys t least = record {
  has = least.1;
  least = λ w other has. least.2 w other (within-keys keys w other has) has;
}

pub found-none : (keys : Keys) → IsLeastUpTo keys (length keys) None → IsEmpty keys
found-none keys none v =
    elim (cases_lt v (length keys)) [
      | inl inside ↦ none v inside
      | inr past ↦ get_or_past keys v None past
    ]

-- a node more is looked at
pub least-more : (keys : Keys) (count : ℕ) (least lesser : Option (ℕ × ℤ)) → IsLeastUpTo keys count least
    → IsLesser least count (key_at keys count) lesser → IsLeastUpTo keys (count + 1) lesser
least-more keys count least lesser = go (key_at keys count) refl least
  where
    last : (w : ℕ) → w < count + 1 → (w < count) ⊎ (w ≡ count)
    last w below = elim (cases_lt w count) [ inl before ↦ inl before | inr after ↦ inr (omega arith) ]

    its : (key : ℤ) (w : ℕ) (other : ℤ) → key_at keys count ≡ Some key → w ≡ count → key_at keys w ≡ Some other
        → key ≡ other
    its key w other is same has =
        let e : Some key ≡ Some other = sym is ∙ ap (key_at keys) (sym same) ∙ has in cc

    new : (key : ℤ) → key_at keys count ≡ Some key
        → ((w : ℕ) (other : ℤ) → w < count → key_at keys w ≡ Some other → key ≤ℤ other)
        → IsLeastUpTo keys (count + 1) (Some (count, key))
    new key is before = (
      omega arith,
      is,
      λ w other below has.
          elim (last w below) [
            | inl low ↦ before w other low has
            | inr same ↦ let e = its key w other is same has in omega (arith, ints, e)
          ],
    )

    same-least : (t : ℕ × ℤ) → IsLeastUpTo keys count (Some t)
        → ((w : ℕ) (other : ℤ) → w ≡ count → key_at keys w ≡ Some other → t.1 ≤ℤ other)
        → IsLeastUpTo keys (count + 1) (Some t)
    same-least t least here = (
      omega (arith, least.0),
      least.1,
      λ w other below has.
          elim (last w below) [
            | inl low ↦ least.2 w other low has
            | inr same ↦ here w other same has
          ],
    )

    go : (key : Option ℤ) → key_at keys count ≡ key → (least : Option (ℕ × ℤ)) → IsLeastUpTo keys count least
        → IsLesser least count key lesser → IsLeastUpTo keys (count + 1) lesser
    go None is None none same =
        let P : Option (ℕ × ℤ) → Type 0 = IsLeastUpTo keys (count + 1) in
        subst P (sym same)
        (λ w below.
        elim (last w below) [
          | inl low ↦ none w low
          | inr here ↦ ap (key_at keys) here ∙ is
        ])
    go None is (Some t) known same =
        let P : Option (ℕ × ℤ) → Type 0 = IsLeastUpTo keys (count + 1) in
        subst P (sym same)
        (same-least t known (λ w other here has.
        let e : None ≡ Some other = sym is ∙ ap (key_at keys) (sym here) ∙ has in absurd (cc)))
    go (Some key) is None none same =
        let P : Option (ℕ × ℤ) → Type 0 = IsLeastUpTo keys (count + 1) in
        subst P (sym same)
        (new key is (λ w other low has. let e : None ≡ Some other = sym (none w low) ∙ has in absurd (cc)))
    go (Some key) is (Some t) known (inl (less, same)) =
        let P : Option (ℕ × ℤ) → Type 0 = IsLeastUpTo keys (count + 1) in
        subst P (sym same)
        (new key is (λ w other low has. omega (arith, ints, less, known.2 w other low has)))
    go (Some key) is (Some t) known (inr (no_less, same)) =
        let P : Option (ℕ × ℤ) → Type 0 = IsLeastUpTo keys (count + 1) in
        subst P (sym same)
        (same-least t known (λ w other here has.
        let e = its key w other is here has in omega (arith, ints, no_less, e)))
