-- Nodes with keys: those with the least key on a stack, the others in a heap.
use Rattle.std.specs.Prelude.{◌≡◌, ◌≢◌, ◌⊎◌, ℕ, ◌^◌, ◌<◌, List, Contains, length, set, slice_index, ℤ, ◌≤ℤ◌, ◌<ℤ◌, Option, Some, None, Bool, true}
use Rattle.std.specs.BinaryHeap.{IsHeap, heap_items}
use Rattle.std.specs.declared.cmp.Ordering.{Ordering}
use Rattle.std.specs.Ordering.{int_cmp, nat_cmp, ordering_then}
use Rattle.vs_queue.specs.declared.queue.Entry.{Entry}
use Rattle.vs_queue.specs.declared.queue.Queue.{Queue}
use Rattle.vs_queue.specs.Keys.{Keys, IsLeast, key_at}

-- the node is on the stack
abbrev pub IsOn : List ℕ → ℕ → Type 0
IsOn stack v = (i : ℕ) × (i < length stack) × (slice_index stack i ≡ v)

abbrev pub entry : ℤ → ℕ → Entry
entry key v = record { key = record { 0 = key }; node = v }

-- the order of entries: one of a lesser key comes last
abbrev pub entry_cmp : Entry → Entry → Ordering
entry_cmp a b = ordering_then (int_cmp b.key.0 a.key.0) (nat_cmp a.node b.node)

-- Each node with a key is either in the heap, with this key, unless there was no memory for some, or once on the stack,
-- where its key is the floor. No key is less than the floor.
pub record AreQueued (keys : Keys) (near : List ℕ) (floor : ℤ) (far : List Entry) (complete : Bool) : Type 0 where
  pub few : length keys < 2 ^ 32
  pub order : IsHeap entry_cmp far
  pub nodes : (e : Entry) → Contains far e → e.node < length keys
  pub each : complete ≡ true → (v : ℕ) (key : ℤ) → key_at keys v ≡ Some key
      → Contains far (entry key v) ⊎ ((key ≡ floor) × IsOn near v)
  pub near_too : (v : ℕ) → IsOn near v → key_at keys v ≡ Some floor
  pub once : (i j : ℕ) → i < j → j < length near → slice_index near i ≢ slice_index near j
  pub no_less : (v : ℕ) (key : ℤ) → key_at keys v ≡ Some key → floor ≤ℤ key

abbrev pub IsQueue : Keys → Queue → Type 0
IsQueue keys q = AreQueued keys q.near.items q.floor (heap_items q.far) q.complete

-- an entry more is in the heap, unless there was no memory for it
pub record ArePut (old new : List Entry) (complete complete-new : Bool) (v : ℕ) (key : ℤ) : Type 0 where
  pub order : IsHeap entry_cmp old → IsHeap entry_cmp new
  pub kept : (e : Entry) → Contains old e → Contains new e
  pub only : (e : Entry) → Contains new e → (entry key v ≡ e) ⊎ Contains old e
  pub was : complete-new ≡ true → complete ≡ true
  pub put : complete-new ≡ true → Contains new (entry key v)

pub record IsPut (old new : Queue) (v : ℕ) (key : ℤ) : Type 0 where
  pub near : new.near ≡ old.near
  pub floor : new.floor ≡ old.floor
  pub far : ArePut (heap_items old.far) (heap_items new.far) old.complete new.complete v key

-- a node with the least key is taken out
pub record IsTaken (keys : Keys) (v : ℕ) (key : ℤ) (left : Queue) : Type 0 where
  pub least : IsLeast keys v key
  pub queue : IsQueue (set keys v None) left

-- of the first so many nodes, one that has the least key; none where none has a key
abbrev pub IsLeastUpTo : Keys → ℕ → Option (ℕ × ℤ) → Type 0
IsLeastUpTo keys count None = (w : ℕ) → w < count → key_at keys w ≡ None
IsLeastUpTo keys count (Some t) = (t.0 < count) × (key_at keys t.0 ≡ Some t.1)
    × ((w : ℕ) (other : ℤ) → w < count → key_at keys w ≡ Some other → t.1 ≤ℤ other)

-- the one that has the lesser key, of a node with its key and of another that may have one
abbrev pub IsLesser : Option (ℕ × ℤ) → ℕ → Option ℤ → Option (ℕ × ℤ) → Type 0
IsLesser least v None lesser = lesser ≡ least
IsLesser None v (Some key) lesser = lesser ≡ Some (v, key)
IsLesser (Some t) v (Some key) lesser =
    ((key <ℤ t.1) × (lesser ≡ Some (v, key))) ⊎ ((t.1 ≤ℤ key) × (lesser ≡ Some t))

-- each node either has no key any more, or its key is as before, and it isn't one of these
abbrev pub AreForgotten : List ℕ → Keys → Keys → Type 0
AreForgotten nodes old keys = (v : ℕ) → (key_at keys v ≡ None)
    ⊎ ((key_at keys v ≡ key_at old v) × ¬ (IsOn nodes v))

-- and none of these entries is its
abbrev pub AreEntriesForgotten : List Entry → Keys → Keys → Type 0
AreEntriesForgotten entries old keys = (v : ℕ) → (key_at keys v ≡ None)
    ⊎ ((key_at keys v ≡ key_at old v) × ((key : ℤ) → ¬ (Contains entries (entry key v))))
