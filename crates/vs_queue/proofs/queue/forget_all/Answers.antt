use Rattle.std.proofs.Common.{◌≡◌, ◌∙◌, ℕ, length, set, ap, arith, inl, inr, None, length-set}
use Rattle.std.proofs.lemmas.Bool.{cases_eq, cases_lt}
use Rattle.std.proofs.lemmas.List.{get_or_past}
use Rattle.vs_queue.specs.Keys.{Keys, key_at}
use Rattle.vs_queue.proofs.heap.Emptying.{emptied-here, emptied-kept}
use Rattle.vs_queue.proofs.queue.forget_all.Goals as goal

pub loop-v-preserved : goal.loop-v-preserved
loop-v-preserved c =
    let keys = c.loop-v.table.waiting in
    let i = c.loop-v.v in
    let inv = c.loop-v.invariant in
    let taken = c.take_key.ensures.waiting in
    let here : (v : ℕ) → key_at c.take_key.new.self.waiting v ≡ key_at (set keys i None) v =
    λ v. ap (λ (k : Keys). key_at k v) taken in
    record {
      none = λ v below.
          elim (cases_eq v i) [
            | inl same ↦ here v ∙ ap (key_at (set keys i None)) same ∙ emptied-here keys i
            | inr ne ↦ here v ∙ emptied-kept keys i v (inv.none v (omega (arith, below, ne)))
          ];
      size = ap length taken ∙ length-set keys i None ∙ inv.size;
      settled = c.take_key.ensures.settled ∙ inv.settled;
      steps = c.take_key.ensures.steps ∙ inv.steps;
    }

pub returns-clause-none : goal.returns-clause-none
returns-clause-none c v =
    let keys = c.loop-v.table.waiting in
    let inv = c.loop-v.invariant in
    elim (cases_lt v c.loop-v.v) [
      | inl below ↦ inv.none v below
      | inr past ↦
          get_or_past keys v None (omega (arith, past, inv.size, c.loop-v-test.false, c.len-v-end.ensures.waiting))
    ]
