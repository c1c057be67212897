use Rattle.std.proofs.Common.{◌≡◌, ◌∙◌, ◌<◌, ℕ, length, get_or, set, refl, sym, ap, arith, inl, inr, None, length-set, pos, rules}
use Rattle.std.proofs.lemmas.Bool.{cases_eq, cases_lt}
use Rattle.std.proofs.lemmas.List.{get_or-set_same, get_or-set_other, get_or_default}
use Rattle.vs_queue.specs.declared.queue.Entry.{Entry}
use Rattle.vs_queue.specs.Keys.{Keys, key_at}
use Rattle.vs_queue.specs.Queues.{entry}
use Rattle.vs_queue.proofs.queue.forget_entries.Goals as goal

pub loop-entry-init : goal.loop-entry-init
loop-entry-init c = record {
  none = λ v. inr (refl, λ i key before. absurd (omega (arith, before)));
  size = refl;
  settled = refl;
  steps = refl;
}

pub loop-entry-preserved : goal.loop-entry-preserved
loop-entry-preserved c =
    let keys = c.loop-entry.table.waiting in
    let entries = c.args.entries.now in
    let i = c.loop-entry.entry-index in
    let inv = c.loop-entry.invariant in
    let node : ℕ = (get_or entries i (entry (pos 0) 0)).node in
    let taken = c.take_key.ensures.waiting in
    let within : node < length keys = search rules in
    let after : (v : ℕ) → key_at c.take_key.new.self.waiting v ≡ key_at (set keys node None) v =
    λ v. ap (λ (k : Keys). key_at k v) taken in
    record {
      none = λ v.
          elim (cases_eq v node) [
            | inl same ↦
                inl (after v ∙ ap (key_at (set keys node None)) same ∙ get_or-set_same keys node None None within)
            | inr ne ↦
                let other : key_at c.take_key.new.self.waiting v ≡ key_at keys v =
                after v ∙ get_or-set_other keys node v None None (λ e. ne e) in
                elim (inv.none v) [
                  | inl none ↦ inl (other ∙ none)
                  | inr kept ↦
                      inr (
                        other ∙ kept.0,
                        λ j key before.
                            elim (cases_lt j i) [
                              | inl low ↦ kept.1 j key low
                              | inr last ↦
                                  let e : j ≡ i = omega (arith, before, last) in
                                  λ is.
                                  ne
                                  (ap (λ (x : Entry). x.node)
                                  (sym is
                                  ∙ get_or_default entries j (entry key v) (entry (pos 0) 0)
                                  (omega (arith, e, c.loop-entry-test.true))
                                  ∙ ap (λ (k : ℕ). get_or entries k (entry (pos 0) 0)) e))
                            ],
                      )
                ]
          ];
      size = ap length taken ∙ length-set keys node None ∙ inv.size;
      settled = c.take_key.ensures.settled ∙ inv.settled;
      steps = c.take_key.ensures.steps ∙ inv.steps;
    }
