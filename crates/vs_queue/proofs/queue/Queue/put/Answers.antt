use Rattle.std.proofs.Common.{◌≡◌, ◌∙◌, refl, sym, rules, true, false, SFits, w64, Result, Ok, Err}
use Rattle.std.proofs.lemmas.Int.{to_z-of_z}
use Rattle.std.specs.BinaryHeap.{heap_items}
use Rattle.std.specs.Result.{OnErr, OnOk, is_ok}
use Rattle.vs_queue.proofs.heap.Entries.{put-where}
use Rattle.vs_queue.proofs.queue.Queue.put.Goals as goal
use Rattle.vs_queue.proofs.queue.Queue.put.Goals.{then-self, else-self}

on-ok : {T E P : Type 0} (r : Result T E) → OnOk r P → is_ok r ≡ true → P
on-ok (Ok x) is e = is
on-ok (Err x) is e = absurd (cc)

on-err : {T E P : Type 0} (r : Result T E) → OnErr r P → is_ok r ≡ false → P
on-err (Ok x) is e = absurd (cc)
on-err (Err x) is e = is

pub returns : goal.returns
returns c =
    let now = c.args.self.now in
    let fits : SFits w64 c.args.key = search rules in
    let permutation = simp to_z-of_z at c.push.ensures.permutation in
    record {
      put = record {
        near = refl;
        floor = refl;
        far = put-where (heap_items now.far) (heap_items c.push.new.self) now.complete c.is_ok-done.result
            c.if-self.self c.args.node c.args.key
            (λ done.
            let is = sym c.is_ok-done.ensures.value ∙ done in
            (on-ok c.push.result permutation is, on-ok c.push.result c.push.ensures.heap_order is))
            (λ done. (on-err c.push.result c.push.ensures.unchanged (sym c.is_ok-done.ensures.value ∙ done)).0)
            (λ all.
            elim c.if-self.branch [
              | then-self w ↦ (w.if-self.true, sym w.self-is ∙ all)
              | else-self w ↦ let e : false ≡ true = sym w.if-self.false ∙ sym w.self-is ∙ all in absurd (cc)
            ]);
      };
    }
