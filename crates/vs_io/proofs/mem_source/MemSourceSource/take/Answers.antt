use Rattle.std.proofs.Common.{arith, ◌≡◌, ◌+◌, ◌-◌, ◌≤◌, drop, take, length, ap, ◌∙◌, Some}
use Rattle.vs_io.proofs.Bytes.{take-moved}
use Rattle.vs_io.proofs.mem_source.MemSourceSource.take.Goals as goal

pub returns-clause-moved : goal.returns-clause-moved
returns-clause-moved c =
    let fits : c.self.inside.next + c.min-n.result ≤ length c.self.inside.bytes.items =
    omega (arith, c.min-n.ensures, c.len.ensures, c.self.invariant.1) in
    let copied : c.copy_from_slice.new.self
    ≡ take (c.self.inside.next + c.min-n.result - c.self.inside.next)
    (drop c.self.inside.next c.self.inside.bytes.items) =
    c.copy_from_slice.ensures.after
    ∙ ap (λ xs. take (c.self.inside.next + c.min-n.result - c.self.inside.next) (drop c.self.inside.next xs))
    c.as_slice-bytes.ensures.value in
    rw (← c.self.view_is)
    (ap Some (take-moved c.self.inside.bytes.items _ _ c.self.inside.next c.min-n.result fits copied))
