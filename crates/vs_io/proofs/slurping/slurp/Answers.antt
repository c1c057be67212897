use Rattle.std.proofs.Common.{rules, arith, inr, ◌≡◌, ◌<◌, ◌≤◌, ◌++◌, length, take, refl, length-append}
use Rattle.std.proofs.lemmas.List.{length-take-le}
use Rattle.std.proofs.lemmas.Result.{err_from_is_err_and}
use Rattle.vs_io.proofs.Bytes.{Takes-append}
use Rattle.vs_io.proofs.Faults.{Rose-counted, one_more-within}
use Rattle.vs_io.proofs.slurping.slurp.Goals as goal

pub returns-then-n-limit-clause-gone : goal.returns-then-n-limit-clause-gone
returns-then-n-limit-clause-gone g c =
    let piece : length (take c.in_ok-n.n c.take.new.buf) ≡ c.in_ok-n.n =
    length-take-le c.in_ok-n.n c.take.new.buf c.in_ok-n.ensures.within in
    let more : c.args.limit < length (c.pieces.bytes.items ++ take c.in_ok-n.n c.take.new.buf) =
    omega (arith, piece, length-append c.pieces.bytes.items (take c.in_ok-n.n c.take.new.buf)) in (
      c.pieces.bytes.items ++ take c.in_ok-n.n c.take.new.buf,
      Takes-append _ _ _ _ _ c.pieces.invariant.taken c.in_ok-n.ensures.moved,
      ((λ _. more), (λ _. refl)),
    )

pub returns-in_err-extend_from_slice-clause-gone :
    goal.returns-in_err-extend_from_slice-clause-gone
returns-in_err-extend_from_slice-clause-gone g c =
    let p = err_from_is_err_and c.from_residual-in_err-extend_from_slice.result
    c.from_residual-in_err-extend_from_slice.ensures.1 in
    let piece : length (take c.in_ok-n.n c.take.new.buf) ≡ c.in_ok-n.n =
    length-take-le c.in_ok-n.n c.take.new.buf c.in_ok-n.ensures.within in
    let within : length (c.pieces.bytes.items ++ take c.in_ok-n.n c.take.new.buf) ≤ c.args.limit =
    omega (arith, piece, length-append c.pieces.bytes.items (take c.in_ok-n.n c.take.new.buf)) in
    rw (p.1, p.2) (
      c.pieces.bytes.items ++ take c.in_ok-n.n c.take.new.buf,
      Takes-append _ _ _ _ _ c.pieces.invariant.taken c.in_ok-n.ensures.moved,
      ((λ is. cc), (λ more. absurd (omega arith))),
    )

pub pieces-preserved : goal.pieces-preserved
pieces-preserved g c =
    let piece : length (take c.in_ok-n.n c.take.new.buf) ≡ c.in_ok-n.n =
    length-take-le c.in_ok-n.n c.take.new.buf c.in_ok-n.ensures.within in
    record {
      within = search rules;
      taken = rw c.in_ok-extend_from_slice.ensures.items
          (Takes-append _ _ _ _ _ c.pieces.invariant.taken c.in_ok-n.ensures.moved);
      kept = search rules;
      counted = inr (Rose-counted _ _ _ c.pieces.invariant.counted c.take.ensures.counted);
      few_takes = search (rules, one_more-within);
    }
