-- What one take or put after another does to the bytes.
use Rattle.std.proofs.Common.{◌≡◌, ℕ, ◌+◌, ◌≤◌, Option, Some, None, List, ◌++◌, length, take, drop, sym, ap, ◌∙◌, arith, ◌-◌, append_assoc, length-drop}
use Rattle.std.proofs.Math.Seq.{take-add}
use Rattle.std.proofs.lemmas.List.{take_rest, take_at, take-append-drop, length-take, drop-drop}
use Rattle.vs_io.specs.Bytes.{Takes, Appends}

-- one take after another
pub Takes-append : (old mid new : Option (List ℕ)) (xs ys : List ℕ)
    → Takes old mid xs → Takes mid new ys → Takes old new (xs ++ ys)
Takes-append old mid None xs ys first second = cc
Takes-append old mid (Some rest) xs ys first second =
    rw (first, second) (ap Some (sym (append_assoc xs ys rest)))

-- one put after another
pub Appends-append : (old mid new : Option (List ℕ)) (xs ys : List ℕ)
    → Appends old mid xs → Appends mid new ys → Appends old new (xs ++ ys)
Appends-append None mid new xs ys first second = cc
Appends-append (Some before) mid new xs ys first second =
    rw (second, first) (ap Some (append_assoc before xs ys))

-- a first part of what is not put yet
pub take-further : (bytes : List ℕ) (done n : ℕ)
    → take done bytes ++ take n (take (length bytes - done) (drop done bytes)) ≡ take (done + n) bytes
take-further bytes done n = rw (take_rest bytes done) (sym (take-add done n bytes))

-- n bytes from a place on, and those behind them
pub take-moved : (bytes buf moved : List ℕ) (next n : ℕ) → next + n ≤ length bytes
    → moved ≡ take (next + n - next) (drop next bytes)
    → drop next bytes ≡ take n (moved ++ buf) ++ drop (next + n) bytes
take-moved bytes buf moved next n within is =
    let count : next + n - next ≡ n = omega arith in
    let whole : moved ≡ take n (drop next bytes) = is ∙ ap (λ (m : ℕ). take m (drop next bytes)) count in
    let long : length moved ≡ n = rw whole (omega (arith, length-take n (drop next bytes), length-drop next bytes)) in
    rw (take_at moved buf n long, whole, ← drop-drop n next bytes) (sym (take-append-drop n (drop next bytes)))
