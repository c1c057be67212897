-- What an exit by `?` says.
use Rattle.std.proofs.Common.{◌≡◌, Result, Ok, Err}
use Rattle.std.specs.Prelude.{IfErr, IfOk}
use Rattle.std.specs.Result.{IsErrAnd}
use Rattle.std.proofs.lemmas.Result.{err_from_is_err_and}

-- what is known of the error that was met holds of the one that is answered
pub err_passes : {T E : Type 0} (r : Result T E) (P : E → Type 0) {met : E} → IsErrAnd r (λ e. e ≡ met) → P met
    → IfErr r P
err_passes r P {met} h holds = let p = err_from_is_err_and r h in rw (p.1, p.2) holds

-- what follows from what is known of an answer
pub ok_weaker : {T E : Type 0} (r : Result T E) (P Q : T → Type 0) → IfOk r P → ((x : T) → P x → Q x) → IfOk r Q
ok_weaker (Ok x) P Q known weaker = weaker x known
ok_weaker (Err e) P Q known weaker = tt

pub err_weaker : {T E : Type 0} (r : Result T E) (P Q : E → Type 0) → IfErr r P → ((e : E) → P e → Q e) → IfErr r Q
err_weaker (Ok x) P Q known weaker = tt
err_weaker (Err e) P Q known weaker = weaker e known
