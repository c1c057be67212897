-- The workers of a crew as a list.
use Rattle.std.proofs.Common.{◌≡◌, ℕ, ◌+◌, List, [], ◌∷◌, ◌++◌, length, get_or, refl, sym, ap, ◌∙◌, subst, arith, inl, inr, length-append, Bool, Option, Some, unwrap_or}
use Rattle.std.proofs.lemmas.Bool.{cases_lt}
use Rattle.std.proofs.lemmas.List.{get_or_append_left, get_or-append-add}
use Rattle.atomic_table.specs.Seated.{TableId}
use Rattle.vs_instance.specs.Problem.{Problem}
use Rattle.vs_turn.specs.Seats.{SeatModel}
use Rattle.vs_tree.specs.Search.{Search}
use Rattle.vs_crew.specs.Sharing.{IsEnd, Knows}
use Rattle.vs_crew.specs.Workers.{AreDone, AreEnlisted, IsDone, IsEnlisted}
use Rattle.vs_crew.specs.declared.worker.Worker.{Worker}

-- what a list has at its end
pub at-end : (xs : List Worker) (x d : Worker) (k : ℕ) → k ≡ length xs → get_or (xs ++ x ∷ []) k d ≡ x
at-end xs x d k is =
    let at : k ≡ length xs + 0 = omega (arith, is) in
    ap (λ (i : ℕ). get_or (xs ++ x ∷ []) i d) at ∙ get_or-append-add xs (x ∷ []) 0 d

-- one worker more is enlisted
pub enlisted-more : (p : Problem) (crew : List Worker) (worker : Worker) → AreEnlisted p crew
    → IsEnlisted p (length crew) worker → AreEnlisted p (crew ++ worker ∷ [])
enlisted-more p crew worker each one k d inside =
    let size = length-append crew (worker ∷ []) in
    elim (cases_lt k (length crew)) [
      | inl before ↦
          subst (IsEnlisted p k) (sym (get_or_append_left crew (worker ∷ []) d k before)) (each k d before)
      | inr past ↦
          let last : k ≡ length crew = omega (arith, size, past, inside) in
          subst (IsEnlisted p k) (sym (at-end crew worker d k last))
          (subst (λ (i : ℕ). IsEnlisted p i worker) (sym last) one)
    ]

-- where all of a crew are done, so are the last and those before
pub done-last : (stops : Type 0) (turn : TableId) (start : Search) (crew : List Worker) (worker : Worker)
    → AreDone stops turn start (crew ++ worker ∷ []) → IsDone stops turn start (length crew) worker
done-last stops turn start crew worker each =
    let size = length-append crew (worker ∷ []) in
    subst (IsDone stops turn start (length crew)) (at-end crew worker worker (length crew) refl)
    (each (length crew) worker (omega (arith, size)))

pub done-before : (stops : Type 0) (turn : TableId) (start : Search) (crew : List Worker) (worker : Worker)
    → AreDone stops turn start (crew ++ worker ∷ []) → AreDone stops turn start crew
done-before stops turn start crew worker each k d inside =
    let size = length-append crew (worker ∷ []) in
    subst (IsDone stops turn start k) (get_or_append_left crew (worker ∷ []) d k inside)
    (each k d (omega (arith, size, inside)))

-- what the seat knows of a worker that is done
pub end_knows : (stops : Type 0) (turn : TableId) (start : Search) (number : ℕ) (worker : Worker) (seat : SeatModel)
    (over : Bool) → IsDone stops turn start number worker → worker.seat ≡ Some seat → over ≡ worker.over
    → Knows turn start number (IsEnd stops over number) seat
end_knows stops turn start number worker seat over done has told =
    let same : done.seat ≡ seat = ap (λ (o : Option SeatModel). unwrap_or o done.seat) (sym done.has ∙ has) in
    subst (λ (b : Bool). Knows turn start number (IsEnd stops b number) seat) (sym told)
    (subst (Knows turn start number (IsEnd stops worker.over number)) same done.ended)
