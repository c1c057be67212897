-- The order of kinds of arcs, as it is derived, is by rank and then by trip.
use Rattle.std.proofs.Common.{◌≡◌, ℕ, eqb, ◌&&◌, refl, ap, arith}
use Rattle.std.specs.Ordering.{nat_cmp, ordering_then}
use Rattle.vs_match.specs.declared.arc_kind.ArcKind.{ArcKind}
use Rattle.vs_match.specs.declared.arc_kind.ArcKind.TheVariants.{Trip, Waiting, Deadhead, PullOut, PullIn, RestIn, RestWait, RestOut, Return}
use Rattle.vs_match.specs.contracts.arc_kind.ArcKindPartialEq.TheImpl as equality
use Rattle.vs_match.specs.contracts.arc_kind.ArcKindOrd.TheImpl as order
use Rattle.vs_match.specs.NetArcs.{rank, trip_number}

pub kind_eq-is : (a b : ArcKind)
    → equality.ghosts.eq a b ≡ (eqb (rank a) (rank b) && eqb (trip_number a) (trip_number b))
kind_eq-is (Trip i) Waiting = refl
kind_eq-is Waiting Waiting = refl
kind_eq-is Deadhead Waiting = refl
kind_eq-is PullOut Waiting = refl
kind_eq-is PullIn Waiting = refl
kind_eq-is RestIn Waiting = refl
kind_eq-is RestWait Waiting = refl
kind_eq-is RestOut Waiting = refl
kind_eq-is Return Waiting = refl
kind_eq-is _ _ = refl

pub kind_cmp-is : (a b : ArcKind)
    → order.ghosts.cmp a b ≡ ordering_then (nat_cmp (rank a) (rank b)) (nat_cmp (trip_number a) (trip_number b))
kind_cmp-is (Trip i) Waiting = refl
kind_cmp-is Waiting Waiting = refl
kind_cmp-is Deadhead Waiting = refl
kind_cmp-is PullOut Waiting = refl
kind_cmp-is PullIn Waiting = refl
kind_cmp-is RestIn Waiting = refl
kind_cmp-is RestWait Waiting = refl
kind_cmp-is RestOut Waiting = refl
kind_cmp-is Return Waiting = refl
kind_cmp-is _ _ = refl

-- a kind is known by its rank and its trip
pub kind_of_rank : (a b : ArcKind) → rank a ≡ rank b → trip_number a ≡ trip_number b → a ≡ b
kind_of_rank (Trip i) (Trip j) same number = ap (λ (n : ℕ). Trip (record { 0 = n })) number
kind_of_rank Waiting Waiting same number = refl
kind_of_rank Deadhead Deadhead same number = refl
kind_of_rank PullOut PullOut same number = refl
kind_of_rank PullIn PullIn same number = refl
kind_of_rank RestIn RestIn same number = refl
kind_of_rank RestWait RestWait same number = refl
kind_of_rank RestOut RestOut same number = refl
kind_of_rank Return Return same number = refl
kind_of_rank _ _ same number = absurd (omega (arith, same))
