-- The flaw of a split.
use Rattle.std.proofs.Common.{◌≡◌, ℕ, Bool, true, false, refl, sym, subst, Option, Some, None as nothing, MatchBool}
use Rattle.vs_types.specs.declared.layer_set.LayerSet.{LayerSet}
use Rattle.vs_types.specs.declared.numbers.TripNo.{TripNo}
use Rattle.vs_instance.specs.Problem.{Problem}
use Rattle.vs_instance.specs.Restriction.{set_of}
use Rattle.vs_rows.specs.declared.document.Document.{Document}
use Rattle.vs_rows.specs.declared.document.Shape.TheVariants.{Split}
use Rattle.vs_types.specs.Parts.{is_proper_part}
use Rattle.vs_check.specs.Walk.{GoesOver, IsOnLeft}
use Rattle.vs_check.specs.declared.flaw.Flaw.{Flaw}
use Rattle.vs_check.specs.declared.flaw.Flaw.TheVariants.{BadSplit}
use Rattle.vs_check.specs.declared.walk.Walk.{Walk}

module _ (p : Problem) (d : Document) (position : ℕ) (trip : TripNo) (left : LayerSet) (old new : Walk) where
  abbrev is_good : Bool
  is_good = is_proper_part left (set_of old.sets.items trip.0)

  abbrev Shares : Type 0
  Shares = (◌≡◌ {A = Option Flaw} nothing nothing) × IsOnLeft trip left old new

  -- one that shares out its trip's set has none, and one that doesn't has
  pub good_split : is_good ≡ true → IsOnLeft trip left old new → GoesOver p d position (Split trip left) old new nothing
  good_split good on =
      subst (λ (b : Bool). MatchBool b (Shares) (◌≡◌ {A = Option Flaw} nothing (Some (BadSplit position)))) (sym good)
      (refl, on)

  pub bad_split : is_good ≡ false → GoesOver p d position (Split trip left) old new (Some (BadSplit position))
  bad_split bad =
      subst (λ (b : Bool). MatchBool b ((Some (BadSplit position) ≡ nothing) × IsOnLeft trip left old new)
      (Some (BadSplit position) ≡ Some (BadSplit position))) (sym bad) refl
