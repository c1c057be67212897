-- The misfits of two ways in a row, as they are looked up in rows.
use Rattle.std.proofs.Common.{◌≡◌, ℕ, ◌<◌, Bool, true, false, cond, ◌||◌, eqb, List, [], get_or, refl, sym, ap, ◌∙◌}
use Rattle.std.specs.FinMap as map
use Rattle.std.specs.declared.option.Option.{Option}
use Rattle.std.specs.declared.option.Option.TheVariants.{None, Some}
use Rattle.vs_instance.specs.declared.misfit.Misfit.{Misfit}
use Rattle.vs_instance.specs.declared.way.Way.{Way}
use Rattle.vs_instance.specs.Problem.{pair_cmp}
use Rattle.vs_instance.specs.deadheads.WayMap.{WayMap, row_of}
use Rattle.vs_instance.specs.Misfits.{first_misfit, apart_misfits, triple_misfits, misfits_by, numbers}
use Rattle.vs_instance.proofs.misfits.Firsts.{flat_map-none}
use Rattle.vs_instance.proofs.deadheads.WayMap.{get_or-row_of}

module _ (ways : WayMap) (k s t : ℕ) (found : Option Way) (first : Way) (onward direct : List (Option Way))
    (judged : Option Misfit)
    (looked_up : found ≡ map.get ways.given (k, s)) (some : found ≡ Some first)
    (from_s : onward ≡ row_of ways s) (from_k : direct ≡ row_of ways k) (within : t < ways.stops)
    (is : judged ≡ first_misfit (apart_misfits k s t (Some first) (get_or onward t None) (get_or direct t None))) where
  pub triple-is : judged ≡ first_misfit (triple_misfits ways.given k s t)
  triple-is =
      is
      ∙ ap (λ (o : Option Way). first_misfit (apart_misfits k s t o (get_or onward t None) (get_or direct t None)))
      (sym some ∙ looked_up)
      ∙ ap (λ (o : Option Way). first_misfit (apart_misfits k s t (map.get ways.given (k, s)) o (get_or direct t None)))
      (ap (λ (row : List (Option Way)). get_or row t None) from_s ∙ get_or-row_of ways s t None within)
      ∙ ap (λ (o : Option Way). first_misfit
      (apart_misfits k s t (map.get ways.given (k, s)) (map.get ways.given (s, t)) o))
      (ap (λ (row : List (Option Way)). get_or row t None) from_k ∙ get_or-row_of ways k t None within)

either_empty : (b : Bool) → ◌≡◌ {A = List Misfit} (cond b [] []) []
either_empty true = refl
either_empty false = refl

-- where no deadhead leads from k to s, nothing is wrong with the ways by s
pub misfits_by-none : (n k s : ℕ) (given : map.FinMap pair_cmp Way) → map.get given (k, s) ≡ None
    → misfits_by n given k s ≡ []
misfits_by-none n k s given none =
    flat_map-none (triple_misfits given k s) (numbers n) (λ t.
    ap (λ (o : Option Way). apart_misfits k s t o (map.get given (s, t)) (map.get given (k, t))) none
    ∙ either_empty ((eqb k s || eqb s t) || eqb k t))
