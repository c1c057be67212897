-- Deadheads written down one after another.
use Rattle.std.proofs.Common.{◌≡◌, ℕ, ◌+◌, ◌<◌, Bool, true, false, cond, ◌||◌, eqb, List, [], ◌∷◌, length, get_or, take, refl, sym, ap, ◌∙◌}
use Rattle.std.specs.FinMap as map
use Rattle.std.specs.List.{fold, list_any}
use Rattle.std.specs.Option.{is_some}
use Rattle.std.specs.declared.option.Option.{Option}
use Rattle.std.specs.declared.option.Option.TheVariants.{None, Some}
use Rattle.std.specs.Ordering.{eq_by_cmp, nat_cmp}
use Rattle.std.specs.Cmp.{both_tied, unsigned_ties, nat_eq_equiv}
use Rattle.std.proofs.lemmas.List.{take_more}
use Rattle.std.proofs.lemmas.Grind.{fold-append}
use Rattle.vs_instance.specs.declared.parts.Deadhead.{Deadhead}
use Rattle.vs_instance.specs.declared.way.Way.{Way}
use Rattle.vs_instance.specs.Problem.{pair_cmp}
use Rattle.vs_instance.specs.declared.misfit.Misfit.{Misfit}
use Rattle.vs_instance.specs.Misfits.{deadheads_of, are_twins, has_twin_before, deadhead_misfits, first_misfit}
use Rattle.vs_instance.proofs.deadheads.Pairs.{pair_cmp-total}

abbrev pub Map : Type 0
Map = map.FinMap pair_cmp Way

-- the way and the pair that a deadhead gives
abbrev pub way_given : Deadhead → Way
way_given d = record { minutes = d.minutes; metres = d.metres }

abbrev pub pair_of : Deadhead → ℕ × ℕ
pair_of d = (d.from.0, d.to.0)

-- one more deadhead is written down
abbrev pub with_deadhead : Map → Deadhead → Map
with_deadhead m d = map.insert m (d.from.0, d.to.0) (record { minutes = d.minutes; metres = d.metres })

-- one deadhead more is written down behind those before it
pub deadheads_of-more : (ds : List Deadhead) (i : ℕ) (d : Deadhead) → i < length ds
    → deadheads_of (take (i + 1) ds) ≡ with_deadhead (deadheads_of (take i ds)) (get_or ds i d)
deadheads_of-more ds i d within =
    ap deadheads_of (take_more ds i d within) ∙ fold-append with_deadhead map.empty (take i ds) (get_or ds i d ∷ [])

some_either : (b : Bool) (w : Way) (o : Option Way) → is_some (cond b (Some w) o) ≡ (is_some o || b)
some_either true w None = refl
some_either true w (Some v) = refl
some_either false w None = refl
some_either false w (Some v) = refl

or_assoc : (a b c : Bool) → ((a || b) || c) ≡ (a || (b || c))
or_assoc true b c = refl
or_assoc false b c = refl

or-none : (a : Bool) → a ≡ (a || false)
or-none true = refl
or-none false = refl

-- two deadheads have tied pairs exactly where they are twins
pub tied_twins : (e d : Deadhead) → eq_by_cmp pair_cmp (d.from.0, d.to.0) (e.from.0, e.to.0) ≡ are_twins e d
tied_twins e d =
    sym (both_tied (eqb e.from.0 d.from.0) (eqb e.to.0 d.to.0) (nat_cmp d.from.0 e.from.0) (nat_cmp d.to.0 e.to.0)
    (nat_eq_equiv.symm e.from.0 d.from.0 ∙ unsigned_ties d.from.0 e.from.0)
    (nat_eq_equiv.symm e.to.0 d.to.0 ∙ unsigned_ties d.to.0 e.to.0))

-- the deadhead's pair is given after the others exactly where it was before, or is that of one of them
given_after : (m : Map) (ds : List Deadhead) (d : Deadhead)
    → is_some (map.get (fold with_deadhead m ds) (d.from.0, d.to.0))
    ≡ (is_some (map.get m (d.from.0, d.to.0)) || list_any (λ e. are_twins e d) ds)
given_after m [] d = or-none _
given_after m (e ∷ ds) d =
    given_after (with_deadhead m e) ds d
    ∙ ap (λ (o : Option Way). is_some o || list_any (λ e. are_twins e d) ds)
    (map.get-insert pair_cmp-total m (e.from.0, e.to.0) (record { minutes = e.minutes; metres = e.metres })
    (d.from.0, d.to.0))
    ∙ ap (λ (b : Bool). b || list_any (λ e. are_twins e d) ds)
    (some_either _ (record { minutes = e.minutes; metres = e.metres }) (map.get m (d.from.0, d.to.0))
    ∙ ap (λ (b : Bool). is_some (map.get m (d.from.0, d.to.0)) || b) (tied_twins e d))
    ∙ or_assoc (is_some (map.get m (d.from.0, d.to.0))) (are_twins e d) (list_any (λ e. are_twins e d) ds)

-- the table has the pair of a deadhead exactly where an earlier one is its twin
pub has_twin_before-is : (ds : List Deadhead) (n : ℕ) (d : Deadhead)
    → is_some (map.get (deadheads_of (take n ds)) (d.from.0, d.to.0)) ≡ has_twin_before ds n d
has_twin_before-is ds n d =
    given_after map.empty (take n ds) d
    ∙ ap (λ (o : Option Way). is_some o || has_twin_before ds n d) (map.get-empty pair_cmp (d.from.0, d.to.0))

abbrev pub no_deadhead : Deadhead
no_deadhead = record { from = record { 0 = 0 }; to = record { 0 = 0 }; minutes = 0; metres = 0 }

-- the misfits of deadhead n of these
abbrev pub nth_misfits : List Deadhead → ℕ → Deadhead → List Misfit
nth_misfits ds n d = deadhead_misfits (has_twin_before ds n d) n d

-- Deadhead n is judged while those before it are written down
module _ (ds : List Deadhead) (n : ℕ) (given : Map) (found : Option Way) (twice : Bool) (judged : Option Misfit)
    (gathered : given ≡ deadheads_of (take n ds))
    (looked_up : found ≡ map.get given ((get_or ds n no_deadhead).from.0, (get_or ds n no_deadhead).to.0))
    (told : twice ≡ is_some found)
    (is : judged ≡ first_misfit (deadhead_misfits twice n (get_or ds n no_deadhead))) where
  pub judged-is : judged ≡ first_misfit (nth_misfits ds n (get_or ds n no_deadhead))
  judged-is =
      let d = get_or ds n no_deadhead in
      is
      ∙ ap (λ (b : Bool). first_misfit (deadhead_misfits b n d))
      (told ∙ ap (λ (o : Option Way). is_some o) (looked_up ∙ ap (λ (m : Map). map.get m (d.from.0, d.to.0)) gathered)
      ∙ has_twin_before-is ds n d)
