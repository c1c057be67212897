-- Where lengths are closed in minutes and in metres, no three stops have a misfit.
use Rattle.std.proofs.Common.{◌≡◌, ◌≢◌, ℕ, ◌<◌, ◌≤◌, Bool, cond, refl, ap, ◌∙◌, subst, arith}
use Rattle.std.specs.FinMap as map
use Rattle.std.specs.Option.{IfSome, IsSomeAnd}
use Rattle.std.specs.declared.option.Option.{Option}
use Rattle.std.specs.declared.option.Option.TheVariants.{None, Some}
use Rattle.std.proofs.lemmas.Bool.{ne_eqb}
use Rattle.vs_instance.specs.declared.way.Way.{Way}
use Rattle.vs_instance.specs.declared.lengths.Measure.{Measure}
use Rattle.vs_instance.specs.declared.lengths.Measure.TheVariants.{Minutes, Metres}
use Rattle.vs_instance.specs.declared.limits.TheConstants.{MAX_MINUTES, MAX_METRES}
use Rattle.vs_instance.specs.Instance.{IsNoLonger}
use Rattle.vs_instance.specs.deadheads.Lengths.{far_without, length_of, IsClosedIn, AreShort}
use Rattle.vs_instance.specs.Misfits.{closure_misfits, misfits_from, misfits_by, triple_misfits}
use Rattle.vs_instance.specs.deadheads.WayMap.{WayMap}
use Rattle.vs_instance.proofs.misfits.Closed.{none_of_apart, none_of_detour}
use Rattle.vs_instance.proofs.misfits.Empty.{none_numbers}
use Rattle.vs_instance.proofs.misfits.Empty as empty

module _ (ways : WayMap) where
  -- between two stops the length is that of the deadhead, and far without one
  length-apart : (measure : Measure) (k s : ℕ) (o : Option Way) → k ≢ s → map.get ways.given (k, s) ≡ o
      → length_of measure ways k s ≡ far_without measure o
  length-apart measure k s o apart is =
      ap (λ (b : Bool). cond b 0 (far_without measure (map.get ways.given (k, s)))) (ne_eqb k s apart)
      ∙ ap (far_without measure) is

  module _ (short : AreShort ways) (in_minutes : IsClosedIn Minutes ways) (in_metres : IsClosedIn Metres ways) where
    within : (k s : ℕ) (w : Way) → map.get ways.given (k, s) ≡ Some w
        → (w.minutes ≤ MAX_MINUTES) × (w.metres ≤ MAX_METRES)
    within k s w is =
        subst (λ (o : Option Way). IfSome o (λ v. (v.minutes ≤ MAX_MINUTES) × (v.metres ≤ MAX_METRES))) is
        (short.each k s)

    -- two deadheads in a row have one that is no longer than both
    has_direct : (k s t : ℕ) (a b : Way) → k < ways.stops → s < ways.stops → t < ways.stops → k ≢ s → s ≢ t → k ≢ t
        → map.get ways.given (k, s) ≡ Some a → map.get ways.given (s, t) ≡ Some b
        → IsSomeAnd (map.get ways.given (k, t)) (IsNoLonger a b)
    has_direct k s t a b of_k of_s of_t ks st kt first second = by_way (map.get ways.given (k, t)) refl
      where
        by_way : (o : Option Way) → map.get ways.given (k, t) ≡ o → IsSomeAnd o (IsNoLonger a b)
        by_way (Some w) is = record {
          minutes = omega (
            arith,
            in_minutes.at k s t of_k of_s of_t,
            length-apart Minutes k s (Some a) ks first,
            length-apart Minutes s t (Some b) st second,
            length-apart Minutes k t (Some w) kt is,
          );
          metres = omega (
            arith,
            in_metres.at k s t of_k of_s of_t,
            length-apart Metres k s (Some a) ks first,
            length-apart Metres s t (Some b) st second,
            length-apart Metres k t (Some w) kt is,
          );
        }
        by_way None is =
            absurd (omega (
              arith,
              in_minutes.at k s t of_k of_s of_t,
              length-apart Minutes k s (Some a) ks first,
              length-apart Minutes s t (Some b) st second,
              length-apart Minutes k t None kt is,
              (within k s a first).0,
              (within s t b second).0,
            ))

    pub closed_lengths : empty.None (closure_misfits ways.stops ways.given)
    closed_lengths =
        none_numbers (misfits_from ways.stops ways.given) 0 ways.stops (λ k _ of_k.
        none_numbers (misfits_by ways.stops ways.given k) 0 ways.stops (λ s _ of_s.
        none_numbers (triple_misfits ways.given k s) 0 ways.stops (λ t _ of_t.
        none_of_apart k s t (map.get ways.given (k, s)) (map.get ways.given (s, t)) (map.get ways.given (k, t))
        (λ ks st kt.
        none_of_detour k s t (map.get ways.given (k, s)) (map.get ways.given (s, t)) (map.get ways.given (k, t))
        (λ a b first second.
        has_direct k s t a b (omega arith) (omega arith) (omega arith) ks st kt first second)))))
