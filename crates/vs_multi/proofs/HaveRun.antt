-- The layers that have run in a round, one after the other.
use Rattle.std.proofs.Common.{◌≡◌, ◌≢◌, ℕ, suc, ◌+◌, ◌<◌, ◌≤◌, List, [], ◌∷◌, ◌++◌, length, get_or, refl, sym, ap, ◌∙◌, subst, inl, inr, ◌⊎◌, arith, add-one, length-append, Option, Some, ℤ}
use Rattle.std.specs.Prelude.{IfSome, IsSomeAnd, slice_get}
use Rattle.std.proofs.lemmas.Bool.{cases_eq, cases_lt}
use Rattle.std.proofs.lemmas.List.{get_or_append_left, get_or_past}
use Rattle.std.proofs.Math.Seq.{get_or-append_seam}
use Rattle.std.proofs.lemmas.Option.{slice_get-get_or, slice_get_past}
use Rattle.vs_types.specs.declared.layer_set.LayerSet.{LayerSet}
use Rattle.vs_types.specs.declared.numbers.LayerNo.{LayerNo}
use Rattle.vs_instance.specs.Problem.{Problem}
use Rattle.vs_match.specs.LayerGraph.{LayerGraph}
use Rattle.vs_match.specs.LayerNets.{net_at}
use Rattle.vs_circ.specs.declared.circ.Circ.{Circ}
use Rattle.vs_circ.specs.Circulations.{RunTrip}
use Rattle.vs_prices.specs.declared.table.Table.{Table}
use Rattle.vs_multi.specs.declared.round.Round.{Round}
use Rattle.vs_multi.specs.Exchanges.{HasPrices}
use Rattle.vs_multi.specs.Offers.{IsLeastAt}
use Rattle.vs_multi.specs.Rounds.{AreCovers, IsCountBelow, IsCounted, IsRound, IsRunIn, RunsTrip}
use Rattle.vs_multi.proofs.Counts.{count_le, count_same}

-- the layers below n have run with these circulations
pub record HaveRun (p : Problem) (nets : List LayerGraph) (sets : List LayerSet) (multipliers : List ℤ) (n : ℕ)
    (round : Round) : Type 0 where
  pub circs : List Circ
  pub each : length circs ≡ n
  pub least : (l : LayerNo) → l.0 < n → (c : Circ) × (slice_get circs l.0 ≡ Some c)
      × IsLeastAt p (net_at nets l.0) sets multipliers l c × HasPrices p round.table l.0 c.prices
  pub covers : AreCovers p nets circs n round.covers.items

-- what stands before the last and what the last is
before_last : (xs : List Circ) (x : Circ) (k : ℕ) → k < length xs → slice_get (xs ++ x ∷ []) k ≡ slice_get xs k
before_last xs x k within =
    slice_get-get_or (xs ++ x ∷ []) k x (omega (arith, length-append xs (x ∷ [])))
    ∙ ap Some (get_or_append_left xs (x ∷ []) x k within) ∙ sym (slice_get-get_or xs k x within)

the_last : (xs : List Circ) (x : Circ) → slice_get (xs ++ x ∷ []) (length xs) ≡ Some x
the_last xs x =
    slice_get-get_or (xs ++ x ∷ []) (length xs) x (omega (arith, length-append xs (x ∷ [])))
    ∙ ap Some (get_or-append_seam xs x [] x)

module _ (p : Problem) (nets : List LayerGraph) (sets : List LayerSet) (multipliers : List ℤ) where
  -- none yet
  pub none_run : (round : Round) → length round.covers.items ≡ length p.trips
      → ((i : ℕ) → get_or round.covers.items i 0 ≡ 0) → HaveRun p nets sets multipliers 0 round
  none_run round size none = record {
    circs = [];
    each = refl;
    least = λ l below. absurd (omega arith);
    covers = record { each_trip = size; count = λ i inside. none i };
  }

  module _ (n : ℕ) (old new : Round) (few : n < length p.layers) (have : HaveRun p nets sets multipliers n old)
      (l : LayerNo) (here : l.0 ≡ n) (c : Circ)
      (run : IsRunIn p (net_at nets l.0) sets multipliers l old new c) where
    abbrev more : List Circ
    more = have.circs ++ c ∷ []

    at_last : slice_get more n ≡ Some c
    at_last = ap (slice_get more) (sym have.each) ∙ the_last have.circs c

    earlier : (k : ℕ) → k < n → slice_get more k ≡ slice_get have.circs k
    earlier k less = before_last have.circs c k (omega (arith, have.each))

    prices_stay : (k : LayerNo) → k.0 < n → (d : Circ) → HasPrices p old.table k.0 d.prices
        → HasPrices p new.table k.0 d.prices
    prices_stay k less d has =
        let inside : k.0 < length p.layers = omega arith in
        let apart : k.0 ≢ l.0 = λ same. absurd (omega arith) in record {
          into = run.others.into k.0 inside apart ∙ has.into;
          from = run.others.from k.0 inside apart ∙ has.from;
          fleet = run.others.fleet k.0 inside apart ∙ has.fleet;
        }

    abbrev LeastNow : LayerNo → Type 0
    LeastNow k = (d : Circ) × (slice_get more k.0 ≡ Some d) × IsLeastAt p (net_at nets k.0) sets multipliers k d
        × HasPrices p new.table k.0 d.prices

    same_layer : (k : LayerNo) → k.0 ≡ l.0 → l ≡ k
    same_layer k same = ap (λ (m : ℕ). let no : LayerNo = record { 0 = m } in no) (sym same)

    least_now : (k : LayerNo) → k.0 < n + 1 → LeastNow k
    least_now k below =
        elim (cases_eq k.0 l.0) [
          | inl same ↦
              let found : slice_get more l.0 ≡ Some c = ap (slice_get more) here ∙ at_last in
              let now : LeastNow l = (c, found, run.least, run.prices) in
              subst LeastNow (same_layer k same) now
          | inr other ↦
              let less : k.0 < n = omega (arith, below, other, here) in
              let was = have.least k less in
              (was.0, earlier k.0 less ∙ was.1, was.2, prices_stay k less was.0 was.3)
        ]

    runs_there : (i k : ℕ) → k < n → RunsTrip nets have.circs i k → RunsTrip nets more i k
    runs_there i k less runs =
        subst (λ (o : Option Circ). IsSomeAnd o (λ d. RunTrip (net_at nets k) d.flow.units.items i))
        (sym (earlier k less)) runs

    runs_back : (i k : ℕ) → k < n → RunsTrip nets more i k → RunsTrip nets have.circs i k
    runs_back i k less runs =
        subst (λ (o : Option Circ). IsSomeAnd o (λ d. RunTrip (net_at nets k) d.flow.units.items i))
        (earlier k less) runs

    runs_last : (i : ℕ) → RunTrip (net_at nets l.0) c.flow.units.items i → RunsTrip nets more i n
    runs_last i runs =
        subst (λ (o : Option Circ). IsSomeAnd o (λ d. RunTrip (net_at nets n) d.flow.units.items i)) (sym at_last)
        (subst (λ (m : ℕ). RunTrip (net_at nets m) c.flow.units.items i) here runs)

    last_runs : (i : ℕ) → RunsTrip nets more i n → RunTrip (net_at nets l.0) c.flow.units.items i
    last_runs i runs =
        subst (λ (m : ℕ). RunTrip (net_at nets m) c.flow.units.items i) (sym here)
        (subst (λ (o : Option Circ). IsSomeAnd o (λ d. RunTrip (net_at nets n) d.flow.units.items i)) at_last runs)

    counted_now : (i before now : ℕ) → IsCountBelow (RunsTrip nets have.circs i) n before
        → IsCounted (net_at nets l.0) c.flow.units.items i before now → IsCountBelow (RunsTrip nets more i) (suc n) now
    counted_now i before now count (inl (none, same)) =
        inl (
          (λ runs. none (last_runs i runs)),
          subst (IsCountBelow (RunsTrip nets more i) n) (sym same)
              (count_same (RunsTrip nets have.circs i) (RunsTrip nets more i) n before (runs_there i) (runs_back i)
              count),
        )
    counted_now i before now count (inr (some, one)) =
        inr (
          runs_last i some,
          (
            before,
            one,
            count_same (RunsTrip nets have.circs i) (RunsTrip nets more i) n before (runs_there i) (runs_back i) count,
          ),
        )

    -- one more layer
    pub one_more_run : HaveRun p nets sets multipliers (n + 1) new
    one_more_run = record {
      circs = more;
      each = length-append have.circs (c ∷ []) ∙ ap (λ (k : ℕ). k + 1) have.each;
      least = least_now;
      covers = record {
        each_trip = run.counted.each_trip ∙ have.covers.each_trip;
        count = λ i inside. subst (λ (m : ℕ). IsCountBelow (RunsTrip nets more i) m (get_or new.covers.items i 0))
            (sym (add-one n))
            (counted_now i (get_or old.covers.items i 0) (get_or new.covers.items i 0) (have.covers.count i inside)
            (run.counted.count i (omega (arith, inside, have.covers.each_trip))));
      };
    }

  -- no trip is run by more layers than have run
  pub covers_few : (n : ℕ) (round : Round) → HaveRun p nets sets multipliers n round
      → (i : ℕ) → get_or round.covers.items i 0 ≤ n
  covers_few n round have i =
      elim (cases_lt i (length p.trips)) [
        | inl inside ↦
            count_le (RunsTrip nets have.circs i) n (get_or round.covers.items i 0) (have.covers.count i inside)
        | inr past ↦
            let none = get_or_past round.covers.items i 0 (omega (arith, have.covers.each_trip)) in
            omega (arith, none)
      ]

  -- a circulation of the layer is a least one, and the table has its prices there
  abbrev IsRunAt : Table → LayerNo → Option Circ → Type 0
  IsRunAt table l circ = IfSome circ (IsLeastAt p (net_at nets l.0) sets multipliers l)
      × IfSome circ (λ c. HasPrices p table l.0 c.prices)

  -- once all layers have run, it is a round
  pub all_run : (round : Round) → HaveRun p nets sets multipliers (length p.layers) round
      → IsRound p nets sets multipliers round.table round.covers.items
  all_run round have = record {
    circs = have.circs;
    round = record { each_layer = have.each; least = λ l. (found l (cases_lt l.0 (length p.layers))).0 };
    prices = λ l. (found l (cases_lt l.0 (length p.layers))).1;
    covers = have.covers;
  }
    where
      found : (l : LayerNo) → (l.0 < length p.layers) ⊎ (length p.layers ≤ l.0)
          → IsRunAt round.table l (slice_get have.circs l.0)
      found l (inl inside) = let at = have.least l inside in subst (IsRunAt round.table l) (sym at.1) (at.2, at.3)
      found l (inr past) =
          subst (IsRunAt round.table l) (sym (slice_get_past have.circs l.0 (omega (arith, have.each)))) (tt, tt)
