-- Trips and vehicles, as loops count them.
use Rattle.std.proofs.Common.{◌≡◌, ℕ, ◌+◌, ◌<◌, Bool, cond, List, [], ◌∷◌, ◌++◌, length, map, sym, ap, ◌∙◌, subst, arith}
use Rattle.std.specs.List.{filter, range_with_len, sum}
use Rattle.std.proofs.lemmas.List.Elements.{All-push}
use Rattle.std.proofs.lemmas.List.FromFn.{filter_of_map_range_with_len_more, sum_by-map-range_with_len_more}
use Rattle.vs_types.specs.declared.numbers.TripNo.{TripNo}
use Rattle.vs_instance.specs.Problem.{Problem}
use Rattle.vs_prices.specs.declared.table.Table.{Table}
use Rattle.vs_messages.specs.Reasons.{AreTripsOf, counts, numbered}

-- one more trip is looked at: where it counts, it stands at the end
pub counted_more : (p : Problem) (table : Table) (i : ℕ) (before after : List TripNo) (test : Bool)
    → before ≡ filter (counts p table) (map numbered (range_with_len 0 i))
    → counts p table (numbered i) ≡ test
    → after ≡ before ++ cond test (numbered i ∷ []) []
    → after ≡ filter (counts p table) (map numbered (range_with_len 0 (i + 1)))
counted_more p table i before after test were tested is =
    is
    ∙ (ap (λ (b : Bool). before ++ cond b (numbered i ∷ []) []) (sym tested)
    ∙ (ap (λ (xs : List TripNo). xs ++ cond (counts p table (numbered i)) (numbered i ∷ []) []) were
    ∙ sym (filter_of_map_range_with_len_more (counts p table) numbered 0 i i (omega arith))))

-- and what stands there are trips of the problem
pub trips_more : (p : Problem) (i : ℕ) (before after : List TripNo) → AreTripsOf p before → i < length p.trips
    → after ≡ before ++ numbered i ∷ [] → AreTripsOf p after
trips_more p i before after were inside is =
    subst (AreTripsOf p) (sym is) (All-push (λ (t : TripNo). t.0 < length p.trips) before (numbered i) were inside)

-- one more layer is counted
pub sum_more : (f : ℕ → ℕ) (n total more : ℕ) → total ≡ sum (map f (range_with_len 0 n)) → more ≡ f n
    → total + more ≡ sum (map f (range_with_len 0 (n + 1)))
sum_more f n total more was is =
    let e = sum_by-map-range_with_len_more (λ (x : ℕ). x) f 0 n n (omega arith) in cc
