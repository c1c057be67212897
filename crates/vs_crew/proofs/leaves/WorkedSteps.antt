-- Histories in which each leaf was worked on, with steps more.
use Rattle.std.proofs.Common.{◌≡◌, ℕ, ◌≤◌, Bool, true, false, List, [], ◌∷◌, ◌++◌, length, map, take, drop, refl, sym, ap, ◌∙◌, subst, ℤ, ◌+ℤ◌, ◌-ℤ◌, take-append-drop}
use Rattle.std.proofs.lemmas.List.{drop-append-le, take-append-le}
use Rattle.vs_types.specs.LayerSet.{members}
use Rattle.vs_types.specs.declared.layer_set.LayerSet.{LayerSet}
use Rattle.vs_instance.specs.HoldingTable.{price_of, scaled}
use Rattle.vs_instance.specs.Pieces.{trip_piece}
use Rattle.vs_instance.specs.Problem.{Problem}
use Rattle.vs_instance.specs.Restriction.{set_of}
use Rattle.vs_multi.specs.Multipliers.{AreOfTable, limited, greatest_paid}
use Rattle.vs_prices.specs.Bounds.{ReachesLagrangian}
use Rattle.vs_prices.specs.Table.{prices_in}
use Rattle.vs_prices.specs.Worth.{least}
use Rattle.vs_prices.specs.declared.table.Table.{Table}
use Rattle.vs_tree.specs.Calls.{finishing}
use Rattle.vs_tree.specs.History.{FullStep, Opening, State, after, first_state, state_after, state_of}
use Rattle.vs_tree.specs.Prices.{Prices, prices_of}
use Rattle.vs_tree.specs.declared.calls.Next.{Next}
use Rattle.vs_tree.specs.declared.calls.Next.TheVariants.{Close, Split}
use Rattle.vs_tree.proofs.CallerLemmas.{worth_of_table, state-append}
use Rattle.vs_node.specs.WorkedHistory.{AreWorkedFrom, AreWorkedPrices, IsWorkedStep}
use Rattle.vs_node.specs.WorkedStep.{IsWorked}
use Rattle.vs_crew.specs.Crew.{AreWorkedAfter}

-- where each leaf was worked on in some steps and in those that follow, it was in all
pub worked-append : (o : Opening) (s : State) (xs ys : List FullStep) → AreWorkedFrom o s xs
    → AreWorkedFrom o (state_after s xs) ys → AreWorkedFrom o s (xs ++ ys)
worked-append o s [] ys first second = second
worked-append o s (x ∷ xs) ys first second = (first.0, worked-append o (after s x) xs ys first.1 second)

-- so it was since the search was handed in, where it was in the steps that came to it
pub worked-later : (o : Opening) (n : ℕ) (steps added : List FullStep) → n ≤ length steps → AreWorkedAfter o n steps
    → AreWorkedFrom o (state_of o steps) added → AreWorkedAfter o n (steps ++ added)
worked-later o n steps added begun worked more =
    let there : state_after (state_of o (take n steps)) (drop n steps) ≡ state_of o steps =
    sym (state-append (first_state o) (take n steps) (drop n steps)) ∙ ap (state_of o) (take-append-drop n steps) in
    let both : AreWorkedFrom o (state_of o (take n steps)) (drop n steps ++ added) =
    worked-append o (state_of o (take n steps)) (drop n steps) added worked
    (subst (λ (s : State). AreWorkedFrom o s added) (sym there) more) in
    subst (λ (l : List FullStep). AreWorkedFrom o (state_of o l) (drop n (steps ++ added)))
    (sym (take-append-le n steps added begun))
    (subst (λ (l : List FullStep). AreWorkedFrom o (state_of o (take n steps)) l)
    (sym (drop-append-le n steps added begun)) both)

-- a leaf is worked on by the prices with which it is finished
pub worked-finish : (o : Opening) (s : State) (w leaf : ℕ) (prices : Prices) (next : Next)
    → AreWorkedPrices o s leaf prices → IsWorkedStep o s (finishing s w leaf prices next)
worked-finish o s w leaf prices Close worked = worked
worked-finish o s w leaf prices (Split trip left) worked = worked

-- what a trip pays, by the prices alone
abbrev least_of : Problem → List LayerSet → ℕ → Prices → ℤ
least_of p sets i x =
    least (map (λ l. price_of (prices_in p l x.into) i +ℤ scaled x.ray (trip_piece p l i)
    -ℤ price_of (prices_in p l x.from) i) (members (set_of sets i)))

-- the work on a leaf is seen by the prices alone
pub worked-along : (p : Problem) (root : Bool) (sets : List LayerSet) (t u old new : Table)
    → prices_of old ≡ prices_of t → prices_of new ≡ prices_of u → IsWorked p root sets t u
    → IsWorked p root sets old new
worked-along p root sets t u old new same_old same_new worked = by_root root worked
  where
    reaches-along : (multipliers : List ℤ) → ReachesLagrangian p sets multipliers u
        → ReachesLagrangian p sets multipliers new
    reaches-along multipliers reaches worth value is_worth is_value =
        reaches worth value
        (worth_of_table p sets (prices_of u) worth u refl
        (record { table = new; listed = same_new; worth = is_worth })) is_value

    begun-along : (multipliers : List ℤ) → AreOfTable p sets old multipliers → AreOfTable p sets t multipliers
    begun-along multipliers begun = record {
      each_trip = begun.each_trip;
      price = λ i inside. begun.price i inside
          ∙ ap (λ (x : Prices). limited (greatest_paid p) (least_of p sets i x)) same_old;
    }

    by_root : (b : Bool) → IsWorked p b sets t u → IsWorked p b sets old new
    by_root true is multipliers begun = reaches-along multipliers (is multipliers begun)
    by_root false is multipliers begun = reaches-along multipliers (is multipliers (begun-along multipliers begun))
