-- A turn that is made keeps the rule.
use Rattle.std.proofs.Common.{◌≡◌, ℕ, zero, suc, ◌<◌, ◌^◌, List, [], ◌∷◌, refl, sym, subst, arith, append-nil}
use Rattle.std.proofs.Math.Seq.{drop-length}
use mathlib.Core.Option.{some, some-injective, some-ne-none}
use lib.ListN.{get_elem?}
use Rattle.std.specs.Prelude.{Some}
use Rattle.atomic_table.specs.Table.{opening}
use Rattle.vs_turn.specs.declared.seat.View.{View}
use Rattle.vs_turn.specs.Calls.{AreMadeBelow}
use Rattle.vs_turn.specs.Tickets.{all_tickets}
use Rattle.vs_turn.specs.Rule.{origin, Stands, IsRuled}
use Rattle.vs_turn.specs.Steps.{first_view}
use Rattle.vs_turn.proofs.TicketLists.{true_not_false, tickets_from-rise, tickets_from_below}
use Rattle.vs_turn.proofs.CallLists.{calls_of-none}

module _ {S : Type 0} (opening_of : S → List ℕ) (entries_of : S → List (List ℕ)) where
  first_stands : (x : S) (n : ℕ)
      → Stands (origin opening_of entries_of x n) (λ _. 0) (entries_of x) 0 0
      (first_view (opening_of x) (entries_of x) n)
  first_stands x n = let es = entries_of x in record {
    rise = tickets_from-rise 0 n;
    tickets = λ t h. (let b = tickets_from_below 0 n t h in omega arith, refl);
    marked = λ h. absurd (true_not_false h refl);
    only_marked = λ e. absurd (omega arith);
    found = λ h. absurd (true_not_false h refl);
    opening = refl;
    since = refl;
    begun = omega arith;
    mine = calls_of-none (all_tickets n) es;
    rest = [];
    begins = append-nil es;
    unmade = tt;
    olds = tt;
  }

  stands_at : (x : S) (n id : ℕ) (v : View) → get_elem? (first_view (opening_of x) (entries_of x) n ∷ []) id ≡ some v
      → Stands (origin opening_of entries_of x n) (λ _. 0) (entries_of x) 0 id v
  stands_at x n zero v e =
      let first : View = first_view (opening_of x) (entries_of x) n in
      subst (Stands (origin opening_of entries_of x n) (λ _. 0) (entries_of x) 0 0) (some-injective first v e)
      (first_stands x n)
  stands_at x n (suc id) v e = absurd (some-ne-none v (sym e))

  -- the table at the start
  pub opens : (x : S) (n : ℕ) → n < 2 ^ 32
      → IsRuled opening_of entries_of (origin opening_of entries_of x n)
      (opening (0 ∷ []) (Some x ∷ []) (first_view (opening_of x) (entries_of x) n))
  opens x n few = (
    refl,
    record {
      log = entries_of x;
      owner = λ _. 0;
      few = few;
      in_range = omega arith;
      free = λ _. record { value = x; at = refl; opening_is = refl; entries_are = refl };
      holder = 0;
      taken = λ h. absurd (omega arith);
      stands = λ id v here. stands_at x n id v here.at;
      made = subst (AreMadeBelow n) (sym (drop-length (entries_of x))) tt;
    },
  )
