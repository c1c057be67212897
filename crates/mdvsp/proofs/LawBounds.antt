-- When a document that `solve` owes without a node is optimal.
use Rattle.std.proofs.Common.{◌≡◌, ℕ, zero, suc, Bool, true, false, List, [], ◌∷◌, ◌⊎◌, inl, inr, ⊎_elim, Option, Some, None, IsSomeAnd, slice_get, refl, sym, ap, ◌∙◌, subst, arith, ℤ, ◌≤ℤ◌, if◌then◌else◌}
use Rattle.std.proofs.lemmas.Bool.{false≢true}
use Rattle.std.proofs.lemmas.Bool.Decides.{Decides-int_eq}
use Rattle.std.proofs.lemmas.Int.{ints}
use Rattle.std.specs.Ordering.{int_eq}
use Rattle.vs_instance.specs.Problem.{Problem}
use Rattle.vs_instance.specs.Restriction.{permitted_sets}
use Rattle.vs_prices.specs.declared.bound.Bound.{Bound}
use Rattle.vs_prices.specs.declared.bound.Bound.TheVariants.{AtLeast, NoPlan}
use Rattle.vs_prices.specs.declared.claim.Claim.{Claim}
use Rattle.vs_prices.specs.declared.claim.Claim.TheVariants.{Optimal, StillOpen}
use Rattle.vs_rows.specs.declared.document.Document.{Document}
use Rattle.vs_prices.specs.declared.table.Table.{Table}
use Rattle.vs_prices.specs.Claims.{claim_found}
use Rattle.vs_prices.specs.Worth.{IsWorth}
use Rattle.vs_words.specs.declared.command.Effort.{Effort}
use Rattle.vs_reply.specs.declared.status.Status.{Status}
use Rattle.vs_reply.specs.declared.status.Status.TheVariants as status
use Rattle.mdvsp.specs.Laws.{IsDoneWhereShown}
use Rattle.vs_reply.specs.Status.{status_of}
use Rattle.mdvsp.specs.Owed.{OwesDocument}
use Rattle.vs_reader.specs.Rows.{Row}
use Rattle.vs_prices.specs.Tree.{Tree, Leaf, Split, LeafPlace, leaves, splits}
use Rattle.vs_cert.specs.Answers.{AreWorths, IsAnswerSoFar, IsBoundOf}
use Rattle.mdvsp.specs.Budgets.{budget_of}
use Rattle.mdvsp.specs.SolveAnswer.{StoppedAnswer}
use Rattle.mdvsp.proofs.once.SearchesAgree.{optimal_from}
use Rattle.mdvsp.proofs.FirstStates.{given_budget, greedy_plan, zero_listed}

-- the worth of one leaf
one_worth : (p : Problem) (d : Document) (place : LeafPlace) (worths : List Bound) → AreWorths p d (place ∷ []) worths
    → (w : Bound) × (table : Table) × (worths ≡ w ∷ []) × (slice_get d.tables.items place.table ≡ Some table)
    × IsWorth p place.sets table w
one_worth p d place [] h = absurd h
one_worth p d place (w ∷ []) h = (w, h.0, refl, h.1, h.2)
one_worth p d place (w ∷ v ∷ worths) h = absurd h.3

only_table : (table found : Table) (t : ℕ) → slice_get (table ∷ []) t ≡ Some found → found ≡ table
only_table table found zero e = cc
only_table table found (suc t) e = cc

-- a table that isn't a ray is worth a number
a_number : (p : Problem) (table : Table) (w : Bound) → table.ray ≡ false → IsWorth p (permitted_sets p) table w
    → (n : ℤ) × (w ≡ AtLeast n)
a_number p table (AtLeast n) cost h = (n, refl)
a_number p table NoPlan cost h = absurd (false≢true (sym cost ∙ h.0))

-- a tree without splits is a leaf
pub one_case : (tree : Tree) → splits tree ≡ 0 → (t : ℕ) × (tree ≡ Leaf t)
one_case (Leaf t) none = (t, refl)
one_case (Split trip left lower upper) none = absurd (omega (arith, none))

-- so is that of a search without a budget
pub one_leaf : (p : Problem) (d : Document) (s : IsAnswerSoFar p 0 d) → (t : ℕ) × (s.holds.tree.tree ≡ Leaf t)
one_leaf p d s = one_case s.holds.tree.tree (omega (arith, s.each_split, s.within_budget))

-- the one worth is that of the one table
worth_is : (p : Problem) (d : Document) (table : Table) (s : IsAnswerSoFar p 0 d) → d.tables.items ≡ table ∷ []
    → table.ray ≡ false
    → (n : ℤ) × IsWorth p (permitted_sets p) table (AtLeast n) × (s.worths ≡ AtLeast n ∷ [])
worth_is p d table s one cost =
    let leaf = one_leaf p d s in
    let places = ap (leaves (permitted_sets p)) leaf.1 in
    let o = one_worth p d (record { sets = permitted_sets p; table = leaf.0 }) s.worths
    (subst (λ (ps : List LeafPlace). AreWorths p d ps s.worths) places s.are_worths) in
    let same : o.1 ≡ table =
    only_table table o.1 leaf.0 (sym (ap (λ (ts : List Table). slice_get ts leaf.0) one) ∙ o.3) in
    let is : IsWorth p (permitted_sets p) table o.0 =
    subst (λ (t : Table). IsWorth p (permitted_sets p) t o.0) same o.4 in
    let n = a_number p table o.0 cost is in
    (n.0, subst (IsWorth p (permitted_sets p) table) n.1 is, o.2 ∙ ap (λ (w : Bound). w ∷ []) n.1)

-- what the claim says of the cost and the one worth
record Tells (cost : Option ℤ) (n : ℤ) (claim : Claim) : Type 0 where
  pub optimal_only : claim ≡ Optimal → IsSomeAnd cost (λ c. c ≤ℤ n)
  pub optimal_there : IsSomeAnd cost (λ c. c ≤ℤ n) → claim ≡ Optimal
  pub or_open : (claim ≡ Optimal) ⊎ (claim ≡ StillOpen)

tested : (c b n : ℤ) (equal : Bool) → int_eq c b ≡ equal → (b ≡ n) ⊎ (b ≡ c) → b ≤ℤ n → b ≤ℤ c
    → Tells (Some c) n (if equal then Optimal else StillOpen)
tested c b n true e among low high = record {
  optimal_only = λ _. let same : c ≡ b = (Decides-int_eq c b).0 e in omega (arith, ints);
  optimal_there = λ _. refl;
  or_open = inl refl;
}
tested c b n false e among low high = record {
  optimal_only = λ o. cc;
  optimal_there = λ le. ⊎_elim
      (λ bn. let same : c ≡ b = omega (arith, ints) in absurd (false≢true (sym e ∙ (Decides-int_eq c b).1 same)))
      (λ bc. absurd (false≢true (sym e ∙ (Decides-int_eq c b).1 (sym bc)))) among;
  or_open = inr refl;
}

bound_tells : (cost bound : Option ℤ) (n : ℤ) → IsBoundOf cost (AtLeast n ∷ []) bound
    → Tells cost n (claim_found cost bound)
bound_tells None None n h = absurd (h n (inl refl))
bound_tells None (Some b) n h = record { optimal_only = λ o. cc; optimal_there = λ o. absurd o; or_open = inr refl }
bound_tells (Some c) None n h = absurd (h c (inr refl))
bound_tells (Some c) (Some b) n h = tested c b n (int_eq c b) refl h.0 (h.1 n (inl refl)) (h.1 c (inr refl))

-- the status is that of the claim
record TellsBy (cost : Option ℤ) (n : ℤ) (answer : Status) : Type 0 where
  pub done_only : answer ≡ status.Done → IsSomeAnd cost (λ c. c ≤ℤ n)
  pub done_there : IsSomeAnd cost (λ c. c ≤ℤ n) → answer ≡ status.Done
  pub or_open : (answer ≡ status.Done) ⊎ (answer ≡ status.StillOpen)

status_tells : (cost : Option ℤ) (n : ℤ) (claim : Claim) (answer : Status) → answer ≡ status_of claim
    → Tells cost n claim → TellsBy cost n answer
status_tells cost n claim answer e t = record {
  done_only = λ d. t.optimal_only (optimal_from claim (sym e ∙ d));
  done_there = λ le. e ∙ ap status_of (t.optimal_there le);
  or_open = ⊎_elim (λ o. inl (e ∙ ap status_of o)) (λ o. inr (e ∙ ap status_of o)) t.or_open;
}

-- a search without a budget is done where its plan costs no more than the zero table is worth
pub done_where_shown : (effort : Effort) (bytes : List ℕ) (answer : Status) (rows : List Row)
    (owed : OwesDocument effort bytes answer rows) → effort.nodes ≡ Some 0 → IsDoneWhereShown effort bytes
    answer rows owed
done_where_shown effort bytes answer rows owed none =
    let p = owed.problem in
    let d = owed.document in
    let given = given_budget p 0 owed.budget (sym (ap (budget_of p) none) ∙ owed.budget_is) in
    let solves = subst (λ (n : ℕ). StoppedAnswer p n effort.workers d) given owed.solves in
    let zero = zero_listed p effort.workers d solves in
    let w = worth_is p d zero.0 solves.answer zero.1 zero.2.cost in
    let bound = subst (λ (ws : List Bound). IsBoundOf d.cost ws d.bound) w.2 solves.answer.bound in
    let t = status_tells d.cost w.0 _ answer owed.status_is
    (subst (Tells d.cost w.0) (sym solves.answer.holds.claim) (bound_tells d.cost d.bound w.0 bound)) in
    record {
      plan = greedy_plan p effort.workers d solves;
      table = zero.0;
      only = zero.1;
      zero = zero.2;
      n = w.0;
      worth = w.1;
      done_only = t.done_only;
      done_there = t.done_there;
      or_open = t.or_open;
    }
