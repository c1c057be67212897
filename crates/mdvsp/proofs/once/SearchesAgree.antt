-- Any two searches of one instance agree on what they show.
use Rattle.std.proofs.Common.{◌≡◌, ◌≢◌, ℕ, Bool, true, false, List, Option, Some, None, IfSome, IsSomeAnd, refl, sym, ap, ◌∙◌, subst, arith, ℤ, pos, ◌≤ℤ◌, if◌then◌else◌, option_map}
use Rattle.std.specs.Prelude.{IfNone}
use Rattle.std.proofs.lemmas.Bool.Decides.{Decides-int_eq}
use Rattle.std.proofs.lemmas.Int.{ints}
use Rattle.std.specs.Ordering.{int_eq}
use Rattle.vs_instance.specs.Plan.{IsPlan, LayerBlock, plan_cost}
use Rattle.vs_instance.specs.Problem.{Problem}
use Rattle.vs_plan.specs.Blocks.{blocks_of}
use Rattle.vs_plan.specs.CheckedPlan.{Checked}
use Rattle.vs_reader.specs.Names.{NameLists}
use Rattle.vs_reader.specs.Rows.{Row}
use Rattle.vs_reader.specs.Texts.{StandsFor}
use Rattle.vs_reader.proofs.CallerLemmas.{one_reading}
use Rattle.vs_prices.specs.Claims.{claim_found}
use Rattle.vs_prices.specs.declared.claim.Claim.{Claim}
use Rattle.vs_prices.specs.declared.claim.Claim.TheVariants.{Optimal, Infeasible, StillOpen}
use Rattle.vs_rows.specs.declared.document.Document.{Document}
use Rattle.vs_check.specs.HoldingDocument.{ProvesItsClaim}
use Rattle.vs_tree.specs.History.{FullStep, IsHistory, Opening, State, incumbent, state_of}
use Rattle.vs_tree.specs.Laws.{IsTrueClaim}
use Rattle.vs_tree.specs.Report.{IsReport}
use Rattle.vs_tree.specs.Sound.{IsOpening, IsPlanOf}
use Rattle.vs_tree.specs.declared.calls.Report.{Report}
use Rattle.vs_tree.proofs.CallerLemmas.{histories_are_sound, last-is}
use Rattle.vs_words.specs.Words.{Reads}
use Rattle.vs_words.specs.declared.command.Command.TheVariants as commands
use Rattle.vs_words.specs.declared.command.Search.{Search}
use Rattle.vs_words.specs.declared.command.Search.TheVariants.{Solve, Trial, Resume, Trace}
use Rattle.vs_reply.specs.declared.status.Status.{Status}
use Rattle.vs_reply.specs.declared.status.Status.TheVariants as status
use Rattle.vs_reply.specs.Status.{status_of}
use Rattle.mdvsp.specs.Laws.{NeverDisagree, NeverPasses, Shown, Shows, printed, reported}

-- some plan of the instance costs so much, where that is a number
abbrev SomePlanCosts : Problem → Option ℤ → Type 0
SomePlanCosts p cost =
    IfSome cost (λ c. (blocks : List LayerBlock) × IsPlan p blocks × (c ≡ pos (plan_cost p blocks)))

-- no plan of the instance costs less than so much, where that is a number
abbrev NoneCostsLess : Problem → Option ℤ → Type 0
NoneCostsLess p bound = IfSome bound (λ n. (blocks : List LayerBlock) → IsPlan p blocks → n ≤ℤ pos (plan_cost p blocks))

-- and where it is none, there is no plan
abbrev NoneWithout : Problem → Option ℤ → Type 0
NoneWithout p bound = IfNone bound ((blocks : List LayerBlock) → ¬ (IsPlan p blocks))

-- what is shown is true of all plans of the instance, and the answer goes with it
record IsProven (p : Problem) (answer : Status) (x : Shown) : Type 0 where
  plan : SomePlanCosts p x.cost
  bound : NoneCostsLess p x.bound
  no_plan : NoneWithout p x.bound
  answer_is : answer ≡ status_of (claim_found x.cost x.bound)

-- so is what a document prints that proves its claim
some_plan : (p : Problem) (cost : Option ℤ) (blocks : List LayerBlock)
    → IfSome cost (λ c. IsPlan p blocks × (c ≡ pos (plan_cost p blocks))) → SomePlanCosts p cost
some_plan p None blocks is = tt
some_plan p (Some c) blocks is = (blocks, is.0, is.1)

by_document : (p : Problem) (answer : Status) (d : Document) → ProvesItsClaim p d
    → d.claim ≡ claim_found d.cost d.bound → answer ≡ status_of d.claim → IsProven p answer (printed d)
by_document p answer d proves claim is = record {
  plan = some_plan p d.cost (blocks_of d.plan) proves.plan;
  bound = proves.bound;
  no_plan = proves.no_plan;
  answer_is = is ∙ ap status_of claim;
}

-- and what a search reports of the state that it came to
module _ (p : Problem) (o : Opening) (steps : List FullStep) (r : Report) (same : o.problem ≡ p)
    (opening : IsOpening o) (history : IsHistory o steps) (report : IsReport p (state_of o steps) r)
    (proves : IsTrueClaim p (state_of o steps) r r.claim) where
  abbrev s : State
  s = state_of o steps

  accepted : (plan : Checked) → incumbent s ≡ Some plan → IsPlanOf p plan
  accepted plan is =
      subst (λ (x : Problem). IsPlanOf x plan) same
      (last-is (IsPlanOf o.problem) None s.accepted plan (histories_are_sound o steps opening history).plans
      (λ y none. cc) is)

  known_plan : (best : Option Checked) → incumbent s ≡ best → (cost : Option ℤ)
      → cost ≡ option_map (λ plan. plan.cost) best → SomePlanCosts p cost
  known_plan None is None e = tt
  known_plan None is (Some c) e = cc
  known_plan (Some plan) is None e = cc
  known_plan (Some plan) is (Some c) e =
      let plan_is = accepted plan is in
      let costs : c ≡ plan.cost = cc in (
        plan.blocks,
        subst (λ (x : Problem). IsPlan x plan.blocks) plan_is.1 plan_is.0.plan,
        costs ∙ plan_is.0.cost ∙ ap (λ (x : Problem). pos (plan_cost x plan.blocks)) plan_is.1,
      )

  -- what a claim says of the bound
  open_bound : (n : ℤ) → r.bound ≡ Some n → IsTrueClaim p s r StillOpen → NoneCostsLess p (Some n)
  open_bound n is claims = subst (λ (q : Option ℤ). IsSomeAnd q (λ bound. (blocks : List LayerBlock)
      → IsPlan p blocks → bound ≤ℤ pos (plan_cost p blocks))) is claims

  never_none : r.bound ≡ None → ¬ (IsTrueClaim p s r StillOpen)
  never_none is claims = subst (λ (q : Option ℤ). IsSomeAnd q (λ bound. (blocks : List LayerBlock)
      → IsPlan p blocks → bound ≤ℤ pos (plan_cost p blocks))) is claims

  best_bound : (best : Option Checked) (n : ℤ) → option_map (λ plan. plan.cost) best ≡ Some n
      → IsSomeAnd best (λ plan. IsPlanOf p plan
      × ((blocks : List LayerBlock) → IsPlan p blocks → plan.cost ≤ℤ pos (plan_cost p blocks)))
      → NoneCostsLess p (Some n)
  best_bound None n found claims = absurd claims
  best_bound (Some plan) n found claims = λ blocks is.
      let costs : plan.cost ≡ n = cc in
      subst (λ (x : ℤ). x ≤ℤ pos (plan_cost p blocks)) costs (claims.1 blocks is)

  tested : (c n : ℤ) (equal : Bool) → int_eq c n ≡ equal → r.cost ≡ Some c → r.bound ≡ Some n
      → IsTrueClaim p s r (if equal then Optimal else StillOpen) → NoneCostsLess p (Some n)
  tested c n true e cost bound claims =
      let alike : c ≡ n = (Decides-int_eq c n).0 e in
      best_bound (incumbent s) n (sym report.cost ∙ cost ∙ ap Some alike) claims
  tested c n false e cost bound claims = open_bound n bound claims

  by_claim : (cost bound : Option ℤ) → r.cost ≡ cost → r.bound ≡ bound → IsTrueClaim p s r (claim_found cost bound)
      → NoneCostsLess p bound × NoneWithout p bound
  by_claim None None cost bound claims = (tt, claims)
  by_claim None (Some n) cost bound claims = (open_bound n bound claims, tt)
  by_claim (Some c) None cost bound claims = absurd (never_none bound claims)
  by_claim (Some c) (Some n) cost bound claims = (tested c n (int_eq c n) refl cost bound claims, tt)

  by_report : (answer : Status) → answer ≡ status_of r.claim → IsProven p answer (reported r)
  by_report answer is =
      let found = by_claim r.cost r.bound refl refl
      (subst (λ (c : Claim). IsTrueClaim p s r c) report.claim proves) in
      record {
        plan = known_plan (incumbent s) refl r.cost report.cost;
        bound = found.0;
        no_plan = found.1;
        answer_is = is ∙ ap status_of report.claim;
      }

-- so is what each search shows
proven : (search : Search) (bytes : List ℕ) (answer : Status) (rows : List Row) (p : Problem) (x : Shown)
    → Shows search bytes answer rows p x → IsProven p answer x
proven (Solve effort) bytes answer rows p x (owed, same, is) =
    subst (IsProven p answer) is (subst (λ (q : Problem). IsProven q answer (printed owed.document)) same
    (by_document owed.problem answer owed.document owed.proves owed.solves.answer.holds.claim owed.status_is))
proven (Trial n) bytes answer rows p x (owed, same, is) =
    subst (IsProven p answer) is (subst (λ (q : Problem). IsProven q answer (printed owed.document)) same
    (by_document owed.problem answer owed.document owed.proves owed.solves.answer.holds.claim owed.status_is))
proven (Resume effort) bytes answer rows p x (owed, same, is) =
    subst (IsProven p answer) is (subst (λ (q : Problem). IsProven q answer (printed owed.document)) same
    (by_document owed.problem answer owed.document owed.proves owed.answers.holds.claim owed.status_is))
proven (Trace effort) bytes answer rows p x (owed, same, is) =
    let tells = owed.tells in
    subst (IsProven p answer) is (subst (λ (q : Problem). IsProven q answer (reported owed.report)) same
    (by_report owed.problem owed.opening owed.steps owed.report tells.made.begins.problem tells.made.is_opening
    tells.made.history tells.is_report tells.proves answer owed.status_is))

-- no bound is above a cost
no_more : (p : Problem) (bound cost : Option ℤ) → NoneCostsLess p bound → SomePlanCosts p cost
    → IfSome bound (λ b. IfSome cost (λ c. b ≤ℤ c))
no_more p None cost least plan = tt
no_more p (Some b) None least plan = tt
no_more p (Some b) (Some c) least plan =
    let low : b ≤ℤ pos (plan_cost p plan.0) = least plan.0 plan.1 in
    let costs : c ≡ pos (plan_cost p plan.0) = plan.2 in
    omega (arith, ints)

never_passes : (p : Problem) (a b : Status) (x y : Shown) → IsProven p a x → IsProven p b y → NeverPasses x y
never_passes p a b x y one other = no_more p x.bound y.cost one.bound other.plan

pub bounds_never_pass_costs : (search other : Search) (bytes others : List ℕ) (a b : Status) (r s : List Row)
    (p : Problem) (x y : Shown) → Shows search bytes a r p x → Shows other others b s p y → NeverPasses x y
bounds_never_pass_costs search other bytes others a b r s p x y shows also =
    never_passes p a b x y (proven search bytes a r p x shows) (proven other others b s p y also)

-- the claims of two statuses
pub optimal_from : (claim : Claim) → status_of claim ≡ status.Done → claim ≡ Optimal
optimal_from Optimal e = refl
optimal_from Infeasible e = cc
optimal_from StillOpen e = cc

infeasible_from : (claim : Claim) → status_of claim ≡ status.Infeasible → claim ≡ Infeasible
infeasible_from Optimal e = cc
infeasible_from Infeasible e = refl
infeasible_from StillOpen e = cc

-- a cost that is its bound
abbrev IsShown : Option ℤ → Option ℤ → Type 0
IsShown cost bound = (n : ℤ) × (cost ≡ Some n) × (bound ≡ Some n)

tested_shown : (c b : ℤ) (equal : Bool) → int_eq c b ≡ equal → (if equal then Optimal else StillOpen) ≡ Optimal
    → IsShown (Some c) (Some b)
tested_shown c b true e optimal =
    let same : c ≡ b = (Decides-int_eq c b).0 e in (c, refl, ap Some (sym same))
tested_shown c b false e optimal = cc

optimal_shown : (cost bound : Option ℤ) → claim_found cost bound ≡ Optimal → IsShown cost bound
optimal_shown None None optimal = cc
optimal_shown None (Some b) optimal = cc
optimal_shown (Some c) None optimal = cc
optimal_shown (Some c) (Some b) optimal = tested_shown c b (int_eq c b) refl optimal

-- and no bound at all
never_tested : (equal : Bool) → (if equal then Optimal else StillOpen) ≢ Infeasible
never_tested true e = cc
never_tested false e = cc

infeasible_shown : (cost bound : Option ℤ) → claim_found cost bound ≡ Infeasible → bound ≡ None
infeasible_shown cost None infeasible = refl
infeasible_shown None (Some b) infeasible = cc
infeasible_shown (Some c) (Some b) infeasible = absurd (never_tested (int_eq c b) infeasible)

-- costs of which each is no less than the other's bound
no_less : (bound cost : Option ℤ) (n m : ℤ) → bound ≡ Some n → cost ≡ Some m
    → IfSome bound (λ b. IfSome cost (λ c. b ≤ℤ c)) → n ≤ℤ m
no_less (Some b) (Some c) n m is so h =
    let same : b ≡ n = cc in let also : c ≡ m = cc in subst (λ (x : ℤ). x ≤ℤ m) same (subst (λ (x : ℤ). b ≤ℤ x) also h)
no_less None cost n m is so h = cc
no_less (Some b) None n m is so h = cc

same_costs : (cost bound other_cost other_bound : Option ℤ) → IsShown cost bound → IsShown other_cost other_bound
    → IfSome bound (λ b. IfSome other_cost (λ c. b ≤ℤ c)) → IfSome other_bound (λ b. IfSome cost (λ c. b ≤ℤ c))
    → cost ≡ other_cost
same_costs cost bound other_cost other_bound shown also low high =
    let one : shown.0 ≤ℤ also.0 = no_less bound other_cost shown.0 also.0 shown.2 also.1 low in
    let other : also.0 ≤ℤ shown.0 = no_less other_bound cost also.0 shown.0 also.2 shown.1 high in
    let same : shown.0 ≡ also.0 = omega (arith, ints) in
    shown.1 ∙ ap Some same ∙ sym also.1

-- the cost and the bound that go with an answer
done_shown : (p : Problem) (answer : Status) (x : Shown) → IsProven p answer x → answer ≡ status.Done
    → IsShown x.cost x.bound
done_shown p answer x is done =
    optimal_shown x.cost x.bound (optimal_from (claim_found x.cost x.bound) (sym is.answer_is ∙ done))

none_there : (p : Problem) (answer : Status) (x : Shown) → IsProven p answer x → answer ≡ status.Infeasible
    → (blocks : List LayerBlock) → ¬ (IsPlan p blocks)
none_there p answer x is none =
    let no_bound = infeasible_shown x.cost x.bound
    (infeasible_from (claim_found x.cost x.bound) (sym is.answer_is ∙ none)) in
    subst (NoneWithout p) no_bound is.no_plan

never_disagree : (p : Problem) (a b : Status) (x y : Shown) → IsProven p a x → IsProven p b y → NeverDisagree a b x y
never_disagree p a b x y one other = record {
  never_both = λ done none.
      let shown = done_shown p a x one done in
      let plan = subst (SomePlanCosts p) shown.1 one.plan in
      none_there p b y other none plan.0 plan.1;
  one_cost = λ done so. same_costs x.cost x.bound y.cost y.bound (done_shown p a x one done)
      (done_shown p b y other so) (never_passes p a b x y one other) (never_passes p b a y x other one);
}

pub searches_agree : (search other : Search) (bytes others : List ℕ) (a b : Status) (r s : List Row) (p : Problem)
    (x y : Shown) → Shows search bytes a r p x → Shows other others b s p y → NeverDisagree a b x y
searches_agree search other bytes others a b r s p x y shows also =
    never_disagree p a b x y (proven search bytes a r p x shows) (proven other others b s p y also)

-- the bytes that a search reads stand for its instance
abbrev IsInput : List ℕ → Problem → Type 0
IsInput bytes p = (names : NameLists) × (before : ℕ) × (rest : List Row) × StandsFor bytes p names before rest

read_by : (search : Search) (bytes : List ℕ) (answer : Status) (rows : List Row) (p : Problem) (x : Shown)
    → Reads (commands.Search search) → Shows search bytes answer rows p x → IsInput bytes p
read_by (Solve effort) bytes answer rows p x reads (owed, same, is) =
    subst (IsInput bytes) same (owed.names, owed.text.before, owed.text.rest, owed.text.instance)
read_by (Trial n) bytes answer rows p x reads shows = absurd reads
read_by (Resume effort) bytes answer rows p x reads (owed, same, is) =
    subst (IsInput bytes) same (owed.names, owed.text.before, owed.text.rest, owed.text.instance)
read_by (Trace effort) bytes answer rows p x reads (owed, same, is) =
    subst (IsInput bytes) same (owed.names, owed.text.before, owed.text.rest, owed.text.instance)

pub one_instance : (search other : Search) (bytes : List ℕ) (a b : Status) (r s : List Row) (p q : Problem)
    (x y : Shown) → Reads (commands.Search search) → Reads (commands.Search other) → Shows search bytes a r p x
    → Shows other bytes b s q y → p ≡ q
one_instance search other bytes a b r s p q x y reads so shows also =
    let one = read_by search bytes a r p x reads shows in
    let two = read_by other bytes b s q y so also in
    (one_reading bytes q p two.0 one.0 two.1 one.1 two.2 one.2 two.3 one.3).0
