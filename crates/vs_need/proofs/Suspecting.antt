-- Which move of a trip breaks first, by what its moves are worth.
use Rattle.std.proofs.Common.{◌≡◌, ℕ, ◌<◌, Bool, true, false, cond, ◌&&◌, List, [], length, get_or, Option, Some, None, refl, sym, ap, ◌∙◌, arith, ℤ, pos, neg_ℤ, ◌+ℤ◌, ◌-ℤ◌, ◌≤ℤ◌}
use Rattle.std.specs.Prelude.{int_lt}
use Rattle.std.specs.Int.{bit_at}
use Rattle.std.proofs.lemmas.Bool.{eqb-true, eq-eqb, false≢true}
use Rattle.std.proofs.lemmas.Int.{ints}
use Rattle.std.proofs.lemmas.Option.{none-some, same_Some}
use Rattle.vs_types.proofs.CallerLemmas.{and_false}
use Rattle.vs_instance.specs.Firsts.{first}
use Rattle.vs_instance.specs.Problem.{Problem}
use Rattle.vs_instance.specs.Ways.{trip_of}
use Rattle.vs_instance.specs.Pieces.{in_piece, link_piece, out_piece}
use Rattle.vs_instance.specs.HoldingTable.{price_of, scaled}
use Rattle.vs_instance.proofs.CallerLemmas.{none_numbers, number_none, false_from_none, none_from_false, none_from_first}
use Rattle.vs_match.specs.Events.{MayRun}
use Rattle.vs_prices.specs.declared.broken_at.BrokenAt.{BrokenAt}
use Rattle.vs_prices.specs.declared.table.Table.{Table}
use Rattle.vs_prices.specs.Breaks.{exceeds, is_link_broken, is_pull_in_broken, is_pull_out_broken, link_breaks, links_breaks, may_run, move_breaks, trip_breaks}
use Rattle.vs_prices.specs.Table.{from_price, into_price, prices_in, vehicle_price}
use Rattle.vs_prices.proofs.CallerLemmas.{first_at_back, first_at_link, first_at_out, first_nowhere}
use Rattle.vs_need.specs.declared.judging.Suspect.{Suspect}
use Rattle.vs_need.specs.declared.judging.Suspect.TheVariants as suspect
use Rattle.vs_need.specs.declared.scratch.Scratch.{Scratch}
use Rattle.vs_need.specs.Greatest.{IsGreatest}
use Rattle.vs_need.specs.Needs.{AreWorths, IsNextWorth, IsPieceWorth}
use Rattle.vs_need.specs.Suspects.{AreKnown, IsFirstOf, is_above}

same_less : (other price s x : ℤ) → x ≡ neg_ℤ s → int_lt (other -ℤ price) x ≡ int_lt (other +ℤ s) price
same_less other price s x is = grind (arith, ints)

-- what a move is worth against its price, as the piece of cost against it
piece_above : (ray : Bool) (o : Option ℕ) (found : Option ℤ) (price other : ℤ) → IsGreatest (IsPieceWorth ray o) found
    → is_above found (other -ℤ price) ≡ exceeds price other ray o
piece_above ray None None price other is = refl
piece_above ray None (Some x) price other is = absurd (none-some is.0.piece is.0.is_piece)
piece_above ray (Some c) None price other is =
    absurd (is (neg_ℤ (scaled ray c)) (record { piece = c; is_piece = refl; worth = refl }))
piece_above ray (Some c) (Some x) price other is =
    let same : c ≡ is.0.piece = same_Some c is.0.piece is.0.is_piece in
    same_less other price (scaled ray c) x (is.0.worth ∙ ap (λ (n : ℕ). neg_ℤ (scaled ray n)) (sym same))

both_true : (b t : Bool) → b ≡ true → t ≡ true → (b && t) ≡ true
both_true b t e e' = ap (λ (x : Bool). x && t) e ∙ e'

not_over : (from into s y : ℤ) → (into -ℤ s) ≤ℤ y → int_lt from y ≡ false → int_lt (from +ℤ s) into ≡ false
not_over from into s y less none = grind (arith, ints)

is_over : (from into s y : ℤ) → y ≡ into -ℤ s → int_lt from y ≡ true → int_lt (from +ℤ s) into ≡ true
is_over from into s y is more = grind (arith, ints)

none_above : (found : Option ℤ) (limit : ℤ) → found ≡ None → is_above found limit ≡ false
none_above found limit none = ap (λ (o : Option ℤ). is_above o limit) none

module _ (p : Problem) (table : Table) (l i : ℕ) where
  runs : (j : ℕ) → j < length p.trips → may_run p l j ≡ true → MayRun p l j
  runs j within may = (within, eqb-true (bit_at (trip_of p j).layers.0 l) 1 may)

  link_holds : (j : ℕ) (found : Option ℤ) → MayRun p l j → IsGreatest (IsNextWorth p table l i) found
      → is_above found (from_price p table l i) ≡ false → (o : Option ℕ) → link_piece p l i j ≡ o
      → exceeds (into_price p table l j) (from_price p table l i) table.ray o ≡ false
  link_holds j found may greatest none None e = refl
  link_holds j None may greatest none (Some c) e =
      absurd (greatest (into_price p table l j -ℤ scaled table.ray c)
      (record { next = j; piece = c; may_run = may; is_link = e; worth = refl }))
  link_holds j (Some y) may greatest none (Some c) e =
      not_over (from_price p table l i) (into_price p table l j) (scaled table.ray c) y
      (greatest.1 (into_price p table l j -ℤ scaled table.ray c)
      (record { next = j; piece = c; may_run = may; is_link = e; worth = refl })) none

  -- where the best next trip is worth no more than leaving this one, no link breaks
  pub no_links : (found : Option ℤ) → IsGreatest (IsNextWorth p table l i) found
      → is_above found (from_price p table l i) ≡ false → None ≡ first (links_breaks p table l i)
  no_links found greatest none =
      ap first (sym (none_numbers (link_breaks p table l i) 0 (length p.trips)
      (λ j low within. none_from_false _ _ (and_false (may_run p l j) _
      (λ may. link_holds j found (runs j (omega (arith, within)) may) greatest none (link_piece p l i j) refl)))))

  link_breaks_there : (found : Option ℤ) → IsGreatest (IsNextWorth p table l i) found
      → is_above found (from_price p table l i) ≡ true
      → (j : ℕ) × (j < length p.trips) × (is_link_broken p table l i j ≡ true)
  link_breaks_there None greatest more = absurd (false≢true more)
  link_breaks_there (Some y) greatest more =
      let h = greatest.0 in
      let piece : exceeds (into_price p table l h.next) (from_price p table l i) table.ray (link_piece p l i h.next)
      ≡ true =
      ap (exceeds (into_price p table l h.next) (from_price p table l i) table.ray) h.is_link
      ∙ is_over (from_price p table l i) (into_price p table l h.next) (scaled table.ray h.piece) y h.worth more in
      (h.next, h.may_run.0, both_true (may_run p l h.next) _ (eq-eqb _ 1 h.may_run.1) piece)

  -- else some link does
  some_link_by : (found : Option ℤ) → IsGreatest (IsNextWorth p table l i) found
      → is_above found (from_price p table l i) ≡ true → (o : Option BrokenAt) → first (links_breaks p table l i) ≡ o
      → (at : BrokenAt) × (first (links_breaks p table l i) ≡ Some at)
  some_link_by found greatest more (Some at) e = (at, e)
  some_link_by found greatest more None e =
      let b = link_breaks_there found greatest more in
      let none = number_none (link_breaks p table l i) 0 (length p.trips) (none_from_first _ e) b.0 (omega arith)
      (omega (arith, b.1)) in
      absurd (false≢true (sym (false_from_none (is_link_broken p table l i b.0) _ none) ∙ b.2))

  pub some_link : (found : Option ℤ) → IsGreatest (IsNextWorth p table l i) found
      → is_above found (from_price p table l i) ≡ true
      → (at : BrokenAt) × (first (links_breaks p table l i) ≡ Some at)
  some_link found greatest more = some_link_by found greatest more (first (links_breaks p table l i)) refl

-- a test of the prices that are cut out, as one of the table
pub out_test : (p : Problem) (table : Table) (l i : ℕ) (b : Bool) (found outs : List (Option ℤ)) (into : List ℤ)
    → b ≡ is_above (get_or found i None) (vehicle_price table l -ℤ price_of into i) → found ≡ outs
    → into ≡ prices_in p l table.into.items
    → b ≡ is_above (get_or outs i None) (vehicle_price table l -ℤ into_price p table l i)
out_test p table l i b found outs into is e e' =
    is ∙ ap (λ (xs : List (Option ℤ)). is_above (get_or xs i None) (vehicle_price table l -ℤ price_of into i)) e
    ∙ ap (λ (ys : List ℤ). is_above (get_or outs i None) (vehicle_price table l -ℤ price_of ys i)) e'

pub dearer_test : (p : Problem) (table : Table) (l i : ℕ) (b : Bool) (found known : List (Option ℤ)) (from : List ℤ)
    → b ≡ is_above (get_or found i None) (price_of from i) → found ≡ known → from ≡ prices_in p l table.from.items
    → b ≡ is_above (get_or known i None) (from_price p table l i)
dearer_test p table l i b found known from is e e' =
    is ∙ ap (λ (xs : List (Option ℤ)). is_above (get_or xs i None) (price_of from i)) e
    ∙ ap (λ (ys : List ℤ). is_above (get_or known i None) (price_of ys i)) e'

pub link_test : (p : Problem) (table : Table) (l i j : ℕ) (b : Bool) (links : List (Option ℤ)) (into from : List ℤ)
    → b ≡ is_above (get_or links j None) (price_of from i -ℤ price_of into j)
    → into ≡ prices_in p l table.into.items → from ≡ prices_in p l table.from.items
    → b ≡ is_above (get_or links j None) (from_price p table l i -ℤ into_price p table l j)
link_test p table l i j b links into from is e e' =
    is ∙ ap (λ (xs : List ℤ). is_above (get_or links j None) (price_of from i -ℤ price_of xs j)) e
    ∙ ap (λ (ys : List ℤ). is_above (get_or links j None) (price_of ys i -ℤ into_price p table l j)) e'

-- an answer of a suspect for one trip, for all trips
pub for_all : (p : Problem) (table : Table) (l : ℕ) (here all : List BrokenAt) (s : Suspect)
    → IsFirstOf p table l here (Some s) → ((m : BrokenAt) → Some m ≡ first here → Some m ≡ first all)
    → IsFirstOf p table l all (Some s)
for_all p table l here all (suspect.PullOut i) is on = sym (on _ (sym is))
for_all p table l here all (suspect.PullIn i) is on = sym (on _ (sym is))
for_all p table l here all (suspect.Link i) is on =
    let at = is.2 in
    let all_is : first all ≡ Some at.0 = sym (on at.0 (sym at.1)) in
    (is.0, all_is ∙ sym at.1 ∙ is.1, (at.0, all_is))

module _ (p : Problem) (table : Table) (l : ℕ) (s : Scratch) (known : AreKnown p table l s) (i : ℕ)
    (within : i < length p.trips) where
  abbrev out : Option ℤ
  out = get_or s.outs.items i None

  abbrev next : Option ℤ
  next = get_or s.nexts.items i None

  abbrev back : Option ℤ
  back = get_or s.ins.items i None

  abbrev breaks : List BrokenAt
  breaks = trip_breaks p table l i

  runs_here : may_run p l i ≡ true → MayRun p l i
  runs_here may = (within, eqb-true (bit_at (trip_of p i).layers.0 l) 1 may)

  not_here : may_run p l i ≡ false → ¬ (MayRun p l i)
  not_here may is = false≢true (sym may ∙ eq-eqb _ 1 is.1)

  out_is : may_run p l i ≡ true
      → is_above out (vehicle_price table l -ℤ into_price p table l i) ≡ is_pull_out_broken p table l i
  out_is may =
      piece_above table.ray (out_piece p l i) out (into_price p table l i) (vehicle_price table l)
      (known.outs.permitted i (runs_here may))

  back_is : may_run p l i ≡ true → is_above back (from_price p table l i) ≡ is_pull_in_broken p table l i
  back_is may =
      let same : from_price p table l i ≡ from_price p table l i -ℤ pos 0 = omega (arith, ints) in
      ap (is_above back) same
      ∙ piece_above table.ray (in_piece p l i) back (pos 0) (from_price p table l i)
      (known.ins.permitted i (runs_here may))

  pub at_out : (may : Bool) → may_run p l i ≡ may
      → true ≡ is_above out (vehicle_price table l -ℤ into_price p table l i)
      → IsFirstOf p table l breaks (Some (suspect.PullOut (record { 0 = i })))
  at_out true e more = sym (first_at_out p table l i e (sym (out_is e) ∙ sym more))
  at_out false e more =
      absurd (false≢true (sym (none_above out _ (known.outs.others i (not_here e))) ∙ sym more))

  pub at_next : (may : Bool) → may_run p l i ≡ may
      → false ≡ is_above out (vehicle_price table l -ℤ into_price p table l i)
      → true ≡ is_above next (from_price p table l i)
      → IsFirstOf p table l breaks (Some (suspect.Link (record { 0 = i })))
  at_next true e none more =
      let at = some_link p table l i next (known.nexts.permitted i (runs_here e)) (sym more) in
      let here = first_at_link p table l i e (sym (out_is e) ∙ sym none) at.0 (sym at.1) in
      (runs_here e, sym here ∙ sym at.1, (at.0, sym here))
  at_next false e none more =
      absurd (false≢true (sym (none_above next _ (known.nexts.others i (not_here e))) ∙ sym more))

  pub at_back : (may : Bool) → may_run p l i ≡ may
      → false ≡ is_above out (vehicle_price table l -ℤ into_price p table l i)
      → false ≡ is_above next (from_price p table l i) → true ≡ is_above back (from_price p table l i)
      → IsFirstOf p table l breaks (Some (suspect.PullIn (record { 0 = i })))
  at_back true e none none' more =
      sym (first_at_back p table l i e (sym (out_is e) ∙ sym none)
      (no_links p table l i next (known.nexts.permitted i (runs_here e)) (sym none')) (sym (back_is e) ∙ sym more))
  at_back false e none none' more =
      absurd (false≢true (sym (none_above back _ (known.ins.others i (not_here e))) ∙ sym more))

  pub at_none : (may : Bool) → may_run p l i ≡ may
      → false ≡ is_above out (vehicle_price table l -ℤ into_price p table l i)
      → false ≡ is_above next (from_price p table l i) → false ≡ is_above back (from_price p table l i)
      → IsFirstOf p table l breaks None
  at_none true e none none' none'' =
      sym (first_nowhere p table l i e (sym (out_is e) ∙ sym none)
      (no_links p table l i next (known.nexts.permitted i (runs_here e)) (sym none')) (sym (back_is e) ∙ sym none''))
  at_none false e none none' none'' =
      ap (λ (b : Bool). first (cond b (move_breaks p table l i) [])) e

-- on a link, where what the links are worth is known
pub link_is : (p : Problem) (table : Table) (l i : ℕ) (links : List (Option ℤ))
    → AreWorths p l table.ray (link_piece p l i) links → (j : ℕ) → j < length p.trips → (may : Bool)
    → may_run p l j ≡ may
    → is_above (get_or links j None) (from_price p table l i -ℤ into_price p table l j) ≡ is_link_broken p table l i j
link_is p table l i links known j within true e =
    piece_above table.ray (link_piece p l i j) (get_or links j None) (into_price p table l j) (from_price p table l i)
    (known.permitted j (within, eqb-true (bit_at (trip_of p j).layers.0 l) 1 e))
    ∙ ap (λ (b : Bool). b
    && exceeds (into_price p table l j) (from_price p table l i) table.ray (link_piece p l i j)) (sym e)
link_is p table l i links known j within false e =
    none_above (get_or links j None) _ (known.others j (λ is. false≢true (sym e ∙ eq-eqb _ 1 is.1)))
    ∙ ap (λ (b : Bool). b
    && exceeds (into_price p table l j) (from_price p table l i) table.ray (link_piece p l i j)) (sym e)
