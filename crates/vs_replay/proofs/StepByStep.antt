-- The steps of a trace, made one after the other.
use Rattle.std.proofs.Common.{◌≡◌, ℕ, suc, ◌+◌, ◌<◌, ◌≤◌, List, [], ◌∷◌, ◌++◌, length, get_or, take, drop, refl, sym, ap, ◌∙◌, subst, arith}
use Rattle.std.proofs.lemmas.List.{append-nil, append_assoc, drop_more, get_or-drop, length-append, take_all, take_more}
use Rattle.vs_instance.specs.Problem.{Problem}
use Rattle.vs_tree.specs.Calls.{with_step}
use Rattle.vs_tree.specs.History.{FullStep, Opening, State, MayCome, MayFollow, after, first_state, state_after, state_of}
use Rattle.vs_tree.specs.Search.{Search, state}
use Rattle.vs_tree.proofs.CallerLemmas.{state-last, state-append, history-last}
use Rattle.vs_trace.specs.Traces.{plans_behind, steps_from, tables_behind, told_step}
use Rattle.vs_trace.specs.declared.trace.Full.{Full}
use Rattle.vs_trace.specs.declared.trace.Full.TheVariants.{Took, Split, Closed, Offered, GaveBack}
use Rattle.vs_replay.specs.Making.{AreMade, next_step, next_steps}

-- a made step brings as many tables and accepted plans as it tells
tables_grow : (p : Problem) (s : State) (step : Full)
    → length (after s (told_step p (length s.tables) (length s.accepted) step)).tables
    ≡ tables_behind (length s.tables) step
tables_grow p s (Took worker spot) = refl
tables_grow p s (Split worker spot trip left table) = length-append s.tables _
tables_grow p s (Closed worker spot table) = length-append s.tables _
tables_grow p s (Offered worker cost plan) = refl
tables_grow p s (GaveBack worker spot) = refl

plans_grow : (p : Problem) (s : State) (step : Full)
    → length (after s (told_step p (length s.tables) (length s.accepted) step)).accepted
    ≡ plans_behind (length s.accepted) step
plans_grow p s (Took worker spot) = refl
plans_grow p s (Split worker spot trip left table) = refl
plans_grow p s (Closed worker spot table) = refl
plans_grow p s (Offered worker cost plan) = length-append s.accepted _
plans_grow p s (GaveBack worker spot) = refl

-- as many steps are told as there are
pub count_steps : (p : Problem) (tables plans : ℕ) (steps : List Full)
    → length (steps_from p tables plans steps) ≡ length steps
count_steps p tables plans [] = refl
count_steps p tables plans (step ∷ steps) =
    ap suc (count_steps p (tables_behind tables step) (plans_behind plans step) steps)

-- some steps are made
pub record MadeSoFar (old now : Search) (steps : List Full) (i : ℕ) : Type 0 where
  pub within : i ≤ length steps
  pub opening : now.opening ≡ old.opening
  pub steps_are : now.steps ≡ old.steps ++ take i (next_steps old steps)
  pub history : MayFollow old.opening (state old) (take i (next_steps old steps))
  pub rest : drop i (next_steps old steps) ≡ next_steps now (drop i steps)

pub none_made : (old : Search) (steps : List Full) → MadeSoFar old old steps 0
none_made old steps = record {
  within = omega arith;
  opening = refl;
  steps_are = sym (append-nil old.steps);
  history = tt;
  rest = refl;
}

module _ (old now : Search) (steps : List Full) (i : ℕ) (s : MadeSoFar old now steps i) where
  abbrev told : List FullStep
  told = next_steps old steps

  abbrev behind : State
  behind = state_after (state old) (take i told)

  -- the state is the one behind the steps that are made
  state_is : state now ≡ behind
  state_is =
      ap (λ (o : Opening). state_of o now.steps) s.opening
      ∙ ap (λ (xs : List FullStep). state_of old.opening xs) s.steps_are
      ∙ state-append (first_state old.opening) old.steps (take i told)

  module _ (step : Full) (lt : i < length steps) (is : get_or steps i step ≡ step) where
    -- the step that comes next, and those behind it
    rest_is : drop i told ≡ next_step now step
        ∷ steps_from now.opening.problem (tables_behind (length (state now).tables) step)
        (plans_behind (length (state now).accepted) step) (drop (i + 1) steps)
    rest_is =
        s.rest ∙ ap (next_steps now) (drop_more steps i step lt
        ∙ ap (λ (x : Full). x ∷ drop (i + 1) steps) is)

    told_within : i < length told
    told_within = omega (
      arith,
      lt,
      count_steps old.opening.problem (length (state old).tables)
          (length (state old).accepted) steps,
    )

    pub next_is : (d : FullStep) → get_or told i d ≡ next_step now step
    next_is d =
        let here : get_or (drop i told) 0 d ≡ get_or told i d =
        get_or-drop i told 0 d ∙ ap (λ (k : ℕ). get_or told k d) (omega arith) in
        sym here ∙ ap (λ (xs : List FullStep). get_or xs 0 d) rest_is

    -- it may not come: no more are made
    pub stops : (new : Search) → ¬ (MayCome now.opening (state now) (next_step now step)) → AreMade old new steps i
    stops new may_not = record {
      few = s.within;
      history = s.history;
      all = λ done. absurd (omega (arith, done, lt));
      stuck = λ _ d may.
          let at : MayCome old.opening behind (next_step now step) =
          subst (λ (x : FullStep). MayCome old.opening behind x) (next_is d) may in
          let here : MayCome old.opening (state now) (next_step now step) =
          subst (λ (x : State). MayCome old.opening x (next_step now step)) (sym state_is) at in
          may_not (subst (λ (o : Opening). MayCome o (state now) (next_step now step)) (sym s.opening) here);
    }

    -- it may come, and is made
    pub one_more : (new : Search) → MayCome now.opening (state now) (next_step now step)
        → new ≡ with_step now (next_step now step) → MadeSoFar old new steps (i + 1)
    one_more new may made =
        let y = next_step now step in
        let more : take (i + 1) told ≡ take i told ++ y ∷ [] =
        take_more told i y told_within ∙ ap (λ (x : FullStep). take i told ++ x ∷ []) (next_is y) in
        let here : MayCome old.opening behind y =
        subst (λ (x : State). MayCome old.opening x y) state_is
        (subst (λ (o : Opening). MayCome o (state now) y) s.opening may) in
        let state_new : state new ≡ after (state now) y =
        ap state made ∙ state-last (first_state now.opening) now.steps y in
        let p = now.opening.problem in
        let tail : drop (i + 1) told ≡ steps_from p (tables_behind (length (state now).tables) step)
        (plans_behind (length (state now).accepted) step) (drop (i + 1) steps) =
        ap (λ (xs : List FullStep). drop 1 xs) (sym (drop_more told i y told_within) ∙ rest_is) in
        let tables : length (state new).tables ≡ tables_behind (length (state now).tables) step =
        ap (λ (x : State). length x.tables) state_new ∙ tables_grow p (state now) step in
        let plans : length (state new).accepted ≡ plans_behind (length (state now).accepted) step =
        ap (λ (x : State). length x.accepted) state_new ∙ plans_grow p (state now) step in
        record {
          within = omega (arith, lt);
          opening = ap (λ (t : Search). t.opening) made ∙ s.opening;
          steps_are = ap (λ (t : Search). t.steps) made ∙ ap (λ (xs : List FullStep). xs ++ y ∷ []) s.steps_are
              ∙ append_assoc old.steps (take i told) (y ∷ [])
              ∙ ap (λ (xs : List FullStep). old.steps ++ xs) (sym more);
          history = subst (λ (xs : List FullStep). MayFollow old.opening (state old) xs) (sym more)
              (history-last old.opening (state old) (take i told) y s.history here);
          rest = tail
              ∙ ap (λ (n : ℕ). steps_from p n (plans_behind (length (state now).accepted) step) (drop (i + 1) steps))
              (sym tables)
              ∙ ap (λ (n : ℕ). steps_from p (length (state new).tables) n (drop (i + 1) steps)) (sym plans)
              ∙ ap (λ (q : Problem). steps_from q (length (state new).tables) (length (state new).accepted)
              (drop (i + 1) steps)) (sym (ap (λ (t : Search). t.opening.problem) made));
        }

  -- all are made
  pub all_made : i ≡ length steps → AreMade old now steps i
  all_made done =
      let whole : take i told ≡ told =
      take_all i told (omega (
        arith,
        done,
        count_steps old.opening.problem (length (state old).tables)
            (length (state old).accepted) steps,
      )) in
      record {
        few = s.within;
        history = s.history;
        all = λ _.
            let steps_are = s.steps_are ∙ ap (λ (xs : List FullStep). old.steps ++ xs) whole in
            ap (λ (o : Opening). record { opening = o; steps = now.steps }) s.opening
            ∙ ap (λ (xs : List FullStep). record { opening = old.opening; steps = xs }) steps_are;
        stuck = λ less d. absurd (omega (arith, less, done));
      }
