use Rattle.std.proofs.Common.{◌≡◌, ◌≢◌, ◌+◌, ◌↔◌, ℕ, List, [], ◌∷◌, ◌++◌, length, get_or, arith, rules, refl, sym, ap, ◌∙◌, subst, inl, inr}
use Rattle.std.proofs.lemmas.Bool.{cases_lt}
use Rattle.std.proofs.lemmas.List.{get_or_append_left, get_or_push, length_push}
use Rattle.vs_types.specs.LayerSet.{Has, members}
use Rattle.vs_types.specs.declared.layer_set.LayerSet.{LayerSet}
use Rattle.vs_instance.specs.Restriction.{set_of}
use Rattle.vs_node.specs.ChosenLayers.{AreChosen, IsCheapest}
use Rattle.vs_node.proofs.sets.Cheapest.{cheapest_once, chosen-restricts, chosen-single}
use Rattle.vs_types.proofs.CallerLemmas.{members-some}
use Rattle.vs_node.proofs.choosing.chosen_layers.Goals as goal

pub loop-i-preserved : goal.loop-i-preserved
loop-i-preserved c =
    let p = c.args.instance.now in
    let sets = c.args.sets.now in
    let table = c.args.table.now in
    let i = c.loop-i.i in
    let before = c.loop-i.chosen.items in
    let after = c.push.new.self.items in
    let alone = c.only.result in
    let pushed = c.in_ok-push.ensures.items in
    let none : LayerSet = record { 0 = 0 } in
    let cheapest = c.cheapest_layer-l.ensures.cheapest in
    let long = c.loop-i.invariant.count in
    let at : (j : ℕ) → set_of after j ≡ get_or (before ++ alone ∷ []) j none = λ j.
    ap (λ (s : List LayerSet). get_or s j none) pushed in
    record {
      count = ap length pushed ∙ length_push before alone ∙ ap (λ (n : ℕ). n + 1) long;
      cheapest = λ j k below. elim (cases_lt j i) [
        | inl earlier ↦
            let old = at j ∙ get_or_append_left before (alone ∷ []) none j (omega arith) in
            subst (λ (s : LayerSet). Has s k ↔ IsCheapest p (set_of sets j) table j k) (sym old)
            (c.loop-i.invariant.cheapest j k earlier)
        | inr here ↦
            let same : i ≡ j = omega arith in
            let new = at i ∙ get_or_push before alone none i long in
            subst (λ (n : ℕ). Has (set_of after n) k ↔ IsCheapest p (set_of sets n) table n k) same
            (subst (λ (s : LayerSet). Has s k ↔ IsCheapest p (set_of sets i) table i k) (sym new) (
              (λ has. subst (λ (m : ℕ). IsCheapest p (set_of sets i) table i m) (sym ((c.only.ensures k).0 has))
                  cheapest),
              (λ first. (c.only.ensures k).1
                  (cheapest_once p table i (set_of sets i) k c.cheapest_layer-l.result.0 first cheapest)),
            ))
      ];
      some = λ j below. elim (cases_lt j i) [
        | inl earlier ↦
            let old = at j ∙ get_or_append_left before (alone ∷ []) none j (omega arith) in
            subst (λ (s : LayerSet). members s ≢ []) (sym old) (c.loop-i.invariant.some j earlier)
        | inr here ↦
            let same : i ≡ j = omega arith in
            let new = at i ∙ get_or_push before alone none i long in
            subst (λ (n : ℕ). members (set_of after n) ≢ []) same
            (subst (λ (s : LayerSet). members s ≢ []) (sym new)
            (members-some alone c.cheapest_layer-l.result.0 c.cheapest_layer-l.ensures.layer
            ((c.only.ensures c.cheapest_layer-l.result.0).1 refl)))
      ];
    }

-- all trips have their cheapest layers
chosen_all : (c : goal.After-loop-i) → AreChosen c.args.instance.now c.args.sets.now c.args.table.now
    c.loop-i.chosen.items
chosen_all c = search rules

pub returns-clause-restriction : goal.returns-clause-restriction
returns-clause-restriction c =
    chosen-restricts c.args.instance.now c.args.sets.now c.args.table.now c.loop-i.chosen.items c.requires.restriction
    (chosen_all c)
    (λ i inside. c.loop-i.invariant.some i (omega (arith, c.trips-i-end.ensures.count, c.loop-i-test.false)))

pub returns-clause-single : goal.returns-clause-single
returns-clause-single c =
    chosen-single c.args.instance.now c.args.sets.now c.args.table.now c.loop-i.chosen.items (chosen_all c)
