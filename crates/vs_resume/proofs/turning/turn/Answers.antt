use Rattle.std.proofs.Common.{◌≡◌, ◌≤◌, ℕ, zero, suc, List, length, refl, sym, ap, ◌∙◌, subst, arith, inl, inr, not}
use Rattle.vs_types.specs.declared.layer_set.LayerSet.{LayerSet}
use Rattle.vs_instance.specs.Narrowed.{narrowed}
use Rattle.vs_instance.specs.Restriction.{IsRestriction}
use Rattle.vs_tree.proofs.CallerLemmas.{histories_are_sound}
use Rattle.vs_resume.specs.Deepened.{IsBegunOn}
use Rattle.vs_resume.proofs.parts.PartPut.{case_at, leaf_restricts, next_within, same_sets}
use Rattle.vs_resume.proofs.parts.PartTurn.{turned_on}
use Rattle.vs_resume.proofs.turning.turn.Goals as goal

pub index-requires : goal.index-requires
index-requires g c =
    let inside = next_within c.args.course.now c.args.k c.requires.next in
    omega (arith, inside, c.args.course.now.cases.ok.0)

pub deepened-requires : goal.deepened-requires
deepened-requires g c =
    let p = c.args.instance.now in
    let inside = next_within c.args.course.now c.args.k c.requires.next in
    let found = c.index.result.now in
    let restricts = leaf_restricts p c.args.course.now c.requires.course c.args.k inside found c.index.ensures
    c.trips.ensures.instance in
    record {
      sets = subst (IsRestriction p)
          (sym (c.deref-layers.ensures.value ∙ c.in_ok-sets.ensures.items ∙ c.deref.ensures.value)) restricts;
      some = c.turn_nodes.ensures.some;
      few = c.turn_nodes.ensures.few;
      room = c.turn_nodes.ensures.room;
      can = c.requires.can;
    }

pub put_part-requires : goal.put_part-requires
put_part-requires g c =
    let p = c.args.instance.now in
    let old = c.args.course.now in
    let inside = next_within old c.args.k c.requires.next in
    let found = c.index.result.now in
    let here = case_at p old c.requires.course c.args.k inside found c.index.ensures in
    let deep : IsBegunOn (narrowed p c.deref-layers.result.now) c.turn_nodes.result c.in_ok-tree.tree =
    c.in_ok-tree.ensures.begun in
    let budget = deep.budget in
    record {
      course = c.requires.course;
      leaf = inside;
      sets = λ other there. same_sets old c.args.k found other here there
          ∙ sym (c.in_ok-sets.ensures.items ∙ c.deref.ensures.value);
      part = deep.problem ∙ ap (λ (s : List LayerSet). narrowed p s) c.deref-layers.ensures.value;
      budget = omega (arith, budget, c.turn_nodes.ensures.few);
      few = c.requires.few;
    }

-- what isn't 0 is 1 at least
some_of : (n : ℕ) → ¬ (n ≡ 0) → 1 ≤ n
some_of zero none = absurd (none refl)
some_of (suc n) none = omega arith

-- a turn that finished no node changed nothing
pub returns-then-finished-eq0 : goal.returns-then-finished-eq0
returns-then-finished-eq0 g c = record {
  stays = c.deepened.ensures.stays;
  may = c.deepened.ensures.may;
  turn = inl (refl, refl, refl);
  few = omega arith;
  goes_on = λ never.
      let some = (c.in_ok-tree.ensures.found never).some in
      let finished = c.report-finished.ensures.finished in
      absurd (omega (arith, some, finished, c.if-finished-eq0.true));
}

pub returns : goal.returns
returns g c =
    let p = c.args.instance.now in
    let old = c.args.course.now in
    let mid = c.put_part.new.course in
    let new = c.take_plan.new.course in
    let inside = next_within old c.args.k c.requires.next in
    let found = c.index.result.now in
    let here = case_at p old c.requires.course c.args.k inside found c.index.ensures in
    let t = c.in_ok-tree.tree in
    let deep : IsBegunOn (narrowed p c.deref-layers.result.now) c.turn_nodes.result t = c.in_ok-tree.ensures.begun in
    let known = c.instance-part.ensures in
    let sound = histories_are_sound t.opening t.steps known.opening known.history in
    let nodes = c.report-finished.result.finished in
    let finished = c.report-finished.ensures.finished in
    let spent = sound.budget in
    let budget = deep.budget in
    let put = c.in_ok-put_part.ensures.put in
    let taken = c.in_ok-take_plan.ensures in
    let layers : put.leaf.sets.items ≡ c.deref-layers.result.now =
    same_sets old c.args.k found put.leaf here put.is_leaf
    ∙ sym (c.deref-layers.ensures.value ∙ c.in_ok-sets.ensures.items ∙ c.deref.ensures.value) in
    let of_leaf = subst (λ (s : List LayerSet). IsBegunOn (narrowed p s) c.turn_nodes.result t) (sym layers) deep in
    let some_node : 1 ≤ nodes = some_of nodes c.if-finished-eq0.false in
    let few_nodes : nodes ≤ c.turn_nodes.result = omega (arith, finished, spent, budget) in
    let same = ap (λ ts. length ts.items) taken.tables in
    record {
      stays = c.deepened.ensures.stays;
      may = c.deepened.ensures.may;
      turn = inr (
        some_node,
        omega (arith, few_nodes, c.turn_nodes.ensures.few),
        λ s course. turned_on p c.trips.ensures.instance c.args.left nodes c.args.k t old mid new put taken
            known.opening known.history (omega (arith, few_nodes, c.turn_nodes.ensures.few))
            (omega (arith, few_nodes, c.turn_nodes.ensures.within)) finished some_node c.turn_nodes.result
            of_leaf c.requires.next s course,
      );
      few = omega (arith, same, c.in_ok-put_part.ensures.few);
      goes_on = λ never. ap not (c.is_over.ensures.1 (c.in_ok-tree.ensures.found never).over);
    }
