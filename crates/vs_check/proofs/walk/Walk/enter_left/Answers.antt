use Rattle.std.proofs.Common.{◌≡◌, List, [], ◌∷◌, ◌++◌, reverse, ap, ◌∙◌}
use Rattle.std.proofs.lemmas.List.{get_or_read}
use Rattle.vs_types.specs.declared.layer_set.LayerSet.{LayerSet}
use Rattle.vs_instance.specs.Restriction.{set_of}
use Rattle.vs_types.specs.Parts.{rest_of}
use Rattle.vs_prices.specs.Tree.{right_of, with_set}
use Rattle.vs_check.specs.declared.walk.Change.{Change}
use Rattle.vs_check.specs.Walk.{end_of, right_part, sets_along}
use Rattle.vs_check.proofs.WalkSteps.{ahead_on_left}
use Rattle.vs_check.proofs.walk.Walk.enter_left.Goals as goal

pub returns : goal.returns
returns c =
    let sets = c.args.self.now.sets.items in
    let trip = c.args.trip in
    let left = c.args.left in
    let whole = c.index-whole.result.now in
    let ahead = c.args.self.now.ahead.items in
    let right = c.minus-right.result in
    let end = c.in_ok-note_end.ensures in
    let part = c.in_ok-note_right.ensures in
    let noted : c.note_right.new.self.ahead.items ≡ (ahead ++ end_of trip whole ∷ []) ++ right_part trip right ∷ [] =
    part.ahead ∙ ap (λ (cs : List Change). cs ++ right_part trip right ∷ []) end.ahead in
    let kept : c.note_right.new.self.sets.items ≡ sets = ap (λ v. v.items) (part.sets ∙ end.sets) in
    let set_is : whole ≡ set_of sets trip.0 =
    get_or_read sets trip.0 whole c.requires c.index-whole.ensures (record { 0 = 0 }) in
    let right_is : right ≡ right_of sets trip left =
    c.minus-right.ensures.value ∙ ap (λ (s : LayerSet). rest_of s left) set_is in
    record {
      sets = ap (λ (s : List LayerSet). with_set s trip left) kept;
      ahead = ap (λ (s : List LayerSet). sets_along (with_set s trip left)
          (reverse c.note_right.new.self.ahead.items)) kept
          ∙ ap (λ (cs : List Change). sets_along (with_set sets trip left) (reverse cs)) noted
          ∙ ahead_on_left sets trip left right whole ahead c.index-whole.ensures
          ∙ ap (λ (r : LayerSet). with_set sets trip r ∷ sets_along sets (reverse ahead)) right_is;
    }
