use Rattle.std.proofs.Common.{◌≡◌, List, [], ◌∷◌, ◌++◌, map, cond, is_ok, Result, Ok, Err, ◌∙◌, subst, Contains}
use Rattle.std.specs.Prelude.{OnOk}
use Rattle.std.specs.String.{string_bytes}
use Rattle.vs_reader.specs.Rows.{Field}
use Rattle.vs_reader.specs.NameRules.{AreNames}
use Rattle.vs_reader.proofs.naming.NumberedNames.{AreNames-added}
use Rattle.vs_reader.proofs.name_list.NameList.add.Goals as goal
use Rattle.vs_reader.proofs.name_list.NameList.add.Goals.{After-insert_new}

pub insert_new-requires : goal.insert_new-requires
insert_new-requires c = λ among.
    c.requires.new
    (subst (λ (f : Field). Contains c.args.self.now f) c.in_ok-added.ensures
    (subst (λ (names : List Field). Contains names (string_bytes c.in_ok-added.added)) c.self.view_is among))

-- the names afterwards
names_after : (c : After-insert_new)
    → map string_bytes c.insert_new.new.names.keys
    ≡ cond (is_ok c.insert_new.result) (c.args.self.now ++ c.args.name.now ∷ []) c.args.self.now
names_after c =
    let added = is_ok c.insert_new.result in
    let names : map string_bytes c.self.inside.names.keys ≡ c.args.self.now = c.self.view_is in
    let name : string_bytes c.in_ok-added.added ≡ c.args.name.now = c.in_ok-added.ensures in
    c.insert_new.ensures ∙ (λ i. cond added (names i ++ name i ∷ []) (names i))

pub invariant_of-self : goal.invariant_of-self
invariant_of-self c =
    AreNames-added c.args.self.now (map string_bytes c.insert_new.new.names.keys) c.args.name.now
    (is_ok c.insert_new.result) (names_after c)
    (subst (λ (names : List Field). AreNames names) c.self.view_is c.self.invariant)
    c.requires.name c.requires.new c.requires.room

where_ok : {E : Type 0} (r : Result (Unit {0}) E) (after more names : List Field) → after ≡ cond (is_ok r) more names
    → OnOk r (after ≡ more)
where_ok (Ok u) after more names is = is
where_ok (Err e) after more names is = tt

pub returns : goal.returns
returns c =
    where_ok c.insert_new.result (map string_bytes c.insert_new.new.names.keys)
    (c.args.self.now ++ c.args.name.now ∷ []) c.args.self.now (names_after c)
