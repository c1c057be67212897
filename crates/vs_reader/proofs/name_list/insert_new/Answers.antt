use Rattle.std.proofs.Common.{[], ◌∷◌, ◌++◌, map, cond, ap, ◌∙◌}
use Rattle.std.specs.String.{string_bytes}
use Rattle.std.proofs.lemmas.List.{map_push}
use Rattle.vs_reader.proofs.naming.NumberedNames.{none_Contains}
use Rattle.vs_reader.proofs.name_list.insert_new.Goals as goal

pub returns : goal.returns
returns c =
    let texts = c.args.names.now.keys in
    let name = c.args.name in
    ap (map string_bytes)
    (c.in_ok-insert.ensures.keys
    ∙ ap (λ b. cond b texts (texts ++ name ∷ [])) (none_Contains string_bytes (string_bytes name) texts c.requires))
    ∙ map_push string_bytes texts name
