use Rattle.std.proofs.Common.{List, subst, None, Some, Contains}
use Rattle.std.specs.String.{string_bytes}
use Rattle.vs_reader.specs.Rows.{Field}
use Rattle.vs_reader.specs.Names.{Names}
use Rattle.vs_reader.specs.NameRules.{AreNames}
use Rattle.vs_reader.proofs.naming.NumberedNames.{found_number, found_only}
use Rattle.vs_reader.proofs.name_list.NameList.find.Goals as goal

pub returns-in_err-number-clause-found : goal.returns-in_err-number-clause-found
returns-in_err-number-clause-found c =
    let is = c.in_err-number.ensures in
    let none : ¬ (Contains c.args.self.now c.args.name.now) =
    subst (λ (names : List Field). ¬ (Contains names c.args.name.now)) c.self.view_is
    (found_number string_bytes c.args.name.now c.self.inside.names.keys None is.index is.found is.within) in
    rw c.from_residual.ensures none

pub returns-clause-found : goal.returns-clause-found
returns-clause-found c =
    let is = c.in_ok-number.ensures in
    subst (λ (names : List Field). Names names c.args.name.now c.in_ok-number.number) c.self.view_is
    (found_number string_bytes c.args.name.now c.self.inside.names.keys
    (Some c.in_ok-number.number) is.index is.found is.within)

pub returns-clause-only : goal.returns-clause-only
returns-clause-only c =
    found_only c.args.self.now c.args.name.now (Some c.in_ok-number.number)
    (subst (λ (names : List Field). AreNames names) c.self.view_is c.self.invariant) (returns-clause-found c)
