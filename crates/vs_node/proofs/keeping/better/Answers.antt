use Rattle.std.proofs.Common.{sym, ◌∙◌}
use Rattle.vs_node.proofs.tables.Keeping.{copy_better, found_better}
use Rattle.vs_node.proofs.keeping.better.Goals as goal

pub returns-then-is_no_less : goal.returns-then-is_no_less
returns-then-is_no_less c =
    let case = c.args.case.now in
    let own = c.worth-own_worth in
    let is = found_better case.instance.now case.sets.now c.args.own.now c.args.found own.result c.args.found_worth
    (record { fits = c.requires.own_fits; holds = c.requires.own_holds; is_worth = own.ensures.worth })
    (record { fits = c.requires.found_fits; holds = c.requires.found_holds; is_worth = c.requires.found_worth })
    (c.is_no_less.ensures.0 c.if-is_no_less.true) in
    record {
      fits = is.lawful.fits;
      holds = is.lawful.holds;
      worth = is.lawful.is_worth;
      no_less = is.no_less_other;
      no_less_found = is.no_less;
    }

pub returns : goal.returns
returns c =
    let case = c.args.case.now in
    let own = c.worth-own_worth in
    let is = copy_better case.instance.now case.sets.now c.args.own.now c.args.found own.result c.args.found_worth
    (record { fits = c.requires.own_fits; holds = c.requires.own_holds; is_worth = own.ensures.worth })
    (record { fits = c.requires.found_fits; holds = c.requires.found_holds; is_worth = c.requires.found_worth })
    c.in_ok-copy.copy c.in_ok-copy.ensures
    (λ more. let now = sym c.if-is_no_less.false ∙ c.is_no_less.ensures.1 more in absurd cc) in
    record {
      fits = is.lawful.fits;
      holds = is.lawful.holds;
      worth = is.lawful.is_worth;
      no_less = is.no_less_other;
      no_less_found = is.no_less;
    }
