use Rattle.std.proofs.lemmas.Result.{IfOk-weaker}
use Rattle.vs_words.specs.Words.{IsUnlimited}
use Rattle.mdvsp.specs.Answered.{IsResumed}
use Rattle.mdvsp.proofs.crew.Crew.carry_on.Goals as goal

-- where no limit is given the solver may not end the search early
pub returns : goal.returns
returns g c =
    let p = c.args.input.now.instance in
    let names = c.args.input.now.names in
    let ends = IsUnlimited c.args.self.now.gate.effort in
    IfOk-weaker c.resumed.result (IsResumed (¬ (¬ ends)) p names c.args.budget c.args.document)
    (IsResumed ends p names c.args.budget c.args.document)
    (λ answer is. record {
      document = is.document;
      answers = is.answers;
      whole = λ unlimited. is.whole (λ limited. limited unlimited);
      status_is = is.status_is;
      text_is = is.text_is;
    }) c.resumed.ensures
