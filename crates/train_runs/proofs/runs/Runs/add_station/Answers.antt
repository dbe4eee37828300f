use Rattle.std.proofs.Common.{◌∙◌, sym}
use Rattle.train_runs.proofs.Coding.{text_of_code}
use Rattle.train_runs.proofs.runs.Runs.add_station.Goals as goal

pub returns-in_default-clause-err : goal.returns-in_default-clause-err
returns-in_default-clause-err c = λ _. absurd (c.in_default.ensures.cases.0 (text_of_code c.args.code.now (sym c.is_code.ensures ∙ c.if-not-is_code.false)))
