use Rattle.std.proofs.Common.{drop, take}
use Rattle.http_wire.proofs.Fronts.{fault_at}
use Rattle.http_wire.proofs.intake.after_head.Goals as goal

pub returns-in-Err-clause-front : goal.returns-in-Err-clause-front
returns-in-Err-clause-front c =
    fault_at c.args.text.now (take c.args.end c.args.text.now) (drop c.args.end c.args.text.now) c.in-Err.fault c.requires.at c.in-Err.ensures.err
