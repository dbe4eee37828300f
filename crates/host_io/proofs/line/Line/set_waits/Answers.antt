use Rattle.std.proofs.Common.{◌∙◌, ap}
use Rattle.host_io.specs.Wires.{limits_of}
use Rattle.host_io.proofs.Setting.{waits_leave}
use Rattle.host_io.proofs.line.Line.set_waits.Goals as goal

pub returns-clause-limits : goal.returns-clause-limits
returns-clause-limits g c = ap limits_of c.in_ok-set_waits.ensures.sets ∙ waits_leave _ _
