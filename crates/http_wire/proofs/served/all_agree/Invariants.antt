use Rattle.std.proofs.Common.{take}
use Rattle.std.specs.Prelude.{All}
use Rattle.http_wire.specs.ServedLines.{Agrees}
use Rattle.http_wire.proofs.served.all_agree.Given as goal

abbrev pub invariant-loop-line : goal.invariant-loop-line
invariant-loop-line l = All (Agrees l.head l.number) (take l.line-index l.lines)
