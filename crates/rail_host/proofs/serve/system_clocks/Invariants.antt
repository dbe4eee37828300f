use Rattle.std.proofs.Common.{◌≡◌, length}
use Rattle.rail_host.proofs.serve.system_clocks.Given as goal

abbrev pub invariant-loop-number : goal.invariant-loop-number
invariant-loop-number g l = length l.clocks.items ≡ l.number
