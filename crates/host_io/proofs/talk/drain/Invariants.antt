use Rattle.std.proofs.Common.{◌≡◌}
use Rattle.host_io.specs.Talks.{drained}
use Rattle.host_io.specs.Wires.{limits_of}
use Rattle.host_io.proofs.talk.drain.Given as goal

abbrev pub invariant-loop-piece : goal.invariant-loop-piece
invariant-loop-piece g l = record {
  sent : g.W.Wire.outgoing l.line.wire ≡ g.W.Wire.outgoing l.fn.line.wire;
  told : limits_of (g.W.Wire.settings l.line.wire) ≡ drained (limits_of (g.W.Wire.settings l.fn.line.wire));
}
