use Rattle.std.proofs.Common.{◌≡◌}
use Rattle.host_io.specs.Wires.{limits_of}
use Rattle.host_io.proofs.line.Line.send_both.Given as goal

abbrev pub invariant-loop : goal.invariant-loop
invariant-loop g l = record {
  left : g.W.Wire.incoming l.self.wire ≡ g.W.Wire.incoming l.fn.self.wire;
  limits : limits_of (g.W.Wire.settings l.self.wire) ≡ limits_of (g.W.Wire.settings l.fn.self.wire);
  sent : g.W.Wire.outgoing l.self.wire ≡ g.W.Wire.outgoing l.fn.self.wire;
}
