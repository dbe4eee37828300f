use Rattle.std.proofs.Common.{◌≡◌, ℕ}
use Rattle.host_io.specs.Doors.{AsksOn}
use Rattle.host_io.proofs.tcp_port.Port.next_stream.Given as goal

abbrev pub invariant-loop : goal.invariant-loop
invariant-loop g l = record {
  asks : (n : ℕ) × AsksOn n (g.D.Door.calls l.fn.self.door) (g.D.Door.calls l.self.door);
  same : l.self ≡ record l.fn.self { door = l.self.door };
}
