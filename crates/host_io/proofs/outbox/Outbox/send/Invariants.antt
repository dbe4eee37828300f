use Rattle.std.proofs.Common.{◌≡◌, ◌≤◌, ◌-◌, drop, vec_len, vec_capacity}
use Rattle.rail_io.specs.Told.{with_end}
use Rattle.host_io.specs.Outbox.{most_held, Stays}
use Rattle.host_io.proofs.outbox.Outbox.send.Given as goal

abbrev pub invariant-loop-self : goal.invariant-loop-self
invariant-loop-self g l = record {
  told : with_end (g.K.Sink.told l.sink) (drop l.self-inside.sent l.self-inside.bytes.items) ≡ with_end (g.K.Sink.told l.fn.sink) l.fn.self.held;
  within : l.self-inside.sent ≤ vec_len l.self-inside.bytes;
  few : vec_len l.self-inside.bytes ≤ most_held;
  room : most_held ≤ vec_capacity l.self-inside.bytes;
  stays : Stays g.K.Sink.takes l.fn.sink l.sink;
  faults : g.K.Sink.faults l.sink ≡ g.K.Sink.faults l.fn.sink;
}

abbrev pub decreases-loop-self : goal.decreases-loop-self
decreases-loop-self g l = vec_len l.self-inside.bytes - l.self-inside.sent
