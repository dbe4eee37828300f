use Rattle.std.proofs.Common.{◌≡◌, length}
use Rattle.claim_rule.specs.Desks.{IsOf}
use Rattle.claim_rule.specs.Out.{IsIdle}
use Rattle.host_drill.specs.Meeting.{EachAt, IsFirst}
use Rattle.host_drill.specs.Connections.{IsReady}
use Rattle.host_drill.proofs.crew.open_crew.Given as goal

abbrev pub invariant-loop-worker : goal.invariant-loop-worker
invariant-loop-worker l = record {
  own : IsOf l.books l.desk;
  idle : IsIdle l.desk;
  count : length l.crew.items ≡ l.worker;
  first : IsFirst l.desk l.worker l.worker;
  ready : EachAt (IsReady l.books l.said.seed l.said.size) l.crew.items;
}
