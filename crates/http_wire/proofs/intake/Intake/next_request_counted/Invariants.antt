use Rattle.std.proofs.Common.{◌≡◌, ℕ, ◌+◌, ◌-◌, ◌≤◌, List, ◌++◌, length}
use Rattle.std.specs.Prelude.{slice_range}
use Rattle.rail_io.specs.Told.{with_front}
use Rattle.http_wire.specs.Stages.{IsStage, searched}
use Rattle.http_wire.proofs.StageLemmas.{PullsForMore}
use Rattle.http_wire.proofs.intake.Intake.next_request_counted.Given as goal

-- what is held is what was held, and what was pulled since
abbrev pub invariant-reads : goal.invariant-reads
invariant-reads g l = record {
  pulled : List ℕ;
  told : g.S.Source.told l.fn.source ≡ with_front pulled (g.S.Source.told l.source);
  held : slice_range l.self-inside.memory.items l.self-inside.start l.self-inside.filled ≡ l.fn.self.unread ++ pulled;
  front : l.self-inside.at ≡ l.self-inside.start;
  ordered : l.self-inside.start ≤ l.self-inside.filled;
  within : l.self-inside.filled ≤ 278528;
  room : length l.self-inside.memory.items ≡ 278528;
  number : l.number ≡ l.fn.self.given + 1;
  stage : IsStage l.number (slice_range l.self-inside.memory.items l.self-inside.start l.self-inside.filled) l.self-inside.stage;
  given : l.self-inside.given ≡ l.fn.self.given;
  faults : g.S.Source.faults l.fn.source ≤ g.S.Source.faults l.source;
  steady : g.S.Source.faults l.source ≤ g.S.Source.faults l.fn.source;
  waits : PullsForMore l.fn.self.unread pulled;
  steps : l.steps + l.fn.self.looked ≤ l.fn.steps + searched l.self-inside.stage;
}

abbrev pub decreases-reads : goal.decreases-reads
decreases-reads g l = 278528 - (l.self-inside.filled - l.self-inside.start)
