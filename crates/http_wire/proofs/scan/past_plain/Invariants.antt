use Rattle.std.proofs.Common.{◌≡◌, ◌≤◌, ◌+◌, ◌-◌, length}
use Rattle.http_wire.specs.Scan.{ArePlain}
use Rattle.http_wire.proofs.scan.past_plain.Given as goal

abbrev pub invariant-twos : goal.invariant-twos
invariant-twos g l = record {
  after : l.fn.from ≤ l.at;
  within : l.at ≤ length l.piece;
  plain : ArePlain l.piece l.fn.from l.at;
  steps : l.steps + l.fn.from ≡ l.fn.steps + l.at;
}

abbrev pub decreases-twos : goal.decreases-twos
decreases-twos g l = length l.piece - l.at
