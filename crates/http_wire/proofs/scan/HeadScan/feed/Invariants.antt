use Rattle.std.proofs.Common.{◌≡◌, ◌≤◌, ◌+◌, ◌-◌, List, ◌++◌, length, take, ℕ, None}
use Rattle.http_wire.specs.Scan.{StandsFor}
use Rattle.http_wire.proofs.scan.HeadScan.feed.Given as goal

abbrev pub invariant-bytes : goal.invariant-bytes
invariant-bytes g l = record {
  within : l.from ≤ length l.piece;
  live : l.scan.ended ≡ None;
  stands : (bytes : List ℕ) → StandsFor l.fn.self bytes → StandsFor l.scan (bytes ++ take l.from l.piece);
  at : l.scan.at ≡ l.fn.self.at + l.from;
  steps : l.steps ≡ l.fn.steps + l.from;
}

abbrev pub decreases-bytes : goal.decreases-bytes
decreases-bytes g l = length l.piece - l.from
