use Rattle.std.proofs.Common.{◌≡◌, None}
use Rattle.claim_rule.specs.Desks.{IsOf}
use Rattle.claim_rule.specs.Out.{HoldsNone, KeepsEndings}
use Rattle.booking_rows.proofs.StartLemmas.{SeenPassed}
use Rattle.booking_rows.proofs.holds.start_again.Given as goal

abbrev pub invariant-loop-row : goal.invariant-loop-row
invariant-loop-row l = record {
  own : IsOf l.books l.desk;
  alone : l.desk.kept ≡ None;
  none : HoldsNone l.desk;
  endings : KeepsEndings l.fn.desk l.desk;
  passed : SeenPassed l.fn.desk l.desk l.row;
  past : l.desk.past ≡ l.fn.desk.past;
}
