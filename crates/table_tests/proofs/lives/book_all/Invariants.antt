use Rattle.std.proofs.Common.{◌≡◌}
use Rattle.claim_rule.specs.Desks.{IsOf}
use Rattle.claim_rule.specs.Out.{HoldsNone}
use Rattle.table_tests.proofs.lives.book_all.Given as goal

abbrev pub invariant-loop-place : goal.invariant-loop-place
invariant-loop-place g l = record {
  own : IsOf l.books l.desk;
  none : HoldsNone l.desk;
  number : l.desk.number ≡ l.fn.desk.number;
}
