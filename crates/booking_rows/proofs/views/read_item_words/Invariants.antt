use Rattle.std.proofs.Common.{◌≡◌, length}
use Rattle.std.specs.List.{AllByRecursion}
use Rattle.claim_rule.specs.Desks.{IsOf, AddsSteps}
use Rattle.booking_rows.specs.SealedRows.{IsSealedRow, IsStillPresent, HasItems, IsItemWord}
use Rattle.booking_rows.specs.Views.{word_looks}
use Rattle.booking_rows.proofs.views.read_item_words.Given as goal

abbrev pub invariant-loop-i : goal.invariant-loop-i
invariant-loop-i l = record {
  own : IsOf l.books l.desk;
  sealed : IsSealedRow l.desk l.row;
  counted : IsStillPresent l.desk l.row → HasItems l.desk l.row l.count;
  many : length l.items.items ≡ l.i;
  kept : l.desk.kept ≡ l.fn.desk.kept;
  words : IsStillPresent l.desk l.row → AllByRecursion IsItemWord l.items.items;
  seen : AddsSteps l.fn.desk l.desk (word_looks l.row.row 8 l.items.items);
}
