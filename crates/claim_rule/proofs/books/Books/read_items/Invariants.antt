use Rattle.std.proofs.Common.{◌≡◌, ◌≤◌, ◌∷◌, length}
use Rattle.history_model.specs.Booking.{most_items}
use Rattle.history_model.specs.declared.entry.Step.TheVariants.{SawRow}
use Rattle.claim_rule.specs.Desks.{IsOf, AddsSteps}
use Rattle.claim_rule.specs.Endings.{item_looks}
use Rattle.claim_rule.proofs.Reading.{ReadSoFar}
use Rattle.claim_rule.proofs.books.Books.read_items.Given as goal

abbrev pub invariant-loop-i : goal.invariant-loop-i
invariant-loop-i l = record {
  own : IsOf l.self l.desk;
  so_far : ReadSoFar l.desk l.ending l.count l.i l.items.items;
  kept : l.desk.kept ≡ l.fn.desk.kept;
  few : length l.items.items ≤ most_items;
  seen : AddsSteps l.fn.desk l.desk (SawRow l.ending.row.row 4 l.count ∷ item_looks l.ending.row.row 8 l.items.items);
}
