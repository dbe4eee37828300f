use Rattle.std.proofs.Common.{◌≡◌, ◌++◌, ◌≤◌, length, map}
use Rattle.line_text.specs.Lines.{booking_line, text_of}
use Rattle.cold_store.proofs.ExportTexts.{said_below}
use Rattle.cold_store.proofs.export.push_rows.Given as goal

abbrev pub invariant-loop-row : goal.invariant-loop-row
invariant-loop-row l = record {
  text : l.text.items ≡ l.initial.text.items ++ text_of (map booking_line (said_below l.wall l.row));
  count : l.count ≡ length (said_below l.wall l.row);
  few : l.count ≤ l.row;
}
