use Rattle.std.proofs.Common.{◌≡◌, drop, length}
use Rattle.http_wire.specs.Notes.{AreNotesWithin}
use Rattle.http_wire.proofs.NoteLemmas.{no_notes, notes_after}
use Rattle.http_wire.proofs.served.notes_of.Given as goal

-- the lines that are left are still to be noted
abbrev pub invariant-loop-line : goal.invariant-loop-line
invariant-loop-line l = record {
  rest : notes_after l.head l.notes (drop l.line-index l.lines) ≡ notes_after l.head no_notes l.lines;
  within : AreNotesWithin (length l.head) l.notes;
}
