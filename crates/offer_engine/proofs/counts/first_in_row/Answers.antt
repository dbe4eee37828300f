use Rattle.std.proofs.Common.{length, sym}
use Rattle.offer_engine.proofs.InRow.{above_none, are_in_row}
use Rattle.offer_engine.proofs.counts.first_in_row.Goals as goal

pub returns-then-last-first-clause-row : goal.returns-then-last-first-clause-row
returns-then-last-first-clause-row c =
    let numbers = c.args.numbers.now in
    are_in_row 0 numbers (record { 0 = 0 }) c.requires.rising (above_none (length numbers) (sym c.if-is_empty.ensures)) c.if-last-first.true
