use Rattle.booking_rows.proofs.StartLemmas.{no_word}
use Rattle.booking_rows.proofs.holds.next_generation.Goals as goal

pub returns-in_default-2-clause-none : goal.returns-in_default-2-clause-none
returns-in_default-2-clause-none c = no_word c.args.word (rw c.in_default.is at c.read_row_word.ensures.none)
