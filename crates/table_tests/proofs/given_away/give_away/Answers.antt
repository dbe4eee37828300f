use Rattle.std.proofs.Common.{◌∙◌}
use Rattle.table_tests.proofs.given_away.give_away.Goals as goal

pub sweep-swept-requires-clause-none : goal.sweep-swept-requires-clause-none
sweep-swept-requires-clause-none g c = c.requires.idle.1

pub book-requires-clause-none : goal.book-requires-clause-none
book-requires-clause-none g c = c.sweep-swept.ensures.holds.none c.requires.idle.0

pub returns-clause-idle : goal.returns-clause-idle
returns-clause-idle g c = (c.book.ensures.none, c.book.ensures.endings.none c.sweep-swept.ensures.none)

pub returns-clause-number : goal.returns-clause-number
returns-clause-number g c = c.book.ensures.number ∙ c.sweep-swept.ensures.entries.2.same.2
