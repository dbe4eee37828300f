use Rattle.table_tests.proofs.rows.start.Goals as goal

pub returns-clause-number : goal.returns-clause-number
returns-clause-number g c = c.start_hold.ensures.entries.2.same.2
