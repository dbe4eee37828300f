use Rattle.claim_rule.proofs.Out.{endings_then}
use Rattle.table_tests.proofs.rows.take.Goals as goal

pub try_take-requires-clause-hold : goal.try_take-requires-clause-hold
try_take-requires-clause-hold g c = c.glance-word.ensures.holds.hold c.args.hold.now c.requires.hold

pub returns-clause-endings : goal.returns-clause-endings
returns-clause-endings g c = endings_then c.args.desk.now c.glance-word.new.desk c.try_take.new.desk c.glance-word.ensures.endings c.try_take.ensures.endings
