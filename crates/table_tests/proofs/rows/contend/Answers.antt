use Rattle.claim_rule.proofs.Out.{endings_then}
use Rattle.table_tests.proofs.rows.contend.Goals as goal

pub try_on-missed-requires-clause-hold : goal.try_on-missed-requires-clause-hold
try_on-missed-requires-clause-hold g c = c.glance-word.ensures.holds.hold c.args.one.now c.requires.holds.0

pub returns-clause-endings : goal.returns-clause-endings
returns-clause-endings g c = (
  endings_then c.args.first.now c.glance-word.new.desk c.try_on-again.new.desk c.glance-word.ensures.endings
      (endings_then c.glance-word.new.desk c.try_on-missed.new.desk c.try_on-again.new.desk c.try_on-missed.ensures.endings c.try_on-again.ensures.endings),
  c.try_on-other.ensures.endings,
)
