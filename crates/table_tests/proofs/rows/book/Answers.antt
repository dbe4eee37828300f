use Rattle.std.proofs.Common.{◌∙◌}
use Rattle.claim_rule.proofs.Out.{endings_then}
use Rattle.table_tests.proofs.rows.book.Goals as goal

pub returns-clause-endings : goal.returns-clause-endings
returns-clause-endings g c =
    endings_then c.args.desk.now c.take.new.desk c.close_hold.new.desk
    (endings_then c.args.desk.now c.start_hold.new.desk c.take.new.desk c.start_hold.ensures.endings c.take.ensures.endings) c.close_hold.ensures.endings

pub returns-clause-number : goal.returns-clause-number
returns-clause-number g c = c.close_hold.ensures.number ∙ (c.take.ensures.number ∙ c.start_hold.ensures.entries.2.same.2)
