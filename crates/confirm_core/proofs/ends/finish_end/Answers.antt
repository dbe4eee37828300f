use Rattle.claim_rule.proofs.Out.{holds_then}
use Rattle.confirm_core.proofs.Finishing.{gave_and_closed, ended_whole}
use Rattle.confirm_core.proofs.ends.finish_end.Goals as goal

pub returns-clause-entries : goal.returns-clause-entries
returns-clause-entries c =
    gave_and_closed c.args.desk.now c.give_all.new.desk c.close_end.new.desk c.args.ending c.give_all.new.ending c.requires.fresh c.give_all.ensures.all c.give_all.ensures.entries c.close_end.ensures.entries

pub returns-clause-ended : goal.returns-clause-ended
returns-clause-ended c = ended_whole c.close_end.new.desk c.args.ending c.give_all.new.ending c.give_all.ensures.all c.close_end.ensures.ended

pub returns-clause-holds : goal.returns-clause-holds
returns-clause-holds c = holds_then c.args.desk.now c.give_all.new.desk c.close_end.new.desk c.give_all.ensures.holds c.close_end.ensures.holds
