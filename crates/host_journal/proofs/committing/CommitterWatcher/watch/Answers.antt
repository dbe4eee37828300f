use Rattle.std.proofs.Common.{[]}
use Rattle.claim_rule.proofs.Shapes.{shape_none}
use Rattle.host_journal.proofs.committing.CommitterWatcher.watch.Goals as goal

-- nothing was looked at
pub returns-in_default-clause-looks : goal.returns-in_default-clause-looks
returns-in_default-clause-looks g c = ([], tt, shape_none c.args.desk.now c.requires.own.legal)
