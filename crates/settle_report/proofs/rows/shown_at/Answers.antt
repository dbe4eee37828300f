use Rattle.std.proofs.Common.{subst}
use Rattle.history_model.specs.Allows.{IsNoRowWord}
use Rattle.settle_report.proofs.RowFacts.{some_phase}
use Rattle.settle_report.proofs.rows.shown_at.Goals as goal

pub unreachable-requires : goal.unreachable-requires
unreachable-requires c = some_phase c.args.wall.now c.args.row c.requires.settled (subst IsNoRowWord c.word_at.ensures c.in_default.ensures.none)
