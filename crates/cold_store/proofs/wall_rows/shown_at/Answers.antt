use Rattle.std.proofs.Common.{subst}
use Rattle.history_model.specs.Allows.{IsNoRowWord}
use Rattle.cold_store.proofs.WallRows.{some_phase}
use Rattle.cold_store.proofs.wall_rows.shown_at.Goals as goal

pub unreachable-requires : goal.unreachable-requires
unreachable-requires c = some_phase c.args.wall.now c.args.row c.requires.closed (subst IsNoRowWord c.word_at.ensures c.in-None.ensures.none)
