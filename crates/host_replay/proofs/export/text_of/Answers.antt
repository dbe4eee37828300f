use Rattle.std.proofs.Common.{◌≤◌, ℕ, subst}
use Rattle.history_model.specs.Booking.{most_rows}
use Rattle.host_replay.proofs.Finishing.{tidy_wall}
use Rattle.host_replay.proofs.export.text_of.Goals as goal

pub export_tidy-requires-clause-tidy : goal.export_tidy-requires-clause-tidy
export_tidy-requires-clause-tidy c =
    tidy_wall c.args.books c.args.desk c.finish.result c.requires.own c.requires.alone c.requires.tidy c.finish.ensures.layout c.finish.ensures.history c.requires.opening
    (subst (λ (n : ℕ). n ≤ most_rows) c.rows.ensures.count c.rows.ensures.most)
