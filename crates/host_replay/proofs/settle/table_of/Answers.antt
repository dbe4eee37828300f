use Rattle.std.proofs.Common.{ℕ, ◌≤◌, subst}
use Rattle.history_model.specs.Booking.{most_rows}
use Rattle.host_replay.proofs.Settling.{settled}
use Rattle.host_replay.proofs.settle.table_of.Goals as goal

pub settlement-requires : goal.settlement-requires
settlement-requires c =
    let few = subst (λ (n : ℕ). n ≤ most_rows) c.rows.ensures.count c.rows.ensures.most in
    record { settled = settled c.args.books c.args.desk c.finish.result c.requires.new c.finish.ensures.layout c.finish.ensures.history few }
