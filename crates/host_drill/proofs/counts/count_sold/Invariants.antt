use Rattle.std.proofs.Common.{◌≡◌, ◌≤◌}
use Rattle.history_model.specs.History.{state_of}
use Rattle.host_drill.specs.Totals.{sold_of}
use Rattle.host_drill.proofs.counts.count_sold.Given as goal

abbrev pub invariant-loop-row : goal.invariant-loop-row
invariant-loop-row l = (l.count ≡ sold_of (state_of l.wall.layout l.wall.history) l.row) × (l.count ≤ l.row)
