use Rattle.std.proofs.Common.{length}
use Rattle.train_runs.proofs.station.+code_number.Given as goal

abbrev pub decreases-code_number : goal.decreases-code_number
decreases-code_number l = length l.code.now
