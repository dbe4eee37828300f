use Rattle.std.proofs.Common.{◌≡◌, drop}
use Rattle.std.specs.List.{list_all}
use Rattle.train_runs.specs.Stations.{is_code_byte}
use Rattle.train_runs.proofs.station.are_code_bytes.Given as goal

abbrev pub invariant-loop-b : goal.invariant-loop-b
invariant-loop-b l = list_all is_code_byte (drop l.b-index l.code) ≡ list_all is_code_byte l.code
