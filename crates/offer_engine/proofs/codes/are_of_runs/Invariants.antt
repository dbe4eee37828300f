use Rattle.std.proofs.Common.{◌≡◌, drop}
use Rattle.std.specs.List.{list_all}
use Rattle.offer_prices.specs.Runs.{is_of_runs}
use Rattle.offer_engine.proofs.codes.are_of_runs.Given as goal

abbrev pub invariant-loop-segment : goal.invariant-loop-segment
invariant-loop-segment l = list_all (is_of_runs l.runs) (drop l.segment-index l.segments) ≡ list_all (is_of_runs l.runs) l.segments
